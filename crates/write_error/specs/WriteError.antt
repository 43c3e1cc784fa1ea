-- 01, "Replies": the target of a write error at p.
use Rattle.std.specs.Prelude.{ℕ, ◌+◌, eqb, ltb}
use Rattle.geometry.specs.declared.address.Address.{Address}
use Rattle.geometry.specs.Pick.{pick}
use Rattle.geometry.specs.Place.{PlaceSaid, address, refused, as_address, highest_address}
use Rattle.geometry.specs.Cartridge.{past_reserved}

-- skip 0 counts as 1
abbrev pub step_of : ℕ → ℕ
step_of skip = pick (eqb skip 0) 1 skip

-- p + skip, moved out of 2,990 to 2,999
abbrev pub target_address : Address → ℕ → ℕ
target_address p skip = past_reserved (p.0 + step_of skip)

-- the same as an address: where 32 bits don't hold it, the highest that they do
abbrev pub target_within : Address → ℕ → Address
target_within p skip = as_address (pick (ltb (target_address p skip) highest_address) (target_address p skip) highest_address)

-- refusal 9 from the limit on, which is one past the highest address that what is due may have
abbrev pub target_of : Address → ℕ → Address → PlaceSaid
target_of p skip limit = pick (ltb (target_address p skip) limit.0) (address (target_address p skip)) (refused 9)

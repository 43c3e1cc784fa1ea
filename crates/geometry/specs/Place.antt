-- An address or a refusal, in 01's numbers.
use Rattle.std.specs.Prelude.{ℕ, ◌-◌, Result, Ok, Err}
use Rattle.geometry.specs.declared.address.Address.{Address}
use Rattle.geometry.specs.declared.address.Seq.{Seq}
use Rattle.geometry.specs.declared.refusal.Refusal.{Refusal}
use Rattle.geometry.specs.Refusal.{refusal_number}

-- a number as an address, and as a sequence number
abbrev pub as_address : ℕ → Address
as_address n = record { 0 = n }

abbrev pub as_seq : ℕ → Seq
as_seq n = record { 0 = n }

-- the highest that 32 bits hold
abbrev pub highest_address : ℕ
highest_address = 0xFFFFFFFF

-- the address before another
abbrev pub preceding : Address → Address
preceding a = as_address (a.0 - 1)

-- what a place says. Of every enum and result of the code a type `..Said` has the cases and numbers as 01 gives them, and the function of that name
-- reads them off; promises speak of these
pub data PlaceSaid : Type 0 where
  address : ℕ → PlaceSaid
  refused : ℕ → PlaceSaid

-- what the code answers, in these terms
abbrev pub place_said : Result Address Refusal → PlaceSaid
place_said (Ok a) = address a.0
place_said (Err r) = refused (refusal_number r)

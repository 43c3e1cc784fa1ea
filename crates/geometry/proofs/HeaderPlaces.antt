-- Every header address is a header's, whatever the group and the copy. Assumes nothing.
use Prim.Native.Nat.{ℕ, ◌+◌, ◌%◌, ◌<◌}
use mathlib.Core.Path.{◌≡◌, refl}
use mathlib.Core.Bool.{Bool, true, false}
use native.Mathlib.Omega.{arith}
use lib.Dec.{T, eqb}
use Rattle.geometry.specs.Pick.{pick}
use Rattle.geometry.specs.Cartridge.{header_address, is_header}
use Rattle.geometry.proofs.Table.{at_index}

passed : (b : Bool) → T b → b ≡ true
passed true t = refl
passed false t = absurd t

in_group : (b : Bool) (n : ℕ) → n < 5 → is_header (pick b 5 2990 + n) ≡ true
in_group true n h = passed _ (at_index 5 (λ i. is_header (5 + i)) tt n h)
in_group false n h = passed _ (at_index 5 (λ i. is_header (2990 + i)) tt n h)

pub is_header_lem : (group copy : ℕ) → is_header (header_address group copy) ≡ true
is_header_lem group copy = in_group (eqb (group % 2) 0) (copy % 5) (omega arith)

-- within a group the addresses follow each other
pub header_from_first : (group copy : ℕ) → copy < 5 → header_address group copy ≡ header_address group 0 + copy
header_from_first group copy h = omega arith

-- A LOCATE never stands behind a group's last copy, and comes only where none is outstanding. Assumes nothing.
use Prim.Native.Nat.{ℕ, ◌<◌}
use mathlib.Core.Path.{◌≡◌, refl}
use mathlib.Core.Bool.{Bool, true}
use native.Mathlib.Omega.{arith}
use Rattle.frame.specs.declared.header.Header.{Header}
use Rattle.copies.specs.declared.copies.Copies.{Copies}
use Rattle.copies.specs.Copies.{start_of}

pub record Placed (locate : Bool) (copy outstanding : ℕ) : Type 0 where
  pub left : locate ≡ true → copy < 5
  pub empty : locate ≡ true → outstanding ≡ 0

abbrev pub PlacedOf : Copies → Type 0
PlacedOf c = Placed c.locate c.copy c.outstanding

pub start_placed : (h : Header) → PlacedOf (start_of h)
start_placed h = record { left = λ _. omega arith; empty = λ _. refl }

-- What follows an address for user data is no lower, and never lies at 2,990 to 2,999. Assumes nothing.
use Prim.Native.Nat.{ℕ, ◌≤◌}
use native.Mathlib.Omega.{arith}
use borrow.Author.Tests.{ltb-true}
use lib.Dec.{ltb}
use Rattle.geometry.specs.Cartridge.{past_reserved}
use Rattle.geometry.proofs.PickLaws.{pick_by}

module _ (a : ℕ) where
  pub past_reserved_least : a ≤ past_reserved a
  past_reserved_least =
      pick_by (λ n. a ≤ n) (ltb a 2990) (λ _. omega arith)
      (λ _. pick_by (λ n. a ≤ n) (ltb a 3000) (λ e. omega (arith, ltb-true a 3000 e)) (λ _. omega arith))

-- The smaller of two numbers is at most each of them, and the largest that is. Assumes nothing.
use Prim.Native.Nat.{ℕ, ◌≤◌}
use native.Mathlib.Nat.{le_refl}
use native.Mathlib.Omega.{arith}
use borrow.Author.Tests.{leb-true, leb-false}
use lib.Dec.{leb}
use Rattle.geometry.proofs.PickLaws.{pick_by}
use Rattle.frame_bounds.specs.Bounds.{smaller}

pub smaller_left : (a b : ℕ) → smaller a b ≤ a
smaller_left a b = pick_by (λ (k : ℕ). k ≤ a) (leb a b) (λ _. le_refl a) (λ e. let l = leb-false a b e in omega arith)

pub smaller_right : (a b : ℕ) → smaller a b ≤ b
smaller_right a b = pick_by (λ (k : ℕ). k ≤ b) (leb a b) (λ e. leb-true a b e) (λ _. le_refl b)

pub below_smaller : (n a b : ℕ) → n ≤ a → n ≤ b → n ≤ smaller a b
below_smaller n a b p q = pick_by (λ (k : ℕ). n ≤ k) (leb a b) (λ _. p) (λ _. q)

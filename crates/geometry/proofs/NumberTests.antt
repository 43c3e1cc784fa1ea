-- A number compared with one and with two. Assumes nothing.
use mathlib.Core.Path.{◌≡◌}
use mathlib.Core.Bool.{true, false, ◌||◌}
use mathlib.Core.Logic.{◌⊎◌, inl, inr}
use Prim.Native.Nat.{ℕ}
use native.Mathlib.Decide.{ℕ_discrete}
use borrow.Author.Tests.{eqb-true, eqb-false}
use lib.Dec.{eqb}
use Rattle.geometry.proofs.TestLaws.{or_true, or_false}

module _ (n a b : ℕ) where
  pub is_one : (eqb n a || eqb n b) ≡ true → (n ≡ a) ⊎ (n ≡ b)
  is_one e = go (or_true (eqb n a) (eqb n b) e)
    where
      go : (eqb n a ≡ true) ⊎ (eqb n b ≡ true) → (n ≡ a) ⊎ (n ≡ b)
      go (inl t) = inl (eqb-true n a t)
      go (inr t) = inr (eqb-true n b t)

  pub is_neither : (eqb n a || eqb n b) ≡ false → (n ≡ a → ⊥) × (n ≡ b → ⊥)
  is_neither e =
      let tests = or_false (eqb n a) (eqb n b) e in
      (eqb-false n a tests.0, eqb-false n b tests.1)

-- a number is this one where what follows from its being another can't be
pub is_unless : {X : Type 0} (n a : ℕ) → ((n ≡ a → ⊥) → X) → (X → ⊥) → n ≡ a
is_unless n a f x = go (ℕ_discrete n a)
  where
    go : Dec (n ≡ a) → n ≡ a
    go (yes e) = e
    go (no h) = absurd (x (f h))

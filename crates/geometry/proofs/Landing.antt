-- Where a jump or a target lands: on a user frame, with none between. Assumes nothing.
use Prim.Native.Nat.{ℕ, ◌≤◌, ◌<◌}
use mathlib.Core.Path.{◌≡◌, refl}
use mathlib.Core.Bool.{true}
use mathlib.Core.Logic.{inl, inr}
use native.Mathlib.Omega.{arith}
use borrow.Author.Tests.{ltb-true, ltb-false}
use lib.Dec.{ltb}
use Rattle.geometry.specs.Cartridge.{is_user, past_reserved}
use Rattle.geometry.proofs.PickLaws.{pick_by}
use Rattle.geometry.proofs.UserFrames.{User, user_ranges, ranges_user}

pub data Landing (a n : ℕ) : Type 0 where
  before : a < 2990 → n ≡ a → Landing a n
  across : 2990 ≤ a → a < 3000 → n ≡ 3000 → Landing a n
  behind : 3000 ≤ a → n ≡ a → Landing a n

pub landing : (a : ℕ) → Landing a (past_reserved a)
landing a =
    pick_by (Landing a) (ltb a 2990) (λ e. before (ltb-true a 2990 e) refl)
    (λ e. pick_by (Landing a) (ltb a 3000) (λ f. across (ltb-false a 2990 e) (ltb-true a 3000 f) refl) (λ f. behind (ltb-false a 3000 f) refl))

pub past_user : (last a : ℕ) → 10 ≤ a → a ≤ last → 3000 ≤ last → is_user last (past_reserved a) ≡ true
past_user last a low high large = go (landing a)
  where
    go : Landing a (past_reserved a) → is_user last (past_reserved a) ≡ true
    go (before h e) = rw e (ranges_user last a (inl (low, omega arith)))
    go (across h k e) = rw e (ranges_user last 3000 (inr (omega arith, large)))
    go (behind h e) = rw e (ranges_user last a (inr (h, high)))

-- nothing of the user's lies between
pub past_skips : (last a b : ℕ) → a ≤ b → b < past_reserved a → is_user last b ≡ true → ⊥
past_skips last a b l u w = go (landing a) (user_ranges last b w)
  where
    go : Landing a (past_reserved a) → User last b → ⊥
    go (before h e) r = omega arith
    go (across h k e) (inl r) = let f = r.1 in omega arith
    go (across h k e) (inr r) = let f = r.0 in omega arith
    go (behind h e) r = omega arith

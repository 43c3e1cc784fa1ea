-- How many replies a reading spends on the way to an address. Assumes nothing.
use Prim.Native.Nat.{ℕ, ◌+◌, ◌≤◌}
use mathlib.Core.Path.{◌≡◌}
use mathlib.Core.Logic.{inl, inr}
use native.Mathlib.Omega.{arith}
use Rattle.archive_lists.specs.Faithful.{reply_bound}
use Rattle.geometry.proofs.UserFrames.{User}
use Rattle.geometry.proofs.Landing.{Landing, before, across, behind}

-- at most one for each user frame below it, which are a - 10 up to 2,990 and a - 20 from 3,000,
-- one for LOCATE 10, and one for LOCATE 3,000 from there on
pub data Spent (a replies : ℕ) : Type 0 where
  front : a ≤ 2990 → replies + 9 ≤ a → Spent a replies
  rear : 3000 ≤ a → replies + 18 ≤ a → Spent a replies

pub few_further : {last a replies : ℕ} → User last a → Spent a replies → Spent (a + 1) (replies + 1)
few_further (inl h) (front l few) = let x = h.1 in front (omega arith) (omega arith)
few_further (inl h) (rear l few) = let x = h.1 in absurd (omega arith)
few_further (inr h) (front l few) = let x = h.0 in absurd (omega arith)
few_further (inr h) (rear l few) = rear (omega arith) (omega arith)

pub few_crossed : {a b replies : ℕ} → a ≡ 2990 → b ≡ 3000 → Spent a replies → Spent b (replies + 1)
few_crossed p q (front l few) = rear (omega arith) (omega arith)
few_crossed p q (rear l few) = absurd (omega arith)

-- a jump passes 22 user frames at least
pub few_jumped : {a b replies : ℕ} → Landing (a + 32) b → Spent a replies → Spent b (replies + 1 + 1)
few_jumped (before h e) (front l few) = front (omega arith) (omega arith)
few_jumped (before h e) (rear l few) = absurd (omega arith)
few_jumped (across h g e) (front l few) = rear (omega arith) (omega arith)
few_jumped (across h g e) (rear l few) = absurd (omega arith)
few_jumped (behind h e) (front l few) = rear (omega arith) (omega arith)
few_jumped (behind h e) (rear l few) = rear (omega arith) (omega arith)

-- so that a reply at an address of the tape is within the bound
pub few_ended : {last a replies : ℕ} → 3000 ≤ last → a ≤ last → Spent a replies → replies + 1 ≤ reply_bound last
few_ended large h (front l few) = omega arith
few_ended large h (rear l few) = omega arith

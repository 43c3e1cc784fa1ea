-- Addresses from which there is tape for what is to come: behind 2,999, or before 2,990 with what is lost there. Assumes nothing.
use Prim.Native.Nat.{ℕ, suc, ◌+◌, ◌≤◌, ◌<◌}
use mathlib.Core.Path.{◌≡◌, refl, ap, subst, ◌∙◌}
use mathlib.Core.Bool.{Bool, true, false}
use mathlib.Core.Logic.{◌⊎◌, inl, inr}
use native.Mathlib.Omega.{arith}
use borrow.Author.Tests.{lt-ltb, le-ltb, leb-true, leb-false, ne_eqb}
use lib.Dec.{eqb, leb}
use Rattle.geometry.specs.Place.{as_address}
use Rattle.geometry.specs.Cartridge.{past_reserved}
use Rattle.geometry.proofs.PickLaws.{pick_t, pick_f}
use Rattle.write_error.specs.WriteError.{target_address}

-- k addresses from a on are free of the second header group and defect map
abbrev pub Clear : ℕ → ℕ → Type 0
Clear a k = (a + k ≤ 2990) ⊎ (3000 ≤ a)

-- there is tape for k frames from a on, also where the reserved addresses are still to be passed, with up to m more lost there
pub data Room (m tail limit a k : ℕ) : Type 0 where
  before : a ≤ 2990 → a + k + m + 10 + tail < limit → Room m tail limit a k
  behind : 3000 ≤ a → a + k + tail < limit → Room m tail limit a k

pub room_for : {m tail limit a k : ℕ} → Room m tail limit a k → a + k + tail < limit
room_for (before _ l) = omega arith
room_for (behind _ l) = l

pub room_as : {m tail limit a j k : ℕ} → j ≡ k → Room m tail limit a j → Room m tail limit a k
room_as {m} {tail} {limit} {a} e r = subst (Room m tail limit a) e r

-- enough tape at a place that is clear
pub room_at : (m tail last a k : ℕ) → Clear a m → a + k + m + 10 + tail ≤ last → Room m tail (last + 1) a k
room_at m tail last a k (inl l) h = before (omega arith) (omega arith)
room_at m tail last a k (inr l) h = behind l (omega arith)

-- behind m frames that were written from a clear place on
pub room_behind : {m tail limit a : ℕ} (k : ℕ) → Room m tail limit a (m + k) → Clear a m → Room m tail limit (a + m) k
room_behind k (behind h l) _ = behind (omega arith) (omega arith)
room_behind k (before h l) (inl q) = before (omega arith) (omega arith)
room_behind k (before h l) (inr q) = absurd (omega arith)

past_clear : (a : ℕ) → (a < 2990) ⊎ (3000 ≤ a) → past_reserved a ≡ a
past_clear a (inl l) = pick_t _ (lt-ltb a 2990 l)
past_clear a (inr l) = pick_f _ (le-ltb a 2990 (omega arith)) ∙ pick_f _ (le-ltb a 3000 l)

-- where a write error at a leads, with a skip that is 0 unless fewer than m addresses would be left before 2,990
pub record Next (m tail limit a k : ℕ) : Type 0 where
  pub skip : ℕ
  pub to : ℕ
  pub is : target_address (as_address a) skip ≡ to
  pub room : Room m tail limit to k
  pub clear : Clear to m

pub next_place : (m tail limit a k : ℕ) → 1 ≤ m → Room m tail limit a (suc k) → Clear a m → Next m tail limit a k
next_place m tail limit a k least (behind h l) z = record { skip = 0; to = a + 1; is = past_clear (a + 1) (inr (omega arith)); room = behind (omega arith) (omega arith); clear = inr (omega arith) }
next_place m tail limit a k least (before h l) z = go (leb (a + 1 + m) 2990) refl z
  where
    go : (b : Bool) → leb (a + 1 + m) 2990 ≡ b → Clear a m → Next m tail limit a k
    go true e _ =
        let q = leb-true (a + 1 + m) 2990 e in
        record { skip = 0; to = a + 1; is = past_clear (a + 1) (inl (omega arith)); room = before (omega arith) (omega arith); clear = inl (omega arith) }
    go false e (inr y) = absurd (omega arith)
    go false e (inl y) =
        let q = leb-false (a + 1 + m) 2990 e in
        let edge : a + m ≡ 2990 = omega arith in
        let step = pick_f {b = eqb m 0} 1 {y = m} (ne_eqb m 0 (λ c. omega arith)) in
        record { skip = m; to = 3000; is = ap (λ (i : ℕ). past_reserved (a + i)) step ∙ ap past_reserved edge; room = behind (omega arith) (omega arith); clear = inr (omega arith) }

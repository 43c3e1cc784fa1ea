-- A stage of headers, made to go through: of each group all copies are written, or all but the first, which fails when as many are outstanding as
-- can be. Assumes nothing.
use Prim.Native.Nat.{ℕ, zero, suc, ◌+◌, ◌*◌, ◌≤◌, ◌<◌}
use mathlib.Core.Path.{◌≡◌, refl, subst}
use mathlib.Core.Bool.{Bool, true, false}
use mathlib.Core.Logic.{◌⊎◌, inl, inr}
use native.Mathlib.Nat.{le_refl, add-mul}
use native.Mathlib.Omega.{arith}
use borrow.Author.Tests.{ltb-true, ltb-false}
use lib.Dec.{ltb, leb}
use Rattle.geometry.proofs.PickLaws.{pick_by}
use Rattle.frame_bounds.specs.Bounds.{smaller, copies_again}
use Rattle.frame_bounds.proofs.SmallerLaws.{smaller_left, smaller_right, below_smaller}
use Rattle.recording_state.specs.declared.state.State.{State}
use Rattle.archive_lists.specs.Recordings.{World}
use Rattle.archive_counts.proofs.run.Goes.{Account, counting, Goes, goes_same, goes_nothing, goes_twice}
use Rattle.archive_counts.proofs.run.HeaderExchanges.{Still, Through, Head, HeadSeek, head_locate, head_write, head_within, head_turns, head_completes, head_fails}

module _ {still : Still} where
  head_as : {group c o i p : ℕ} {w : World} → c ≡ i → o ≡ p → Head still group c o w → Head still group i p w
  head_as {group} {c} {o} {i} {p} {w} a b h = subst (λ (k : ℕ). Head still group k p w) a (subst (λ (k : ℕ). Head still group c k w) b h)

  -- k are taken
  head_takes : {P : World → Type 0} {t : Account} (k : ℕ) {group c o : ℕ} (w : World) → Head still group c o w → group ≤ 1 → c + k ≤ 5 → o ≤ c → o + k ≤ still.setup.depth
      → ((v : World) → Head still group (c + k) (o + k) v → Goes v t P) → Goes w (counting still.stage k 0 t) P
  head_takes zero w h one low few room g = goes_nothing (g w (head_as (omega arith) (omega arith) h))
  head_takes (suc k) w h one low few room g =
      goes_twice (omega arith) refl
      (head_write w h one (omega arith) few (omega arith)
      (λ v y. head_takes k v y one (omega arith) (omega arith) (omega arith) (λ u z. g u (head_as (omega arith) (omega arith) z))))

  -- the k that are left of a group, with those that are outstanding written where it must be
  head_rest : {P : World → Type 0} {t : Account} (k : ℕ) {group c o : ℕ} (w : World) → Head still group c o w → group ≤ 1 → c + k ≡ 5 → o ≤ c → o ≤ still.setup.depth → 1 ≤ still.setup.depth
      → ((p : ℕ) (v : World) → Head still group 5 p v → Goes v t P) → Goes w (counting still.stage k 0 t) P
  head_rest zero {o = o} w h one q few deep some g = goes_nothing (g o w (head_as (omega arith) refl h))
  head_rest {P} {t} (suc k) {group} {c} {o} w h one q few deep some g = go (λ p u y a b. head_rest k u y one (omega arith) a b some g) (ltb o still.setup.depth) refl
    where
      Rest : Type 0
      Rest = (p : ℕ) (u : World) → Head still group (c + 1) (p + 1) u → p + 1 ≤ c + 1 → p + 1 ≤ still.setup.depth → Goes u (counting still.stage k 0 t) P

      written : Rest → (p : ℕ) (v : World) → p < still.setup.depth → p ≤ c → Head still group c p v → Goes v (counting still.stage (suc k) 0 t) P
      written rest p v room low x = goes_twice (omega arith) refl (head_write v x one (omega arith) low room (λ u y. rest p u y (omega arith) (omega arith)))

      go : Rest → (b : Bool) → ltb o still.setup.depth ≡ b → Goes w (counting still.stage (suc k) 0 t) P
      go rest true b = written rest o w (ltb-true o still.setup.depth b) few h
      go rest false b = head_within w h one (omega arith) (ltb-false o still.setup.depth b) (λ v y. written rest 0 v (omega arith) (omega arith) y)

  -- ---- a group, of which the first copy fails or none

  group_through : {P : World → Type 0} {t : Account} (f : ℕ) {group : ℕ} (w : World) → f ≤ 1 → group ≤ 1 → 1 ≤ still.setup.depth → HeadSeek still group 0 w
      → ((p : ℕ) (v : World) → Head still group 5 p v → Goes v t P)
      → Goes w (counting still.stage (5 + f * copies_again still.setup.depth) f t) P
  group_through zero w l one some h g =
      goes_same (omega arith) refl
      (head_locate w h (omega arith) (λ v y. head_rest 5 v y one refl (omega arith) (omega arith) some g))
  group_through (suc zero) w l one some h g =
      let m : ℕ = smaller still.setup.depth 5 in
      let least : 1 ≤ m = below_smaller 1 still.setup.depth 5 some (omega arith) in
      let left : m ≤ still.setup.depth = smaller_left still.setup.depth 5 in
      let right : m ≤ 5 = smaller_right still.setup.depth 5 in
      goes_twice (omega arith) refl
      (head_locate w h (omega arith)
      (λ v y. head_takes m v y one (omega arith) (omega arith) (omega arith)
      (λ v y. goes_twice refl refl
      (head_fails {c = smaller still.setup.depth 5} v (head_as (omega arith) (omega arith) y) one least right full
      (λ v y. head_locate v y (omega arith) (λ v y. head_rest 4 v y one refl (omega arith) (omega arith) some g))))))
    where
      full : (5 ≤ smaller still.setup.depth 5) ⊎ (still.setup.depth ≤ smaller still.setup.depth 5)
      full = pick_by (λ (k : ℕ). (5 ≤ k) ⊎ (still.setup.depth ≤ k)) (leb still.setup.depth 5) (λ _. inr (le_refl still.setup.depth)) (λ _. inl (le_refl 5))
  group_through (suc (suc f)) w l one some h g = absurd (omega arith)

  -- ---- both groups

  groups_through : {P : World → Type 0} {t : Account} (f g : ℕ) (w : World) → f ≤ 1 → g ≤ 1 → 1 ≤ still.setup.depth → HeadSeek still 0 0 w
      → ((s : State) (v : World) → Through still s v → Goes v t P)
      → Goes w (counting still.stage (10 + (f + g) * copies_again still.setup.depth) (f + g) t) P
  groups_through f g w first second some h x =
      goes_twice (omega (arith, add-mul f g (copies_again still.setup.depth))) refl
      (group_through f w first (omega arith) some h
      (λ o v y. head_turns v y
      (λ v y. group_through g v second (omega arith) some y (λ o v y. head_completes v y x))))

  -- from the LOCATE of the first group to the next stage, with h write errors
  pub headers_through : {P : World → Type 0} {t : Account} (h : ℕ) (w : World) → h ≤ 2 → 1 ≤ still.setup.depth → HeadSeek still 0 0 w
      → ((s : State) (v : World) → Through still s v → Goes v t P)
      → Goes w (counting still.stage (10 + h * copies_again still.setup.depth) h t) P
  headers_through zero w l = groups_through 0 0 w (omega arith) (omega arith)
  headers_through (suc zero) w l = groups_through 1 0 w (omega arith) (omega arith)
  headers_through (suc (suc zero)) w l = groups_through 1 1 w (omega arith) (omega arith)
  headers_through (suc (suc (suc h))) w l = absurd (omega arith)

-- Elements in a row: so many are accepted, so many frames taken, so many times the oldest fails and all are taken again, and the others go through one
-- by one, past the reserved addresses where they come to them. Assumes nothing.
use Prim.Native.Nat.{ℕ, zero, suc, ◌+◌, ◌*◌, ◌≤◌, ◌<◌}
use mathlib.Core.Path.{◌≡◌, refl, sym, subst, ◌∙◌}
use mathlib.Core.Bool.{Bool, true, false}
use mathlib.Core.List.{List, [], ◌∷◌, ◌++◌, append-nil, append_assoc}
use mathlib.Core.Logic.{inl, inr, ⊎_elim}
use native.Mathlib.Nat.{suc-mul}
use native.Mathlib.Omega.{arith}
use borrow.Author.Tests.{eqb-true, eqb-false}
use lib.Dec.{eqb}
use lib.ListN.{length}
use Rattle.recording_state.specs.State.{settled_of}
use Rattle.recording_state.specs.declared.state.Setup.{Setup}
use Rattle.recording_state.specs.declared.state.State.{State}
use Rattle.recording_state.specs.declared.state.Stage.TheVariants as S
use Rattle.archive_lists.specs.Recordings.{Element, World, with_session}
use Rattle.archive_counts.specs.Acceptable.{Acceptable}
use Rattle.archive_counts.proofs.run.Parts.{acceptable_first, acceptable_rest}
use Rattle.archive_counts.proofs.run.Goes.{Account, counting, Goes, goes_same, goes_nothing, goes_twice}
use Rattle.archive_counts.proofs.run.Standing.{Sizes, Batch, Stand, settled_open}
use Rattle.archive_counts.proofs.run.Accepting.{accept_one}
use Rattle.archive_counts.proofs.run.ElementExchanges.{take_one, locate_one, jump_one, fail_one, confirm_all}
use Rattle.archive_counts.proofs.run.Places.{Clear, Room, before, behind, room_for, room_as, Next, next_place}

-- ---- a Stand under other names

pub stand_as : {setup : Setup} {limit : ℕ} {closed eod : Bool} {xs ys : List Element} {p o a q i b : ℕ} {w : World} → xs ≡ ys → p ≡ q → o ≡ i → a ≡ b
    → Stand setup limit closed eod xs p o a w → Stand setup limit closed eod ys q i b w
stand_as {setup} {limit} {closed} {eod} {xs} {ys} {p} {o} {a} {q} {i} {b} {w} exs ep eo ea s =
    subst (λ (zs : List Element). Stand setup limit closed eod zs q i b w) exs
    (subst (λ (k : ℕ). Stand setup limit closed eod xs k i b w) ep
    (subst (λ (k : ℕ). Stand setup limit closed eod xs p k b w) eo
    (subst (λ (k : ℕ). Stand setup limit closed eod xs p o k w) ea s)))

module _ {setup : Setup} {limit : ℕ} (sizes : Sizes setup limit) where
  -- before close is called
  abbrev Open : List Element → ℕ → ℕ → ℕ → World → Type 0
  Open xs p o a w = Stand setup limit false false xs p o a w

  -- these elements are accepted
  pub accept_many : {P : World → Type 0} {t : Account} (zs : List Element) → Acceptable zs → {xs : List Element} {p a : ℕ} (w : World) → Open xs p 0 a w → p + length zs ≤ setup.highest + 1
      → ((v : World) → Open (xs ++ zs) (p + length zs) 0 a v → Goes v t P) → Goes w t P
  accept_many [] h {xs} w s l g = g w (stand_as (sym (append-nil xs)) (omega arith) refl refl s)
  accept_many (z ∷ zs) h {xs} w s l g =
      accept_one sizes w z (acceptable_first z zs h) s (omega arith)
      (λ v y. accept_many zs (acceptable_rest z zs h) v y (omega arith) (λ u x. g u (stand_as (append_assoc xs (z ∷ []) zs) (omega arith) refl refl x)))

  -- k frames are taken
  pub take_many : {P : World → Type 0} {t : Account} (k : ℕ) {closed eod : Bool} {xs : List Element} {p o a : ℕ} (w : World) → Stand setup limit closed eod xs p o a w
      → o + k ≤ p → p ≤ 64 → o + k ≤ setup.depth
      → a + k + setup.tail < limit → Clear a k → ((v : World) → Stand setup limit closed eod xs p (o + k) (a + k) v → Goes v t P) → Goes w (counting S.Elements k 0 t) P
  take_many zero w s waiting few held room z g = goes_nothing (g w (stand_as refl refl (omega arith) (omega arith) s))
  take_many (suc k) w s waiting few held room z g =
      goes_twice (omega arith) refl
      (take_one w s (omega arith) few (omega arith) (omega arith) sizes.fits (λ e. ⊎_elim (λ q. omega arith) (λ q. omega arith) z)
      (λ v y. take_many k v y (omega arith) few (omega arith) (omega arith) (⊎_elim (λ q. inl (omega arith)) (λ q. inr (omega arith)) z)
      (λ u x. g u (stand_as refl refl (omega arith) (omega arith) x))))

  -- m frames are taken, the oldest fails, and they are due again where there is room
  pub round : {P : World → Type 0} {t : Account} (m k : ℕ) {xs : List Element} {a : ℕ} (w : World) → Batch setup m → m ≤ k → Open xs m 0 a w → Room m setup.tail limit a (suc k) → Clear a m
      → ((b : ℕ) (v : World) → Open xs m 0 b v → Room m setup.tail limit b k → Clear b m → Goes v t P) → Goes w (counting S.Elements m 1 t) P
  round m k {a = a} w batch enough s r z g =
      let least = batch.least in
      let deep = batch.deep in
      let wide = batch.wide in
      let narrow = sizes.narrow in
      let x : Next m setup.tail limit a k = next_place m setup.tail limit a k least r z in
      let here = room_for r in
      let there = room_for x.room in
      goes_twice (omega arith) refl
      (take_many m w s (omega arith) (omega arith) (omega arith) (omega arith) z
      (λ v y. fail_one a x.skip x.to v (stand_as refl refl (omega arith) refl y) least x.is (omega arith)
      (λ u q. locate_one u q (inl least) (omega arith) (λ t c. g x.to t c x.room x.clear))))

  -- e times
  pub rounds : {P : World → Type 0} {t : Account} (m e k : ℕ) {xs : List Element} {a : ℕ} (w : World) → Batch setup m → m ≤ k → Open xs m 0 a w → Room m setup.tail limit a (e + k) → Clear a m
      → ((b : ℕ) (v : World) → Open xs m 0 b v → Room m setup.tail limit b k → Clear b m → Goes v t P) → Goes w (counting S.Elements (e * m) e t) P
  rounds m zero k {a = a} w batch enough s r z g =
      goes_same (omega arith) refl (goes_nothing (g a w s (room_as (omega arith) r) z))
  rounds m (suc e) k w batch enough s r z g =
      goes_twice (omega (arith, suc-mul e m)) (omega arith)
      (round m (e + k) w batch (omega arith) s (room_as (omega arith) r) z (λ b v y l c. rounds m e k v batch enough y l c g))

  -- one frame is taken and written, from where there is room
  pub one_through : {P : World → Type 0} {t : Account} (m k : ℕ) {closed eod : Bool} {xs : List Element} {a : ℕ} (w : World) → Stand setup limit closed eod xs 1 0 a w
      → Room m setup.tail limit a (suc k)
      → ((b : ℕ) (x : State) (v : World) → v.session ≡ settled_of x → Stand setup limit closed eod xs 0 0 b (with_session v x) → Room m setup.tail limit b k → Goes v t P)
      → Goes w (counting S.Elements 1 0 t) P
  one_through {P} {t} m k {closed} {eod} {xs} {a} w s r g = go r
    where
      from : (b : ℕ) (v : World) → Stand setup limit closed eod xs 1 0 b v → (b ≡ 2990 → ⊥) → b + 1 + setup.tail < limit → Room m setup.tail limit (b + 1) k → Goes v (counting S.Elements 1 0 t) P
      from b v y off l q =
          take_one v y (omega arith) (omega arith) sizes.deep (omega arith) sizes.fits off
          (λ u z. confirm_all {a = b + 1} u (stand_as refl refl (omega arith) refl z) (omega arith) (λ x t e c. g (b + 1) x t e c q))

      go : Room m setup.tail limit a (suc k) → Goes w (counting S.Elements 1 0 t) P
      go (behind h l) = from a w s (λ e. omega arith) (omega arith) (behind (omega arith) (omega arith))
      go (before h l) = at (eqb a 2990) refl
        where
          at : (b : Bool) → eqb a 2990 ≡ b → Goes w (counting S.Elements 1 0 t) P
          at true e =
              let gap = eqb-true a 2990 e in
              jump_one w (stand_as refl refl refl gap s) (omega arith) sizes.deep (omega arith) (λ v y. from 3000 v y (λ c. omega arith) (omega arith) (behind (omega arith) (omega arith)))
          at false e = let off = eqb-false a 2990 e in from a w s off (omega arith) (before (let q : a < 2990 = omega (arith, off) in omega arith) (omega arith))

  -- a session that settles before close is called stays as it is
  pub still_open : {xs : List Element} {p o a : ℕ} (x : State) (v : World) → v.session ≡ settled_of x → Open xs p o a (with_session v x) → Open xs p o a v
  still_open {xs} {p} {o} {a} x v q s = subst (λ (y : State). Open xs p o a (with_session v y)) (sym (q ∙ settled_open x s.calm.stage_is s.calm.closed_is s.pending_are.eod_is)) s

  -- these elements, one by one
  pub one_by_one : {P : World → Type 0} {t : Account} (m i : ℕ) (zs : List Element) → Acceptable zs → {xs : List Element} {a : ℕ} (w : World) → Open xs 0 0 a w
      → Room m setup.tail limit a (length zs + i)
      → ((b : ℕ) (v : World) → Open (xs ++ zs) 0 0 b v → Room m setup.tail limit b i → Goes v t P) → Goes w (counting S.Elements (length zs) 0 t) P
  one_by_one m i [] h {xs} {a} w s r g =
      goes_nothing (g a w (stand_as (sym (append-nil xs)) refl refl refl s) (room_as (omega arith) r))
  one_by_one m i (z ∷ zs) h {xs} {a} w s r g =
      goes_twice (omega arith) refl
      (accept_one sizes w z (acceptable_first z zs h) s (omega arith)
      (λ v y. one_through m (length zs + i) v (stand_as refl (omega arith) refl refl y) (room_as (omega arith) r)
      (λ b x u e c q. one_by_one m i zs (acceptable_rest z zs h) u (still_open x u e c) q
      (λ b v y l. g b v (stand_as (append_assoc xs (z ∷ []) zs) refl refl refl y) l))))

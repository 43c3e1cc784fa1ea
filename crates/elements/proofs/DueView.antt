-- Which rule of 01 applies, and what is known there. Assumes nothing.
use Rattle.std.proofs.Common.{◌≡◌, ℕ, ◌<◌, ◌≤◌, Bool, true, false, ◌&&◌, ◌||◌, eqb, ltb, leb, ◌⊎◌, inl, inr, ⊎_elim, arith, ltb-false, ltb-true, eqb-true, leb-false, leb-true}
use borrow.Author.Tests.{eqb-false}
use Rattle.geometry.proofs.PickLaws.{pick_by}
use Rattle.drive.specs.Command.{write, locate, read_position}
use Rattle.elements.specs.declared.elements.Elements.{Elements}
use Rattle.elements.specs.Elements.{limit_of}
use Rattle.elements.specs.Due.{DueSaid, send, idle, refused, above_limit, must_confirm, due_of}
use Rattle.geometry.proofs.TestLaws.{or_true, or_false, either_left, either_right, and_true, not_both}

-- what rule 3 waits for
abbrev pub Waits : ℕ → ℕ → Elements → Type 0
Waits depth tail e = (depth ≤ e.queue.outstanding) ⊎ ((0 < e.queue.outstanding) × ((e.course.next.0 ≡ 2990) ⊎ ((limit_of tail e).0 ≤ e.course.next.0)))

pub data DueView (depth tail : ℕ) (e : Elements) : DueSaid → Type 0 where
  -- 1
  relocating : e.course.locate ≡ true → e.course.target.0 < e.course.limit.0 → DueView depth tail e (send (locate e.course.target.0))
  too_far : e.course.locate ≡ true → e.course.limit.0 ≤ e.course.target.0 → DueView depth tail e (refused 9)
  -- 2
  resting : e.course.locate ≡ false → e.queue.pending ≤ e.queue.outstanding → e.queue.outstanding ≡ 0 → DueView depth tail e idle
  settling : e.course.locate ≡ false → e.queue.pending ≤ e.queue.outstanding → 0 < e.queue.outstanding → DueView depth tail e (send read_position)
  -- 3
  confirming : e.course.locate ≡ false → e.queue.outstanding < e.queue.pending → Waits depth tail e → DueView depth tail e (send read_position)
  -- 4
  full : e.course.locate ≡ false → e.queue.outstanding < e.queue.pending → e.queue.outstanding ≡ 0 → (limit_of tail e).0 ≤ e.course.next.0 → DueView depth tail e (refused 9)
  -- 5
  jumping : e.course.locate ≡ false → e.queue.outstanding < e.queue.pending → e.queue.outstanding ≡ 0 → e.course.next.0 < (limit_of tail e).0 → e.course.next.0 ≡ 2990 → DueView depth tail e (send (locate 3000))
  -- 6
  writing : e.course.locate ≡ false → e.queue.outstanding < e.queue.pending → e.queue.outstanding < depth → e.course.next.0 < (limit_of tail e).0 → (e.course.next.0 ≡ 2990 → ⊥) → DueView depth tail e (send (write e.course.next.0))

module _ (depth tail : ℕ) (e : Elements) where
  -- no frame goes behind those that the drive holds
  abbrev edge : Bool
  edge = eqb e.course.next.0 2990 || above_limit tail e

  why_confirm : must_confirm depth tail e ≡ true → Waits depth tail e
  why_confirm t =
      ⊎_elim (λ d. inl (leb-true _ _ d))
      (λ w. let both = and_true _ _ w in inr (ltb-true _ _ both.0, ⊎_elim (λ a. inl (eqb-true _ _ a)) (λ b. inr (leb-true _ _ b)) (or_true _ _ both.1)))
      (or_true _ _ t)

  not_full : must_confirm depth tail e ≡ false → e.queue.outstanding < depth
  not_full f = leb-false _ _ (or_false (leb depth e.queue.outstanding) (ltb 0 e.queue.outstanding && edge) f).0

  none_outstanding : must_confirm depth tail e ≡ false → edge ≡ true → e.queue.outstanding ≡ 0
  none_outstanding f t =
      let apart = or_false (leb depth e.queue.outstanding) (ltb 0 e.queue.outstanding && edge) f in
      omega (arith, ltb-false 0 e.queue.outstanding (not_both (ltb 0 e.queue.outstanding) edge apart.1 t))

  pub due_view : DueView depth tail e (due_of depth tail e)
  unfolding due_of
  due_view =
      pick_by (DueView depth tail e) e.course.locate (λ r. pick_by (DueView depth tail e) (leb e.course.limit.0 e.course.target.0) (λ f. too_far r (leb-true _ _ f)) (λ f. relocating r (leb-false _ _ f)))
      (λ r. pick_by (DueView depth tail e) (leb e.queue.pending e.queue.outstanding)
      (λ p. pick_by (DueView depth tail e) (eqb e.queue.outstanding 0) (λ z. resting r (leb-true _ _ p) (eqb-true _ _ z)) (λ z. settling r (leb-true _ _ p) (omega (arith, eqb-false e.queue.outstanding 0 z))))
      (λ p. pick_by (DueView depth tail e) (must_confirm depth tail e) (λ c. confirming r (leb-false _ _ p) (why_confirm c))
      (λ c. pick_by (DueView depth tail e) (above_limit tail e) (λ a. full r (leb-false _ _ p) (none_outstanding c (either_right (eqb e.course.next.0 2990) _ a)) (leb-true _ _ a))
      (λ a. pick_by (DueView depth tail e) (eqb e.course.next.0 2990) (λ n. jumping r (leb-false _ _ p) (none_outstanding c (either_left _ (above_limit tail e) n)) (leb-false _ _ a) (eqb-true _ _ n))
      (λ n. writing r (leb-false _ _ p) (not_full c) (leb-false _ _ a) (eqb-false _ _ n))))))

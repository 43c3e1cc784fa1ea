-- A reply that is brought leaves a session whose counts fit what was counted at the answer. Assumes nothing.
use Prim.Native.Nat.{ℕ, ◌+◌, ◌*◌, ◌≤◌}
use mathlib.Core.Path.{◌≡◌, refl, sym, subst, ◌∙◌}
use mathlib.Core.Bool.{Bool, true, false}
use mathlib.Core.Logic.{inl, inr, ⊎_elim}
use native.Mathlib.Nat.{add-mul}
use native.Mathlib.Omega.{arith}
use borrow.Author.Tests.{ne_eqb}
use lib.Dec.{eqb}
use Rattle.geometry.specs.Cartridge.{copy_at}
use Rattle.geometry.proofs.Impossible.{clash}
use Rattle.geometry.proofs.PickLaws.{pick_by}
use Rattle.frame_bounds.specs.Bounds.{smaller, copies_again}
use Rattle.drive.specs.Cases.{write_good}
use Rattle.drive.specs.Senses.{good}
use Rattle.drive.specs.declared.reply.Reply.{Reply}
use Rattle.drive.proofs.CaseLaws.{case_parts}
use Rattle.copies.specs.Copies as copies
use Rattle.copies.proofs.ReplyView as copying
use Rattle.elements.specs.Course as course
use Rattle.elements.specs.Elements.{with_course}
use Rattle.elements.specs.Reply as reply
use Rattle.elements.specs.declared.course.Course.{Course}
use Rattle.elements.proofs.ReplyView as steps
use Rattle.recording_state.specs.State.{OutcomeSaid, ended_of, with_copies, with_elements}
use Rattle.recording_state.specs.Reply as recording
use Rattle.recording_state.specs.Reply.{replied_of, completed_of, header_reply_by, element_reply_by, stage_reply, case_of}
use Rattle.recording_state.specs.declared.report.Report.{Report}
use Rattle.recording_state.specs.declared.report.Report.TheVariants as R
use Rattle.recording_state.specs.declared.state.State.{State}
use Rattle.recording_state.specs.declared.state.Stage.TheVariants as S
use Rattle.recording_state.proofs.Stages.{HeaderStage, ElementStage}
use Rattle.recording_state.proofs.ReplyView as replying
use Rattle.recording_state.proofs.ReplyView.{on_copies, on_elements, Failed, failed_of_lem}
use Rattle.archive_counts.specs.Counts.{is_failed}
use Rattle.archive_counts.proofs.Tallies.{Tally, elements_more, headers_more, adding}
use Rattle.archive_counts.proofs.bound.ElementCounts as element
use Rattle.archive_counts.proofs.bound.HeaderCounts as header
use Rattle.archive_counts.proofs.bound.Session.{Room, Fit, quiet_fit, ended_fit, fit_ended, fit_repeated, fit_settled}
use Rattle.archive_counts.proofs.bound.Answers.{heard, heard_as, heard_neither, heard_case, adding_elements, adding_headers, adding_done}

-- a reply is awaited
pub record Awaits (s : State) : Type 0 where
  pub going : s.ended ≡ false
  pub waiting : s.exchange.awaiting ≡ true

-- no error more, and one
no_more : (k m : ℕ) → k * m ≤ (0 + k) * m
no_more k m = omega (arith, add-mul 0 k m)

one_more : (k m : ℕ) → k * m + m ≤ (1 + k) * m
one_more k m = omega (arith, add-mul 1 k m)

module _ {D W n : ℕ} {t : Tally} (s : State) (a : Awaits s) (f : Fit D W n t s) where
  -- what a reply leaves, with u counted
  abbrev Left : Tally → OutcomeSaid → Type 0
  Left u y = Fit D W n u y.session

  told : s.exchange.again ≡ false
  told = f.once a.waiting

  ending_left : (u : Tally) → u ≡ t → (k : ℕ) → Fit D W n u (ended_of s k)
  ending_left u e k = subst (λ (v : Tally). Fit D W n v (ended_of s k)) (sym e) (fit_ended s f k)

  -- in a stage of headers the elements stay
  header_left : (u : Tally) {x : copies.ProgressSaid} → element.Counts D W n u.taken (u.errors * smaller D W) s.elements
      → header.Onward D u.headers (u.header_errors * copies_again D) s.stage s.copies x → Left u (header_reply_by x s)
  header_left u e (header.more c k) = quiet_fit (with_copies (replied_of s) c) f.sizes e k f.closed (record { going = a.going; free = refl; told = told })
  header_left u e (header.complete k) =
      fit_settled (completed_of (replied_of s)) (quiet_fit (completed_of (replied_of s)) f.sizes e k f.closed (record { going = a.going; free = refl; told = told })) a.going
  header_left u e (header.refused m k) = ended_fit s m f.sizes e k f.closed f.once

  -- in that of the elements the copies do
  element_left : (u : Tally) (y : reply.SteppedSaid) → header.Counts D u.headers (u.header_errors * copies_again D) s.stage s.copies
      → element.Stepped D W n u.taken (u.errors * smaller D W) s.elements y.elements → Left u (element_reply_by y s)
  element_left u y h e =
      let closed : y.elements.eod ≡ true → s.closed ≡ true = λ is. f.closed (sym e.eod_is ∙ is) in
      pick_by (Left u) (eqb y.number 0)
      (λ _. fit_settled (with_elements (replied_of s) y.elements)
      (quiet_fit (with_elements (replied_of s) y.elements) f.sizes e.counts h closed (record { going = a.going; free = refl; told = told })) a.going)
      (λ _. ended_fit (with_elements s y.elements) y.number f.sizes e.counts h closed f.once)

  -- by stage
  stage_left : (u : Tally) (x : Report) → (HeaderStage s → Left u (header_reply_by (on_copies s x) s)) → (ElementStage s → Left u (element_reply_by (on_elements s x) s))
      → (s.stage ≡ S.Done → u ≡ t) → Left u (stage_reply s x)
  stage_left u x h e d = go (replying.stage_view s x)
    where
      go : {z : OutcomeSaid} → replying.StageView s x z → Left u z
      go (replying.in_headers st) = h st
      go (replying.in_elements st) = e st
      go (replying.in_done st) = ending_left u (d st) 8

  room : (r : Reply) → case_of s r ≡ write_good → Room D s
  room r z = f.asked a.going (case_parts s.exchange.command r 0x0A good (omega arith) z).0 (inl a.waiting)

  -- nothing is counted
  same_left : (r : Reply) {v : State} → heard s r t ≡ t → Fit D W n t v → Fit D W n (heard s r t) v
  same_left r {v} e g = subst (λ (u : Tally). Fit D W n u v) (sym e) g

  -- so many frames are taken and so many errors met, of the kind that the stage writes
  counted_left : (r : Reply) (k i : ℕ) → heard s r t ≡ adding s.stage k i t → (x : Report)
      → (HeaderStage s → header.Onward D (k + t.headers) ((i + t.header_errors) * copies_again D) s.stage s.copies (on_copies s x))
      → (ElementStage s → element.Stepped D W n (k + t.taken) ((i + t.errors) * smaller D W) s.elements (on_elements s x).elements)
      → Left (heard s r t) (stage_reply s x)
  counted_left r k i is x h e =
      subst (λ (u : Tally). Left u (stage_reply s x)) (sym is)
      (stage_left (adding s.stage k i t) x
      (λ st. subst (λ (u : Tally). Left u (header_reply_by (on_copies s x) s)) (sym (adding_headers s k i t st)) (header_left (headers_more k i t) f.elements (h st)))
      (λ st. subst (λ (u : Tally). Left u (element_reply_by (on_elements s x) s)) (sym (adding_elements s k i t st)) (element_left (elements_more k i t) (on_elements s x) f.headers (e st)))
      (adding_done s k i t))

  taken_left : (r : Reply) → case_of s r ≡ write_good → Left (heard s r t) (recording.taken_of s)
  taken_left r z =
      counted_left r 1 0 (heard_as s r t z) R.Taken
      (λ st. header.more _ (header.counts_more (omega arith) (no_more t.header_errors (copies_again D)) (header.counts_taken s.stage st s.copies f.headers ((room r z).headers st))))
      (λ st. record {
        counts = element.counts_more _ (element.counts_taken s.elements f.elements f.sizes.narrow ((room r z).elements st)) (omega arith) (no_more t.errors (smaller D W));
        eod_is = refl;
      })

  failed_left : (r : Reply) → Failed (case_of s r) → Left (heard s r t) (recording.failed_of s r.position r.skip)
  failed_left r z =
      counted_left r 0 1 (⊎_elim (heard_as s r t) (heard_as s r t) z) (R.Failed r.position r.skip)
      (λ st. header.failed_onward s.stage st s.copies f.headers (omega arith) (one_more t.header_errors (copies_again D)) (copying.failed_view s.copies (copy_at s.copies.group r.position.0)))
      (λ _. element.failed_stepped s.elements f.elements (omega arith) (one_more t.errors (smaller D W)) (steps.failed_view s.setup.tail s.elements r.position r.skip))

  -- nothing is taken and nothing fails: what is counted stays, and so do the elements' own counts where they are given
  other_left : (x : Report) → (HeaderStage s → header.Onward D t.headers (t.header_errors * copies_again D) s.stage s.copies (on_copies s x))
      → element.Stepped D W n t.taken (t.errors * smaller D W) s.elements (on_elements s x).elements → Left t (stage_reply s x)
  other_left x h e = stage_left t x (λ st. header_left t f.elements (h st)) (λ _. element_left t (on_elements s x) f.headers e) (λ _. refl)

  -- where only the elements' course changes
  kept : (k : Course) → element.Stepped D W n t.taken (t.errors * smaller D W) s.elements (with_course s.elements k)
  kept k = element.same_stepped s.elements k f.elements

  pub reply_fit : (r : Reply) {y : OutcomeSaid} → replying.ReplyView s r y → Left (heard s r t) y
  reply_fit r (replying.unasked (inl z)) = clash z a.going
  reply_fit r (replying.unasked (inr z)) = clash a.waiting z
  reply_fit r (replying.busy z) = same_left r (⊎_elim (λ k. heard_case s r t k refl refl) (⊎_elim (λ k. heard_case s r t k refl refl) (λ k. heard_case s r t k refl refl)) z) (fit_repeated s f a.waiting)
  reply_fit r (replying.located z) =
      same_left r (heard_case s r t z refl refl)
      (other_left _ (λ st. header.more _ (header.counts_located s.stage st s.copies f.headers)) (kept (course.located_of s.elements.course (recording.address_of s))))
  reply_fit r (replying.taken z) = taken_left r z
  reply_fit r (replying.counted z) =
      same_left r (heard_case s r t z refl refl)
      (other_left _ (λ st. header.counted_onward s.stage st s.copies f.headers (copying.counted_view s.copies r.buffered))
      (element.counted_stepped s.elements f.elements (steps.counted_view s.elements r.buffered)))
  reply_fit r (replying.failed z) = failed_left r z
  reply_fit r (replying.overflowed z) =
      same_left r (heard_case s r t z refl refl)
      (other_left _ (λ _. header.refused 8 f.headers) (kept (course.overflowed_of s.elements.course (recording.address_of s))))
  reply_fit r (replying.unlisted z) =
      same_left r (heard_neither s r t (ne_eqb (case_of s r) write_good (λ e. z (replying.taken e))) (unfailed (is_failed (case_of s r)) refl)) (fit_ended s f 8)
    where
      unfailed : (b : Bool) → is_failed (case_of s r) ≡ b → b ≡ false
      unfailed true e = absurd (z (replying.failed (failed_of_lem (case_of s r) e)))
      unfailed false e = refl

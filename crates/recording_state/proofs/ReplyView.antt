-- By which case of 01 a reply is answered, and what is known there. Assumes nothing.
use Prim.Native.Nat.{ℕ}
use mathlib.Core.Path.{◌≡◌, refl, sym, ap, ◌∙◌}
use mathlib.Core.Bool.{Bool, true, false, ◌||◌, not, true≢false}
use mathlib.Core.Logic.{◌⊎◌, inl, inr, ⊎_elim}
use lib.Dec.{eqb}
use borrow.Author.Tests.{eqb-true, eqb-false}
use Rattle.geometry.proofs.PickLaws.{pick_f, pick_by}
use Rattle.geometry.proofs.TestLaws.{or_true}
use Rattle.drive.specs.Cases.{locate_good, locate_busy, write_good, write_busy, write_failed, write_overflow, position_good, position_busy, position_failed}
use Rattle.drive.specs.declared.reply.Reply.{Reply}
use Rattle.copies.specs.Copies as copies
use Rattle.elements.specs.Reply as reply
use Rattle.recording_state.specs.declared.report.Report.{Report}
use Rattle.recording_state.specs.declared.state.State.{State}
use Rattle.recording_state.specs.declared.state.Stage.{Stage}
use Rattle.recording_state.specs.declared.state.Stage.TheVariants as S
use Rattle.recording_state.specs.State.{OutcomeSaid, accepting, refusing, ending}
use Rattle.recording_state.specs.Reply.{repeated_of, header_reply_by, element_reply_by, copies_after, elements_after, stage_reply_by, stage_reply, located_of, taken_of, counted_of, failed_of, overflowed_of, reply_by, case_of, reply_of}
use Rattle.recording_state.proofs.Stages.{HeaderStage, ElementStage}

-- ---- by stage

module _ (s : State) (x : Report) where
  -- what it is to the header copies, and to the elements and EOD
  abbrev pub on_copies : copies.ProgressSaid
  on_copies = copies_after x s.copies

  abbrev pub on_elements : reply.SteppedSaid
  on_elements = elements_after x s.setup.tail s.elements

  pub data StageView : OutcomeSaid → Type 0 where
    in_headers : HeaderStage s → StageView (header_reply_by on_copies s)
    in_elements : ElementStage s → StageView (element_reply_by on_elements s)
    in_done : s.stage ≡ S.Done → StageView (ending s 8)

  pub stage_view : StageView (stage_reply s x)
  stage_view = go s.stage refl
    where
      go : (k : Stage) → s.stage ≡ k → StageView (stage_reply_by k x s)
      go S.OpeningHeaders q = in_headers (inl q)
      go S.Elements q = in_elements q
      go S.ClosingHeaders q = in_headers (inr q)
      go S.Done q = in_done q

  by : {k : Stage} → s.stage ≡ k → stage_reply s x ≡ stage_reply_by k x s
  by q = ap (λ (k : Stage). stage_reply_by k x s) q

  pub by_headers : HeaderStage s → stage_reply s x ≡ header_reply_by on_copies s
  by_headers (inl q) = by q
  by_headers (inr q) = by q

  pub by_elements : ElementStage s → stage_reply s x ≡ element_reply_by on_elements s
  by_elements q = by q

  pub by_done : s.stage ≡ S.Done → stage_reply s x ≡ ending s 8
  by_done q = by q

-- ---- by the command and the meaning

abbrev pub Busy : ℕ → Type 0
Busy n = (n ≡ write_busy) ⊎ ((n ≡ locate_busy) ⊎ (n ≡ position_busy))

abbrev pub is_busy : ℕ → Bool
is_busy n = eqb n write_busy || (eqb n locate_busy || eqb n position_busy)

pub busy_true : (n : ℕ) → Busy n → is_busy n ≡ true
busy_true n b = ⊎_elim (ap is_busy) (⊎_elim (ap is_busy) (ap is_busy)) b

busy_of : (n : ℕ) → is_busy n ≡ true → Busy n
busy_of n t =
    ⊎_elim (λ e. inl (eqb-true _ _ e)) (λ u. inr (⊎_elim (λ e. inl (eqb-true _ _ e)) (λ e. inr (eqb-true _ _ e)) (or_true _ _ u)))
    (or_true _ _ t)

-- a write error
abbrev pub Failed : ℕ → Type 0
Failed n = (n ≡ write_failed) ⊎ (n ≡ position_failed)

abbrev pub is_failed : ℕ → Bool
is_failed n = eqb n write_failed || eqb n position_failed

pub failed_true : (n : ℕ) → Failed n → is_failed n ≡ true
failed_true n f = ⊎_elim (ap is_failed) (ap is_failed) f

pub failed_of_lem : (n : ℕ) → is_failed n ≡ true → Failed n
failed_of_lem n t = ⊎_elim (λ e. inl (eqb-true _ _ e)) (λ e. inr (eqb-true _ _ e)) (or_true _ _ t)

-- the cases of the list
pub data Foreseen (n : ℕ) : Type 0 where
  busy : Busy n → Foreseen n
  located : n ≡ locate_good → Foreseen n
  taken : n ≡ write_good → Foreseen n
  counted : n ≡ position_good → Foreseen n
  failed : Failed n → Foreseen n
  overflowed : n ≡ write_overflow → Foreseen n

unforeseen : (n : ℕ) → is_busy n ≡ false → eqb n locate_good ≡ false → eqb n write_good ≡ false → eqb n position_good ≡ false → is_failed n ≡ false → eqb n write_overflow ≡ false → Foreseen n → ⊥
unforeseen n b l w p f o (busy e) = true≢false (sym (busy_true n e) ∙ b)
unforeseen n b l w p f o (located e) = eqb-false _ _ l e
unforeseen n b l w p f o (taken e) = eqb-false _ _ w e
unforeseen n b l w p f o (counted e) = eqb-false _ _ p e
unforeseen n b l w p f o (failed e) = true≢false (sym (failed_true n e) ∙ f)
unforeseen n b l w p f o (overflowed e) = eqb-false _ _ o e

pub data ReplyView (s : State) (r : Reply) : OutcomeSaid → Type 0 where
  unasked : (s.ended ≡ true) ⊎ (s.exchange.awaiting ≡ false) → ReplyView s r (refusing s 7)
  busy : Busy (case_of s r) → ReplyView s r (accepting (repeated_of s))
  located : case_of s r ≡ locate_good → ReplyView s r (located_of s)
  taken : case_of s r ≡ write_good → ReplyView s r (taken_of s)
  counted : case_of s r ≡ position_good → ReplyView s r (counted_of s r.buffered)
  failed : Failed (case_of s r) → ReplyView s r (failed_of s r.position r.skip)
  overflowed : case_of s r ≡ write_overflow → ReplyView s r (overflowed_of s)
  unlisted : (Foreseen (case_of s r) → ⊥) → ReplyView s r (ending s 8)

not_true : (b : Bool) → not b ≡ true → b ≡ false
not_true true e = sym e
not_true false e = refl

module _ (s : State) (r : Reply) where
  -- what answers the case answers the reply
  pub reply_so : {n : ℕ} → (s.ended || not s.exchange.awaiting) ≡ false → case_of s r ≡ n → reply_of s r ≡ reply_by s n r
  unfolding reply_of
  reply_so phase e = pick_f _ phase ∙ ap (λ (k : ℕ). reply_by s k r) e

  case_view : ReplyView s r (reply_by s (case_of s r) r)
  unfolding reply_by
  case_view =
      let n = case_of s r in
      pick_by (ReplyView s r) (is_busy n) (λ t. busy (busy_of n t))
      (λ b. pick_by (ReplyView s r) (eqb n locate_good) (λ t. located (eqb-true _ _ t))
      (λ l. pick_by (ReplyView s r) (eqb n write_good) (λ t. taken (eqb-true _ _ t))
      (λ w. pick_by (ReplyView s r) (eqb n position_good) (λ t. counted (eqb-true _ _ t))
      (λ p. pick_by (ReplyView s r) (is_failed n) (λ t. failed (failed_of_lem n t))
      (λ f. pick_by (ReplyView s r) (eqb n write_overflow) (λ t. overflowed (eqb-true _ _ t))
      (λ o. unlisted (unforeseen n b l w p f o)))))))

  pub reply_view : ReplyView s r (reply_of s r)
  unfolding reply_of
  reply_view =
      pick_by (ReplyView s r) (s.ended || not s.exchange.awaiting)
      (λ t. unasked (⊎_elim inl (λ n. inr (not_true s.exchange.awaiting n)) (or_true _ _ t))) (λ _. case_view)

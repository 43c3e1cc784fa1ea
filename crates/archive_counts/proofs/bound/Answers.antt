-- What an answer of the drive adds to a tally. The session that awaits it learns of it with the reply. Assumes nothing.
use Prim.Native.Nat.{ℕ}
use mathlib.Core.Path.{◌≡◌, ap, ◌∙◌}
use mathlib.Core.Bool.{Bool, false}
use mathlib.Core.Logic.{inl, inr}
use Rattle.drive.specs.declared.reply.Reply.{Reply}
use Rattle.recording_state.specs.Reply.{case_of}
use Rattle.recording_state.specs.declared.state.State.{State}
use Rattle.recording_state.specs.declared.state.Stage.{Stage}
use Rattle.recording_state.specs.declared.state.Stage.TheVariants as S
use Rattle.recording_state.proofs.Stages.{HeaderStage, ElementStage}
use Rattle.archive_counts.specs.Counts.{is_taken, is_failed}
use Rattle.archive_counts.proofs.Tallies.{Tally, elements_more, headers_more, adding, adding_none, one, answered_in}

-- what is counted once a reply has been answered, where t was before
abbrev pub heard : State → Reply → Tally → Tally
heard s r t = answered_in s.stage (case_of s r) t

module _ (s : State) (r : Reply) (t : Tally) where
  pub heard_as : {case : ℕ} → case_of s r ≡ case → heard s r t ≡ answered_in s.stage case t
  heard_as z = ap (λ (n : ℕ). answered_in s.stage n t) z

  -- neither good on a WRITE nor a write error
  pub heard_neither : is_taken (case_of s r) ≡ false → is_failed (case_of s r) ≡ false → heard s r t ≡ t
  heard_neither p q =
      ap (λ (b : Bool). adding s.stage (one b) (one (is_failed (case_of s r))) t) p ∙ ap (λ (b : Bool). adding s.stage 0 (one b) t) q ∙ adding_none s.stage t

  pub heard_case : {case : ℕ} → case_of s r ≡ case → is_taken case ≡ false → is_failed case ≡ false → heard s r t ≡ t
  heard_case z p q = heard_neither (ap is_taken z ∙ p) (ap is_failed z ∙ q)

-- by the stage
module _ (s : State) (k e : ℕ) (t : Tally) where
  pub adding_elements : ElementStage s → adding s.stage k e t ≡ elements_more k e t
  adding_elements st = ap (λ (y : Stage). adding y k e t) st

  pub adding_headers : HeaderStage s → adding s.stage k e t ≡ headers_more k e t
  adding_headers (inl st) = ap (λ (y : Stage). adding y k e t) st
  adding_headers (inr st) = ap (λ (y : Stage). adding y k e t) st

  pub adding_done : s.stage ≡ S.Done → adding s.stage k e t ≡ t
  adding_done st = ap (λ (y : Stage). adding y k e t) st

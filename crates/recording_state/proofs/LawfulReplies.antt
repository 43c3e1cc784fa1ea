-- A reply that a recording does not refuse with 8 brings numbers that are possible. Assumes nothing.
use Prim.Native.Nat.{ℕ, ◌≤◌, ◌<◌}
use mathlib.Core.Path.{◌≡◌, refl, sym, ap, ◌∙◌}
use mathlib.Core.Bool.{true, false}
use mathlib.Core.Logic.{inl, inr}
use native.Mathlib.Omega.{arith}
use Rattle.geometry.specs.Cartridge.{copy_at}
use Rattle.geometry.proofs.Impossible.{clash}
use Rattle.geometry.proofs.NumberTests.{is_unless}
use Rattle.drive.specs.Command.{command_code}
use Rattle.drive.specs.Listed.{Means}
use Rattle.drive.specs.Senses.{good, busy, write_error, volume_overflow}
use Rattle.drive.specs.declared.command.Command.{Command}
use Rattle.drive.specs.declared.command.Command.TheVariants.{ReadPosition}
use Rattle.drive.specs.declared.reply.Reply.{Reply}
use Rattle.drive.proofs.CaseLaws.{case_parts}
use Rattle.copies.specs.Copies as copies
use Rattle.copies.specs.Copies.{oldest_copy}
use Rattle.copies.proofs.ReplyView as copying
use Rattle.elements.specs.Elements.{base_of}
use Rattle.elements.specs.Reply as reply
use Rattle.elements.proofs.ReplyView as steps
use Rattle.recording_state.specs.State.{OutcomeSaid}
use Rattle.recording_state.specs.Reply.{header_reply_by, element_reply_by, stage_reply, case_of, reply_of}
use Rattle.recording_state.specs.Lawful.{Possible, Lawful}
use Rattle.recording_state.specs.declared.report.Report.{Report}
use Rattle.recording_state.specs.declared.state.State.{State}
use Rattle.recording_state.proofs.Stages.{HeaderStage, ElementStage}
use Rattle.recording_state.proofs.ListedReplies.{is_counted, is_failed}
use Rattle.recording_state.proofs.ReplyView as view
use Rattle.recording_state.proofs.ReplyView.{on_copies, on_elements, Busy, ReplyView, reply_view, by_headers, by_elements}

-- ---- what the machines do not refuse with 8

module _ (s : State) (r : Reply) where
  copies_few : {x : copies.ProgressSaid} → copying.CountedView s.copies r.buffered x → ((header_reply_by x s).number ≡ 8 → ⊥) → r.buffered ≤ s.copies.outstanding
  copies_few (copying.too_many _) h = absurd (h refl)
  copies_few (copying.counted l) h = l

  elements_few : {x : reply.SteppedSaid} → steps.CountedView s.elements r.buffered x → ((element_reply_by x s).number ≡ 8 → ⊥) → r.buffered ≤ s.elements.queue.outstanding
  elements_few (steps.too_many _) h = absurd (h refl)
  elements_few (steps.counted l) h = l

  -- the copy at p
  abbrev failing : ℕ
  failing = copy_at s.copies.group r.position.0

  copies_there : {x : copies.ProgressSaid} → copying.FailedView s.copies failing x → ((header_reply_by x s).number ≡ 8 → ⊥)
      → (oldest_copy s.copies ≤ failing) × (failing < s.copies.copy)
  copies_there (copying.before _) h = absurd (h refl)
  copies_there (copying.behind _) h = absurd (h refl)
  copies_there (copying.failed l u) h = (l, u)

  elements_there : {x : reply.SteppedSaid} → steps.FailedView s.setup.tail s.elements r.position r.skip x → ((element_reply_by x s).number ≡ 8 → ⊥)
      → ((base_of s.elements).0 ≤ r.position.0) × (r.position.0 < s.elements.course.next.0)
  elements_there (steps.too_low _) h = absurd (h refl)
  elements_there (steps.too_high _) h = absurd (h refl)
  elements_there (steps.failed l u _) h = (l, u)
  elements_there (steps.full l u _) h = (l, u)

  -- ---- the reply

  abbrev command : Command
  command = s.exchange.command

  -- the same of the machine of the stage
  module _ (x : Report) (h : (stage_reply s x).number ≡ 8 → ⊥) where
    header_so : HeaderStage s → (header_reply_by (on_copies s x) s).number ≡ 8 → ⊥
    header_so st e = h (ap (λ (y : OutcomeSaid). y.number) (by_headers s x st) ∙ e)

    element_so : ElementStage s → (element_reply_by (on_elements s x) s).number ≡ 8 → ⊥
    element_so st e = h (ap (λ (y : OutcomeSaid). y.number) (by_elements s x st) ∙ e)

  -- f and p are looked at in no other reply than those two
  other : (command ≡ ReadPosition → Means r good → ⊥) → (Means r write_error → ⊥) → {outstanding oldest next place : ℕ} → Possible outstanding oldest next place command r
  other no_count no_error = record { counted = λ p g. absurd (no_count p g); from = λ e. absurd (no_error e); below = λ e. absurd (no_error e) }

  unlooked : (command ≡ ReadPosition → Means r good → ⊥) → (Means r write_error → ⊥) → Lawful s command r
  unlooked no_count no_error = record { in_headers = λ _. other no_count no_error; in_elements = λ _. other no_count no_error }

  -- a reply of another meaning
  meant : (m : ℕ) → (m ≡ good → ⊥) → (m ≡ write_error → ⊥) → Means r m → Lawful s command r
  meant m no_good no_error e = unlooked (λ _ g. no_good (sym e ∙ g)) (λ f. no_error (sym e ∙ f))

  -- good, on another command
  on_other : (code : ℕ) → (code ≡ 0x34 → ⊥) → (command_code command ≡ code) × Means r good → Lawful s command r
  on_other code no_position p =
      unlooked (λ c _. no_position (sym p.0 ∙ ap command_code c)) (λ e. let both : good ≡ write_error = sym p.1 ∙ e in omega arith)

  busy_means : Busy (case_of s r) → Means r busy
  busy_means (inl e) = (case_parts command r 0x0A busy (omega arith) e).1
  busy_means (inr (inl e)) = (case_parts command r 0x2B busy (omega arith) e).1
  busy_means (inr (inr e)) = (case_parts command r 0x34 busy (omega arith) e).1

  counted : {outstanding oldest next place : ℕ} → Means r good → r.buffered ≤ outstanding → Possible outstanding oldest next place command r
  counted m l = record { counted = λ _ _. omega (arith, l); from = λ e. absurd (good_failed e); below = λ e. absurd (good_failed e) }
    where
      good_failed : Means r write_error → ⊥
      good_failed e = let both : good ≡ write_error = sym m ∙ e in omega arith

  failed : {outstanding oldest next place : ℕ} → Means r write_error → (oldest ≤ place) × (place < next) → Possible outstanding oldest next place command r
  failed m l = record { counted = λ _ e. absurd (let both : write_error ≡ good = sym m ∙ e in omega arith); from = λ _. omega (arith, l.0); below = λ _. omega (arith, l.1) }

  pub taken_lawful : s.ended ≡ false → s.exchange.awaiting ≡ true → ((reply_of s r).number ≡ 8 → ⊥) → Lawful s command r
  taken_lawful running awaited = go (reply_view s r)
    where
      go : {x : OutcomeSaid} → ReplyView s r x → (x.number ≡ 8 → ⊥) → Lawful s command r
      go (view.unasked (inl e)) h = clash e running
      go (view.unasked (inr e)) h = clash awaited e
      go (view.busy b) h = meant busy (λ e. omega arith) (λ e. omega arith) (busy_means b)
      go (view.located e) h = on_other 0x2B (λ x. omega arith) (case_parts command r 0x2B good (omega arith) e)
      go (view.taken e) h = on_other 0x0A (λ x. omega arith) (case_parts command r 0x0A good (omega arith) e)
      go (view.counted e) h = record {
        in_headers = λ st. counted (is_counted s r e).1 (copies_few (copying.counted_view s.copies r.buffered) (header_so _ h st));
        in_elements = λ st. counted (is_counted s r e).1 (elements_few (steps.counted_view s.elements r.buffered) (element_so _ h st));
      }
      go (view.failed e) h = record {
        in_headers = λ st. failed (is_failed s r e) (copies_there (copying.failed_view s.copies failing) (header_so _ h st));
        in_elements = λ st. failed (is_failed s r e) (elements_there (steps.failed_view s.setup.tail s.elements r.position r.skip) (element_so _ h st));
      }
      go (view.overflowed e) h = meant volume_overflow (λ x. omega arith) (λ x. omega arith) (case_parts command r 0x0A volume_overflow (omega arith) e).1
      go (view.unlisted _) h = absurd (h refl)

  -- so one whose numbers are not possible is refused with 8
  pub unlawful_refused : s.ended ≡ false → s.exchange.awaiting ≡ true → (Lawful s command r → ⊥) → (reply_of s r).number ≡ 8
  unlawful_refused running awaited unlawful = is_unless (reply_of s r).number 8 (taken_lawful running awaited) unlawful

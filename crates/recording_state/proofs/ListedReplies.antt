-- The meanings that the conduct lists for a command are those that a recording does not refuse with 8. Assumes nothing.
use Prim.Native.Nat.{ℕ, ◌≤◌, ◌<◌}
use mathlib.Core.Path.{◌≡◌, refl, ap}
use mathlib.Core.Bool.{true, false}
use mathlib.Core.Logic.{◌⊎◌, inl, inr, ⊎_elim}
use native.Mathlib.Omega.{arith}
use lib.Dec.{eqb}
use Rattle.geometry.proofs.PickLaws.{pick_by}
use Rattle.geometry.specs.Cartridge.{is_header, copy_at}
use Rattle.geometry.specs.declared.address.Address.{Address}
use Rattle.geometry.proofs.Impossible.{never, clash}
use Rattle.geometry.proofs.NumberTests.{is_unless}
use Rattle.drive.specs.Command.{command_code}
use Rattle.drive.specs.Cases.{case_number, write_overflow, position_good}
use Rattle.drive.specs.Listed as on
use Rattle.drive.specs.Listed.{Listed, Means}
use Rattle.drive.specs.Senses.{meaning_of, good, busy, write_error, volume_overflow}
use Rattle.drive.specs.declared.command.Command.{Command}
use Rattle.drive.specs.declared.command.Command.TheVariants.{Read, Write, ReadPosition}
use Rattle.drive.specs.declared.reply.Reply.{Reply}
use Rattle.drive.proofs.CaseLaws.{case_parts, by_position}
use Rattle.drive.proofs.ListedCases.{at_write, at_locate, at_position}
use Rattle.copies.specs.Copies as copies
use Rattle.copies.specs.Copies.{oldest_copy}
use Rattle.copies.proofs.ReplyView as copying
use Rattle.elements.specs.Elements.{base_of}
use Rattle.elements.specs.Reply as reply
use Rattle.elements.proofs.ReplyView as steps
use Rattle.recording_state.specs.State.{OutcomeSaid}
use Rattle.recording_state.specs.Reply.{header_reply_by, element_reply_by, stage_reply, case_of, reply_of}
use Rattle.recording_state.specs.Lawful.{Lawful}
use Rattle.recording_state.specs.declared.report.Report.{Report}
use Rattle.recording_state.specs.declared.state.State.{State}
use Rattle.recording_state.proofs.Stages.{HeaderStage, ElementStage, header_not_done, element_not_done}
use Rattle.recording_state.proofs.Refusals.{onward_number}
use Rattle.recording_state.proofs.ReplyView as view
use Rattle.recording_state.proofs.ReplyView.{Busy, Failed, Foreseen, ReplyView, reply_view}

-- a WRITE of an element or EOD goes to no header group, and one of a header to one
abbrev pub OffHeaders : State → Type 0
OffHeaders s = ElementStage s → (a : Address) → s.exchange.command ≡ Write a → is_header a.0 ≡ false

abbrev pub OnHeaders : State → Type 0
OnHeaders s = HeaderStage s → (a : Address) → s.exchange.command ≡ Write a → is_header a.0 ≡ true

-- ---- a reply that is not refused with 8 is listed

module _ (s : State) (r : Reply) where
  abbrev meaning : ℕ
  meaning = meaning_of r.key r.asc r.ascq

  abbrev Here : Type 0
  Here = Listed s.exchange.command meaning

  busy_listed : Busy (case_of s r) → Here
  busy_listed (inl e) = at_write s.exchange.command r busy (omega arith) (λ _ _. on.write_busy) e
  busy_listed (inr (inl e)) = at_locate s.exchange.command r busy (omega arith) (λ _. on.locate_busy) e
  busy_listed (inr (inr e)) = at_position s.exchange.command r busy (omega arith) on.position_busy e

  error_listed : Failed (case_of s r) → Here
  error_listed (inl e) = at_write s.exchange.command r write_error (omega arith) (λ _ _. on.write_with_error) e
  error_listed (inr e) = at_position s.exchange.command r write_error (omega arith) on.position_error e

  overflow_listed : (x : Report) {y : OutcomeSaid} → case_of s r ≡ write_overflow → OffHeaders s → view.on_copies s x ≡ copies.refused 8 → view.StageView s x y → (y.number ≡ 8 → ⊥) → Here
  overflow_listed x e off q (view.in_headers _) h = absurd (h (ap (λ (p : copies.ProgressSaid). (header_reply_by p s).number) q))
  overflow_listed x e off q (view.in_elements st) h = at_write s.exchange.command r volume_overflow (omega arith) (λ a w. on.write_overflow (off st a w)) e
  overflow_listed x e off q (view.in_done _) h = absurd (h refl)

  pub taken_listed : s.ended ≡ false → s.exchange.awaiting ≡ true → OffHeaders s → ((reply_of s r).number ≡ 8 → ⊥) → Here
  taken_listed running awaited off = go (reply_view s r)
    where
      go : {x : OutcomeSaid} → ReplyView s r x → (x.number ≡ 8 → ⊥) → Here
      go (view.unasked (inl e)) h = clash e running
      go (view.unasked (inr e)) h = clash awaited e
      go (view.busy b) h = busy_listed b
      go (view.located e) h = at_locate s.exchange.command r good (omega arith) (λ _. on.locate_good) e
      go (view.taken e) h = at_write s.exchange.command r good (omega arith) (λ _ _. on.write_good) e
      go (view.counted e) h = at_position s.exchange.command r good (omega arith) on.position_good e
      go (view.failed e) h = error_listed e
      go (view.overflowed e) h = overflow_listed _ e off refl (view.stage_view s _) h
      go (view.unlisted _) h = absurd (h refl)

  -- so one that is not listed is refused with 8
  pub unlisted_refused : s.ended ≡ false → s.exchange.awaiting ≡ true → OffHeaders s → (Here → ⊥) → (reply_of s r).number ≡ 8
  unlisted_refused running awaited off unlisted = is_unless (reply_of s r).number 8 (taken_listed running awaited off) unlisted

  -- ---- a listed reply whose numbers are possible is not

  -- what the case of a READ POSITION answered good, and that of a write error, tell
  pub is_counted : case_of s r ≡ position_good → (s.exchange.command ≡ ReadPosition) × Means r good
  is_counted e =
      let p = case_parts s.exchange.command r 0x34 good (omega arith) e in
      (by_position (λ (c : Command). c ≡ ReadPosition) s.exchange.command p.0 refl, p.1)

  pub is_failed : Failed (case_of s r) → Means r write_error
  is_failed (inl e) = (case_parts s.exchange.command r 0x0A write_error (omega arith) e).1
  is_failed (inr e) = (case_parts s.exchange.command r 0x34 write_error (omega arith) e).1

  listed_case : (c : Command) (m : ℕ) → Listed c m → ((a : Address) → c ≡ Read a → ⊥) → Foreseen (case_number (command_code c) m)
  listed_case c m on.locate_good h = view.located refl
  listed_case c m on.locate_busy h = view.busy (inr (inl refl))
  listed_case c m on.write_good h = view.taken refl
  listed_case c m on.write_busy h = view.busy (inl refl)
  listed_case c m on.write_with_error h = view.failed (inl refl)
  listed_case c m (on.write_overflow off) h = view.overflowed refl
  listed_case c m on.position_good h = view.counted refl
  listed_case c m on.position_busy h = view.busy (inr (inr refl))
  listed_case c m on.position_error h = view.failed (inr refl)
  listed_case c m on.read_good h = absurd (h _ refl)
  listed_case c m on.read_busy h = absurd (h _ refl)
  listed_case c m on.read_recovered h = absurd (h _ refl)
  listed_case c m on.read_unreadable h = absurd (h _ refl)
  listed_case c m on.read_end_of_data h = absurd (h _ refl)
  listed_case c m on.read_end_of_medium h = absurd (h _ refl)

  -- 0D/00/02 is listed for no WRITE of a header
  no_overflow : (c : Command) (m : ℕ) → Listed c m → ((a : Address) → c ≡ Write a → is_header a.0 ≡ true) → case_number (command_code c) m ≡ write_overflow → ⊥
  no_overflow c m (on.write_overflow off) h e = clash (h _ refl) off
  no_overflow c m on.locate_good h e = omega (arith, e)
  no_overflow c m on.locate_busy h e = omega (arith, e)
  no_overflow c m on.write_good h e = omega (arith, e)
  no_overflow c m on.write_busy h e = omega (arith, e)
  no_overflow c m on.write_with_error h e = omega (arith, e)
  no_overflow c m on.position_good h e = omega (arith, e)
  no_overflow c m on.position_busy h e = omega (arith, e)
  no_overflow c m on.position_error h e = omega (arith, e)
  no_overflow c m on.read_good h e = omega (arith, e)
  no_overflow c m on.read_busy h e = omega (arith, e)
  no_overflow c m on.read_recovered h e = omega (arith, e)
  no_overflow c m on.read_unreadable h e = omega (arith, e)
  no_overflow c m on.read_end_of_data h e = omega (arith, e)
  no_overflow c m on.read_end_of_medium h e = omega (arith, e)

  header_number : (x : copies.ProgressSaid) → (x ≡ copies.refused 8 → ⊥) → (header_reply_by x s).number ≡ 8 → ⊥
  header_number (copies.more _) h q = omega arith
  header_number copies.complete h q = omega arith
  header_number (copies.refused n) h q = h (ap copies.refused q)

  element_number : (x : reply.SteppedSaid) → (x.number ≡ 8 → ⊥) → (element_reply_by x s).number ≡ 8 → ⊥
  element_number x h = pick_by (λ (y : OutcomeSaid). y.number ≡ 8 → ⊥) (eqb x.number 0) (λ _ q. omega arith) (λ _ q. h q)

  copies_counted : {x : copies.ProgressSaid} → r.buffered ≤ s.copies.outstanding → copying.CountedView s.copies r.buffered x → x ≡ copies.refused 8 → ⊥
  copies_counted p (copying.too_many l) e = omega (arith, p)
  copies_counted p (copying.counted _) e = omega (arith, onward_number _ (copying.onward_view _) e)

  -- the copy at p
  abbrev failing : ℕ
  failing = copy_at s.copies.group r.position.0

  copies_failed : {x : copies.ProgressSaid} → oldest_copy s.copies ≤ failing → failing < s.copies.copy → copying.FailedView s.copies failing x → x ≡ copies.refused 8 → ⊥
  copies_failed p l (copying.before h) e = omega (arith, p)
  copies_failed p l (copying.behind h) e = omega (arith, l)
  copies_failed p l (copying.failed _ _) e = omega (arith, onward_number _ (copying.onward_view _) e)

  elements_counted : {x : reply.SteppedSaid} → r.buffered ≤ s.elements.queue.outstanding → steps.CountedView s.elements r.buffered x → x.number ≡ 8 → ⊥
  elements_counted p (steps.too_many l) q = omega (arith, p)
  elements_counted p (steps.counted _) q = omega arith

  elements_failed : {x : reply.SteppedSaid} → (base_of s.elements).0 ≤ r.position.0 → r.position.0 < s.elements.course.next.0 → steps.FailedView s.setup.tail s.elements r.position r.skip x → x.number ≡ 8 → ⊥
  elements_failed p l (steps.too_low h) q = omega (arith, p)
  elements_failed p l (steps.too_high h) q = omega (arith, l)
  elements_failed p l (steps.failed _ _ _) q = omega arith
  elements_failed p l (steps.full _ _ _) q = omega arith

  module _ (stage : HeaderStage s ⊎ ElementStage s) (no_read : (a : Address) → s.exchange.command ≡ Read a → ⊥) (on_headers : OnHeaders s) (lawful : Lawful s s.exchange.command r) (listed : Here) where
    -- by stage, where neither machine refuses with 8
    stage_number_lem : (x : Report) → (HeaderStage s → view.on_copies s x ≡ copies.refused 8 → ⊥) → (ElementStage s → (view.on_elements s x).number ≡ 8 → ⊥) → (stage_reply s x).number ≡ 8 → ⊥
    stage_number_lem x h k = go (view.stage_view s x)
      where
        go : {y : OutcomeSaid} → view.StageView s x y → y.number ≡ 8 → ⊥
        go (view.in_headers st) q = header_number _ (h st) q
        go (view.in_elements st) q = element_number _ (k st) q
        go (view.in_done e) q = ⊎_elim (λ st. header_not_done s st e) (λ st. element_not_done s st e) stage

    pub listed_taken : (reply_of s r).number ≡ 8 → ⊥
    listed_taken = go (reply_view s r)
      where
        go : {x : OutcomeSaid} → ReplyView s r x → x.number ≡ 8 → ⊥
        go (view.unasked _) q = omega arith
        go (view.busy _) q = omega arith
        go (view.located _) q = stage_number_lem _ (λ _ e. never (cc)) (λ _ e. omega arith) q
        go (view.taken _) q = stage_number_lem _ (λ _ e. never (cc)) (λ _ e. omega arith) q
        go (view.counted n) q =
            let m = is_counted n in
            stage_number_lem _ (λ st. copies_counted (omega (arith, (lawful.in_headers st).counted m.0 m.1)) (copying.counted_view s.copies r.buffered))
            (λ st. elements_counted (omega (arith, (lawful.in_elements st).counted m.0 m.1)) (steps.counted_view s.elements r.buffered)) q
        go (view.failed n) q =
            let m = is_failed n in
            stage_number_lem _ (λ st. copies_failed (omega (arith, (lawful.in_headers st).from m)) (omega (arith, (lawful.in_headers st).below m)) (copying.failed_view s.copies failing))
            (λ st. elements_failed (omega (arith, (lawful.in_elements st).from m)) (omega (arith, (lawful.in_elements st).below m)) (steps.failed_view s.setup.tail s.elements r.position r.skip)) q
        go (view.overflowed n) q = stage_number_lem _ (λ st _. no_overflow s.exchange.command meaning listed (on_headers st) n) (λ _ e. omega arith) q
        go (view.unlisted u) q = u (listed_case s.exchange.command meaning listed no_read)

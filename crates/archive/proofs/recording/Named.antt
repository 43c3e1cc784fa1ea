-- The headers that a recording gives and leaves name where EOD is. Assumes nothing.
use Prim.Native.Nat.{ℕ, ◌≤◌}
use mathlib.Core.Path.{◌≡◌, sym, ap, subst, ◌∙◌}
use mathlib.Core.Bool.{true, false}
use mathlib.Core.List.{List}
use mathlib.Core.Logic.{inl}
use native.Mathlib.Omega.{arith}
use lib.ListN.{length}
use Rattle.geometry.specs.Cartridge.{is_user}
use Rattle.geometry.proofs.PickLaws.{pick_f}
use Rattle.geometry.proofs.Impossible.{never, clash}
use Rattle.frame.specs.Header.{header_frame}
use Rattle.frame.specs.declared.header.Header.{Header}
use Rattle.header.specs.Valid.{header_of}
use Rattle.header.proofs.Facts.{valid_last}
use Rattle.drive.specs.declared.command.Command.{Command}
use Rattle.drive.specs.declared.command.Command.TheVariants.{Read, Write, Locate, ReadPosition}
use Rattle.recording_state.specs.Answer.{command}
use Rattle.recording_state.specs.Fetch.{FetchedSaid, sending, fetch_of}
use Rattle.recording_state.specs.Written.{among_elements, written_frame}
use Rattle.recording_state.specs.declared.state.State.{State}
use Rattle.recording_state.specs.declared.state.Stage.TheVariants as S
use Rattle.recording_state.proofs.FetchView as view
use Rattle.recording_state.proofs.FetchView.{FetchView, fetch_view}
use Rattle.archive_lists.specs.Tape.{Tape}
use Rattle.archive_lists.specs.Headers.{Newest}
use Rattle.archive_lists.specs.Recordings as recordings
use Rattle.archive_lists.specs.Recordings.{Element, promised}
use Rattle.archive.specs.EndNamed.{EndsAt}
use Rattle.archive_lists.proofs.tape.Basics.{reads_itself}
use Rattle.archive_lists.proofs.tape.StandsLaws.{eod_ends}
use Rattle.archive_lists.proofs.recording.Trailing.{Prior}
use Rattle.archive_lists.proofs.recording.Setting.{Setting, EodAt}
use Rattle.archive_lists.proofs.recording.Invariant.{Inv, live, rejecting, spent, over}
use Rattle.archive_lists.proofs.recording.Completion.{copy_fields, ends_named, user_some, closes, reported_floor}

-- EOD at an address, in the terms of a header that names it
ends_at : {last pass n : ℕ} {none_bears : Type 0} {t : Tape} (h : Header) → h.last.0 ≡ last → h.pass ≡ pass → EodAt last pass none_bears n t h.eod.0 → EndsAt h n t
ends_at {last} {pass} {n} h last_is pass_is x = record {
  frame = x.frame;
  user = subst (λ (m : ℕ). is_user m h.eod.0 ≡ true) (sym last_is) x.user;
  reads = x.reads;
  judged = eod_ends h h.eod.0 last_is pass_is x.stands (omega (arith, ends_named h (user_some last h.eod.0 x.user)));
}

-- ---- the header that a fetch gives with a WRITE

record Given (s : State) (frame : List ℕ) : Type 0 where
  going : s.ended ≡ false
  free : s.exchange.awaiting ≡ false
  as_carried : frame ≡ header_frame s.copies.header

module _ (s : State) (lent frame : List ℕ) (a : ℕ) (closing : s.stage ≡ S.ClosingHeaders) where
  sends : (c : Command) → view.Ready s lent frame → (sending s c lent frame).said ≡ command 0x0A a → Given s (sending s c lent frame).frame
  unfolding sending written_frame
  sends (Read _) r e = absurd (let z : ◌≡◌ {A = ℕ} 0x08 0x0A = cc in omega arith)
  sends (Write _) r e = record { going = r.going; free = r.free; as_carried = pick_f _ (ap among_elements closing) }
  sends (Locate _) r e = absurd (let z : ◌≡◌ {A = ℕ} 0x2B 0x0A = cc in omega arith)
  sends ReadPosition r e = absurd (let z : ◌≡◌ {A = ℕ} 0x34 0x0A = cc in omega arith)

  given_so : {x : FetchedSaid} → FetchView s lent frame x → x.said ≡ command 0x0A a → Given s x.frame
  given_so (view.wrong_phase _) e = never (cc)
  given_so (view.wrong_length _ _ _) e = never (cc)
  given_so (view.repeating r _) e = sends s.exchange.command r e
  given_so (view.copying r _ _) e = sends _ r e
  given_so (view.stepping r _ _ _ _) e = sends _ r e
  given_so (view.resting _ _ _ _) e = never (cc)
  given_so (view.stopping _ _ _ _ _) e = never (cc)
  given_so (view.finished _ _ _) e = never (cc)

given_end : {last pass : ℕ} {on_newest none_bears : Type 0} {prior : Prior} (w : recordings.World) (frame : List ℕ) → Setting last pass → Inv last pass on_newest none_bears prior w → w.session.stage ≡ S.ClosingHeaders → Given w.session frame
    → EndsAt (header_of frame) (length (promised w.notes)) w.drive.tape × (prior.base ≤ length (promised w.notes))
given_end {prior = prior} w frame set (live _ l) closing x =
    let h = w.session.copies.header in
    let fields : header_of (header_frame h) ≡ h = copy_fields set h l.carried (reads_itself (header_frame h)) in
    subst (λ (xs : List Element). EndsAt (header_of frame) (length xs) w.drive.tape × (prior.base ≤ length xs)) l.promises.is (
      subst (λ (y : Header). EndsAt y (length l.list) w.drive.tape) (sym (ap header_of x.as_carried ∙ fields)) (ends_at h l.carried.last_is l.carried.pass_is (l.eod_place.named (inl closing))),
      l.floor.1,
    )
given_end w frame set (rejecting _ d) closing x = clash d.awaits x.free
given_end w frame set (spent _ o) closing x = clash o.ended x.going
given_end w frame set (over _ o) closing x = clash o.ended x.going

-- ---- by the invariant; the elements that there were before are among those that are promised

module _ {last pass : ℕ} {on_newest none_bears : Type 0} {prior : Prior} (w : recordings.World) (set : Setting last pass) (i : Inv last pass on_newest none_bears prior w) where
  pub given_named : (lent frame : List ℕ) (a : ℕ) → w.session.stage ≡ S.ClosingHeaders → (fetch_of w.session lent frame).said ≡ command 0x0A a
      → EndsAt (header_of (fetch_of w.session lent frame).frame) (length (promised w.notes)) w.drive.tape × (prior.base ≤ length (promised w.notes))
  given_named lent frame a closing said = given_end w (fetch_of w.session lent frame).frame set i closing (given_so w.session lent frame a closing (fetch_view w.session lent frame) said)

  pub newest_named : on_newest → w.notes.reported ≡ true → (h : List ℕ) → Newest last w.drive.tape h → EndsAt (header_of h) (length (promised w.notes)) w.drive.tape × (prior.base ≤ length (promised w.notes))
  newest_named newest reported h n =
      let l = closes w set i newest reported in (
        ends_at (header_of h) (valid_last last h n.here.valid) (l.passes h n) (subst (EodAt last pass none_bears (length (promised w.notes)) w.drive.tape) (sym (l.names h n)) l.ends),
        reported_floor w set i reported,
      )

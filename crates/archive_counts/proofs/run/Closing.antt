-- Close is called, EOD goes to tape and the closing headers too, and a fetch answers done. Assumes nothing.
use Prim.Native.Nat.{ℕ, ◌+◌, ◌*◌, ◌%◌, ◌^◌, ◌≤◌}
use mathlib.Core.Path.{◌≡◌, refl, sym, ap, subst, ◌∙◌}
use mathlib.Core.Bool.{Bool, true, false}
use mathlib.Core.List.{List}
use mathlib.Core.Logic.{inl}
use native.Mathlib.Nat.{mod-eq_of_lt}
use native.Mathlib.Omega.{arith}
use Rattle.geometry.proofs.PickLaws.{pick_f}
use Rattle.geometry.proofs.TestLaws.{neither}
use Rattle.frame_bounds.specs.Bounds.{copies_again}
use Rattle.copies.specs.Copies as copies
use Rattle.elements.specs.declared.elements.Elements.{Elements}
use Rattle.recording_state.specs.State.{OutcomeSaid, accepting, closed_of, closing_header, closing_started, eod_due}
use Rattle.recording_state.specs.Accept.{close_of}
use Rattle.recording_state.specs.Answer as answer
use Rattle.recording_state.specs.Due.{decision_by, decision_of}
use Rattle.recording_state.specs.Fetch.{FetchedSaid}
use Rattle.recording_state.specs.declared.state.Setup.{Setup}
use Rattle.recording_state.specs.declared.state.State.{State}
use Rattle.recording_state.specs.declared.state.Stage.{Stage}
use Rattle.recording_state.specs.declared.state.Stage.TheVariants as S
use Rattle.recording_state.proofs.FetchView.{not_first, fetch_decided}
use Rattle.archive_lists.specs.Recordings as recordings
use Rattle.archive_lists.specs.Recordings.{Element, World, with_session, fetch_number, given_up_after}
use Rattle.archive_counts.proofs.run.Goes.{Account, counting, nothing, Goes, goes_stop, goes_call}
use Rattle.archive_counts.proofs.run.Calm.{Calm, Noted, noted_lending, calm_in}
use Rattle.archive_counts.proofs.run.Exchanges.{blank_frame, blank_long, fetched}
use Rattle.archive_counts.proofs.run.HeaderExchanges.{HeadSeek, at_close}
use Rattle.archive_counts.proofs.run.HeaderStages.{headers_through}
use Rattle.archive_counts.proofs.run.Standing.{Sizes, Stand, settled_eod, settled_closed, settled_done}
use Rattle.archive_counts.proofs.run.Places.{Room}
use Rattle.archive_counts.proofs.run.Rounds.{one_through}

-- what is wanted in the end
pub record Ends (xs : List Element) (w : World) : Type 0 where
  pub noted : Noted xs w.notes
  pub reported : w.notes.reported ≡ true

-- ---- the fetch that answers done

decides_done : (s : State) → s.exchange.again ≡ false → s.stage ≡ S.Done → decision_of s ≡ answer.done
unfolding decision_of
decides_done s told st = pick_f _ told ∙ ap (λ (k : Stage). decision_by k s) st

pub done_goes : {setup : Setup} {closed : Bool} {xs : List Element} (w : World) → Calm S.Done setup closed xs w → Goes w nothing (Ends xs)
done_goes {xs = xs} w k =
    let x = fetch_decided w.session w.window blank_frame (neither _ _ k.between.going k.between.free) k.wide blank_long (decides_done w.session k.between.told k.stage_is) in
    goes_call (recordings.fetches w.window blank_frame (inl (ap (λ (y : FetchedSaid). fetch_number y.said) x)))
    (subst (λ (y : FetchedSaid). Goes (fetched w y) nothing (Ends xs)) (sym x) (goes_stop _ (record { noted = noted_lending w true k.noted; reported = refl })))

-- ---- close

abbrev closed : World → OutcomeSaid → World
closed w x = record {
  session = x.session;
  window = w.window;
  drive = w.drive;
  flight = w.flight;
  notes = record { accepted = w.notes.accepted; unaltered = w.notes.unaltered; reported = w.notes.reported; given_up = given_up_after w.session w.notes.given_up };
}

close_so : (s : State) → s.ended ≡ false → s.closed ≡ false → s.stage ≡ S.Elements → s.elements.queue.pending ≡ 0 → s.elements.eod ≡ false → close_of s ≡ accepting (eod_due (closed_of s))
unfolding close_of
close_so s going unclosed st none not = pick_f _ (not_first s.spent going) ∙ pick_f _ (neither _ _ going unclosed) ∙ ap accepting (settled_closed (closed_of s) st none not refl)

module _ {setup : Setup} {limit : ℕ} (sizes : Sizes setup limit) where
  -- EOD is taken and written, and the closing headers are due
  pub close_goes : {P : World → Type 0} {t : Account} (m : ℕ) {xs : List Element} {a : ℕ} (w : World) → Stand setup limit false false xs 0 0 a w → Room m setup.tail limit a 1
      → ((e : Elements) (v : World) → HeadSeek (at_close setup e xs) 0 0 v → Goes v t P) → Goes w (counting S.Elements 1 0 t) P
  close_goes {P} {t} m {xs} {a} w s r g =
      let k = s.calm in
      let p = s.pending_are in
      let pending = p.pending_is in
      let x = close_so w.session k.between.going k.closed_is k.stage_is pending p.eod_is in
      let small : (w.session.elements.queue.pending + 1) % 2 ^ 16 ≡ w.session.elements.queue.pending + 1 = mod-eq_of_lt (omega arith) in
      let noted : Noted xs (closed w (accepting (eod_due (closed_of w.session)))).notes =
      record { accepted = k.noted.accepted; unaltered = k.noted.unaltered; ungiven = pick_f _ (not_first w.session.spent k.between.going) ∙ k.noted.ungiven } in
      let due : Stand setup limit true true xs 1 0 a (closed w (accepting (eod_due (closed_of w.session)))) =
      record {
        calm = record { stage_is = k.stage_is; setup_is = k.setup_is; closed_is = refl; wide = k.wide; between = k.between; noted = noted };
        pending_are = record { eod_is = refl; pending_is = omega (arith, small); limit_is = p.limit_is };
        out_is = s.out_is;
        next_is = s.next_is;
        placed = s.placed;
        drive_holds = s.drive_holds;
      } in
      goes_call (recordings.closes (inl (ap (λ (y : OutcomeSaid). y.number) x)))
      (subst (λ (y : OutcomeSaid). Goes (closed w y) (counting S.Elements 1 0 t) P) (sym x)
      (one_through sizes m 0 (closed w (accepting (eod_due (closed_of w.session)))) due r
      (λ b y v q c _.
      let z = c.calm in
      subst (λ (i : State). Goes (with_session v i) t P) (sym (q ∙ settled_eod y z.stage_is c.pending_are.pending_is c.pending_are.eod_is))
      (g y.elements (with_session v (closing_started y)) (record {
        calm = calm_in S.ClosingHeaders S.ClosingHeaders (copies.start_of (closing_header y)) refl z;
        elements_is = refl;
        copies_are = record { group_is = refl; copy_is = refl; out_is = refl; locate_is = refl; least = omega arith; most = omega arith };
      })))))

  -- the rest: from a session whose elements are all on tape to done, with h write errors of headers
  pub finish : (m h : ℕ) {xs : List Element} {a : ℕ} (w : World) → h ≤ 2 → Stand setup limit false false xs 0 0 a w → Room m setup.tail limit a 1
      → Goes w (counting S.Elements 1 0 (counting S.ClosingHeaders (10 + h * copies_again setup.depth) h nothing)) (Ends xs)
  finish m h {xs} w low s r =
      close_goes m w s r
      (λ e v y. headers_through h v low sizes.deep y
      (λ x u c. done_goes u (subst (λ (z : State). Calm S.Done setup true xs (with_session u z)) (sym (c.settled ∙ settled_done x c.calm.stage_is)) c.calm)))

-- Elements are accepted, of either kind, with the window lent as it was left. Assumes nothing.
use Prim.Native.Nat.{ℕ, ◌+◌, ◌*◌, ◌%◌, ◌^◌, ◌≤◌}
use mathlib.Core.Path.{◌≡◌, refl, sym, ap, subst, ◌∙◌}
use mathlib.Core.Bool.{Bool, true, false, ◌&&◌}
use mathlib.Core.List.{List, [], ◌∷◌, ◌++◌}
use mathlib.Core.Logic.{inl}
use native.Mathlib.Nat.{mod-eq_of_lt}
use native.Mathlib.Omega.{arith}
use borrow.Author.Tests.{le-ltb, eq-eqb}
use lib.ListN.{length}
use Rattle.geometry.proofs.PickLaws.{pick_t, pick_f}
use Rattle.geometry.proofs.TestLaws.{neither}
use Rattle.buffer.specs.Bytes.{agree}
use Rattle.recording_state.specs.State.{OutcomeSaid, accepting, window_length}
use Rattle.recording_state.specs.Accept.{with_element, filemark_of, place_of, StoredSaid, block_of}
use Rattle.recording_state.specs.Window.{put_block}
use Rattle.recording_state.specs.declared.state.Setup.{Setup}
use Rattle.recording_state.specs.declared.state.State.{State}
use Rattle.recording_state.proofs.BlockPlace.{place_inside}
use Rattle.recording_state.proofs.FetchView.{both}
use Rattle.recording_state.proofs.WindowLaws.{put_length}
use Rattle.elements.specs.Queue.{number_of}
use Rattle.archive_lists.specs.Recordings as recordings
use Rattle.archive_lists.specs.Recordings.{Element, block, filemark, World, accepted_after}
use Rattle.archive_counts.specs.Acceptable.{Acceptable}
use Rattle.archive_counts.proofs.run.Goes.{Account, Goes, goes_call}
use Rattle.archive_counts.proofs.run.Calm.{Noted, lent_same}
use Rattle.archive_counts.proofs.run.Standing.{Sizes, Stand}

filemark_so : (s : State) → s.ended ≡ false → s.closed ≡ false → s.elements.queue.pending ≤ s.setup.highest → filemark_of s ≡ accepting (with_element s true)
unfolding filemark_of
filemark_so s e c l = pick_f _ (neither _ _ e c) ∙ pick_f _ (le-ltb s.setup.highest s.elements.queue.pending l)

block_so : (s : State) (b window : List ℕ) → s.ended ≡ false → s.closed ≡ false → length b ≡ 32768 → length window ≡ window_length s → s.elements.queue.pending ≤ s.setup.highest
    → block_of s b window ≡ record { result = accepting (with_element s false); window = put_block window (place_of s) b }
unfolding block_of
block_so s b window e c full long l = pick_f _ (neither _ _ e c) ∙ pick_t _ (both (eq-eqb _ _ full) (eq-eqb _ _ long)) ∙ pick_f _ (le-ltb s.setup.highest s.elements.queue.pending l)

-- the world behind an accept, given the outcome, the window and whether it was lent as left
abbrev accepted : World → OutcomeSaid → List ℕ → Bool → Element → World
accepted w r window unaltered x = record {
  session = r.session;
  window = window;
  drive = w.drive;
  flight = w.flight;
  notes = record { accepted = accepted_after r.number w.notes.accepted x; unaltered = unaltered; reported = w.notes.reported; given_up = w.notes.given_up };
}

module _ {setup : Setup} {limit : ℕ} (sizes : Sizes setup limit) where
  stand_more : {xs : List Element} {p o a : ℕ} (w : World) (mark : Bool) (window : List ℕ) (unaltered : Bool) (x : Element) → Stand setup limit false false xs p o a w → p ≤ setup.highest
      → length window ≡ length w.window → unaltered ≡ true → Stand setup limit false false (xs ++ x ∷ []) (p + 1) o a (accepted w (accepting (with_element w.session mark)) window unaltered x)
  stand_more w mark window unaltered x s room long same =
      let k = s.calm in
      let pending = s.pending_are.pending_is in
      let narrow = sizes.narrow in
      let small : (w.session.elements.queue.pending + 1) % 2 ^ 16 ≡ w.session.elements.queue.pending + 1 = mod-eq_of_lt (omega arith) in
      let noted : Noted _ (accepted w (accepting (with_element w.session mark)) window unaltered x).notes =
      record { accepted = ap (λ (ys : List Element). ys ++ x ∷ []) k.noted.accepted; unaltered = same; ungiven = k.noted.ungiven } in
      record {
        calm = record { stage_is = k.stage_is; setup_is = k.setup_is; closed_is = k.closed_is; wide = long ∙ k.wide; between = k.between; noted = noted };
        pending_are = record { eod_is = s.pending_are.eod_is; pending_is = omega (arith, small); limit_is = s.pending_are.limit_is };
        out_is = s.out_is;
        next_is = s.next_is;
        placed = s.placed;
        drive_holds = s.drive_holds;
      }

  pub accept_one : {P : World → Type 0} {t : Account} {xs : List Element} {p o a : ℕ} (w : World) (x : Element) → Acceptable (x ∷ []) → Stand setup limit false false xs p o a w → p ≤ setup.highest
      → ((v : World) → Stand setup limit false false (xs ++ x ∷ []) (p + 1) o a v → Goes v t P) → Goes w t P
  unfolding Acceptable
  accept_one {P} {t} {p = p} w filemark _ s room g =
      let k = s.calm in
      let pending = s.pending_are.pending_is in
      let low : w.session.elements.queue.pending ≤ w.session.setup.highest = subst (λ (y : Setup). w.session.elements.queue.pending ≤ y.highest) (sym k.setup_is) (omega arith) in
      let so = filemark_so w.session k.between.going k.closed_is low in
      goes_call (recordings.accepts_filemark (inl (ap (λ (y : OutcomeSaid). y.number) so)))
      (subst (λ (y : OutcomeSaid). Goes (accepted w y w.window w.notes.unaltered filemark) t P) (sym so)
      (g (accepted w (accepting (with_element w.session true)) w.window w.notes.unaltered filemark)
      (stand_more w true w.window w.notes.unaltered filemark s room refl k.noted.unaltered)))
  accept_one {P} {t} {p = p} w (block b) full s room g =
      let k = s.calm in
      let pending = s.pending_are.pending_is in
      let low : w.session.elements.queue.pending ≤ w.session.setup.highest = subst (λ (y : Setup). w.session.elements.queue.pending ≤ y.highest) (sym k.setup_is) (omega arith) in
      let so = block_so w.session b w.window k.between.going k.closed_is full.0 k.wide low in
      let window : List ℕ = put_block w.window (place_of w.session) b in
      let unaltered : Bool = w.notes.unaltered && agree w.window w.window in
      let inside : place_of w.session * 32768 + 32768 ≤ length w.window =
      subst (λ (i : ℕ). place_of w.session * 32768 + 32768 ≤ i) (sym k.wide) (place_inside (number_of w.session.elements.queue w.session.elements.queue.pending).0 w.session.setup.highest) in
      goes_call (recordings.accepts_block b w.window (inl (ap (λ (y : StoredSaid). y.result.number) so)))
      (subst (λ (y : StoredSaid). Goes (accepted w y.result y.window unaltered (block b)) t P) (sym so)
      (g (accepted w (accepting (with_element w.session false)) window unaltered (block b))
      (stand_more w false window unaltered (block b) s room (put_length w.window b (place_of w.session) inside full.0) (lent_same w k.noted.unaltered))))

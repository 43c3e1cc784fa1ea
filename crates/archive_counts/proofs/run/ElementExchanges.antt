-- Exchanges in the stage of the elements: a frame is taken, a LOCATE carried out, the reserved addresses passed, a write error met at the oldest frame,
-- all that is outstanding written. Assumes nothing.
use Prim.Native.Nat.{ℕ, ◌+◌, ◌-◌, ◌%◌, ◌^◌, ◌≤◌, ◌<◌}
use mathlib.Core.Path.{◌≡◌, refl, sym, ap, subst, ◌∙◌}
use mathlib.Core.Bool.{Bool, false}
use mathlib.Core.List.{List}
use mathlib.Core.Logic.{◌⊎◌, inl, ⊎_elim}
use native.Mathlib.Nat.{mod-eq_of_lt}
use native.Mathlib.Omega.{arith}
use Rattle.geometry.specs.Place.{as_address}
use Rattle.geometry.specs.declared.address.Address.{Address}
use Rattle.write_error.specs.WriteError.{target_address}
use Rattle.drive.specs.Command.{write, locate, read_position}
use Rattle.drive.specs.declared.command.Command.TheVariants.{Write, Locate, ReadPosition}
use Rattle.elements.specs.Elements.{base_of}
use Rattle.elements.specs.Due as due
use Rattle.elements.specs.Reply as reply
use Rattle.elements.specs.declared.course.Course.{Course}
use Rattle.elements.specs.declared.elements.Elements.{Elements}
use Rattle.elements.proofs.DueView as rule
use Rattle.elements.proofs.ReplyView as steps
use Rattle.recording_state.specs.State.{accepting, settled_of}
use Rattle.recording_state.specs.Answer.{giving}
use Rattle.recording_state.specs.Due.{decision_of}
use Rattle.recording_state.specs.Fetch.{awaits}
use Rattle.recording_state.specs.Reply.{element_reply_by}
use Rattle.recording_state.specs.Written.{written_frame}
use Rattle.recording_state.specs.declared.state.Setup.{Setup}
use Rattle.recording_state.specs.declared.state.State.{State}
use Rattle.recording_state.specs.declared.state.Stage.TheVariants as S
use Rattle.recording_state.proofs.ReplyView.{by_elements}
use Rattle.archive_lists.specs.Conduct.{taking, moved}
use Rattle.archive_lists.specs.Recordings.{Element, World, with_session}
use Rattle.archive_counts.proofs.run.Goes.{Account, counting, Goes}
use Rattle.archive_counts.proofs.run.Calm.{Calm, depth_is, exchanged, replied, calm_after}
use Rattle.archive_counts.proofs.run.Holding.{holds_taking, holds_moved, failed}
use Rattle.archive_counts.proofs.run.Exchanges.{takes, locates, confirms, meets}
use Rattle.archive_counts.proofs.run.Standing.{Pending, Stand, Seek, settled_pending, settled_open, element_decides, due_write, due_jump, due_position, due_locate, room_below, failed_so, counted_so, confirmed_as, confirmed_pending}

module _ {setup : Setup} {limit : ℕ} {closed eod : Bool} {xs : List Element} where
  -- a frame is taken
  pub take_one : {P : World → Type 0} {t : Account} {p o a : ℕ} (w : World) → Stand setup limit closed eod xs p o a w → o < p → p ≤ 64 → o < setup.depth
      → a + setup.tail < limit → limit < 2 ^ 32 → (a ≡ 2990 → ⊥)
      → ((v : World) → Stand setup limit closed eod xs p (o + 1) (a + 1) v → Goes v t P) → Goes w (counting S.Elements 1 0 t) P
  take_one w s waiting few held_below room fits off g =
      let x = w.session in
      let k = s.calm in
      let pending = s.pending_are.pending_is in
      let outs = s.out_is in
      let next = s.next_is in
      let deep = depth_is w k in
      let at : Address = x.elements.course.next in
      let e : Elements = reply.taken_of x.elements in
      let f = written_frame x w.window in
      let y : State = replied x (Write at) x.copies e in
      let small : (x.elements.queue.outstanding + 1) % 2 ^ 16 ≡ x.elements.queue.outstanding + 1 = mod-eq_of_lt (omega arith) in
      let low : (x.elements.course.next.0 + 1) % 2 ^ 32 ≡ x.elements.course.next.0 + 1 = mod-eq_of_lt (omega arith) in
      takes w k y at
      (element_decides x (write at.0) k.between.told k.stage_is
      (due_write s.placed (omega arith) (omega arith) (room_below w s at.0 (omega arith)) (λ q. off (sym next ∙ q)) (rule.due_view x.setup.depth x.setup.tail x.elements)))
      (by_elements (awaits x (Write at)) _ k.stage_is ∙ ap accepting (settled_pending y (omega arith)))
      (g (exchanged w y (taking w.drive f)) (record {
        calm = calm_after w (Write at) x.copies e (taking w.drive f) k;
        pending_are = s.pending_are;
        out_is = omega (arith, small);
        next_is = omega (arith, low);
        placed = s.placed;
        drive_holds = holds_taking w.drive f s.drive_holds;
      }))

  -- a LOCATE of address a is carried out, with nothing outstanding; close was not called, or something is pending
  located : {P : World → Type 0} {t : Account} {p : ℕ} (a : Address) (w : World) → Calm S.Elements setup closed xs w → Pending limit eod p w.session.elements
      → w.session.elements.queue.outstanding ≡ 0
      → due.due_of w.session.setup.depth w.session.setup.tail w.session.elements ≡ due.send (locate a.0) → (1 ≤ p) ⊎ ((closed ≡ false) × (eod ≡ false))
      → ((v : World) → Stand setup limit closed eod xs p 0 a.0 v → Goes v t P) → Goes w t P
  located a w k pending outs is lively g =
      let x = w.session in
      let e : Elements = reply.located_of x.elements a in
      let y : State = replied x (Locate a) x.copies e in
      locates w k y a (element_decides x (locate a.0) k.between.told k.stage_is is)
      (by_elements (awaits x (Locate a)) _ k.stage_is
      ∙ ap accepting (⊎_elim (λ q. settled_pending y (let z = pending.pending_is in omega arith)) (λ q. settled_open y k.stage_is (k.closed_is ∙ q.0) (pending.eod_is ∙ q.1)) lively))
      (g (exchanged w y (moved w.drive a.0)) (record {
        calm = calm_after w (Locate a) x.copies e (moved w.drive a.0) k;
        pending_are = pending;
        out_is = outs;
        next_is = refl;
        placed = refl;
        drive_holds = holds_moved w.drive a.0;
      }))

  -- rule 1
  pub locate_one : {P : World → Type 0} {t : Account} {p a : ℕ} (w : World) → Seek setup limit closed eod xs p a w → (1 ≤ p) ⊎ ((closed ≡ false) × (eod ≡ false)) → a < limit
      → ((v : World) → Stand setup limit closed eod xs p 0 a v → Goes v t P) → Goes w t P
  locate_one {p = p} w s lively room g =
      let x = w.session in
      let target = s.target_is in
      let ends = s.pending_are.limit_is in
      located x.elements.course.target w s.calm s.pending_are s.out_is (due_locate s.unplaced (omega arith) (rule.due_view x.setup.depth x.setup.tail x.elements)) lively
      (λ v y. g v (subst (λ (i : ℕ). Stand setup limit closed eod xs p 0 i v) target y))

  -- rule 5: from 2,990 the next address is 3,000
  pub jump_one : {P : World → Type 0} {t : Account} {p : ℕ} (w : World) → Stand setup limit closed eod xs p 0 2990 w → 1 ≤ p → 1 ≤ setup.depth → 2990 + setup.tail < limit
      → ((v : World) → Stand setup limit closed eod xs p 0 3000 v → Goes v t P) → Goes w t P
  jump_one w s least some room g =
      let x = w.session in
      let next = s.next_is in
      let deep = depth_is w s.calm in
      located (as_address 3000) w s.calm s.pending_are s.out_is
      (due_jump s.placed (omega (arith, s.out_is, s.pending_are.pending_is)) s.out_is (omega arith) (room_below w s x.elements.course.next.0 (omega arith)) next
      (rule.due_view x.setup.depth x.setup.tail x.elements)) (inl least) g

  -- rule 2: everything pending is outstanding
  asks : {p a : ℕ} (w : World) → Stand setup limit closed eod xs p p a w → 1 ≤ p → decision_of w.session ≡ giving read_position
  asks w s least =
      let x = w.session in
      let pending = s.pending_are.pending_is in
      let outs = s.out_is in
      element_decides x read_position s.calm.between.told s.calm.stage_is
      (due_position s.placed (omega arith) (omega arith) (rule.due_view x.setup.depth x.setup.tail x.elements))

  -- a write error at the oldest frame, with a skip that leads to address b
  pub fail_one : {P : World → Type 0} {t : Account} {p : ℕ} (a skip b : ℕ) (w : World) → Stand setup limit closed eod xs p p (a + p) w → 1 ≤ p
      → target_address (as_address a) skip ≡ b → b + setup.tail < limit
      → ((v : World) → Seek setup limit closed eod xs p b v → Goes v t P) → Goes w (counting S.Elements 0 1 t) P
  fail_one {p = p} a skip b w s least target room g =
      let x = w.session in
      let outs = s.out_is in
      let next = s.next_is in
      let i : ℕ = a - (base_of x.elements).0 in
      let e : Elements = reply.noted_of x.elements (as_address a) (as_address (target_address (as_address a) skip)) in
      let left : Pending limit eod p e = confirmed_pending x.elements i p (omega arith) s.pending_are in
      let step : reply.failed_of x.setup.tail x.elements (as_address a) skip ≡ reply.kept e =
      failed_so x.setup.tail x.elements (as_address a) skip (omega arith) (omega arith) (room_below w s (target_address (as_address a) skip) (omega (arith, target)))
      (steps.failed_view x.setup.tail x.elements (as_address a) skip) in
      let y : State = replied x ReadPosition x.copies e in
      meets w s.calm y s.drive_holds least a skip refl (asks w s least)
      (by_elements (awaits x ReadPosition) _ s.calm.stage_is ∙ ap (λ (z : reply.SteppedSaid). element_reply_by z (awaits x ReadPosition)) step
      ∙ ap accepting (settled_pending y (omega (arith, left.pending_is))))
      (g (exchanged w y (failed w.drive)) (record {
        calm = calm_after w ReadPosition x.copies e (failed w.drive) s.calm;
        pending_are = left;
        out_is = refl;
        target_is = target;
        unplaced = refl;
      }))

  -- all that is outstanding is on tape, and nothing is due: the session settles
  pub confirm_all : {P : World → Type 0} {t : Account} {p a : ℕ} (w : World) → Stand setup limit closed eod xs p p a w → 1 ≤ p
      → ((x : State) (v : World) → v.session ≡ settled_of x → Stand setup limit closed eod xs 0 0 a (with_session v x) → Goes v t P) → Goes w t P
  confirm_all w s least g =
      let x = w.session in
      let k = s.calm in
      let pending = s.pending_are.pending_is in
      let outs = s.out_is in
      let i : ℕ = x.elements.queue.outstanding - 0 in
      let e : Elements = reply.confirmed_of x.elements i in
      let c = confirmed_as x.elements i in
      let y : State = replied x ReadPosition x.copies e in
      confirms w k (settled_of y) s.drive_holds (asks w s least)
      (by_elements (awaits x ReadPosition) _ k.stage_is ∙ ap (λ (z : reply.SteppedSaid). element_reply_by z (awaits x ReadPosition)) (counted_so x.elements (steps.counted_view x.elements 0)))
      (λ d held. g y (exchanged w (settled_of y) d) refl (record {
        calm = calm_after w ReadPosition x.copies e d k;
        pending_are = confirmed_pending x.elements i 0 (omega arith) s.pending_are;
        out_is = c.out_is ∙ omega arith;
        next_is = ap (λ (z : Course). z.next.0) c.course_is ∙ s.next_is;
        placed = ap (λ (z : Course). z.locate) c.course_is ∙ s.placed;
        drive_holds = held;
      }))

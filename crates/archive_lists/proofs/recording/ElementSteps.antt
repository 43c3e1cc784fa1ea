-- What a reply leaves of the elements and the drive. Assumes nothing.
use Prim.Native.Nat.{ℕ, ◌+◌, ◌-◌, ◌%◌, ◌^◌, ◌≤◌, ◌<◌}
use mathlib.Core.Path.{◌≡◌, refl, sym, ap, ◌∙◌}
use mathlib.Core.Bool.{Bool, true, false}
use mathlib.Core.List.{[]}
use mathlib.Core.Logic.{◌⊎◌, inl, inr, ⊎_elim}
use native.Mathlib.Nat.{le_refl, mod-eq_of_lt}
use native.Mathlib.Omega.{arith}
use borrow.Author.Tests.{ltb-true, ltb-false, leb-false, eqb-false}
use lib.Dec.{eqb, ltb, leb}
use lib.ListN.{length}
use Rattle.geometry.specs.Cartridge.{is_user}
use Rattle.geometry.specs.Place as place
use Rattle.geometry.specs.Place.{as_address}
use Rattle.write_error.specs.WriteError.{step_of, target_address, target_within}
use Rattle.geometry.specs.declared.address.Address.{Address}
use Rattle.geometry.proofs.Impossible.{clash}
use Rattle.geometry.proofs.PickLaws.{pick_by}
use Rattle.archive_lists.specs.Conduct.{Drive, AtRest, empty, stopped}
use Rattle.elements.specs.Course as course
use Rattle.elements.specs.Elements.{with_queue, with_course, base_of, limit_of}
use Rattle.elements.specs.Queue.{number_of, with_counts}
use Rattle.elements.specs.declared.course.Course.{Course}
use Rattle.elements.specs.Trail.{trail_of, trail_after}
use Rattle.elements.specs.Reply as reply
use Rattle.elements.specs.Reply.{kept, ending, located_of, taken_of, confirmed_of, overflowed_of, noted_of, full_of, failed_to, counted_of, failed_of}
use Rattle.elements.specs.declared.elements.Elements.{Elements}
use Rattle.recording_state.specs.State.{with_elements}
use Rattle.recording_state.specs.Reply.{replied_of}
use Rattle.recording_state.specs.declared.state.State.{State}
use Rattle.recording_state.proofs.Kept.{held_of}
use Rattle.geometry.proofs.PastReserved.{past_reserved_least}
use Rattle.geometry.proofs.UserFrames.{ranges_user}
use Rattle.geometry.proofs.Landing.{Landing, before, across, behind, landing}
use Rattle.archive_lists.specs.Recordings as recordings
use Rattle.archive_lists.proofs.tape.Basics.{no_frames}
use Rattle.archive_lists.proofs.recording.ElementsLink as elements
use Rattle.archive_lists.proofs.recording.ElementsLink.{edge_of, Linked, Moving, Writing}

-- the elements after a reply: some more are confirmed, and the tape was tried as far or further
pub record Step (last : ℕ) (s : State) (d : Drive) (k edge : ℕ) (e : Elements) : Type 0 where
  pub n : ℕ
  pub tried : ℕ
  pub further : edge ≤ tried
  pub confirmed : n ≤ s.elements.queue.outstanding
  pub first_is : e.queue.first.0 ≡ s.elements.queue.first.0 + n
  pub pending_is : e.queue.pending ≡ s.elements.queue.pending - n
  pub held : e.queue.outstanding ≤ e.queue.pending
  pub room : e.course.limit.0 ≤ last + 1
  pub marks_is : e.queue.marks ≡ s.elements.queue.marks
  pub eod_is : e.eod ≡ s.elements.eod
  -- no LOCATE was due of a drive that has stopped
  pub placed : d.failed ≡ true → s.elements.course.locate ≡ false
  -- those confirmed are on tape, behind one another before the drive's place, and the trail goes on over them
  pub on_tape : s.elements.queue.first.0 + n ≤ k
  pub based : 0 < n → ((base_of s.elements).0 + k ≡ d.at + s.elements.queue.first.0) × (d.at ≤ edge)
  pub trail_is : e.trail ≡ trail_after s.elements n
  pub writing : Writing last (with_elements (replied_of s) e) d k tried recordings.no_command
  -- where the last was confirmed, all are on tape, and it lies before the next address, where the drive is
  pub all : 0 < s.elements.queue.pending → e.queue.pending ≡ 0 → (k ≡ e.queue.first.0) × AtRest d × (is_user last (e.course.next.0 - 1) ≡ true) × (e.course.next.0 ≡ d.at)

pub data Reached (last : ℕ) (s : State) (d : Drive) (k edge : ℕ) : reply.SteppedSaid → Type 0 where
  -- and where it relocates, to a target that is not above END
  goes : (e : Elements) → Step last s d k edge e → (e.course.locate ≡ true → e.course.target.0 < e.course.limit.0) → Reached last s d k edge (kept e)
  unlawful : (e : Elements) → Reached last s d k edge (ending e 8)
  -- the write error is noted all the same
  full : (e : Elements) → Step last s d k edge e → e.queue.outstanding ≡ 0 → Reached last s d k edge (ending e 9)

-- the elements with so many outstanding, and on this course
abbrev holding : Elements → ℕ → Course → Elements
holding e o c = with_course (with_queue e (with_counts e.queue e.queue.pending o)) c

module _ (last : ℕ) (s : State) (d : Drive) (k edge : ℕ) (small : last + 65 < 2 ^ 32) (again : s.exchange.again ≡ false) (held : s.elements.queue.outstanding ≤ s.elements.queue.pending) (low : s.elements.queue.pending ≤ 64) (room : s.elements.course.limit.0 ≤ last + 1) where
  -- nothing is confirmed
  unconfirmed : (o : ℕ) (c : Course) → o ≤ s.elements.queue.pending → c.limit.0 ≤ last + 1 → (d.failed ≡ true → s.elements.course.locate ≡ false) → s.elements.queue.first.0 ≤ k
      → Writing last (with_elements (replied_of s) (holding s.elements o c)) d k edge recordings.no_command → Step last s d k edge (holding s.elements o c)
  unfolding trail_of
  unconfirmed o c out limit placed least writing = record {
    n = 0;
    tried = edge;
    further = le_refl edge;
    confirmed = omega arith;
    first_is = omega arith;
    pending_is = omega arith;
    held = out;
    room = limit;
    marks_is = refl;
    eod_is = refl;
    placed = placed;
    on_tape = omega arith;
    based = λ h. absurd (omega arith);
    trail_is = refl;
    writing = writing;
    all = λ p z. absurd (omega arith);
  }

  pub taken_step : s.elements.queue.outstanding < s.elements.queue.pending → Linked last (held_of s) d k edge 1 → Step last s d k edge (taken_of s.elements)
  taken_step due l =
      let roof = l.roof in
      let taken_is = l.taken_is in
      let next_is = l.next_is in
      let known = l.known in
      let out : (s.elements.queue.outstanding + 1) % 2 ^ 16 ≡ s.elements.queue.outstanding + 1 = mod-eq_of_lt (omega arith) in
      let next : (s.elements.course.next.0 + 1) % 2 ^ 32 ≡ s.elements.course.next.0 + 1 = mod-eq_of_lt (omega arith) in
      unconfirmed ((s.elements.queue.outstanding + 1) % 2 ^ 16) (course.taken_of s.elements.course) (omega (arith, out)) room (λ _. l.placed) (omega arith) (elements.at_place refl again (record {
        placed = l.placed;
        taken_is = omega (arith, out);
        next_is = omega (arith, next);
        known = omega (arith, out);
        roof = omega (arith, next);
        zone = ⊎_elim (λ z. inl (omega (arith, next))) (λ z. inr (omega (arith, out, next))) l.zone;
        spread = l.spread;
        edge_is = l.edge_is;
      }))

  pub filled_step : (a : Address) → a.0 ≤ last → Linked last (held_of s) d k edge 0 → Step last s d k edge (overflowed_of s.elements a)
  filled_step a below l =
      let taken_is = l.taken_is in
      let known = l.known in
      unconfirmed s.elements.queue.outstanding (course.overflowed_of s.elements.course a) held (omega arith) (λ _. l.placed) (omega arith)
      (elements.at_place refl again (record { placed = l.placed; taken_is = l.taken_is; next_is = l.next_is; known = l.known; roof = l.roof; zone = l.zone; spread = l.spread; edge_is = l.edge_is }))

  pub moved_step : (a : Address) → d.buffer ≡ [] → d.failed ≡ false → d.at ≡ a.0 → a.0 ≤ last → Moving last (held_of s) d k edge a.0 → Step last s d k edge (located_of s.elements a)
  moved_step a e f p roof m =
      let size : length d.buffer ≡ 0 = ap length e in
      let none_out = m.none_out in
      let first_is = m.first_is in
      let spread = m.spread in
      unconfirmed s.elements.queue.outstanding (course.located_of s.elements.course a) held room (λ z. clash z f) (omega arith) (elements.at_place refl again (record {
        placed = refl;
        taken_is = omega arith;
        next_is = omega arith;
        known = omega arith;
        roof = omega arith;
        zone = ⊎_elim (λ z. inl (omega arith)) (λ z. inr (omega arith)) m.zone;
        spread = omega arith;
        edge_is = m.edge_is ∙ sym p ∙ ap (λ (b : Bool). edge_of b d.at) (sym f);
      }))

  module _ (l : Linked last (held_of s) d k edge 0) where
    exact : (n : ℕ) → n ≤ s.elements.queue.outstanding → (number_of s.elements.queue n).0 ≡ s.elements.queue.first.0 + n
    exact n h =
        let roof = l.roof in
        let taken_is = l.taken_is in
        let next_is = l.next_is in
        let known = l.known in
        let spread = l.spread in
        mod-eq_of_lt (omega arith)

    edge_least : d.at ≤ edge
    edge_least = go d.failed l.edge_is
      where
        go : (b : Bool) → edge ≡ edge_of b d.at → d.at ≤ edge
        go true x = omega arith
        go false x = omega arith

    -- n are confirmed, of which the others stay outstanding or are due again
    confirms : (n tried o : ℕ) (c : Course) → o ≤ s.elements.queue.outstanding - n → c.limit ≡ s.elements.course.limit → s.elements.queue.first.0 + n ≤ k → edge ≤ tried → n ≤ s.elements.queue.outstanding
        → Writing last (with_elements (replied_of s) (holding (confirmed_of s.elements n) o c)) d k tried recordings.no_command
        → (0 < s.elements.queue.pending → s.elements.queue.pending - n ≡ 0 → (k ≡ (number_of s.elements.queue n).0) × AtRest d × (is_user last (c.next.0 - 1) ≡ true) × (c.next.0 ≡ d.at)) → Step last s d k edge (holding (confirmed_of s.elements n) o c)
    unfolding confirmed_of
    confirms n tried o c out limit on_tape further few writing all = record {
      n = n;
      tried = tried;
      further = further;
      confirmed = few;
      first_is = exact n few;
      pending_is = refl;
      held = omega arith;
      room = let x = ap (λ (y : Address). y.0) limit in omega arith;
      marks_is = refl;
      eod_is = refl;
      placed = λ _. l.placed;
      on_tape = on_tape;
      based = λ _.
          let taken_is = l.taken_is in
          let next_is = l.next_is in
          let known = l.known in
          let spread = l.spread in
          (omega arith, edge_least);
      trail_is = refl;
      writing = writing;
      all = all;
    }

    pub counted_step : (f : ℕ) → length d.buffer ≤ f → Reached last s d k edge (counted_of s.elements f)
    unfolding counted_of confirmed_of
    counted_step f bound =
        pick_by (Reached last s d k edge) (ltb s.elements.queue.outstanding f) (λ _. unlawful s.elements)
        (λ x.
        let few = ltb-false s.elements.queue.outstanding f x in
        let n = s.elements.queue.outstanding - f in
        let number = exact n (omega arith) in
        let roof = l.roof in
        let taken_is = l.taken_is in
        let next_is = l.next_is in
        let known = l.known in
        let spread = l.spread in
        goes (confirmed_of s.elements n)
        (confirms n edge (s.elements.queue.outstanding - n) s.elements.course (le_refl _) refl (omega arith) (le_refl edge) (omega arith) (elements.at_place refl again (record {
          placed = l.placed;
          taken_is = omega arith;
          next_is = l.next_is;
          known = omega arith;
          roof = l.roof;
          zone = ⊎_elim inl (λ z. inr (omega arith)) l.zone;
          spread = l.spread;
          edge_is = l.edge_is;
        }))
        (λ p z. (omega arith, empty (no_frames d.buffer (omega arith)), ranges_user last (s.elements.course.next.0 - 1) (⊎_elim (λ y. inl (omega arith, omega arith)) (λ y. inr (omega arith, omega arith)) l.zone), omega arith)))
        (λ t. clash t l.placed))

    limit_low : (tail : ℕ) → (limit_of tail s.elements).0 ≤ s.elements.course.limit.0
    limit_low tail = pick_by (λ (a : Address). a.0 ≤ s.elements.course.limit.0) s.elements.eod (λ _. le_refl s.elements.course.limit.0) (λ _. omega arith)

    step_least : (skip : ℕ) → 1 ≤ step_of skip
    step_least skip = pick_by (λ (n : ℕ). 1 ≤ n) (eqb skip 0) (λ _. omega arith) (λ e. let x = eqb-false skip 0 e in omega (arith, x))

    pub failed_step : (tail : ℕ) (p : Address) (skip : ℕ) → p.0 ≡ d.at → d.failed ≡ true → Reached last s d k edge (failed_of tail s.elements p skip)
    unfolding failed_of confirmed_of
    failed_step tail p skip at f =
        pick_by (Reached last s d k edge) (ltb p.0 (base_of s.elements).0) (λ _. unlawful s.elements)
        (λ x. pick_by (Reached last s d k edge) (leb s.elements.course.next.0 p.0) (λ _. unlawful s.elements)
        (λ y.
        let above = ltb-false p.0 (base_of s.elements).0 x in
        let below = leb-false s.elements.course.next.0 p.0 y in
        pick_by (λ (z : place.PlaceSaid). Reached last s d k edge (failed_to s.elements p skip z)) (ltb (target_address p skip) (limit_of tail s.elements).0)
        (λ fits. goes (noted_of s.elements p (as_address (target_address p skip))) (relocated above below (target_address p skip) further (clear (landing (p.0 + step_of skip)))) (λ _. omega (arith, ltb-true (target_address p skip) (limit_of tail s.elements).0 fits, limit_low tail)))
        (λ _. full (full_of s.elements p skip) (relocated above below (target_within p skip).0 within_further within_clear) refl)))
      where
        -- the target lies behind the failed address
        further : p.0 < target_address p skip
        further =
            let least = past_reserved_least (p.0 + step_of skip) in
            let one = step_least skip in
            omega arith

        clear : Landing (p.0 + step_of skip) (target_address p skip) → (target_address p skip ≤ 2990) ⊎ (3000 ≤ target_address p skip)
        clear (before h e) = inl (omega arith)
        clear (across h g e) = inr (omega arith)
        clear (behind h e) = inr (omega arith)

        -- and so does the highest number of 32 bits
        within_further : p.0 < (target_within p skip).0
        within_further =
            let roof = l.roof in
            let next_is = l.next_is in
            let known = l.known in
            pick_by (λ (n : ℕ). p.0 < n) (ltb (target_address p skip) 4294967295) (λ _. further) (λ _. omega arith)

        within_clear : ((target_within p skip).0 ≤ 2990) ⊎ (3000 ≤ (target_within p skip).0)
        within_clear = pick_by (λ (n : ℕ). (n ≤ 2990) ⊎ (3000 ≤ n)) (ltb (target_address p skip) 4294967295) (λ _. clear (landing (p.0 + step_of skip))) (λ _. inr (omega arith))

        relocated : (base_of s.elements).0 ≤ p.0 → p.0 < s.elements.course.next.0 → (target : ℕ) → p.0 < target → (target ≤ 2990) ⊎ (3000 ≤ target) → Step last s d k edge (noted_of s.elements p (as_address target))
        relocated above below target past zone =
            let n = p.0 - (base_of s.elements).0 in
            let taken_is = l.taken_is in
            let next_is = l.next_is in
            let known = l.known in
            let spread = l.spread in
            let roof = l.roof in
            let number = exact n (omega arith) in
            let edge_is : edge ≡ d.at + 1 = l.edge_is ∙ ap (λ (b : Bool). edge_of b d.at) f in
            confirms n target 0 (course.relocated_of s.elements.course (as_address target)) (omega arith) refl (omega arith) (omega arith) (omega arith) (elements.to_locate refl again refl (record {
              none_out = refl;
              first_is = omega arith;
              rests = stopped f;
              low = omega arith;
              zone = zone;
              spread = omega arith;
              edge_is = refl;
            }))
            (λ q z. absurd (omega arith))

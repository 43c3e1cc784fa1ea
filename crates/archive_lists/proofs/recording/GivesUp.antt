-- 02, Card 6: a recording that gives up what is not on tape goes on with EOD. Assumes nothing.
use Prim.Native.Nat.{ℕ, ◌+◌, ◌-◌, ◌%◌, ◌<◌}
use mathlib.Core.Path.{◌≡◌, refl, sym, ap, subst, ◌∙◌}
use mathlib.Core.Bool.{Bool, true, false, ◌&&◌, not, true≢false}
use mathlib.Core.List.{List}
use mathlib.Core.Logic.{⊎_elim}
use native.Mathlib.Omega.{arith}
use borrow.Author.Tests.{eqb-true, ltb-true}
use lib.Dec.{eqb, ltb}
use lib.ListN.{length, take, get_or, length-set}
use lib.Seq.{length-take-le}
use Rattle.geometry.proofs.TestLaws.{and_true}
use Rattle.geometry.proofs.Impossible.{never, clash}
use Rattle.elements.specs.Elements.{dropped_of}
use Rattle.elements.proofs.AcceptLaws.{accepted_new}
use Rattle.recording_state.specs.State.{blocks_of, is_spending, given_up_of}
use Rattle.recording_state.specs.declared.state.State.{State}
use Rattle.recording_state.proofs.Stages.{ElementStage}
use Rattle.recording_state.proofs.Kept.{held_of}
use Rattle.archive_lists.specs.Conduct.{Drive, AtRest, empty, stopped}
use Rattle.archive_lists.specs.Recordings as recordings
use Rattle.archive_lists.specs.Recordings.{World, Element}
use Rattle.archive_lists.proofs.tape.Basics.{no_frames, none_sent, promised_all}
use Rattle.archive_lists.proofs.tape.SeenLaws.{seen_gives}
use Rattle.archive_lists.specs.Filemarks.{Item, item_at}
use Rattle.archive_lists.proofs.tape.Marks.{is_filemark, mark_past}
use Rattle.archive_lists.proofs.tape.Stands.{Queue, StoredAs}
use Rattle.archive_lists.proofs.tape.StandsLaws.{item_past, item_take}
use Rattle.archive_lists.proofs.recording.Trailing.{Prior, Buffered, Trailing}
use Rattle.archive_lists.proofs.recording.TrailingLaws.{traces_alike, written_alike, tape_gives, none_buffered, rests_buffered}
use Rattle.archive_lists.proofs.recording.ElementsLink as elements
use Rattle.archive_lists.proofs.recording.ElementsLink.{Writing}
use Rattle.archive_lists.proofs.recording.KeptAgreement.{relink, remove}
use Rattle.archive_lists.proofs.recording.Invariant as inv
use Rattle.archive_lists.proofs.recording.Invariant.{total_of, Course, gave_up, Live}

-- ---- a refusal that leaves close possible

pub record Spending (s : State) (n : ℕ) : Type 0 where
  pub number : n ≡ 9
  pub tailed : 0 < s.setup.tail
  pub unended : s.elements.eod ≡ false

pub spending_so : (s : State) (n : ℕ) → is_spending s n ≡ true → Spending s n
spending_so s n e =
    let a = and_true (eqb n 9) (ltb 0 s.setup.tail && not s.elements.eod) e in
    let b = and_true (ltb 0 s.setup.tail) (not s.elements.eod) a.1 in
    record { number = eqb-true n 9 a.0; tailed = ltb-true 0 s.setup.tail b.0; unended = not_so s.elements.eod b.1 }
  where
    not_so : (b : Bool) → not b ≡ true → b ≡ false
    not_so true e = absurd (true≢false (sym e))
    not_so false e = refl

-- ---- nothing is outstanding, and no command is under way

pub settled_writing : {last : ℕ} {s : State} {d : Drive} {k edge : ℕ} → s.exchange.again ≡ false → s.elements.queue.outstanding ≡ 0 → Writing last s d k edge recordings.no_command → (s.elements.queue.first.0 ≡ k) × AtRest d
settled_writing {d = d} ag out (elements.at_place a g x) =
    let known = x.known in
    let taken_is = x.taken_is in
    (omega arith, empty (no_frames d.buffer (omega arith)))
settled_writing ag out (elements.to_locate a g q x) = (x.first_is, x.rests)
settled_writing ag out (elements.again a g x) = clash g ag

given_writing : {last : ℕ} {s : State} {d : Drive} {k edge : ℕ} → s.exchange.again ≡ false → s.elements.queue.outstanding ≡ 0 → Writing last s d k edge recordings.no_command → Writing last (given_up_of s) d k edge recordings.no_command
given_writing {s = s} ag out (elements.at_place a g x) = elements.at_place refl refl (relink (held_of s) (held_of (given_up_of s)) refl (sym out) refl x)
given_writing {s = s} ag out (elements.to_locate a g q x) = elements.to_locate refl refl q (remove (held_of s) (held_of (given_up_of s)) refl (sym out) x)
given_writing ag out (elements.again a g x) = clash g ag

module _ {last pass : ℕ} {on_newest none_bears : Type 0} {prior : Prior} (w : World) (l : Live last pass on_newest none_bears prior w) (st : ElementStage w.session) (v : w.session.elements.eod ≡ false) (tailed : 0 < w.session.setup.tail)
    (no_flight : w.flight ≡ recordings.no_command) (ag : w.session.exchange.again ≡ false) (out : w.session.elements.queue.outstanding ≡ 0) where
  agreed : Course last (length l.list) w l.k l.edge → Writing last w.session w.drive l.k l.edge w.flight
  agreed (inv.opening q _ t c) = never (cc)
  agreed (inv.writing q _ a) = a
  agreed (inv.closing q _ c a b g) = never (cc)
  agreed (inv.finished q _ c a b f g h r y) = never (cc)

  agree : Writing last w.session w.drive l.k l.edge recordings.no_command
  agree = subst (Writing last w.session w.drive l.k l.edge) no_flight (agreed l.course)

  first_is : w.session.elements.queue.first.0 ≡ l.k
  first_is = (settled_writing ag out agree).0

  -- till now all that was accepted is promised
  all : l.list ≡ w.notes.accepted
  all = l.promises.is ∙ promised_all w.notes (l.promises.ungiven v)

  size : length w.notes.accepted ≡ l.k + w.session.elements.queue.pending
  size = let n = l.counted.numbered in let t = ap (λ (x : Bool). total_of x (length l.list)) v in omega (arith, ap length all, first_is)

  abbrev kept : List Element
  kept = take l.k w.notes.accepted

  kept_size : length kept ≡ l.k
  kept_size = length-take-le l.k w.notes.accepted (omega (arith, size))

  left : length w.notes.accepted - w.session.elements.queue.pending ≡ l.k
  left = omega (arith, size)

  none_queued : w.drive.failed ≡ false → AtRest w.drive → Queue last pass kept l.k w.drive.buffer
  unfolding Queue
  none_queued free (stopped e) = clash e free
  none_queued free (empty e) = subst (Queue last pass kept l.k) (sym e) tt

  -- what was promised is, as far as it is on tape, what is promised now
  kept_alike : (i : ℕ) → i < l.k → item_at kept i ≡ item_at l.list i
  kept_alike i h = item_take w.notes.accepted l.k i h ∙ ap (λ (ys : List Element). item_at ys i) (sym all)

  -- EOD is no filemark
  end_marked : (i : ℕ) → i < (gave_up w).session.elements.queue.pending → get_or (gave_up w).session.elements.queue.marks ((w.session.elements.queue.first.0 + i) % 64) false ≡ is_filemark kept (w.session.elements.queue.first.0 + i)
  end_marked i h =
      let here : 0 ≡ i = omega arith in
      subst (λ (j : ℕ). get_or (gave_up w).session.elements.queue.marks ((w.session.elements.queue.first.0 + j) % 64) false ≡ is_filemark kept (w.session.elements.queue.first.0 + j)) here
      (accepted_new (dropped_of w.session.elements) false l.counted.marks ∙ sym (mark_past kept (w.session.elements.queue.first.0 + 0) (omega (arith, kept_size, first_is))))

  -- the drive holds nothing, or has stopped and a LOCATE is due
  buffered : Writing last w.session w.drive l.k l.edge recordings.no_command → Buffered last pass prior kept (gave_up w).session.elements w.drive l.k l.edge
  buffered (elements.at_place a g x) =
      let known = x.known in
      let taken_is = x.taken_is in
      none_buffered (gave_up w).session.elements w.drive (omega (arith, first_is)) (no_frames w.drive.buffer (omega arith))
  buffered (elements.to_locate a g q x) = rests_buffered (gave_up w).session.elements w.drive (omega (arith, first_is)) q x.rests
  buffered (elements.again a g x) = clash g ag

  trailing_given : Trailing last pass prior kept w.notes.accepted w.session.stage (gave_up w).session.elements w.drive w.flight l.k l.edge
  trailing_given =
      let y = l.trailing in
      record {
        from = y.from;
        prefix = λ i h. sym (item_take w.notes.accepted l.k i (omega (arith, kept_size)));
        marked = end_marked;
        trail = traces_alike l.list kept l.k kept_alike (omega (arith, first_is)) y.trail;
        written = λ j own h. written_alike l.list kept l.k kept_alike h (y.written j own h);
        behind = λ _ j a low high _. absurd (omega (arith, first_is));
        queue = λ _. buffered agree;
        sent = λ a f _ q. none_sent (sym no_flight ∙ q);
        tape = λ s t. tape_gives kept kept_size (y.tape s t);
      }

  pub gives_up : Live last pass on_newest none_bears prior (gave_up w)
  gives_up = record {
    k = l.k;
    edge = l.edge;
    list = kept;
    floor = (l.floor.0, omega (arith, kept_size, l.floor.0), l.floor.2);
    promises = record {
      is = ap (λ (n : ℕ). take n w.notes.accepted) (sym left);
      ungiven = λ e. absurd (true≢false e);
      aimed = λ none _. absurd (omega (arith, tailed, none));
    };
    going = refl;
    counted = record {
      wide = l.counted.wide;
      held = omega arith;
      windowed = omega arith;
      numbered = omega (arith, kept_size, first_is);
      marks = length-set w.session.elements.queue.marks _ false ∙ l.counted.marks;
      room = l.counted.room;
    };
    carried = l.carried;
    course = inv.writing st (inv.alone refl refl refl) (subst (Writing last (given_up_of w.session) w.drive l.k l.edge) (sym no_flight) (given_writing ag out agree));
    reported = l.reported;
    outgoing = λ _. record { queue = λ _ free. none_queued free (settled_writing ag out agree).1; sent = λ a f _ q. none_sent (sym no_flight ∙ q) };
    eod_place = record { written = λ _ _ q. absurd (omega (arith, kept_size)); named = λ q. ⊎_elim (λ z. never (cc)) (λ z. never (cc)) q };
    copied = l.copied;
    below = l.below;
    clean = l.clean;
    trailing = trailing_given;
    content = λ p u.
        let c = l.content p u in
        record {
          tape = c.tape;
          seen = seen_gives all (omega (arith, size)) c.seen;
          stored = λ i h.
              subst (λ (x : Item). StoredAs x w.window (gave_up w).session.elements.queue.marks (blocks_of w.session) (w.session.elements.queue.first.0 + i)) (sym (item_past kept (w.session.elements.queue.first.0 + i) (omega (arith, kept_size, first_is)))) tt;
        };
  }

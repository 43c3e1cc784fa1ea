-- Close keeps the invariant, and so does EOD's becoming due. Assumes nothing.
use Prim.Native.Nat.{ℕ, ◌+◌, ◌%◌, ◌^◌, ◌<◌}
use mathlib.Core.Path.{◌≡◌, refl, sym, ap, subst, ◌∙◌}
use mathlib.Core.Bool.{Bool, true, false, ◌&&◌, true≢false}
use mathlib.Core.List.{List}
use mathlib.Core.Logic.{⊎_elim}
use native.Mathlib.Omega.{arith}
use lib.ListN.{length, get_or, length-set}
use Rattle.drive.specs.Listed.{Listed}
use Rattle.drive.specs.Senses.{meaning_of}
use Rattle.elements.specs.Elements as elements
use Rattle.elements.proofs.AcceptLaws.{accepted_new}
use Rattle.recording_state.specs.Accept.{is_spent, close_of}
use Rattle.recording_state.specs.State.{closed_of, OutcomeSaid, accepting, blocks_of, eod_due, closing_started, settled_of}
use Rattle.recording_state.proofs.Ended.{ended_close, spent_close}
use Rattle.geometry.proofs.PickLaws.{pick_t, pick_f}
use Rattle.recording_state.specs.declared.state.State.{State}
use Rattle.recording_state.specs.declared.state.Stage.TheVariants as S
use Rattle.recording_state.proofs.Stages.{ElementStage}
use Rattle.archive_lists.specs.Recordings.{World, TakesEffect, with_session, after_close}
use Rattle.archive_lists.proofs.tape.Basics.{no_effect, no_frames}
use Rattle.archive_lists.proofs.tape.Stands.{Queue, StoredAs}
use Rattle.archive_lists.specs.Filemarks.{Item, item_at}
use Rattle.archive_lists.proofs.tape.Marks.{is_filemark, mark_past}
use Rattle.archive_lists.proofs.tape.StandsLaws.{item_past}
use Rattle.archive_lists.proofs.recording.Trailing.{Prior}
use Rattle.archive_lists.proofs.recording.TrailingLaws.{buffered_as}
use Rattle.archive_lists.proofs.recording.ElementsLink.{Writing}
use Rattle.archive_lists.proofs.recording.KeptAgreement.{agree_as, writing_as, Numbers, writing_numbers, sent_due}
use Rattle.archive_lists.proofs.recording.Accepts.{close_view, settled_cases}
use Rattle.archive_lists.proofs.recording.Invariant as inv
use Rattle.archive_lists.proofs.recording.Invariant.{total_of, Course, Outgoing, Live, Rejecting, Inv, live, rejecting, spent, over}
use Rattle.geometry.proofs.Impossible.{never, clash}

-- ---- EOD becomes due

module _ {last pass : ℕ} {on_newest none_bears : Type 0} {prior : Prior} (w : World) (l : Live last pass on_newest none_bears prior w) (st : w.session.stage ≡ S.Elements) (v : w.session.elements.eod ≡ false) (closed : w.session.closed ≡ true) (none : w.session.elements.queue.pending ≡ 0) where
  one : (w.session.elements.queue.pending + 1) % 2 ^ 16 ≡ 1
  one = ap (λ (n : ℕ). (n + 1) % 2 ^ 16) none

  count : w.session.elements.queue.first.0 ≡ length l.list
  count = let n = l.counted.numbered in let t = ap (λ (x : Bool). total_of x (length l.list)) v in omega arith

  eod_course : Course last (length l.list) w l.k l.edge → Course last (length l.list) (with_session w (eod_due w.session)) l.k l.edge
  eod_course (inv.opening q _ t c) = never (cc)
  eod_course (inv.writing q _ a) = inv.writing q (inv.alone refl closed one) (writing_as last w.session (eod_due w.session) w.drive l.k l.edge refl (omega (arith, one, none)) a)
  eod_course (inv.closing q _ c a b g) = never (cc)
  eod_course (inv.finished q _ c a b f g h r y) = never (cc)

  eod_stored : (window : List ℕ) (marks : List Bool) (i : ℕ) → i < (w.session.elements.queue.pending + 1) % 2 ^ 16 → StoredAs (item_at l.list (w.session.elements.queue.first.0 + i)) window marks (blocks_of w.session) (w.session.elements.queue.first.0 + i)
  eod_stored window marks i h =
      subst (λ (x : Item). StoredAs x window marks (blocks_of w.session) (w.session.elements.queue.first.0 + i)) (sym (item_past l.list (w.session.elements.queue.first.0 + i) (omega (arith, count)))) tt

  agreed : Course last (length l.list) w l.k l.edge → Writing last w.session w.drive l.k l.edge w.flight
  agreed (inv.opening q _ t c) = never (cc)
  agreed (inv.writing q _ a) = a
  agreed (inv.closing q _ c a b g) = never (cc)
  agreed (inv.finished q _ c a b f g h r y) = never (cc)

  numbers : Numbers last w.session.elements.queue.first.0 w.session.elements.queue.outstanding w.session.elements.queue.pending l.k w.drive
  numbers = writing_numbers l.counted.held (agreed l.course)

  -- nothing is with the drive, or on the way to it
  none_outgoing : Outgoing last pass l.list (with_session w (eod_due w.session)) l.k
  unfolding Queue
  none_outgoing = record {
    queue = λ _ free. subst (Queue last pass l.list l.k) (sym (no_frames w.drive.buffer (omega (arith, numbers.fits free, numbers.least, none)))) tt;
    sent = λ a f _ q. absurd (omega (arith, sent_due (subst (Writing last w.session w.drive l.k l.edge) q (agreed l.course)), none));
  }

  -- EOD is no filemark
  eod_marked : (i : ℕ) → i < (w.session.elements.queue.pending + 1) % 2 ^ 16 → get_or (elements.accepted_of w.session.elements false).queue.marks ((w.session.elements.queue.first.0 + i) % 64) false ≡ is_filemark l.list (w.session.elements.queue.first.0 + i)
  eod_marked i h =
      let here : w.session.elements.queue.pending ≡ i = omega (arith, one, none) in
      subst (λ (j : ℕ). get_or (elements.accepted_of w.session.elements false).queue.marks ((w.session.elements.queue.first.0 + j) % 64) false ≡ is_filemark l.list (w.session.elements.queue.first.0 + j)) here
      (accepted_new w.session.elements false l.counted.marks ∙ sym (mark_past l.list (w.session.elements.queue.first.0 + w.session.elements.queue.pending) (omega (arith, count))))

  pub eod_live : Live last pass on_newest none_bears prior (with_session w (eod_due w.session))
  eod_live =
      let c = l.counted in
      let held = c.held in
      record {
        k = l.k;
        edge = l.edge;
        list = l.list;
        floor = l.floor;
        promises = record { is = l.promises.is; ungiven = λ e. absurd (true≢false e); aimed = l.promises.aimed };
        going = l.going;
        counted = record {
          wide = c.wide;
          held = omega (arith, one, none);
          windowed = omega (arith, one);
          numbered = omega (arith, one, count);
          marks = length-set w.session.elements.queue.marks _ false ∙ c.marks;
          room = c.room;
        };
        carried = l.carried;
        course = eod_course l.course;
        reported = l.reported;
        outgoing = λ _. none_outgoing;
        eod_place = record { written = λ _ _ k. absurd (omega (arith, numbers.most, none, count)); named = λ q. ⊎_elim (λ z. never (cc)) (λ z. never (cc)) q };
        copied = l.copied;
        below = l.below;
        clean = l.clean;
        content = λ p u.
            let x = l.content p u in
            record {
              tape = x.tape;
              seen = x.seen;
              stored = λ i h. eod_stored w.window (elements.accepted_of w.session.elements false).queue.marks i h;
            };
        trailing = let x = l.trailing in record { from = x.from; prefix = x.prefix; marked = eod_marked; trail = x.trail; written = x.written; behind = x.behind; queue = λ s. buffered_as w.session.elements (eod_due w.session).elements (omega (arith, one, none)) (λ _ z. z) (x.queue s); sent = x.sent; tape = x.tape };
      }

-- ---- close was called

module _ {last pass : ℕ} {on_newest none_bears : Type 0} {prior : Prior} (w : World) (l : Live last pass on_newest none_bears prior w) (unclosed : w.session.closed ≡ false) where
  closed_course : Course last (length l.list) w l.k l.edge → Course last (length l.list) (with_session w (closed_of w.session)) l.k l.edge
  closed_course (inv.opening q v t c) =
      inv.opening q v t (agree_as w.session (closed_of w.session) w.drive refl refl c)
  closed_course (inv.writing q (inv.not_yet v) a) = inv.writing q (inv.not_yet v) (writing_as last w.session (closed_of w.session) w.drive l.k l.edge refl (omega arith) a)
  closed_course (inv.writing q (inv.alone v c p) a) = clash c unclosed
  closed_course (inv.closing q v c a b g) = clash c unclosed
  closed_course (inv.finished q v c a b f g h r y) = clash c unclosed

  closed_live : Live last pass on_newest none_bears prior (with_session w (closed_of w.session))
  closed_live =
      let c = l.counted in
      record {
        k = l.k;
        edge = l.edge;
        list = l.list;
        floor = l.floor;
        promises = record { is = l.promises.is; ungiven = l.promises.ungiven; aimed = l.promises.aimed };
        going = l.going;
        counted = record { wide = c.wide; held = c.held; windowed = c.windowed; numbered = c.numbered; marks = c.marks; room = c.room };
        carried = l.carried;
        course = closed_course l.course;
        reported = l.reported;
        outgoing = λ n. let f = l.outgoing n in record { queue = f.queue; sent = f.sent };
        eod_place = record { written = l.eod_place.written; named = l.eod_place.named };
        copied = l.copied;
        below = l.below;
        clean = l.clean;
        content = λ p u. let x = l.content p u in record { tape = x.tape; seen = x.seen; stored = x.stored };
        trailing = l.trailing;
      }

  not_eod : {X : Type 0} → w.session.elements.eod ≡ true → Course last (length l.list) w l.k l.edge → X
  not_eod e (inv.opening q v t c) = clash e v
  not_eod e (inv.writing q (inv.not_yet v) a) = clash e v
  not_eod e (inv.writing q (inv.alone v c p) a) = clash c unclosed
  not_eod e (inv.closing q v c a b g) = clash c unclosed
  not_eod e (inv.finished q v c a b f g h r y) = clash c unclosed

rejecting_close : {last : ℕ} (w : World) (s : State) → Rejecting last w → s.ended ≡ w.session.ended → s.exchange.awaiting ≡ w.session.exchange.awaiting → s.exchange.command ≡ w.session.exchange.command → (ElementStage s → ElementStage w.session) → Rejecting last (with_session w s)
rejecting_close w s d ended awaiting command stage = record {
  reply = d.reply;
  going = ended ∙ d.going;
  awaits = awaiting ∙ d.awaits;
  replied = d.replied;
  unlisted = λ y. d.unlisted (subst (λ c. Listed c (meaning_of d.reply.key d.reply.asc d.reply.ascq)) command y);
  off_headers = λ el a e. d.off_headers (stage el) a (sym command ∙ e);
  safe = d.safe;
  unreported = d.unreported;
}

going_unspent : (s : State) → s.ended ≡ false → is_spent s ≡ false
going_unspent s e = ap (λ (b : Bool). b && s.spent) e

-- the world after a close
abbrev closed_world : World → State → ℕ → World
closed_world w s given = record {
  session = s;
  window = w.window;
  drive = w.drive;
  flight = w.flight;
  notes = record { accepted = w.notes.accepted; unaltered = w.notes.unaltered; reported = w.notes.reported; given_up = given };
}

module _ {last pass : ℕ} {on_newest none_bears : Type 0} {prior : Prior} (w : World) where
  -- of a session that is not spent
  closes_by : is_spent w.session ≡ false → (close_of w.session ≡ accepting (settled_of (closed_of w.session))) → Inv last pass on_newest none_bears prior (with_session w (settled_of (closed_of w.session))) → Inv last pass on_newest none_bears prior (after_close w)
  closes_by unspent is i =
      subst (λ (n : ℕ). Inv last pass on_newest none_bears prior (closed_world w (close_of w.session).session n)) (sym (pick_f _ unspent))
      (subst (λ (r : OutcomeSaid). Inv last pass on_newest none_bears prior (closed_world w r.session w.notes.given_up)) (sym is) i)

  pub keeps_close : Inv last pass on_newest none_bears prior w → TakesEffect (close_of w.session).number → Inv last pass on_newest none_bears prior (after_close w)
  keeps_close (live wr l) te =
      let u = going_unspent w.session l.going in
      let v = close_view w.session u te in
      closes_by u v.0
      (settled_cases (closed_of w.session) (λ (s : State). Inv last pass on_newest none_bears prior (with_session w s)) (λ _. live wr (closed_live w l v.2))
      (λ q e c none. live wr (eod_live (with_session w (closed_of w.session)) (closed_live w l v.2) q e c none))
      (λ q e none. not_eod w l v.2 e l.course))
  keeps_close (rejecting wr d) te =
      let u = going_unspent w.session d.going in
      let v = close_view w.session u te in
      closes_by u v.0
      (settled_cases (closed_of w.session) (λ (s : State). Inv last pass on_newest none_bears prior (with_session w s)) (λ _. rejecting wr (rejecting_close w (closed_of w.session) d refl refl refl (λ h. h)))
      (λ q e c none. rejecting wr (rejecting_close w (eod_due (closed_of w.session)) d refl refl refl (λ h. h)))
      (λ q e none. rejecting wr (rejecting_close w (closing_started (closed_of w.session)) d refl refl refl (λ _. q))))
  -- a spent one goes on with EOD
  keeps_close (spent wr x) te =
      let both : is_spent w.session ≡ true = ap (λ (b : Bool). b && w.session.spent) x.ended ∙ x.left_spent in
      subst (λ (n : ℕ). Inv last pass on_newest none_bears prior (closed_world w (close_of w.session).session n)) (sym (pick_t _ both))
      (subst (λ (r : OutcomeSaid). Inv last pass on_newest none_bears prior (closed_world w r.session w.session.elements.queue.pending)) (sym (spent_close w.session x.ended x.left_spent)) (live wr x.revives))
  keeps_close (over wr o) te = no_effect (omega arith) (omega arith) (subst (λ (r : OutcomeSaid). TakesEffect r.number) (ended_close w.session o.ended o.final) te)

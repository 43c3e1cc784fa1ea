-- A reply among the elements keeps the invariant. Assumes nothing.
use Prim.Native.Nat.{ℕ, ◌+◌, ◌-◌, ◌%◌, ◌^◌, ◌≤◌, ◌<◌}
use mathlib.Core.Path.{◌≡◌, refl, sym, ap, subst, ◌∙◌}
use mathlib.Core.Bool.{Bool, true, false, true≢false}
use mathlib.Core.List.{List}
use mathlib.Core.Logic.{◌⊎◌, inl, inr, ⊎_elim}
use native.Mathlib.Decide.{dec_le}
use native.Mathlib.Nat.{mod-eq_of_lt}
use native.Mathlib.Omega.{arith}
use lib.Dec.{eqb}
use lib.ListN.{length}
use Rattle.geometry.specs.Cartridge.{is_user}
use Rattle.geometry.proofs.TestLaws.{either_right}
use Rattle.geometry.proofs.Impossible.{never, clash}
use Rattle.geometry.proofs.UserFrames.{user_ranges}
use Rattle.drive.specs.Command.{command_address}
use Rattle.drive.specs.Cases.{locate_good, locate_busy, write_good, write_busy, write_failed, write_overflow, position_good, position_busy, position_failed}
use Rattle.drive.specs.Listed.{Means}
use Rattle.archive_lists.specs.Conduct.{AtRest, Within}
use Rattle.drive.specs.Senses.{busy}
use Rattle.archive_lists.specs.Tape.{Tape}
use Rattle.drive.specs.declared.command.Command.{Command}
use Rattle.drive.specs.declared.reply.Reply.{Reply}
use Rattle.copies.proofs.Counts.{start_counts}
use Rattle.copies.proofs.Placed.{start_placed}
use Rattle.elements.specs.Reply as reply
use Rattle.elements.specs.declared.elements.Elements.{Elements}
use Rattle.recording_state.specs.State.{OutcomeSaid, blocks_of, accepting, is_spending, with_elements, closing_header, closing_started, settled_of}
use Rattle.recording_state.specs.Reply.{case_of, replied_of, repeated_of, element_reply_by, reply_by, reply_of}
use Rattle.recording_state.specs.declared.state.State.{State}
use Rattle.recording_state.specs.declared.state.Stage.TheVariants as S
use Rattle.recording_state.proofs.Stages.{HeaderStage, ElementStage, element_not_done}
use Rattle.recording_state.proofs.Kept.{held_of}
use Rattle.recording_state.proofs.ReplyView.{by_elements, reply_so}
use Rattle.archive_lists.specs.Recordings as recordings
use Rattle.archive_lists.specs.Recordings.{World, Element}
use Rattle.archive_lists.specs.Filemarks.{item_at}
use Rattle.archive_lists.proofs.tape.Basics.{none_sent}
use Rattle.archive_lists.proofs.tape.Seen.{Has, Seen, Clean}
use Rattle.archive_lists.proofs.tape.FoldLaws.{fold_none}
use Rattle.archive_lists.proofs.tape.SeenLaws.{seen_as, seen_moves, clean_moves}
use Rattle.archive_lists.proofs.tape.Stands.{unending, StoredAs}
use Rattle.archive_lists.proofs.tape.Closed.{from_named, user_some, user_within}
use Rattle.archive_lists.proofs.recording.Trailing.{Prior, Trailing}
use Rattle.archive_lists.proofs.recording.TrailingMoves.{trailing_idle, trailing_closed, trailing_stepped}
use Rattle.archive_lists.proofs.recording.KeptAgreement.{writing_numbers, reask}
use Rattle.archive_lists.proofs.recording.HeaderCopies.{Below}
use Rattle.archive_lists.proofs.recording.Completion.{copy_update}
use Rattle.archive_lists.proofs.recording.CopiesLink as copies
use Rattle.archive_lists.proofs.recording.CopiesMoves.{rests_safe}
use Rattle.archive_lists.proofs.recording.ElementsLink as elements
use Rattle.archive_lists.proofs.recording.ElementsLink.{Asks, Answered, Writing}
use Rattle.archive_lists.proofs.recording.ElementsMoves.{link_safe}
use Rattle.archive_lists.proofs.recording.ElementSteps as steps
use Rattle.archive_lists.proofs.recording.ElementSteps.{Step, Reached, taken_step, filled_step, moved_step, counted_step, failed_step}
use Rattle.archive_lists.proofs.recording.GivesUp.{spending_so, settled_writing, gives_up}
use Rattle.archive_lists.proofs.recording.InvariantLaws.{unreported}
use Rattle.archive_lists.proofs.recording.Accepts.{settled_cases}
use Rattle.archive_lists.proofs.recording.Closes.{eod_live}
use Rattle.archive_lists.proofs.recording.HeaderReplies.{case_is, asked_so, replied_world, ends_so}
use Rattle.archive_lists.proofs.recording.Invariant as inv
use Rattle.archive_lists.proofs.recording.Invariant.{total_of, spare_of, Counted, EodDue, Course, Content, Live, Safe, Inv, live, spent}
use Rattle.archive_lists.proofs.recording.Setting.{Setting, EodAt}

-- nothing of the user's is above LAST
above_last : {last a : ℕ} → 3000 ≤ last → last + 1 ≤ a → is_user last a ≡ true → ⊥
above_last {last} {a} large b u = ⊎_elim (λ x. let y = x.1 in omega arith) (λ x. let y = x.1 in omega arith) (user_ranges last a u)

clean_top : {last pass : ℕ} {t : Tape} → 3000 ≤ last → Clean last pass (last + 1) t
clean_top large = record { old = 0; old_low = omega arith; none = λ a f _ b u _ _. above_last large b u }

pub seen_top : {last pass k edge : ℕ} {ps xs : List Element} {t : Tape} → 3000 ≤ last → last + 1 ≤ edge → Seen last pass ps xs k edge t → Seen last pass ps xs k (last + 1) t
seen_top {last} {pass} {edge = edge} {xs = xs} {t} large l h =
    seen_as h (subst (Has xs h.m) (fold_none (unending last pass) t (last + 1) edge l (λ c f b _ u _. above_last large b u)) h.seen)
    (λ a f b u _ _ _. absurd (above_last large b u))

module _ {last pass : ℕ} {on_newest none_bears : Type 0} {prior : Prior} (w : World) (r : Reply) (set : Setting last pass) (wr : Within last w.drive.written) (l : Live last pass on_newest none_bears prior w) (st : ElementStage w.session) where
  abbrev After : OutcomeSaid → Type 0
  After x = Inv last pass on_newest none_bears prior (replied_world w x.session)

  -- ---- before the stage is looked at

  module _ (e : Elements) (s : Step last w.session w.drive l.k l.edge e) (aims : w.session.setup.tail ≡ 0 → e.course.locate ≡ true → e.course.target.0 < e.course.limit.0) where
    abbrev stepped : State
    stepped = with_elements (replied_of w.session) e

    total_so : total_of e.eod (length l.list) ≡ total_of w.session.elements.eod (length l.list)
    total_so = ap (λ (x : Bool). total_of x (length l.list)) s.eod_is

    counted_so : Counted last (length l.list) stepped
    counted_so =
        let c = l.counted in
        let held = c.held in
        let windowed = c.windowed in
        let numbered = c.numbered in
        let n_low = s.confirmed in
        let pending_is = s.pending_is in
        let first_is = s.first_is in
        record { wide = c.wide; held = s.held; windowed = omega arith; numbered = omega (arith, total_so); marks = ap (λ (x : List Bool). length x) s.marks_is ∙ c.marks; room = s.room }

    stored_so : Content last pass l.list w l.k l.edge → (i : ℕ) → i < e.queue.pending → StoredAs (item_at l.list (e.queue.first.0 + i)) w.window e.queue.marks (blocks_of w.session) (e.queue.first.0 + i)
    stored_so c i h =
        let pending_is = s.pending_is in
        let first_is = s.first_is in
        let at : w.session.elements.queue.first.0 + (s.n + i) ≡ e.queue.first.0 + i = omega arith in
        subst (λ (m : List Bool). StoredAs (item_at l.list (e.queue.first.0 + i)) w.window m (blocks_of w.session) (e.queue.first.0 + i)) (sym s.marks_is)
        (subst (λ (j : ℕ). StoredAs (item_at l.list j) w.window w.session.elements.queue.marks (blocks_of w.session) j) at (c.stored (s.n + i) (omega arith)))

    content_so : none_bears → w.notes.unaltered ≡ true → Content last pass l.list (replied_world w stepped) l.k s.tried
    content_so p u =
        let c = l.content p u in
        record {
          tape = c.tape;
          seen = seen_moves s.tried s.further c.seen;
          stored = stored_so c;
        }

    first_small : w.session.elements.queue.first.0 + w.session.elements.queue.pending < 2 ^ 32
    first_small = numbered_small l.course
      where
        numbered_small : Course last (length l.list) w l.k l.edge → w.session.elements.queue.first.0 + w.session.elements.queue.pending < 2 ^ 32
        numbered_small (inv.opening q _ _ _) = never (cc)
        numbered_small (inv.writing _ _ a) = omega (arith, (writing_numbers l.counted.held a).low, l.counted.windowed, l.counted.wide, set.small)
        numbered_small (inv.closing q _ _ _ _ _) = never (cc)
        numbered_small (inv.finished q _ _ _ _ _ _ _ _ _) = never (cc)

    trailing_so : Trailing last pass prior l.list w.notes.accepted w.session.stage e w.drive recordings.no_command l.k s.tried
    trailing_so = trailing_stepped e s set.large set.small st l.counted.held first_small l.trailing

    stepped_live : Course last (length l.list) (replied_world w stepped) l.k s.tried → Live last pass on_newest none_bears prior (replied_world w stepped)
    stepped_live course = record {
      k = l.k;
      edge = s.tried;
      list = l.list;
      floor = (l.floor.0, l.floor.1, omega (arith, l.floor.2, s.further));
      promises = record { is = l.promises.is; ungiven = λ e0. l.promises.ungiven (sym s.eod_is ∙ e0); aimed = aims };
      going = l.going;
      counted = counted_so;
      carried = l.carried;
      course = course;
      reported = l.reported;
      outgoing = λ n. record { queue = (l.outgoing (⊎_elim inl (λ b. inr (sym s.eod_is ∙ b)) n)).queue; sent = λ _ _ _ z. none_sent z };
      eod_place = record { written = λ q b n. l.eod_place.written q (sym s.eod_is ∙ b) n; named = λ q. ⊎_elim (λ z. never (cc)) (λ z. never (cc)) q };
      copied = l.copied;
      below = l.below;
      clean = λ p. clean_moves s.tried s.further (l.clean p);
      content = content_so;
      trailing = trailing_so;
    }

    -- ---- EOD is on tape

    module _ (v : w.session.elements.eod ≡ true) (closed : w.session.closed ≡ true) (some : 0 < w.session.elements.queue.pending) (none : e.queue.pending ≡ 0) where
      on_tape : (l.k ≡ e.queue.first.0) × AtRest w.drive × (is_user last (e.course.next.0 - 1) ≡ true) × (e.course.next.0 ≡ w.drive.at)
      on_tape = s.all some none

      total : total_of w.session.elements.eod (length l.list) ≡ length l.list + 1
      total = ap (λ (x : Bool). total_of x (length l.list)) v

      all_on : l.k ≡ length l.list + 1
      all_on = let n = counted_so.numbered in let k = on_tape.0 in omega (arith, total_so, total)

      count_up : (w.session.copies.header.update + 1) % 2 ^ 32 ≡ w.session.copies.header.update + 1
      count_up = mod-eq_of_lt (let c = l.carried.count_fits in omega (arith, ap spare_of st))

      below_so : Below last w.session.copies.header w.drive.tape → Below last (closing_header stepped) w.drive.tape
      below_so b a f at =
          ⊎_elim (λ x. inl (omega (arith, count_up))) (λ x. inl (omega (arith, count_up, copy_update set w.session.copies.header l.carried x))) (b a f at)

      seen_all : Content last pass l.list w l.k l.edge → Seen last pass l.list w.notes.accepted l.k (last + 1) w.drive.tape
      seen_all c = go (dec_le s.tried (last + 1))
        where
          here : Seen last pass l.list w.notes.accepted l.k s.tried w.drive.tape
          here = seen_moves s.tried s.further c.seen

          go : Dec (s.tried ≤ last + 1) → Seen last pass l.list w.notes.accepted l.k (last + 1) w.drive.tape
          go (yes h) = seen_moves (last + 1) h here
          go (no h) = seen_top set.large (omega arith) here

      -- EOD is not below the start
      end_late : prior.start ≤ e.course.next.0 - 1
      end_late = subst (λ (a : ℕ). prior.start ≤ a - 1) (sym on_tape.3) (l.eod_place.written st v all_on).1

      end_low : e.course.next.0 - 1 ≤ last
      end_low = user_within last (e.course.next.0 - 1) set.large on_tape.2

      closing_live : w.session.exchange.again ≡ false → Live last pass on_newest none_bears prior (replied_world w (closing_started stepped))
      closing_live again =
          let c = counted_so in
          record {
            k = l.k;
            edge = last + 1;
            list = l.list;
            floor = (l.floor.0, l.floor.1, omega (arith, end_late, end_low));
            promises = record { is = l.promises.is; ungiven = λ e0. l.promises.ungiven (sym s.eod_is ∙ e0); aimed = aims };
            going = l.going;
            counted = record { wide = c.wide; held = c.held; windowed = c.windowed; numbered = c.numbered; marks = c.marks; room = c.room };
            carried = record {
              last_is = l.carried.last_is;
              pass_is = l.carried.pass_is;
              eod_fits = either_right (eqb (e.course.next.0 - 1) 0) (is_user last (e.course.next.0 - 1)) on_tape.2;
              old_low = omega arith;
              count_fits = let h = l.carried.count_fits in omega (arith, count_up, ap spare_of st);
              late = inr (subst (λ (n : ℕ). prior.start ≤ n) (sym (from_named (closing_header stepped) (user_some last (e.course.next.0 - 1) on_tape.2))) end_late);
              newer = omega (arith, l.carried.newer, count_up);
              counts = omega (arith, l.carried.counts, count_up, ap spare_of st);
              unnamed = λ spare. absurd (omega arith);
            };
            course = inv.closing refl (s.eod_is ∙ v) closed all_on refl (record {
              counts = start_counts (closing_header stepped);
              placed = start_placed (closing_header stepped);
              copying = copies.to_seek refl again (record { due = refl; rests = on_tape.1; kept = inl refl });
            });
            reported = λ x. never (let z = l.reported x in cc);
            outgoing = λ _. record { queue = λ el _. never (cc); sent = λ _ _ _ z. none_sent z };
            eod_place = record {
              written = λ el _ _. never (cc);
              named = λ _. subst (λ (a : ℕ). EodAt last pass none_bears (length l.list) w.drive.tape (a - 1)) (sym on_tape.3) (l.eod_place.written st v all_on).0;
            };
            copied = λ el. never (cc);
            below = λ p. below_so (l.below p);
            clean = λ _. clean_top set.large;
            content = λ p u.
                let x = l.content p u in
                record {
                  tape = x.tape;
                  seen = seen_all x;
                  stored = λ i h. absurd (omega arith);
                };
            trailing = trailing_closed set.large trailing_so;
          }

  -- ---- by stage

  settles : w.session.exchange.again ≡ false → EodDue w.session.elements w.session.closed → (e : Elements) → Step last w.session w.drive l.k l.edge e → (w.session.setup.tail ≡ 0 → e.course.locate ≡ true → e.course.target.0 < e.course.limit.0) → Inv last pass on_newest none_bears prior (replied_world w (settled_of (with_elements (replied_of w.session) e)))
  settles again (inv.not_yet v) e s aims =
      let x = stepped_live e s aims (inv.writing st (inv.not_yet (s.eod_is ∙ v)) s.writing) in
      settled_cases (with_elements (replied_of w.session) e) (λ (u : State). Inv last pass on_newest none_bears prior (replied_world w u)) (λ _. live wr x)
      (λ a b c z. live wr (eod_live (replied_world w (with_elements (replied_of w.session) e)) x a b c z)) (λ _ b _. clash b (s.eod_is ∙ v))
  settles again (inv.alone v c one) e s aims =
      settled_cases (with_elements (replied_of w.session) e) (λ (u : State). Inv last pass on_newest none_bears prior (replied_world w u)) (λ why. live wr (stepped_live e s aims (inv.writing st (inv.alone (s.eod_is ∙ v) c (still why)) s.writing)))
      (λ _ b _ _. clash (s.eod_is ∙ v) b) (λ _ _ none. live wr (closing_live e s aims v c (omega arith) none again))
    where
      still : (0 < e.queue.pending) ⊎ (HeaderStage (with_elements (replied_of w.session) e) ⊎ (w.session.stage ≡ S.Done)) ⊎ ((e.eod ≡ false) × (w.session.closed ≡ false)) → e.queue.pending ≡ 1
      still (inl h) = let p = s.pending_is in omega arith
      still (inr (inl (inl (inl h)))) = never (cc)
      still (inr (inl (inl (inr h)))) = never (cc)
      still (inr (inl (inr h))) = never (cc)
      still (inr (inr h)) = clash (s.eod_is ∙ v) h.0

  -- ---- by what the drive gave

  module _ (again : w.session.exchange.again ≡ false) (asked : w.session.exchange.awaiting ≡ true) (which : EodDue w.session.elements w.session.closed) where
    reached_so : {x : reply.SteppedSaid} → Reached last w.session w.drive l.k l.edge x → Safe last w.drive → After (element_reply_by x w.session)
    reached_so (steps.goes e s aims) safe = settles again which e s (λ _. aims)
    reached_so (steps.unlawful e) safe = ends_so w r set wr l (with_elements w.session e) 8 refl (element_not_done w.session st) safe
    reached_so (steps.full e s out) safe = stops (is_spending (with_elements w.session e) 9) refl
      where
        stops : (b : Bool) → is_spending (with_elements w.session e) 9 ≡ b → After (element_reply_by (reply.ending e 9) w.session)
        stops true spends =
            let why = spending_so (with_elements w.session e) 9 spends in
            spent wr (record {
              ended = refl;
              left_spent = spends;
              none = refl;
              rests = (settled_writing again out s.writing).1;
              unreported = unreported l (element_not_done w.session st);
              revives = gives_up (replied_world w (with_elements (replied_of w.session) e)) (stepped_live e s (λ none _. absurd (omega (arith, none, why.tailed))) (inv.writing st (inv.not_yet why.unended) s.writing)) st why.unended why.tailed refl again out;
            })
        stops false final = ends_so w r set wr l (with_elements w.session e) 9 final (element_not_done w.session st) safe

    by : {x : reply.SteppedSaid} (n : ℕ) → case_of w.session r ≡ n → reply_by w.session n r ≡ element_reply_by x w.session → Reached last w.session w.drive l.k l.edge x → Safe last w.drive → After (reply_of w.session r)
    by n e a x safe = subst After (sym (reply_so w.session r (asked_so w.session r l.going asked) e ∙ a)) (reached_so x safe)

    low : w.session.elements.queue.pending ≤ 64
    low = let a = l.counted.windowed in let b = l.counted.wide in omega arith

    repeated : {c : Command} (n : ℕ) → w.session.exchange.command ≡ c → case_of w.session r ≡ n → reply_by w.session n r ≡ accepting (repeated_of w.session) → Asks last (held_of w.session) w.session.elements.queue.pending w.drive l.k l.edge c → After (reply_of w.session r)
    repeated n e z b y =
        subst After (sym (reply_so w.session r (asked_so w.session r l.going asked) z ∙ b))
        (live wr (record {
          k = l.k;
          edge = l.edge;
          list = l.list;
          floor = l.floor;
          promises = record { is = l.promises.is; ungiven = l.promises.ungiven; aimed = l.promises.aimed };
          going = l.going;
          counted = let c = l.counted in record { wide = c.wide; held = c.held; windowed = c.windowed; numbered = c.numbered; marks = c.marks; room = c.room };
          carried = l.carried;
          course = inv.writing st which (elements.again refl refl asks);
          reported = l.reported;
          outgoing = λ n. record { queue = (l.outgoing n).queue; sent = λ _ _ _ z. none_sent z };
          eod_place = record { written = l.eod_place.written; named = l.eod_place.named };
          copied = l.copied;
          below = l.below;
          clean = l.clean;
          content = λ p u. let c = l.content p u in record { tape = c.tape; seen = c.seen; stored = c.stored };
          trailing = trailing_idle l.trailing;
        }))
      where
        asks : Asks last (held_of (repeated_of w.session)) w.session.elements.queue.pending w.drive l.k l.edge w.session.exchange.command
        asks = reask (held_of w.session) (held_of (repeated_of w.session)) refl refl refl (subst (λ (i : Command). Asks last (held_of w.session) w.session.elements.queue.pending w.drive l.k l.edge i) (sym e) y)

    busy_by : {c : Command} → Means r busy → w.session.exchange.command ≡ c → Asks last (held_of w.session) w.session.elements.queue.pending w.drive l.k l.edge c → After (reply_of w.session r)
    unfolding reply_by
    busy_by m e (elements.writes a p d o lo y) = repeated write_busy e (case_is w.session r l.going asked e m) refl (elements.writes a p d o lo y)
    busy_by m e (elements.asks y) = repeated position_busy e (case_is w.session r l.going asked e m) refl (elements.asks y)
    busy_by m e (elements.moves a roof y) = repeated locate_busy e (case_is w.session r l.going asked e m) refl (elements.moves a roof y)

    small : last + 65 < 2 ^ 32
    small = set.small

    element_replies : (c : Command) → w.session.exchange.command ≡ c → Answered last (held_of w.session) w.session.elements.queue.pending w.drive l.k l.edge r c → After (reply_of w.session r)
    unfolding reply_by
    element_replies c e (elements.taken a m due x) =
        by write_good (case_is w.session r l.going asked e m) (by_elements w.session _ st) (steps.goes _ (taken_step last w.session w.drive l.k l.edge small again l.counted.held low l.counted.room due x) (λ t. clash t x.placed)) (link_safe x)
    element_replies c e (elements.counted m b x) =
        by position_good (case_is w.session r l.going asked e m) (by_elements w.session _ st) (counted_step last w.session w.drive l.k l.edge small again l.counted.held low l.counted.room x r.buffered b) (link_safe x)
    element_replies c e (elements.failed_write a m f p x) =
        by write_failed (case_is w.session r l.going asked e m) (by_elements w.session _ st) (failed_step last w.session w.drive l.k l.edge small again l.counted.held low l.counted.room x w.session.setup.tail r.position r.skip p f) (link_safe x)
    element_replies c e (elements.failed_position m f p x) =
        by position_failed (case_is w.session r l.going asked e m) (by_elements w.session _ st) (failed_step last w.session w.drive l.k l.edge small again l.counted.held low l.counted.room x w.session.setup.tail r.position r.skip p f) (link_safe x)
    element_replies c e (elements.filled a m lo x) =
        by write_overflow (case_is w.session r l.going asked e m) (by_elements w.session _ st ∙ ap (λ (y : Command). element_reply_by (kept_short y) w.session) e) (steps.goes _ (filled_step last w.session w.drive l.k l.edge small again l.counted.held low l.counted.room a lo x) (λ t. clash t x.placed)) (link_safe x)
      where
        kept_short : Command → reply.SteppedSaid
        kept_short y = reply.kept (reply.overflowed_of w.session.elements (command_address y))
    element_replies c e (elements.moved a m none_left f p roof x) =
        by locate_good (case_is w.session r l.going asked e m) (by_elements w.session _ st ∙ ap (λ (y : Command). element_reply_by (kept_located y) w.session) e) (steps.goes _ (moved_step last w.session w.drive l.k l.edge small again l.counted.held low l.counted.room a none_left f p roof x) (λ t. absurd (true≢false (sym t)))) (rests_safe x.rests)
      where
        kept_located : Command → reply.SteppedSaid
        kept_located y = reply.kept (reply.located_of w.session.elements (command_address y))
    element_replies c e (elements.waits k m x) = busy_by m e x

  pub elements_reply : EodDue w.session.elements w.session.closed → Writing last w.session w.drive l.k l.edge (recordings.answered r) → After (reply_of w.session r)
  elements_reply which (elements.replied _ a g x) = element_replies g a which w.session.exchange.command refl x

-- A reply in a header stage keeps the invariant. Assumes nothing.
use Prim.Native.Nat.{ℕ, ◌+◌, ◌*◌, ◌≤◌, ◌<◌}
use mathlib.Core.Path.{◌≡◌, refl, sym, ap, subst, ◌∙◌}
use mathlib.Core.Bool.{Bool, true, false, not, ◌&&◌, ◌||◌}
use mathlib.Core.Logic.{◌⊎◌, inl, inr, ⊎_elim}
use native.Mathlib.Omega.{arith}
use lib.Dec.{ltb}
use lib.ListN.{length}
use Rattle.geometry.proofs.TestLaws.{neither}
use Rattle.geometry.proofs.Impossible.{never, clash}
use Rattle.frame.specs.declared.header.Header.{Header}
use Rattle.drive.specs.Command.{command_code}
use Rattle.drive.specs.Listed.{Means}
use Rattle.archive_lists.specs.Conduct.{AtRest, empty, stopped, Within}
use Rattle.drive.specs.Senses.{meaning_of, busy}
use Rattle.drive.specs.Cases.{locate_good, locate_busy, write_good, write_busy, write_failed, position_good, position_busy, position_failed}
use Rattle.drive.specs.declared.command.Command.{Command}
use Rattle.drive.specs.declared.reply.Reply.{Reply}
use Rattle.copies.specs.Copies as copying
use Rattle.elements.specs.declared.elements.Elements.{Elements}
use Rattle.recording_state.specs.State.{OutcomeSaid, accepting, is_spending, ending, following_of, with_stage, with_copies, settled_of}
use Rattle.recording_state.specs.Reply.{case_of, replied_of, repeated_of, header_reply_by, reply_by, reply_of}
use Rattle.recording_state.specs.declared.state.Setup.{Setup}
use Rattle.recording_state.specs.declared.state.State.{State}
use Rattle.recording_state.specs.declared.state.Stage.{Stage}
use Rattle.recording_state.specs.declared.state.Stage.TheVariants as S
use Rattle.recording_state.proofs.Stages.{HeaderStage, header_not_element}
use Rattle.recording_state.proofs.ReplyView.{by_headers, reply_so}
use Rattle.archive_lists.specs.Recordings as recordings
use Rattle.archive_lists.specs.Recordings.{World}
use Rattle.archive_lists.specs.Filemarks.{item_at}
use Rattle.archive_lists.proofs.tape.Basics.{none_sent}
use Rattle.archive_lists.proofs.tape.Stands.{Queue, StoredAs}
use Rattle.archive_lists.proofs.recording.Trailing.{Prior, Trailing}
use Rattle.archive_lists.proofs.recording.TrailingLaws.{rests_buffered}
use Rattle.archive_lists.proofs.recording.TrailingMoves.{trailing_idle}
use Rattle.archive_lists.proofs.recording.HeaderCopies.{Carried, Copy, Below}
use Rattle.archive_lists.proofs.recording.CopiesLink as copies
use Rattle.archive_lists.proofs.recording.CopiesLink.{CopyAsks, CopyAnswered, Copying, CopiesAgree}
use Rattle.archive_lists.proofs.recording.CopiesMoves.{answered_safe}
use Rattle.archive_lists.proofs.recording.CopiesReplies as next
use Rattle.archive_lists.proofs.recording.CopiesReplies.{copy_higher, Next, taken_next, located_next, counted_next, failed_next}
use Rattle.archive_lists.proofs.recording.ElementsLink as elements
use Rattle.archive_lists.proofs.recording.Accepts.{settled_cases}
use Rattle.archive_lists.proofs.recording.Closes.{eod_live}
use Rattle.archive_lists.proofs.recording.Invariant as inv
use Rattle.archive_lists.proofs.recording.Invariant.{total_of, spare_of, Course, Live, Safe, Inv, live, over}
use Rattle.archive_lists.proofs.recording.InvariantLaws.{unreported}
use Rattle.archive_lists.proofs.recording.Setting.{Setting, EodAt}

-- ---- which case a reply is

module _ (s : State) (r : Reply) (going : s.ended ≡ false) (asked : s.exchange.awaiting ≡ true) where
  pub case_is : {c : Command} {m : ℕ} → s.exchange.command ≡ c → Means r m → case_of s r ≡ command_code c * 256 + m
  case_is {c} e means = ap (λ (x : Command). command_code x * 256 + meaning_of r.key r.asc r.ascq) e ∙ ap (λ (x : ℕ). command_code c * 256 + x) means

  pub asked_so : (s.ended || not s.exchange.awaiting) ≡ false
  asked_so = neither _ _ going (ap not asked)

abbrev pub replied_world : World → State → World
replied_world w s = record { session = s; window = w.window; drive = w.drive; flight = recordings.no_command; notes = w.notes }

-- what the window is for
record Sized : Type 0 where
  top : ℕ
  els : Elements

module _ {last pass : ℕ} {on_newest none_bears : Type 0} {prior : Prior} (w : World) (r : Reply) (set : Setting last pass) (wr : Within last w.drive.written) (l : Live last pass on_newest none_bears prior w) where
  abbrev After : OutcomeSaid → Type 0
  After x = Inv last pass on_newest none_bears prior (replied_world w x.session)

  pub ends_so : (s : State) (n : ℕ) → is_spending s n ≡ false → (w.session.stage ≡ S.Done → ⊥) → Safe last w.drive → After (ending s n)
  ends_so s n final d safe = over wr (record { ended = refl; final = final; none = refl; safe = safe; unreported = unreported l d })

  module _ (st : HeaderStage w.session) (again : w.session.exchange.again ≡ false) (asked : w.session.exchange.awaiting ≡ true) where
    sized_same : (v : State) → v.setup.highest ≡ w.session.setup.highest → v.elements ≡ w.session.elements → ◌≡◌ {A = Sized} (record { top = v.setup.highest; els = v.elements }) (record { top = w.session.setup.highest; els = w.session.elements })
    sized_same v high els = ap (λ (n : ℕ). record { top = n; els = v.elements }) high ∙ ap (λ (x : Elements). record { top = w.session.setup.highest; els = x }) els

    -- the same headers, other copies or another command
    more_live : (v : State) → v.ended ≡ false → v.stage ≡ w.session.stage → v.setup ≡ w.session.setup → v.elements ≡ w.session.elements → v.copies.header ≡ w.session.copies.header
        → Course last (length l.list) (replied_world w v) l.k l.edge → Live last pass on_newest none_bears prior (replied_world w v)
    more_live v going stage setup els head course =
        let high : v.setup.highest ≡ w.session.setup.highest = ap (λ (x : Setup). x.highest) setup in
        record {
          k = l.k;
          edge = l.edge;
          list = l.list;
          floor = l.floor;
          promises = record {
            is = l.promises.is;
            ungiven = λ v0. l.promises.ungiven (sym (ap (λ (x : Elements). x.eod) els) ∙ v0);
            aimed = λ none t.
                let x = l.promises.aimed (sym (ap (λ (y : Setup). y.tail) setup) ∙ none) (sym (ap (λ (y : Elements). y.course.locate) els) ∙ t) in
                omega (arith, ap (λ (y : Elements). y.course.target.0) els, ap (λ (y : Elements). y.course.limit.0) els);
          };
          going = going;
          counted =
              let c = l.counted in
              let pending = ap (λ (x : Elements). x.queue.pending) els in
              let outstanding = ap (λ (x : Elements). x.queue.outstanding) els in
              let first = ap (λ (x : Elements). x.queue.first.0) els in
              let limit = ap (λ (x : Elements). x.course.limit.0) els in
              record {
                wide = subst (λ (n : ℕ). n ≤ 63) (sym high) c.wide;
                held = let h = c.held in omega arith;
                windowed = let h = c.windowed in omega (arith, high);
                numbered = ap (λ (x : Elements). x.queue.first.0 + x.queue.pending) els ∙ c.numbered ∙ ap (λ (x : Elements). total_of x.eod (length l.list)) (sym els);
                marks = ap (λ (x : Elements). length x.queue.marks) els ∙ c.marks;
                room = let h = c.room in omega arith;
              };
          carried = subst (λ (n : ℕ). Carried last pass prior n v.copies.header) (ap spare_of (sym stage)) (subst (λ (x : Header). Carried last pass prior (spare_of w.session.stage) x) (sym head) l.carried);
          course = course;
          reported = λ e. stage ∙ l.reported e;
          outgoing = λ _. record { queue = λ el _. header_not_element w.session st (sym stage ∙ el); sent = λ _ _ _ z. none_sent z };
          eod_place = record {
            written = λ el _ _. header_not_element w.session st (sym stage ∙ el);
            named = λ q. subst (λ (x : Header). EodAt last pass none_bears (length l.list) w.drive.tape x.eod.0) (sym head) (l.eod_place.named (⊎_elim (λ z. inl (sym stage ∙ z)) (λ z. inr (sym stage ∙ z)) q));
          };
          copied = λ el. header_not_element w.session st (sym stage ∙ el);
          below = λ p. subst (λ (x : Header). Below last x w.drive.tape) (sym head) (l.below p);
          clean = l.clean;
          content = λ p u.
              let c = l.content p u in
              record {
                tape = c.tape;
                seen = c.seen;
                stored = subst (λ (p : Sized). (i : ℕ) → i < p.els.queue.pending → StoredAs (item_at l.list (p.els.queue.first.0 + i)) w.window p.els.queue.marks (p.top + 1) (p.els.queue.first.0 + i)) (sym (sized_same v high els)) c.stored;
              };
          trailing =
              subst (λ (y : Stage). Trailing last pass prior l.list w.notes.accepted y v.elements w.drive recordings.no_command l.k l.edge) (sym stage)
              (subst (λ (y : Elements). Trailing last pass prior l.list w.notes.accepted w.session.stage y w.drive recordings.no_command l.k l.edge) (sym els) (trailing_idle l.trailing));
        }

  -- the copies are through: another stage
  module _ (to : Stage) (spare : spare_of w.session.stage ≡ spare_of to) where
    abbrev onward : State
    onward = with_stage (replied_of w.session) to

    staged_live : Course last (length l.list) (replied_world w onward) l.k l.edge → (w.notes.reported ≡ true → to ≡ S.Done) → (to ≡ S.Elements → w.drive.failed ≡ false → Queue last pass l.list l.k w.drive.buffer)
        → (to ≡ S.Elements → w.session.elements.eod ≡ true → ⊥) → ((to ≡ S.ClosingHeaders) ⊎ (to ≡ S.Done) → w.session.stage ≡ S.ClosingHeaders)
        → (to ≡ S.Elements → (w.session.elements.queue.first.0 ≡ l.k) × (w.session.elements.course.locate ≡ true) × AtRest w.drive)
        → (to ≡ S.Elements → Copy w.session.copies.header w.drive.tape (last + 1)) → Live last pass on_newest none_bears prior (replied_world w onward)
    staged_live course reported queue unended named begins copied =
        let c = l.counted in
        record {
          k = l.k;
          edge = l.edge;
          list = l.list;
          floor = l.floor;
          promises = record { is = l.promises.is; ungiven = l.promises.ungiven; aimed = l.promises.aimed };
          going = l.going;
          counted = record { wide = c.wide; held = c.held; windowed = c.windowed; numbered = c.numbered; marks = c.marks; room = c.room };
          carried = subst (λ (n : ℕ). Carried last pass prior n w.session.copies.header) spare l.carried;
          course = course;
          reported = reported;
          outgoing = λ _. record { queue = queue; sent = λ _ _ _ z. none_sent z };
          eod_place = record { written = λ el b _. absurd (unended el b); named = λ q. l.eod_place.named (inl (named q)) };
          copied = copied;
          below = l.below;
          clean = l.clean;
          content = λ p u. let x = l.content p u in record { tape = x.tape; seen = x.seen; stored = x.stored };
          trailing =
              let x = l.trailing in
              record {
                from = x.from;
                prefix = x.prefix;
                marked = x.marked;
                trail = x.trail;
                written = x.written;
                behind = λ el j a low high _. let y = (begins el).0 in absurd (omega arith);
                queue = λ el. let y = begins el in rests_buffered w.session.elements w.drive (let z = y.0 in omega arith) y.1 y.2;
                sent = λ _ _ _ z. none_sent z;
                tape = x.tape;
              };
        }

  -- ---- the opening headers

  module _ (q : w.session.stage ≡ S.OpeningHeaders) (v : w.session.elements.eod ≡ false) (t : inv.Unstarted last w.session.elements l.k l.edge) (again : w.session.exchange.again ≡ false) (asked : w.session.exchange.awaiting ≡ true) where
    abbrev opened : State
    opened = with_stage (replied_of w.session) S.Elements

    nothing_queued : AtRest w.drive → w.drive.failed ≡ false → Queue last pass l.list l.k w.drive.buffer
    unfolding Queue
    nothing_queued (stopped e) free = clash e free
    nothing_queued (empty e) free = subst (Queue last pass l.list l.k) (sym e) tt

    opened_live : AtRest w.drive → Copy w.session.copies.header w.drive.tape 2995 → Live last pass on_newest none_bears prior (replied_world w opened)
    opened_live rests copy =
        let target = t.target_is in
        staged_live S.Elements (ap spare_of q)
        (inv.writing refl (inv.not_yet v) (elements.to_locate refl again t.relocates (record {
          none_out = t.none_out;
          first_is = t.first_is;
          rests = rests;
          low = omega (arith, t.roof, t.spread);
          zone = ⊎_elim (λ z. inl (omega arith)) (λ z. inr (omega arith)) t.zone;
          spread = omega (arith, t.spread);
          edge_is = sym t.target_is;
        })))
        (λ e. never (let z = l.reported e in cc)) (λ _ free. nothing_queued rests free) (λ _ b. clash b v) (λ z. ⊎_elim (λ y. never (cc)) (λ y. never (cc)) z) (λ _. (t.first_is, t.relocates, rests)) (λ _. copy_higher (omega (arith, set.large)) copy)

    opening_next : {s : copying.ProgressSaid} → Next w.session.copies.header w.drive s → Safe last w.drive → After (header_reply_by s w.session)
    opening_next (next.at_place c e n p x) safe =
        live wr (more_live (inl q) again asked (with_copies (replied_of w.session) c) l.going refl refl refl e (inv.opening q v t (record { counts = n; placed = p; copying = copies.at_place refl again x })))
    opening_next (next.to_seek c e n p x) safe =
        live wr (more_live (inl q) again asked (with_copies (replied_of w.session) c) l.going refl refl refl e (inv.opening q v t (record { counts = n; placed = p; copying = copies.to_seek refl again x })))
    opening_next (next.through rests copy) safe =
        subst (λ (x : Stage). Inv last pass on_newest none_bears prior (replied_world w (settled_of (with_stage (replied_of w.session) (following_of x))))) (sym q)
        (settled_cases opened (λ (v : State). Inv last pass on_newest none_bears prior (replied_world w v)) (λ _. live wr (opened_live rests copy)) (λ a b c z. live wr (eod_live (replied_world w opened) (opened_live rests copy) a b c z)) (λ _ b _. clash b v))
    opening_next (next.ends n other) safe = ends_so w.session n (ap (λ (b : Bool). b && (ltb 0 w.session.setup.tail && not w.session.elements.eod)) other) (λ z. never (cc)) safe

  -- ---- the closing headers

  module _ (q : w.session.stage ≡ S.ClosingHeaders) (v : w.session.elements.eod ≡ true) (closed : w.session.closed ≡ true) (k0 : l.k ≡ length l.list + 1) (e0 : l.edge ≡ last + 1) (again : w.session.exchange.again ≡ false) (asked : w.session.exchange.awaiting ≡ true) where
    abbrev done : State
    done = with_stage (replied_of w.session) S.Done

    done_live : AtRest w.drive → Copy w.session.copies.header w.drive.tape 2995 → Live last pass on_newest none_bears prior (replied_world w done)
    done_live rests copy =
        staged_live S.Done (ap spare_of q) (inv.finished refl v closed k0 e0 refl refl again rests (copy_higher (omega (arith, set.large)) copy)) (λ _. refl) (λ el _. never (cc)) (λ el _. never (cc)) (λ _. q) (λ el. never (cc)) (λ el. never (cc))

    closing_next : {s : copying.ProgressSaid} → Next w.session.copies.header w.drive s → Safe last w.drive → After (header_reply_by s w.session)
    closing_next (next.at_place c e n p x) safe =
        live wr (more_live (inr q) again asked (with_copies (replied_of w.session) c) l.going refl refl refl e (inv.closing q v closed k0 e0 (record { counts = n; placed = p; copying = copies.at_place refl again x })))
    closing_next (next.to_seek c e n p x) safe =
        live wr (more_live (inr q) again asked (with_copies (replied_of w.session) c) l.going refl refl refl e (inv.closing q v closed k0 e0 (record { counts = n; placed = p; copying = copies.to_seek refl again x })))
    closing_next (next.through rests copy) safe =
        subst (λ (x : Stage). Inv last pass on_newest none_bears prior (replied_world w (settled_of (with_stage (replied_of w.session) (following_of x))))) (sym q)
        (settled_cases done (λ (v : State). Inv last pass on_newest none_bears prior (replied_world w v)) (λ _. live wr (done_live rests copy)) (λ a _ _ _. never (cc)) (λ a _ _. never (cc)))
    closing_next (next.ends n other) safe = ends_so w.session n (ap (λ (b : Bool). b && (ltb 0 w.session.setup.tail && not w.session.elements.eod)) other) (λ z. never (cc)) safe

  -- ---- by what the drive gave

  module _ (st : HeaderStage w.session) (again : w.session.exchange.again ≡ false) (asked : w.session.exchange.awaiting ≡ true) (agree : CopiesAgree w.session w.drive w.flight)
      (onward : (s : copying.ProgressSaid) → Next w.session.copies.header w.drive s → Safe last w.drive → After (header_reply_by s w.session))
      (repeats : CopyAsks w.session.copies w.drive w.session.exchange.command → After (accepting (repeated_of w.session))) where
    by : {s : copying.ProgressSaid} (n : ℕ) → case_of w.session r ≡ n → reply_by w.session n r ≡ header_reply_by s w.session → Next w.session.copies.header w.drive s → Safe last w.drive → After (reply_of w.session r)
    by {s} n e a x safe = subst After (sym (reply_so w.session r (asked_so w.session r l.going asked) e ∙ a)) (onward s x safe)

    repeated : {c : Command} (n : ℕ) → w.session.exchange.command ≡ c → case_of w.session r ≡ n → reply_by w.session n r ≡ accepting (repeated_of w.session) → CopyAsks w.session.copies w.drive c → After (reply_of w.session r)
    repeated n e z b y = subst After (sym (reply_so w.session r (asked_so w.session r l.going asked) z ∙ b)) (repeats (subst (λ (i : Command). CopyAsks w.session.copies w.drive i) (sym e) y))

    busy_by : {c : Command} → Means r busy → w.session.exchange.command ≡ c → CopyAsks w.session.copies w.drive c → After (reply_of w.session r)
    unfolding reply_by
    busy_by m e (copies.writes a p left y) = repeated write_busy e (case_is w.session r l.going asked e m) refl (copies.writes a p left y)
    busy_by m e (copies.asks y) = repeated position_busy e (case_is w.session r l.going asked e m) refl (copies.asks y)
    busy_by m e (copies.seeks a p y) = repeated locate_busy e (case_is w.session r l.going asked e m) refl (copies.seeks a p y)

    header_replies : (c : Command) → w.session.exchange.command ≡ c → CopyAnswered w.session.copies w.drive r c → After (reply_of w.session r)
    unfolding reply_by
    header_replies c e (copies.taken a m x) = by write_good (case_is w.session r l.going asked e m) (by_headers w.session _ st) (taken_next w.session.copies w.drive agree.counts x) (answered_safe {r = r} agree.counts (copies.taken a m x))
    header_replies c e (copies.counted m b x) = by position_good (case_is w.session r l.going asked e m) (by_headers w.session _ st) (counted_next w.session.copies w.drive agree.counts r.buffered b x) (answered_safe {r = r} agree.counts (copies.counted m b x))
    header_replies c e (copies.failed_write a m f p x) = by write_failed (case_is w.session r l.going asked e m) (by_headers w.session _ st) (failed_next w.session.copies w.drive agree.counts r.position p f x) (inv.halted f)
    header_replies c e (copies.failed_position m f p x) = by position_failed (case_is w.session r l.going asked e m) (by_headers w.session _ st) (failed_next w.session.copies w.drive agree.counts r.position p f x) (inv.halted f)
    header_replies c e (copies.moved a m p none_left f at x) =
        by locate_good (case_is w.session r l.going asked e m) (by_headers w.session _ st) (located_next w.session.copies w.drive agree.counts agree.placed x none_left (at ∙ p)) (answered_safe {r = r} agree.counts (copies.moved a m p none_left f at x))
    header_replies c e (copies.waits k m x) = busy_by m e x

  pub opening_replies : (q : w.session.stage ≡ S.OpeningHeaders) → w.session.elements.eod ≡ false → inv.Unstarted last w.session.elements l.k l.edge → CopiesAgree w.session w.drive w.flight → Copying w.session w.drive (recordings.answered r) → After (reply_of w.session r)
  opening_replies q v t agree (copies.replied _ a g x) =
      header_replies (inl q) g a agree (λ _ y safe. opening_next q v t g a y safe)
      (λ y. live wr (more_live (inl q) g a (repeated_of w.session) l.going refl refl refl refl (inv.opening q v t (record { counts = agree.counts; placed = agree.placed; copying = copies.again refl refl y }))))
      w.session.exchange.command refl x

  pub closing_replies : (q : w.session.stage ≡ S.ClosingHeaders) → w.session.elements.eod ≡ true → w.session.closed ≡ true → l.k ≡ length l.list + 1 → l.edge ≡ last + 1 → CopiesAgree w.session w.drive w.flight → Copying w.session w.drive (recordings.answered r) → After (reply_of w.session r)
  closing_replies q v c k0 e0 agree (copies.replied _ a g x) =
      header_replies (inr q) g a agree (λ _ y safe. closing_next q v c k0 e0 g a y safe)
      (λ y. live wr (more_live (inr q) g a (repeated_of w.session) l.going refl refl refl refl (inv.closing q v c k0 e0 (record { counts = agree.counts; placed = agree.placed; copying = copies.again refl refl y }))))
      w.session.exchange.command refl x

-- Every move of the drive keeps the invariant. Assumes nothing.
use Prim.Native.Nat.{ℕ, suc, ◌+◌, ◌-◌, ◌≤◌, ◌<◌}
use mathlib.Core.Path.{◌≡◌, refl, sym, ap, subst, ◌∙◌}
use mathlib.Core.Bool.{Bool, true, false, ◌||◌}
use mathlib.Core.List.{List, ◌∷◌}
use mathlib.Core.Logic.{inl, inr}
use mathlib.Core.Option.{Option}
use native.Mathlib.Nat.{le_refl}
use native.Mathlib.Omega.{arith}
use lib.ListN.{length}
use Rattle.geometry.specs.declared.address.Address.{Address}
use Rattle.geometry.specs.Cartridge.{is_header, is_user}
use Rattle.geometry.proofs.TestLaws.{either_left, either_right}
use Rattle.geometry.proofs.Impossible.{clash}
use Rattle.frame.specs.Header.{header_frame}
use Rattle.archive_lists.specs.Conduct as conduct
use Rattle.archive_lists.specs.Conduct.{Drive, Acts, Answers, Left, Written, as_new, wrote, failing, taking, moved, Within, one_more}
use Rattle.drive.specs.declared.command.Command.{Command}
use Rattle.drive.specs.declared.command.Command.TheVariants.{Write, Locate}
use Rattle.drive.specs.declared.reply.Reply.{Reply}
use Rattle.recording_state.specs.declared.state.Stage.TheVariants as S
use Rattle.recording_state.proofs.ListedReplies.{OffHeaders}
use Rattle.recording_state.proofs.Stages.{HeaderStage, ElementStage, header_not_element, header_not_done, element_not_done}
use Rattle.recording_state.proofs.Kept.{held_of}
use Rattle.archive_lists.specs.Recordings as recordings
use Rattle.archive_lists.specs.Recordings.{World, Flight, with_drive, Moves}
use Rattle.archive_lists.proofs.tape.Basics.{none_sent, answered_sent}
use Rattle.archive_lists.proofs.tape.Stands.{Stands, Queue}
use Rattle.drive.specs.Senses.{meaning_of, good}
use Rattle.drive.specs.Listed.{Means, Listed}
use Rattle.archive_lists.specs.Tape.{Tape, Cartridge}
use Rattle.archive_lists.specs.Filemarks.{item_at}
use Rattle.archive_lists.proofs.tape.Seen.{Seen, Clean}
use Rattle.archive_lists.proofs.tape.SeenLaws.{clean_put}
use Rattle.archive_lists.proofs.recording.Trailing.{Prior, Trailing}
use Rattle.archive_lists.proofs.recording.TrailingMoves.{trailing_answered, trailing_moved, trailing_header, trailing_tape, trailing_taken, trailing_failed, trailing_written}
use Rattle.archive_lists.proofs.recording.HeaderCopies.{Copy, Below}
use Rattle.archive_lists.proofs.recording.CopiesLink as copies
use Rattle.archive_lists.proofs.recording.CopiesLink.{Copying, CopiesAgree}
use Rattle.archive_lists.proofs.recording.CopiesMoves as copying
use Rattle.archive_lists.proofs.recording.CopiesMoves.{rests_still, CopyGoes, copying_goes, CopyOutcome, copies_answer}
use Rattle.archive_lists.proofs.recording.ElementsLink as elements
use Rattle.archive_lists.proofs.recording.ElementsLink.{Asks, Answered, Writing}
use Rattle.archive_lists.proofs.recording.ElementsMoves as writing
use Rattle.archive_lists.proofs.recording.ElementsMoves.{Goes, writing_goes, ElementsOutcome, elements_answer, asks_off_header}
use Rattle.archive_lists.proofs.recording.ContentMoves.{header_below, element_below, copy_beside, header_content, header_clean, header_eod_place, outgoing_written, outgoing_failed, eod_written_lem, eod_failed_lem, content_written, content_failed, queue_more, most}
use Rattle.archive_lists.proofs.recording.Invariant as inv
use Rattle.archive_lists.proofs.recording.Invariant.{total_of, EodDue, Course, Outgoing, Known, EodPlace, Content, Live, Safe, halted, allowed, Inv, live, rejecting, spent, over}
use Rattle.archive_lists.proofs.recording.InvariantLaws.{unreported}
use Rattle.archive_lists.proofs.recording.Setting.{Setting, EodAt}

-- ---- a drive whose session has ended, or will

safe_acts : {last : ℕ} {d e : Drive} → Safe last d → Acts d e → Safe last e × (Within last d.written → Within last e.written)
safe_acts (halted x) (conduct.writes f rest v b free r) = clash x free
safe_acts (halted x) (conduct.fails f rest v b free l) = clash x free
safe_acts {last} {d} (allowed h) (conduct.writes f rest v b free r) =
    let size : length d.buffer ≡ suc (length rest) = ap length b in (
      allowed (λ i below. let e : d.at + (i + 1) ≡ d.at + 1 + i = omega arith in subst (λ (a : ℕ). (is_header a || is_user last a) ≡ true) e (h (i + 1) (omega (arith, size)))),
      λ wr. let e : d.at + 0 ≡ d.at = omega arith in one_more d.at d.written (subst (λ (a : ℕ). (is_header a || is_user last a) ≡ true) e (h 0 (omega (arith, size)))) wr,
    )
safe_acts {last} {d} (allowed h) (conduct.fails f rest v b free l) =
    let size : length d.buffer ≡ suc (length rest) = ap length b in (
      halted refl,
      λ wr. let e : d.at + 0 ≡ d.at = omega arith in one_more d.at d.written (subst (λ (a : ℕ). (is_header a || is_user last a) ≡ true) e (h 0 (omega (arith, size)))) wr,
    )

-- what an answer does to the drive: nothing, or it has taken the WRITE's frame, or is where the LOCATE says
pub data Does (d : Drive) (frame : List ℕ) (r : Reply) : Command → Drive → Type 0 where
  alters_nothing : (c : Command) → Does d frame r c d
  takes_frame : (a : Address) → Means r good → Does d frame r (Write a) (taking d frame)
  goes_to : (a : Address) → Does d frame r (Locate a) (moved d a.0)

pub does : {d e : Drive} {frame : List ℕ} {c : Command} {r : Reply} → Answers d frame c r e → Does d frame r c e
does (conduct.takes a r m) = takes_frame a m
does (conduct.overflows a r off m) = alters_nothing _
does (conduct.counts r m z) = alters_nothing _
does (conduct.write_fails a r m y z) = alters_nothing _
does (conduct.position_fails r m y z) = alters_nothing _
does (conduct.locates a r m) = goes_to a
does (conduct.reads a r m) = alters_nothing _
does (conduct.waits c r m) = alters_nothing _
does (conduct.waits_located a r m) = goes_to a
does (conduct.rejects c r m) = alters_nothing _
does (conduct.rejects_located a r m) = goes_to a

-- ---- a live one

module _ {last pass : ℕ} {on_newest none_bears : Type 0} {prior : Prior} {w : World} (set : Setting last pass) (written : Within last w.drive.written) (l : Live last pass on_newest none_bears prior w) where
  -- another drive, in the same session
  relive : (d : Drive) (f : Flight) (k edge : ℕ) → l.k ≤ k → l.edge ≤ edge → Course last (length l.list) (with_drive w d f) k edge → (Known none_bears w → Outgoing last pass l.list (with_drive w d f) k) → EodPlace last pass none_bears prior.start (length l.list) (with_drive w d f) k
      → (ElementStage w.session → Copy w.session.copies.header d.tape (last + 1)) → (on_newest → Below last w.session.copies.header d.tape) → (none_bears → Clean last pass edge d.tape) → (none_bears → w.notes.unaltered ≡ true → Content last pass l.list (with_drive w d f) k edge)
      → Trailing last pass prior l.list w.notes.accepted w.session.stage w.session.elements d f k edge → Live last pass on_newest none_bears prior (with_drive w d f)
  relive d f k edge up on course outgoing eod_place copied below clean content trailing = record {
    k = k;
    edge = edge;
    list = l.list;
    floor = (omega (arith, l.floor.0), l.floor.1, omega (arith, l.floor.2));
    promises = record { is = l.promises.is; ungiven = l.promises.ungiven; aimed = l.promises.aimed };
    going = l.going;
    counted = l.counted;
    carried = l.carried;
    course = course;
    reported = l.reported;
    outgoing = outgoing;
    eod_place = eod_place;
    copied = copied;
    below = below;
    clean = clean;
    content = content;
    trailing = trailing;
  }

  header_written : is_header w.drive.at ≡ true → Within last (w.drive.at ∷ w.drive.written)
  header_written h = one_more w.drive.at w.drive.written (either_left (is_header w.drive.at) (is_user last w.drive.at) h) written

  user_written : is_user last w.drive.at ≡ true → Within last (w.drive.at ∷ w.drive.written)
  user_written u = one_more w.drive.at w.drive.written (either_right (is_header w.drive.at) (is_user last w.drive.at) u) written

  -- ---- it acts by itself, in a header stage

  module _ (f : List ℕ) (rest : List (List ℕ)) (b : w.drive.buffer ≡ f ∷ rest) (free : w.drive.failed ≡ false) (st : HeaderStage w.session) (agree : CopiesAgree w.session w.drive w.flight)
      (course : (e : Drive) → CopiesAgree w.session e w.flight → Course last (length l.list) (with_drive w e w.flight) l.k l.edge) where
    goes : CopyGoes w.session.copies.header w.drive f rest (λ e. Copying w.session e w.flight)
    goes = copying_goes f rest agree.counts b free agree.copying

    agreed : {e : Drive} → Copying w.session e w.flight → CopiesAgree w.session e w.flight
    agreed x = record { counts = agree.counts; placed = agree.placed; copying = x }

    as_header : {v : Option (List ℕ)} → Left (w.drive.tape w.drive.at) f v → Left (w.drive.tape w.drive.at) (header_frame w.session.copies.header) v
    as_header {v} x = subst (λ (y : List ℕ). Left (w.drive.tape w.drive.at) y v) goes.same x

    outside : ElementStage w.session → ⊥
    outside el = header_not_element w.session st el

    none_out : (e : Drive) → Outgoing last pass l.list (with_drive w e w.flight) l.k
    none_out e = record { queue = λ el _. absurd (outside el); sent = λ _ _ el _. absurd (outside el) }

    header_writes : (v : Option (List ℕ)) → Written f v → Inv last pass on_newest none_bears prior (with_drive w (wrote w.drive rest v) w.flight)
    header_writes v x =
        live (header_written goes.place)
        (relive (wrote w.drive rest v) w.flight l.k l.edge (le_refl l.k) (le_refl l.edge) (course (wrote w.drive rest v) (agreed (goes.written v x)))
        (λ _. none_out (wrote w.drive rest v)) (header_eod_place (length l.list) w (wrote w.drive rest v) v refl goes.place outside l.eod_place)
        (λ el. absurd (outside el)) (λ p. header_below w v (as_header (as_new v x)) (l.below p)) (λ p. header_clean w (wrote w.drive rest v).tape v refl goes.place (l.clean p)) (λ p u. header_content l.list w (wrote w.drive rest v) v refl goes.place set.large (as_header (as_new v x)) (l.content p u))
        (trailing_header l.trailing (wrote w.drive rest v) w.flight v refl goes.place outside))

    header_fails : (v : Option (List ℕ)) → Left (w.drive.tape w.drive.at) f v → Inv last pass on_newest none_bears prior (with_drive w (failing w.drive v) w.flight)
    header_fails v x =
        live (header_written goes.place)
        (relive (failing w.drive v) w.flight l.k l.edge (le_refl l.k) (le_refl l.edge) (course (failing w.drive v) (agreed (goes.broken v)))
        (λ _. none_out (failing w.drive v)) (header_eod_place (length l.list) w (failing w.drive v) v refl goes.place outside l.eod_place)
        (λ el. absurd (outside el)) (λ p. header_below w v (as_header x) (l.below p)) (λ p. header_clean w (failing w.drive v).tape v refl goes.place (l.clean p)) (λ p u. header_content l.list w (failing w.drive v) v refl goes.place set.large (as_header x) (l.content p u))
        (trailing_header l.trailing (failing w.drive v) w.flight v refl goes.place outside))

  -- ---- among the elements

  module _ (f : List ℕ) (rest : List (List ℕ)) (b : w.drive.buffer ≡ f ∷ rest) (free : w.drive.failed ≡ false) (st : ElementStage w.session) (agree : Writing last w.session w.drive l.k l.edge w.flight)
      (course : (e : Drive) (k edge : ℕ) → Writing last w.session e k edge w.flight → Course last (length l.list) (with_drive w e w.flight) k edge) where
    on : Goes last w.session.elements.queue.first.0 w.session.elements.queue.pending w.drive rest l.k l.edge (λ e k edge. Writing last w.session e k edge w.flight)
    on = writing_goes f rest l.counted.held b free agree

    room : l.k + 1 ≤ total_of w.session.elements.eod (length l.list)
    room = omega (arith, on.room, l.counted.numbered)

    unfinished : l.k ≤ length l.list
    unfinished = omega (arith, room, most w.session.elements.eod (length l.list))

    clean_here : none_bears → Clean last pass w.drive.at w.drive.tape
    clean_here p = subst (λ (a : ℕ). Clean last pass a w.drive.tape) on.edge_here (l.clean p)

    writes : (v : Option (List ℕ)) → Written f v → Inv last pass on_newest none_bears prior (with_drive w (wrote w.drive rest v) w.flight)
    writes v x =
        live (user_written on.place)
        (relive (wrote w.drive rest v) w.flight (l.k + 1) (w.drive.at + 1) (omega arith) (omega (arith, on.edge_here)) (course (wrote w.drive rest v) (l.k + 1) (w.drive.at + 1) (on.written v))
        (λ n. outgoing_written l.list w f rest b free st v (l.outgoing n)) (eod_written_lem l.list w f rest b free st on.place room clean_here v x (λ e. l.outgoing (inr e)) (omega (arith, l.floor.2, on.edge_here)))
        (λ el. copy_beside last w.drive.at on.place v (l.copied el)) (λ p. element_below w on.place v (l.below p)) (λ p. clean_put v (clean_here p)) (λ p u. content_written l.list w f rest b free st on.place room set.large (l.content p u) (l.outgoing (inl (p, u))) on.edge_here v x)
        (trailing_written f rest b free st set.large on.place on.edge_here unfinished l.trailing v x))

    fails : (v : Option (List ℕ)) → Left (w.drive.tape w.drive.at) f v → Inv last pass on_newest none_bears prior (with_drive w (failing w.drive v) w.flight)
    fails v x =
        live (user_written on.place)
        (relive (failing w.drive v) w.flight l.k (w.drive.at + 1) (le_refl l.k) (omega (arith, on.edge_here)) (course (failing w.drive v) l.k (w.drive.at + 1) (on.broken v))
        (λ n. outgoing_failed l.list w f rest b free st v (l.outgoing n)) (eod_failed_lem l.list w f rest b free st on.place room v)
        (λ el. copy_beside last w.drive.at on.place v (l.copied el)) (λ p. element_below w on.place v (l.below p)) (λ p. clean_put v (clean_here p)) (λ p u. content_failed l.list w f rest b free st on.place room set.large (l.content p u) (l.outgoing (inl (p, u))) on.edge_here v x)
        (trailing_failed f rest b free st set.large on.place on.edge_here unfinished l.trailing v x))

  live_acts : Course last (length l.list) w l.k l.edge → (d : Drive) → Acts w.drive d → Inv last pass on_newest none_bears prior (with_drive w d w.flight)
  live_acts (inv.opening s u t a) d (conduct.writes f rest v b free x) = header_writes f rest b free (inl s) a (λ _ y. inv.opening s u t y) v x
  live_acts (inv.opening s u t a) d (conduct.fails f rest v b free x) = header_fails f rest b free (inl s) a (λ _ y. inv.opening s u t y) v x
  live_acts (inv.writing s u a) d (conduct.writes f rest v b free x) = writes f rest b free s a (λ _ _ _ y. inv.writing s u y) v x
  live_acts (inv.writing s u a) d (conduct.fails f rest v b free x) = fails f rest b free s a (λ _ _ _ y. inv.writing s u y) v x
  live_acts (inv.closing s u c k e a) d (conduct.writes f rest v b free x) = header_writes f rest b free (inr s) a (λ _ y. inv.closing s u c k e y) v x
  live_acts (inv.closing s u c k e a) d (conduct.fails f rest v b free x) = header_fails f rest b free (inr s) a (λ _ y. inv.closing s u c k e y) v x
  live_acts (inv.finished s u c k e fl a g rests copy) d (conduct.writes f rest v b free x) = rests_still b free rests
  live_acts (inv.finished s u c k e fl a g rests copy) d (conduct.fails f rest v b free x) = rests_still b free rests

  -- ---- it answers

  -- an answer leaves the tape, and what is written
  same_tape : {d e : Drive} {frame : List ℕ} {c : Command} {r : Reply} → Answers d frame c r e → (e.tape ≡ d.tape) × (e.written ≡ d.written)
  same_tape an = go (does an)
    where
      go : {d e : Drive} {frame : List ℕ} {c : Command} {r : Reply} → Does d frame r c e → (e.tape ≡ d.tape) × (e.written ≡ d.written)
      go (alters_nothing _) = (refl, refl)
      go (takes_frame _ _) = (refl, refl)
      go (goes_to _) = (refl, refl)

  module _ (c : Command) (frame : List ℕ) (r : Reply) (d : Drive) (q : w.flight ≡ recordings.sent c frame) (an : Answers w.drive frame c r d) where
    within : Within last d.written
    within = subst (Within last) (sym (same_tape an).1) written

    lost : (w.session.stage ≡ S.Done → ⊥) → w.session.exchange.awaiting ≡ true → (Listed w.session.exchange.command (meaning_of r.key r.asc r.ascq) → ⊥) → OffHeaders w.session → Safe last d
        → Inv last pass on_newest none_bears prior (with_drive w d (recordings.answered r))
    lost n a h off safe = rejecting within (record { reply = r; going = l.going; awaits = a; replied = refl; unlisted = h; off_headers = off; safe = safe; unreported = unreported l n })

    -- the tape stays
    same_content : {k edge : ℕ} → Content last pass l.list w k edge → Content last pass l.list (with_drive w d (recordings.answered r)) k edge
    same_content {k} {edge} x =
        let e = sym (same_tape an).0 in
        record { tape = subst (Cartridge last) e x.tape; seen = subst (λ t. Seen last pass l.list w.notes.accepted k edge t) e x.seen; stored = x.stored }

    same_clean : {edge : ℕ} → Clean last pass edge w.drive.tape → Clean last pass edge d.tape
    same_clean {edge} x = subst (Clean last pass edge) (sym (same_tape an).0) x

    same_below : Below last w.session.copies.header w.drive.tape → Below last w.session.copies.header d.tape
    same_below x = subst (Below last w.session.copies.header) (sym (same_tape an).0) x

    same_copy : Copy w.session.copies.header w.drive.tape (last + 1) → Copy w.session.copies.header d.tape (last + 1)
    same_copy x = subst (λ (t : Tape). Copy w.session.copies.header t (last + 1)) (sym (same_tape an).0) x

    same_eod_place : {k : ℕ} → (ElementStage w.session → w.session.elements.eod ≡ true → k ≡ length l.list + 1 → d.at ≡ w.drive.at) → EodPlace last pass none_bears prior.start (length l.list) w k → EodPlace last pass none_bears prior.start (length l.list) (with_drive w d (recordings.answered r)) k
    same_eod_place {k} stays x =
        let e = sym (same_tape an).0 in
        record {
          written = λ st b all. (
            subst (λ (t : Tape). EodAt last pass none_bears (length l.list) t (d.at - 1)) e
                (subst (λ (a : ℕ). EodAt last pass none_bears (length l.list) w.drive.tape (a - 1)) (sym (stays st b all)) (x.written st b all).0),
            subst (λ (a : ℕ). prior.start ≤ a - 1) (sym (stays st b all)) (x.written st b all).1,
          );
          named = λ s. subst (λ (t : Tape). EodAt last pass none_bears (length l.list) t w.session.copies.header.eod.0) e (x.named s);
        }

    -- the frame that was on the way is with the drive, or was not taken
    outgoing_answered : {k : ℕ} → (ElementStage w.session → d.failed ≡ false → Queue last pass l.list k d.buffer) → Outgoing last pass l.list (with_drive w d (recordings.answered r)) k
    outgoing_answered queue = record { queue = queue; sent = λ _ _ _ z. answered_sent z }

    module _ (st : HeaderStage w.session) (agree : CopiesAgree w.session w.drive w.flight)
        (course : (e : Drive) → CopiesAgree w.session e (recordings.answered r) → Course last (length l.list) (with_drive w e (recordings.answered r)) l.k l.edge) where
      header_answers : Copying w.session w.drive (recordings.sent c frame) → Inv last pass on_newest none_bears prior (with_drive w d (recordings.answered r))
      header_answers (copies.under_way _ _ a g e h x) = go (copies_answer agree.counts h x an)
        where
          go : CopyOutcome last w.session.copies d r c → Inv last pass on_newest none_bears prior (with_drive w d (recordings.answered r))
          go (copying.goes_on y) =
              live within
              (relive d (recordings.answered r) l.k l.edge (le_refl l.k) (le_refl l.edge)
              (course d (record { counts = agree.counts; placed = agree.placed; copying = copies.replied r a g (subst (λ z. copies.CopyAnswered w.session.copies d r z) (sym e) y) }))
              (λ _. outgoing_answered (λ el _. header_not_element w.session st el)) (same_eod_place (λ el _ _. header_not_element w.session st el) l.eod_place) (λ el. same_copy (l.copied el)) (λ p. same_below (l.below p)) (λ p. same_clean (l.clean p)) (λ p u. same_content (l.content p u))
              (trailing_tape l.trailing d (recordings.answered r) (same_tape an).0 (λ el. header_not_element w.session st el)))
          go (copying.reject m safe) = lost (header_not_done w.session st) a (λ z. m (subst (λ k. Listed k (meaning_of r.key r.asc r.ascq)) e z)) (λ el. header_not_element w.session st el) safe

    module _ (st : ElementStage w.session) (due : EodDue w.session.elements w.session.closed) (agree : Writing last w.session w.drive l.k l.edge w.flight)
        (course : (e : Drive) → Writing last w.session e l.k l.edge (recordings.answered r) → Course last (length l.list) (with_drive w e (recordings.answered r)) l.k l.edge) where
      -- EOD, due alone and on tape, is outstanding: no LOCATE
      at_answers : {e : Drive} {k2 : Command} → EodDue w.session.elements w.session.closed → w.session.elements.eod ≡ true → l.k ≡ length l.list + 1
          → Asks last (held_of w.session) w.session.elements.queue.pending w.drive l.k l.edge k2 → Does w.drive frame r k2 e → e.at ≡ w.drive.at
      at_answers due b all x (alters_nothing _) = refl
      at_answers due b all x (takes_frame _ _) = refl
      at_answers (inv.not_yet v) b all (elements.moves a _ mo) (goes_to _) = clash b v
      at_answers (inv.alone v c one) b all (elements.moves a _ mo) (goes_to _) =
          let n = l.counted.numbered in
          let t = ap (λ (x : Bool). total_of x (length l.list)) b in
          absurd (omega (arith, mo.first_is))

      -- a WRITE that is asked for is of the element behind those that the drive holds
      taken_there : {a : Address} → Asks last (held_of w.session) w.session.elements.queue.pending w.drive l.k l.edge (Write a)
          → (w.session.elements.course.locate ≡ false) × (w.session.elements.queue.outstanding < w.session.elements.queue.pending) × (w.session.elements.queue.first.0 + w.session.elements.queue.outstanding ≡ l.k + length w.drive.buffer)
      taken_there (elements.writes a p due off low li) = (li.placed, due, let z = li.taken_is in omega arith)

      queue_answers : {e : Drive} {k2 : Command} → w.flight ≡ recordings.sent k2 frame → Outgoing last pass l.list w l.k → Asks last (held_of w.session) w.session.elements.queue.pending w.drive l.k l.edge k2 → Does w.drive frame r k2 e → e.failed ≡ false
          → Queue last pass l.list l.k e.buffer
      unfolding Queue
      queue_answers q2 x asked (alters_nothing _) free = x.queue st free
      queue_answers q2 x asked (takes_frame a _) free =
          queue_more last pass l.list l.k w.drive.buffer frame (x.queue st free) (subst (λ (j : ℕ). Stands last pass (item_at l.list j) j frame) (taken_there asked).2 (x.sent a frame st q2))
      queue_answers q2 x asked (goes_to _) free = tt

      trailing_answers : {e : Drive} {k2 : Command} → w.flight ≡ recordings.sent k2 frame → Asks last (held_of w.session) w.session.elements.queue.pending w.drive l.k l.edge k2 → Does w.drive frame r k2 e
          → Trailing last pass prior l.list w.notes.accepted w.session.stage w.session.elements e (recordings.answered r) l.k l.edge
      trailing_answers q2 asked (alters_nothing _) = trailing_answered l.trailing r
      trailing_answers q2 asked (takes_frame a _) =
          let there = taken_there asked in
          trailing_taken a frame r st there.0 there.1 there.2
          (subst (λ (y : Flight). Trailing last pass prior l.list w.notes.accepted w.session.stage w.session.elements w.drive y l.k l.edge) q2 l.trailing)
      trailing_answers q2 (elements.moves a _ mo) (goes_to _) = trailing_moved l.trailing r a.0 mo.first_is

      element_answers : Writing last w.session w.drive l.k l.edge (recordings.sent c frame) → Inv last pass on_newest none_bears prior (with_drive w d (recordings.answered r))
      element_answers (elements.under_way _ _ a g e x) = go (elements_answer x an)
        where
          go : ElementsOutcome last (held_of w.session) w.session.elements.queue.pending d l.k l.edge r c → Inv last pass on_newest none_bears prior (with_drive w d (recordings.answered r))
          go (writing.goes_on y) =
              live within
              (relive d (recordings.answered r) l.k l.edge (le_refl l.k) (le_refl l.edge)
              (course d (elements.replied r a g (subst (λ z. Answered last (held_of w.session) w.session.elements.queue.pending d l.k l.edge r z) (sym e) y)))
              (λ n. outgoing_answered (λ el free. queue_answers q (l.outgoing n) x (does an) free)) (same_eod_place (λ _ b all. at_answers due b all x (does an)) l.eod_place) (λ el. same_copy (l.copied el)) (λ p. same_below (l.below p)) (λ p. same_clean (l.clean p)) (λ p u. same_content (l.content p u))
              (trailing_answers q x (does an)))
          go (writing.reject m safe) = lost (element_not_done w.session st) a (λ z. m (subst (λ k. Listed k (meaning_of r.key r.asc r.ascq)) e z)) (λ _ b f. asks_off_header (subst (λ k. Asks last (held_of w.session) w.session.elements.queue.pending w.drive l.k l.edge k) (sym e ∙ f) x)) safe

    live_answers : Course last (length l.list) w l.k l.edge → Inv last pass on_newest none_bears prior (with_drive w d (recordings.answered r))
    live_answers (inv.opening s u t a) = header_answers (inl s) a (λ _ y. inv.opening s u t y) (subst (Copying w.session w.drive) q a.copying)
    live_answers (inv.writing s u a) = element_answers s u a (λ _ y. inv.writing s u y) (subst (Writing last w.session w.drive l.k l.edge) q a)
    live_answers (inv.closing s u cl k e a) = header_answers (inr s) a (λ _ y. inv.closing s u cl k e y) (subst (Copying w.session w.drive) q a.copying)
    live_answers (inv.finished s u cl k e fl a g rests copy) = none_sent (sym fl ∙ q)

-- ---- the whole

pub keeps_move : {last pass : ℕ} {on_newest none_bears : Type 0} {prior : Prior} (w v : World) → Setting last pass → Inv last pass on_newest none_bears prior w → Moves w v → Inv last pass on_newest none_bears prior v
keeps_move w v set (live wr l) (recordings.acts d a) = live_acts set wr l l.course d a
keeps_move w v set (live wr l) (recordings.answers c frame r d q a) = live_answers set wr l c frame r d q a l.course
keeps_move w v set (rejecting wr x) (recordings.acts d a) =
    let s = safe_acts x.safe a in
    rejecting (s.1 wr) (record { reply = x.reply; going = x.going; awaits = x.awaits; replied = x.replied; unlisted = x.unlisted; off_headers = x.off_headers; safe = s.0; unreported = x.unreported })
keeps_move w v set (rejecting wr x) (recordings.answers c frame r d q a) = answered_sent (sym x.replied ∙ q)
keeps_move w v set (spent wr x) (recordings.acts d (conduct.writes f rest y b free z)) = rests_still b free x.rests
keeps_move w v set (spent wr x) (recordings.acts d (conduct.fails f rest y b free z)) = rests_still b free x.rests
keeps_move w v set (spent wr x) (recordings.answers c frame r d q a) = none_sent (sym x.none ∙ q)
keeps_move w v set (over wr x) (recordings.acts d a) =
    let s = safe_acts x.safe a in
    over (s.1 wr) (record { ended = x.ended; final = x.final; none = x.none; safe = s.0; unreported = x.unreported })
keeps_move w v set (over wr x) (recordings.answers c frame r d q a) = none_sent (sym x.none ∙ q)

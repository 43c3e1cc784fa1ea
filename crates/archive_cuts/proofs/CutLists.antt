-- What the drive holds while a recording's session lives; and what every list keeps that the drive keeps by itself, whether the session lives or not. Assumes nothing.
use Prim.Native.Nat.{ℕ, ◌+◌, ◌≤◌}
use mathlib.Core.Path.{◌≡◌, refl, sym, ap, subst, ◌∙◌}
use mathlib.Core.Bool.{Bool, true, false}
use mathlib.Core.List.{List}
use mathlib.Core.Logic.{inl, inr, ⊎_elim}
use native.Mathlib.Omega.{arith}
use lib.Dec.{eqb}
use lib.ListN.{length}
use Rattle.geometry.proofs.PickLaws.{pick_by}
use Rattle.geometry.proofs.TestLaws.{and_true}
use Rattle.geometry.proofs.UserFrames.{ranges_user}
use Rattle.buffer.specs.Bytes.{agree}
use Rattle.drive.specs.Listed.{Listed, write_good}
use Rattle.drive.specs.declared.command.Command.{Command}
use Rattle.drive.specs.declared.command.Command.TheVariants.{Write}
use Rattle.drive.specs.declared.reply.Reply.{Reply}
use Rattle.copies.specs.declared.copies.Copies.{Copies}
use Rattle.copies.proofs.Counts.{CountsOf}
use Rattle.recording_state.specs.Accept.{filemark_of, block_of}
use Rattle.recording_state.specs.declared.state.State.{State}
use Rattle.recording_state.proofs.Kept.{Held, held_of}
use Rattle.archive_lists.specs.Conduct.{Drive, empty, stopped, Acts, moved}
use Rattle.archive_lists.specs.Tape.{Tape}
use Rattle.archive_lists.specs.Recordings as recordings
use Rattle.archive_lists.specs.Recordings.{World, Call, Calls, Moves, Runs, Element, Flight, accepted_after, with_drive}
use Rattle.archive_lists.proofs.tape.Stands.{Queue}
use Rattle.archive_lists.proofs.recording.Trailing.{Prior}
use Rattle.archive_lists.proofs.recording.HeaderCopies.{Carried}
use Rattle.archive_lists.proofs.recording.Setting.{Setting}
use Rattle.archive_lists.proofs.recording.CopiesLink as copies
use Rattle.archive_lists.proofs.recording.CopiesLink.{CopyLink, CopyAsks, CopyAnswered, Copying}
use Rattle.archive_lists.proofs.recording.CopiesMoves.{link_place_of}
use Rattle.archive_lists.proofs.recording.ElementsLink as elements
use Rattle.archive_lists.proofs.recording.ElementsLink.{edge_of, Linked, Asks, Answered, Writing}
use Rattle.archive_lists.proofs.recording.Invariant as inv
use Rattle.archive_lists.proofs.recording.Invariant.{Course, Live, Inv}
use Rattle.archive_lists.proofs.recording.ContentMoves.{most}
use Rattle.archive_lists.proofs.recording.Issued.{listed_live}
use Rattle.archive_lists.proofs.recording.Noted.{noted, calls_with, moves_with}
use Rattle.archive_lists.proofs.recording.DriveMoves.{Does, alters_nothing, takes_frame, goes_to, does, keeps_move}
use Rattle.archive_lists.proofs.recording.Calls.{keeps_call}
use Rattle.archive_cuts.specs.Cuts.{Throughout}
use Rattle.archive_cuts.proofs.Throughout.{at_first}
use Rattle.archive_cuts.proofs.HeldCopies as held
use Rattle.archive_cuts.proofs.HeldCopies.{NoElements, at_rest}
use Rattle.archive_cuts.proofs.Intact.{OnTape, Holds, no_elements, elements, InDrive, Intact, intact_grows, intact_acts}

-- ---- what a live session's drive holds

-- header copies
module _ {last pass : ℕ} {prior : Prior} where
  module _ (c : Copies) (d : Drive) (counts : CountsOf c) (spare : ℕ) (carried : Carried last pass prior spare c.header) where
    link_holds : {extra : ℕ} → CopyLink c d extra → NoElements last pass prior d
    link_holds l = held.copies (record { header = c.header; spare = spare; carried = carried; placed = link_place_of counts l; alike = l.alike })

    asks_holds : {x : Command} → CopyAsks c d x → NoElements last pass prior d
    asks_holds (copies.writes a p left l) = link_holds l
    asks_holds (copies.asks l) = link_holds l
    asks_holds (copies.seeks a p s) = at_rest s.rests

    answered_holds : {r : Reply} {x : Command} → CopyAnswered c d r x → NoElements last pass prior d
    answered_holds (copies.taken a m l) = link_holds l
    answered_holds (copies.counted m b l) = link_holds l
    answered_holds (copies.failed_write a m x p l) = link_holds l
    answered_holds (copies.failed_position m x p l) = link_holds l
    answered_holds (copies.moved a m p none_left fresh at s) = at_rest s.rests
    answered_holds (copies.waits x m a) = asks_holds a

  pub copying_holds : {s : State} {d : Drive} {f : Flight} → CountsOf s.copies → (spare : ℕ) → Carried last pass prior spare s.copies.header → Copying s d f → NoElements last pass prior d
  copying_holds {s} {d} n spare c (copies.at_place _ _ l) = link_holds s.copies d n spare c l
  copying_holds n spare c (copies.to_seek _ _ x) = at_rest x.rests
  copying_holds {s} {d} n spare c (copies.again _ _ x) = asks_holds s.copies d n spare c x
  copying_holds {s} {d} n spare c (copies.under_way _ _ _ _ _ _ x) = asks_holds s.copies d n spare c x
  copying_holds {s} {d} n spare c (copies.replied _ _ _ x) = answered_holds s.copies d n spare c x

-- elements and EOD
module _ {last pass : ℕ} {prior : Prior} (ps : List Element) (k edge : ℕ) where
  module _ (h : Held) (pending : ℕ) (d : Drive) (few : h.outstanding ≤ pending) (total : h.first.0 + pending ≤ length ps + 1) (queue : d.failed ≡ false → Queue last pass ps k d.buffer) where
    linked_holds : {extra : ℕ} → h.outstanding + extra ≤ pending → Linked last h d k edge extra → Holds last pass prior ps k edge d
    linked_holds {extra} low l = go d.failed refl
      where
        go : (b : Bool) → d.failed ≡ b → Holds last pass prior ps k edge d
        go true e = no_elements (at_rest (stopped e))
        go false e =
            elements (l.edge_is ∙ ap (λ (x : Bool). edge_of x d.at) e)
            (λ i below.
            let next_is = l.next_is in
            let known = l.known in
            let roof = l.roof in
            let spread = l.spread in
            ranges_user last (d.at + i) (⊎_elim (λ z. inl (omega arith, omega arith)) (λ z. inr (omega arith, omega arith)) l.zone))
            (omega (arith, l.taken_is)) (queue e)

    wanted_holds : {c : Command} → Asks last h pending d k edge c → Holds last pass prior ps k edge d
    wanted_holds (elements.writes a p due off low l) = linked_holds (omega arith) l
    wanted_holds (elements.asks l) = linked_holds (omega arith) l
    wanted_holds (elements.moves a p m) = no_elements (at_rest m.rests)

    replied_holds : {r : Reply} {c : Command} → Answered last h pending d k edge r c → Holds last pass prior ps k edge d
    replied_holds (elements.taken a m due l) = linked_holds (omega arith) l
    replied_holds (elements.counted m b l) = linked_holds (omega arith) l
    replied_holds (elements.failed_write a m x p l) = linked_holds (omega arith) l
    replied_holds (elements.failed_position m x p l) = linked_holds (omega arith) l
    replied_holds (elements.filled a m low l) = linked_holds (omega arith) l
    replied_holds (elements.moved a m none_left x p low s) = no_elements (at_rest s.rests)
    replied_holds (elements.waits c m a) = wanted_holds a

  writing_holds : {s : State} {d : Drive} {f : Flight} → s.elements.queue.outstanding ≤ s.elements.queue.pending → s.elements.queue.first.0 + s.elements.queue.pending ≤ length ps + 1 → (d.failed ≡ false → Queue last pass ps k d.buffer) → Writing last s d k edge f → Holds last pass prior ps k edge d
  writing_holds {s} {d} few total q (elements.at_place _ _ l) = linked_holds (held_of s) s.elements.queue.pending d few total q (omega (arith, few)) l
  writing_holds few total q (elements.to_locate _ _ _ m) = no_elements (at_rest m.rests)
  writing_holds {s} {d} few total q (elements.again _ _ x) = wanted_holds (held_of s) s.elements.queue.pending d few total q x
  writing_holds {s} {d} few total q (elements.under_way _ _ _ _ _ x) = wanted_holds (held_of s) s.elements.queue.pending d few total q x
  writing_holds {s} {d} few total q (elements.replied _ _ _ x) = replied_holds (held_of s) s.elements.queue.pending d few total q x

module _ (last pass : ℕ) (on_newest none_bears : Type 0) (prior : Prior) where
  live_holds : none_bears → (w : World) → Live last pass on_newest none_bears prior w → w.notes.unaltered ≡ true → InDrive last pass prior w.notes.accepted w.drive
  live_holds quiet w l u = record {
    list = l.list;
    k = l.k;
    edge = l.edge;
    ahead = l.floor.2;
    seen = (l.content quiet u).seen;
    holds = holds l.course;
  }
    where
      total : w.session.elements.queue.first.0 + w.session.elements.queue.pending ≤ length l.list + 1
      total = omega (arith, l.counted.numbered, most w.session.elements.eod (length l.list))

      holds : Course last (length l.list) w l.k l.edge → Holds last pass prior l.list l.k l.edge w.drive
      holds (inv.opening s _ _ a) = no_elements (copying_holds a.counts _ l.carried a.copying)
      holds (inv.writing s _ a) = writing_holds l.list l.k l.edge l.counted.held total ((l.outgoing (inl (quiet, u))).queue s) a
      holds (inv.closing s _ _ _ _ a) = no_elements (copying_holds a.counts _ l.carried a.copying)
      holds (inv.finished _ _ _ _ _ _ _ _ rests _) = no_elements (at_rest rests)

  -- ---- what is kept by every call, by a drive that acts or carries out a LOCATE, and where a frame is taken, which only a live session sends

  pub record Keeps (P : World → Type 0) (Q : Tape → Type 0) : Type 0 where
    pub call : {w v : World} {c : Call} → Calls w c v → P w → P v
    pub act : (w : World) (d : Drive) → Acts w.drive d → P w → P (with_drive w d w.flight)
    pub answer : (w : World) (f : Flight) → P w → P (with_drive w w.drive f)
    pub locate : (w : World) (a : ℕ) (f : Flight) → P w → P (with_drive w (moved w.drive a) f)
    pub take : (w : World) (d : Drive) (f : Flight) → d.tape ≡ w.drive.tape → Live last pass on_newest none_bears prior (with_drive w d f) → Q d.tape → P w → P (with_drive w d f)

  module _ {P : World → Type 0} {Q : Tape → Type 0} (set : Setting last pass) (keeps : Keeps P Q) where
    step_answer : (w : World) (c : Command) (frame : List ℕ) (r : Reply) (d : Drive) → w.flight ≡ recordings.sent c frame → Inv last pass on_newest none_bears prior w → Inv last pass on_newest none_bears prior (with_drive w d (recordings.answered r)) → Q d.tape
        → Does w.drive frame r c d → P w → P (with_drive w d (recordings.answered r))
    step_answer w c frame r d q i j holds (alters_nothing _) p = keeps.answer w (recordings.answered r) p
    step_answer w c frame r d q i j holds (takes_frame a m) p = keeps.take w d (recordings.answered r) refl (listed_live w c frame q i r (subst (Listed (Write a)) (sym m) write_good) d j) holds p
    step_answer w c frame r d q i j holds (goes_to a) p = keeps.locate w a.0 (recordings.answered r) p

    step_move : (w v : World) → Inv last pass on_newest none_bears prior w → Inv last pass on_newest none_bears prior v → Q v.drive.tape → Moves w v → P w → P v
    step_move w v i j holds (recordings.acts d a) p = keeps.act w d a p
    step_move w v i j holds (recordings.answers c frame r d q a) p = step_answer w c frame r d q i j holds (does a) p

    pub runs_kept : (earlier : List Element) (kept : Bool) {w v : World} {cs : List Call} → Inv last pass on_newest none_bears prior (noted earlier kept w) → P (noted earlier kept w) → (r : Runs w cs v) → Throughout Q r → P (noted earlier kept v)
    runs_kept earlier kept i p recordings.stop h = p
    runs_kept earlier kept i p (recordings.call c rest) h = let y = calls_with earlier kept c in runs_kept earlier kept (keeps_call _ _ _ set i y) (keeps.call y p) rest h.1
    runs_kept earlier kept i p (recordings.drive m rest) h =
        let y = moves_with earlier kept m in
        let j = keeps_move _ _ set i y in
        runs_kept earlier kept j (step_move _ _ i j (at_first Q rest h.1) y p) rest h.1

  -- ---- so a session and what was there before stay intact

  module _ (quiet : none_bears) (old : Tape) (large : 3000 ≤ last) where
    abbrev pub StaysIntact : World → Type 0
    StaysIntact w = w.notes.unaltered ≡ true → Intact last pass prior old w.notes.accepted w.drive

    accepts : (n : ℕ) (xs : List Element) (x : Element) (d : Drive) → Intact last pass prior old xs d → Intact last pass prior old (accepted_after n xs x) d
    accepts n xs x d b = pick_by (λ (ys : List Element). Intact last pass prior old ys d) (eqb n 0) (λ _. intact_grows x b) (λ _. b)

    calls_intact : {w v : World} {c : Call} → Calls w c v → StaysIntact w → StaysIntact v
    calls_intact (recordings.refuses c l h) b u = b u
    calls_intact {w} (recordings.accepts_block x lent te) b u = accepts (block_of w.session x lent).result.number w.notes.accepted (recordings.block x) w.drive (b (and_true w.notes.unaltered (agree lent w.window) u).0)
    calls_intact {w} (recordings.accepts_filemark te) b u = accepts (filemark_of w.session).number w.notes.accepted recordings.filemark w.drive (b u)
    calls_intact (recordings.closes te) b u = b u
    calls_intact {w} (recordings.fetches lent frame te) b u = b (and_true w.notes.unaltered (agree lent w.window) u).0
    calls_intact (recordings.replies r q te) b u = b u

    pub keeps_intact : Keeps StaysIntact (λ _. Unit {0})
    keeps_intact = record {
      call = calls_intact;
      act = λ w d a b u. intact_acts large (b u) d a;
      answer = λ w f b u. b u;
      locate = λ w a f b u.
          let x = (b u).in_drive in
          record { on_tape = (b u).on_tape; in_drive = record { list = x.list; k = x.k; edge = x.edge; ahead = x.ahead; seen = x.seen; holds = no_elements (at_rest (empty refl)) } };
      take = λ w d f same l _ b u. record { on_tape = subst (OnTape last pass prior old w.notes.accepted) (sym same) (b u).on_tape; in_drive = live_holds quiet (with_drive w d f) l u };
    }

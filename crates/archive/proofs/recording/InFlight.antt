-- What a WRITE that is with the drive says: by the invariant. Assumes nothing.
use Prim.Native.Nat.{ℕ, ◌+◌, ◌-◌, ◌≤◌, ◌<◌}
use mathlib.Core.Path.{◌≡◌, sym, ap, subst, ◌∙◌}
use mathlib.Core.Bool.{true}
use mathlib.Core.List.{List, []}
use mathlib.Core.Logic.{inl, inr, ⊎_elim}
use mathlib.Core.Option.{Option}
use native.Mathlib.Decide.{dec_le}
use native.Mathlib.Omega.{arith}
use lib.Dec.{lit<}
use lib.ListN.{length, get_or, drop}
use Rattle.geometry.specs.Cartridge.{is_user, is_header}
use Rattle.geometry.specs.declared.address.Address.{Address}
use Rattle.geometry.proofs.Impossible.{clash}
use Rattle.geometry.proofs.UserFrames.{ranges_user, header_not_user}
use Rattle.buffer.specs.Bytes.{get16, get32}
use Rattle.frame.specs.Aux.{header_aux}
use Rattle.frame.specs.Header.{header_frame}
use Rattle.frame.specs.declared.header.Header.{Header}
use Rattle.frame.specs.declared.element.Kind.{Kind}
use Rattle.frame.specs.declared.element.Kind.TheVariants.{Marker}
use Rattle.frame.proofs.AuxFields.{aux_pass, aux_seq, aux_filemarks, aux_marker}
use Rattle.frame.proofs.Frames.{header_length, header_aux_lem}
use Rattle.judgement.specs.Judgement.{found_said}
use Rattle.judgement.proofs.Facts.{FoundAs}
use Rattle.judgement.proofs.JudgeLaws.{other_pass}
use Rattle.drive.specs.declared.command.Command.TheVariants.{Write}
use Rattle.recording_state.proofs.Kept.{held_of}
use Rattle.recording_state.proofs.Stages.{ElementStage}
use Rattle.archive_lists.specs.Tape.{Tape}
use Rattle.archive_lists.specs.Recordings as recordings
use Rattle.archive_lists.specs.Recordings.{World, Element, promised}
use Rattle.archive_lists.specs.Filemarks.{item_at, kind_for, filemarks_among, latest_among, NamesLatest, sequence_number, marker_named}
use Rattle.archive.specs.Trails.{IsFrame, FrameOn, StandsAt, on_tape, held, StandsSomewhere, HeaderGoesOut, ElementGoesOut, InFlight}
use Rattle.archive_lists.proofs.tape.Marks.{is_filemark, kind_marker, latest_map}
use Rattle.archive_lists.proofs.tape.Stands.{telling}
use Rattle.archive_lists.proofs.tape.Judged.{judged_so}
use Rattle.archive_lists.proofs.tape.Basics.{none_sent, answered_sent}
use Rattle.archive_lists.proofs.recording.CopiesLink as copies
use Rattle.archive_lists.proofs.recording.CopiesLink.{Copying}
use Rattle.archive_lists.proofs.recording.CopiesMoves.{next_header}
use Rattle.archive_lists.proofs.recording.ContentMoves.{most}
use Rattle.archive_lists.proofs.recording.ElementsLink as elements
use Rattle.archive_lists.proofs.recording.ElementsLink.{Linked, Writing}
use Rattle.archive_lists.proofs.recording.Invariant as inv
use Rattle.archive_lists.proofs.recording.Invariant.{Course, Live, Inv, live, rejecting, spent, over}
use Rattle.archive_lists.proofs.recording.Setting.{Setting}
use Rattle.archive_lists.proofs.recording.Trailing as trailing
use Rattle.archive_lists.proofs.recording.Trailing.{Prior, MarkerBelow, Place, Buffered, holds, halted}
use Rattle.archive_lists.proofs.recording.TrailingLaws.{frames_at}

-- ---- markers

is_frame : {last pass j : ℕ} {kind : Kind} {f : List ℕ} → FoundAs (telling last pass 0) (record { 0 = j }) kind f → IsFrame last pass kind j f
is_frame x = record { number = x.number; current = judged_so x }

pub marker_on : {last pass edge : ℕ} {t : Tape} {j a : ℕ} → MarkerBelow last pass edge t j a → FrameOn last pass t Marker j a
marker_on m = record { frame = m.frame; user = m.user; reads = m.reads; is = is_frame m.found }

-- a name of the latest filemark by another reckoning of which that is
pub names_alike : (IsAt : ℕ → ℕ → Type 0) (name : ℕ) {o p : Option ℕ} → o ≡ p → NamesLatest o IsAt name → NamesLatest p IsAt name
names_alike IsAt name e x = subst (λ (q : Option ℕ). NamesLatest q IsAt name) e x

-- ---- a WRITE in flight

never_highest : (pass : ℕ) → pass ≤ 65534 → 0xFFFF ≡ pass → ⊥
never_highest pass low e = omega arith

-- a header's AUX, whose pass is no session's
header_sent : {last pass : ℕ} (h : Header) → pass ≤ 65534 → HeaderGoesOut last pass (header_frame h)
header_sent {last} {pass} h low =
    let aux = header_aux h.update h.old in
    let bears : get16 (drop 32768 (header_frame h)) 22 ≡ 0xFFFF = ap (λ (x : List ℕ). get16 x 22) (header_aux_lem h) ∙ aux_pass aux (lit< tt) in
    record {
      number = ap (λ (x : List ℕ). get32 x 44) (header_aux_lem h) ∙ aux_seq aux (lit< tt);
      counts = ap (λ (x : List ℕ). get32 x 192) (header_aux_lem h) ∙ aux_filemarks aux (lit< tt);
      names = ap (λ (x : List ℕ). get32 x 200) (header_aux_lem h) ∙ aux_marker aux (lit< tt);
      passed_over = other_pass _ _ _ (header_frame h) (header_length h) (λ z. never_highest pass low (sym bears ∙ z));
    }

-- the drive, which is at this address and has k on tape, holds marker j behind those before it
place_held : (k at j a : ℕ) → k ≤ j → a + k ≡ at + j → a ≡ at + (j - k)
place_held k at j a g e = omega arith

-- and a frame is numbered behind the i-th of those that it holds
behind_held : (k i size before n number : ℕ) → before ≡ k + i → n ≡ k + size → n ≡ number → before + size ≡ number + i
behind_held k i size before n number e f g = omega arith

module _ {last pass : ℕ} {on_newest none_bears : Type 0} {prior : Prior} (w : World) (set : Setting last pass) (l : Live last pass on_newest none_bears prior w) (a : Address) (f : List ℕ) (q : w.flight ≡ recordings.sent (Write a) f) where
  copying_puts : Copying w.session w.drive (recordings.sent (Write a) f) → a.0 ≡ w.drive.at + length w.drive.buffer
  copying_puts (copies.under_way _ _ _ _ _ _ (copies.writes _ p left x)) = let next_is = x.next_is in omega arith

  copying_header : Copying w.session w.drive (recordings.sent (Write a) f) → is_header a.0 ≡ true
  copying_header (copies.under_way _ _ _ _ _ _ (copies.writes _ p left x)) = subst (λ (n : ℕ). is_header n ≡ true) (sym p) (next_header w.session.copies left)

  copying_sent : Copying w.session w.drive (recordings.sent (Write a) f) → HeaderGoesOut last pass f
  copying_sent (copies.under_way _ _ _ _ _ is _) = subst (HeaderGoesOut last pass) (sym is) (header_sent w.session.copies.header set.low)

  -- number j, which the drive holds, is among its frames, which are for user frames
  held_at : Linked last (held_of w.session) w.drive l.k l.edge 0 → Buffered last pass prior l.list w.session.elements w.drive l.k l.edge → (j b : ℕ) → l.k ≤ j → j < l.k + length w.drive.buffer
      → b + l.k ≡ w.drive.at + j → StandsAt last pass w.drive (kind_for (item_at l.list j)) j b
  held_at x (halted _ z) j b g h e = clash z x.placed
  held_at x (holds _ fs) j b g h e =
      let i = j - l.k in
      let there : l.k + i ≡ j = omega arith in
      let found = (frames_at last pass l.list _ l.k w.drive.buffer i (omega arith) fs).found in
      held i (omega arith) (place_held l.k w.drive.at j b g e) user
      (is_frame (subst (λ (n : ℕ). FoundAs (telling last pass 0) (record { 0 = n }) (kind_for (item_at l.list n)) (get_or w.drive.buffer i [])) there found))
    where
      user : is_user last b ≡ true
      user =
          let next_is = x.next_is in
          let known = x.known in
          let roof = x.roof in
          let spread = x.spread in
          ranges_user last b (⊎_elim (λ z. inl (omega arith, omega arith)) (λ z. inr (omega arith, omega arith)) x.zone)

  stands_at : ElementStage w.session → Linked last (held_of w.session) w.drive l.k l.edge 0 → (j b : ℕ) → j < l.k + length w.drive.buffer → is_filemark l.list j ≡ true → Place prior last pass l.k w.drive.at l.edge w.drive.tape j b
      → (j < prior.base → prior.same) → StandsAt last pass w.drive Marker j b
  stands_at st x j b h m (trailing.on_tape _ y) s = on_tape (marker_on (y.there s))
  stands_at st x j b h m (trailing.to_come g e) s =
      subst (λ (k : Kind). StandsAt last pass w.drive k j b) (kind_marker l.list j m) (held_at x (l.trailing.queue st) j b g h e)

  -- each number of the session's before those that the drive holds is on tape
  stands_before : ElementStage w.session → Linked last (held_of w.session) w.drive l.k l.edge 0 → (j : ℕ) → prior.base ≤ j → j < l.k + length w.drive.buffer
      → StandsSomewhere last pass w.drive (kind_for (item_at l.list j)) j
  stands_before st x j own h = go (dec_le l.k j)
    where
      go : Dec (l.k ≤ j) → StandsSomewhere last pass w.drive (kind_for (item_at l.list j)) j
      go (yes g) = let spread = x.spread in record { place = w.drive.at + (j - l.k); there = held_at x (l.trailing.queue st) j (w.drive.at + (j - l.k)) g h (omega arith) }
      go (no g) =
          let y = l.trailing.written j own (omega arith) in
          let z = y.there in
          record { place = y.place; there = on_tape (record { frame = z.frame; user = z.user; reads = z.reads; is = is_frame z.found }) }

  abbrev xs : List Element
  xs = l.list

  -- the frames that the drive holds are numbered from k on
  numbered_at : ElementStage w.session → Linked last (held_of w.session) w.drive l.k l.edge 0 → (i : ℕ) → i < length w.drive.buffer → sequence_number (get_or w.drive.buffer i []) ≡ l.k + i
  numbered_at st x i h = go (l.trailing.queue st)
    where
      go : Buffered last pass prior xs w.session.elements w.drive l.k l.edge → sequence_number (get_or w.drive.buffer i []) ≡ l.k + i
      go (halted _ z) = clash z x.placed
      go (holds _ fs) = (frames_at last pass xs _ l.k w.drive.buffer i h fs).found.number

  element_out : ElementStage w.session → Writing last w.session w.drive l.k l.edge (recordings.sent (Write a) f) → ElementGoesOut last pass prior.base xs w.drive prior.same a.0 f
  element_out st (elements.under_way _ _ _ _ _ (elements.writes _ p due off low x)) =
      let n = w.session.elements.queue.first.0 + w.session.elements.queue.outstanding in
      let taken_is = x.taken_is in
      let next_is = x.next_is in
      let spread = x.spread in
      let from = l.trailing.from in
      let numbered = l.counted.numbered in
      let least = most w.session.elements.eod (length xs) in
      let says = l.trailing.sent a f st q in
      let number : n ≡ sequence_number f = sym says.found.number in
      let here : a.0 ≡ w.session.elements.course.next.0 = ap (λ (y : Address). y.0) p in
      record {
        user = subst (λ (b : ℕ). is_user last b ≡ true) (sym here) (ranges_user last w.session.elements.course.next.0 (⊎_elim (λ z. inl (omega arith, omega (arith, off))) (λ z. inr (omega arith, low)) x.zone));
        own = omega arith;
        among = omega arith;
        in_turn = λ i h. behind_held l.k i (length w.drive.buffer) _ n (sequence_number f) (numbered_at st x i h) (omega arith) number;
        before = λ j own h. stands_before st x j own (omega arith);
        is = judged_so says.found ∙ ap (λ (m : ℕ). found_said (kind_for (item_at xs m))) number;
        counts = says.counts ∙ ap (filemarks_among xs) number;
        names =
            names_alike _ (marker_named f) (ap (latest_among xs) number)
            (latest_map xs n _ _ (marker_named f) (λ j h m y s. stands_at st x j (marker_named f) (omega arith) m y s) says.names);
      }

  abbrev Out : Type 0
  Out = InFlight last pass prior.base xs w.drive prior.same a.0 f

  writing_puts : Writing last w.session w.drive l.k l.edge (recordings.sent (Write a) f) → a.0 ≡ w.drive.at + length w.drive.buffer
  writing_puts (elements.under_way _ _ _ _ _ (elements.writes _ p due off low x)) = let next_is = x.next_is in let here = ap (λ (y : Address). y.0) p in omega arith

  header_out : Copying w.session w.drive (recordings.sent (Write a) f) → Out
  header_out c = record { puts = copying_puts c; header = λ _. copying_sent c; element = λ off. clash (copying_header c) off }

  live_out : Course last (length l.list) w l.k l.edge → Out
  live_out (inv.opening _ _ _ c) = header_out (subst (Copying w.session w.drive) q c.copying)
  live_out (inv.writing st _ x) = let y = subst (Writing last w.session w.drive l.k l.edge) q x in let out = element_out st y in record { puts = writing_puts y; header = λ at. absurd (header_not_user last a.0 at out.user); element = λ _. out }
  live_out (inv.closing _ _ _ _ _ c) = header_out (subst (Copying w.session w.drive) q c.copying)
  live_out (inv.finished _ _ _ _ _ none _ _ _ _) = none_sent (sym none ∙ q)

-- and the elements that there were before are among those that are promised
pub goes_out : {last pass : ℕ} {on_newest none_bears : Type 0} {prior : Prior} (w : World) → Setting last pass → Inv last pass on_newest none_bears prior w → (a : Address) (f : List ℕ) → w.flight ≡ recordings.sent (Write a) f
    → InFlight last pass prior.base (promised w.notes) w.drive prior.same a.0 f × (prior.base ≤ length (promised w.notes))
goes_out {last} {pass} {prior = prior} w set (live _ l) a f q =
    subst (λ (ys : List Element). InFlight last pass prior.base ys w.drive prior.same a.0 f × (prior.base ≤ length ys)) l.promises.is (live_out w set l a f q l.course, l.floor.1)
goes_out w set (rejecting _ x) a f q = answered_sent (sym x.replied ∙ q)
goes_out w set (spent _ x) a f q = none_sent (sym x.none ∙ q)
goes_out w set (over _ x) a f q = none_sent (sym x.none ∙ q)

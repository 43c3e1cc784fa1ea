-- Each WRITE's frame names where the latest filemark before it stands, and so does each frame on a cartridge that a chain left. Assumes nothing.
use Prim.Native.Nat.{ℕ, ◌^◌, ◌≤◌, ◌<◌}
use mathlib.Core.Path.{◌≡◌, refl, sym, ap, subst, ◌∙◌}
use mathlib.Core.Bool.{true, true≢false}
use mathlib.Core.List.{List, [], ◌++◌}
use mathlib.Core.Logic.{◌⊎◌, inl, inr, ⊎_elim}
use mathlib.Core.Option.{some}
use native.Mathlib.Decide.{ℕ_discrete, dec_le}
use native.Mathlib.Omega.{arith}
use lib.ListN.{length, take}
use lib.Seq.{length-take-le}
use Rattle.geometry.specs.Place.{address}
use Rattle.geometry.specs.Cartridge.{last_of, is_user}
use Rattle.geometry.specs.declared.address.Address.{Address}
use Rattle.geometry.specs.declared.cartridge.Geometry.{Geometry}
use Rattle.geometry.proofs.Impossible.{never}
use Rattle.geometry.proofs.Last.{frames_of_lem}
use Rattle.frame.specs.declared.element.Kind.TheVariants.{Data, Marker, Eod}
use Rattle.frame.specs.declared.element.Kind.{Kind}
use Rattle.header.specs.Valid.{header_of}
use Rattle.header.proofs.Facts.{valid_last}
use Rattle.frame.specs.declared.header.Header.{Header}
use Rattle.judgement.proofs.JudgeLaws.{found_told}
use Rattle.judgement.specs.Judgement as judgement
use Rattle.judgement.specs.Judgement.{JudgementSaid, found_said}
use Rattle.judgement.proofs.Facts.{FoundAs}
use Rattle.judgement.proofs.JudgeView.{found_kind}
use Rattle.drive.specs.declared.command.Command.TheVariants.{Write}
use Rattle.recording_state.specs.declared.state.State.{State}
use Rattle.archive_lists.specs.Tape.{Tape, Cartridge, SameFrames}
use Rattle.archive_lists.specs.Conduct.{Drive}
use Rattle.archive_lists.specs.Headers.{Newest}
use Rattle.archive_lists.specs.Recordings as recordings
use Rattle.archive_lists.specs.Recordings.{World, Element, promised}
use Rattle.archive.specs.Recorded.{HasRecorded}
use Rattle.archive.specs.Chain.{Start, fresh, added, earlier_of, pass_of, OnItsNewest, AsItStands, Closed, Way, afresh, adding, way_of, Chain, first, more, none}
use Rattle.archive_lists.specs.Filemarks.{item_at, kind_for, sequence_number, marker_named}
use Rattle.archive.specs.Trails.{FrameOn, InFlight, WritesNameMarkers, Trails, ChainsNameMarkers}
use Rattle.archive_lists.proofs.tape.Marks.{filemarks_alike, latest_alike, latest_map}
use Rattle.archive_lists.proofs.tape.Stands.{telling}
use Rattle.archive_lists.proofs.tape.Judged.{judged_so, found_back, kind_same}
use Rattle.archive_lists.proofs.tape.Basics.{some_same}
use Rattle.archive_lists.proofs.tape.StandsLaws.{item_take}
use Rattle.archive_lists.proofs.tape.Ended.{element_delivered}
use Rattle.archive_lists.proofs.recording.Invariant.{Inv, live, rejecting, spent, over}
use Rattle.archive_lists.proofs.tape.Closed.{user_within}
use Rattle.archive_lists.proofs.recording.Setting.{Leaves}
use Rattle.archive_lists.proofs.recording.Start.{pass_is}
use Rattle.archive_lists.proofs.recording.Noted.{noted}
use Rattle.archive_lists.proofs.recording.Trailing as trailing
use Rattle.archive_lists.proofs.recording.Trailing.{Prior, MarkerBelow, TapeTrails}
use Rattle.archive.specs.WorstCase.{start_of}
use Rattle.archive.proofs.Continued.{kept_after, pass_kept, markers_low, start_kept, headers, left_whole, promised_behind, read_behind}
use Rattle.archive.proofs.Chain.{nothing_whole, Left, Held, held_behind, closed_leaves, closed_count, closed_left, earlier_is, as_left}
use Rattle.archive.proofs.recording.InFlight.{names_alike, marker_on, goes_out}

-- ---- the tape

-- what a frame on a tape says, where the read elements are the first of all that were accepted, those promised and at most one more
module _ {last pass base : ℕ} {none_bears : Type 0} {t : Tape} {ps xs : List Element} (large : 3000 ≤ last) (l : Leaves last pass base none_bears t ps xs) (bears : none_bears) where
  abbrev count : ℕ
  count = l.reads.count

  abbrev told : Header
  told = (header_of l.headers.header)

  last_is : told.last.0 ≡ last
  last_is = valid_last last l.headers.header l.headers.newest.here.valid

  size : length (take count xs) ≡ count
  size = length-take-le count xs l.reads.within

  alike : (i : ℕ) → i < count → item_at (take count xs) i ≡ item_at xs i
  alike i h = item_take xs count i h

  -- EOD, and nothing above it
  at_end : {kind : Kind} {i : ℕ} {f : List ℕ} → t l.headers.end_at ≡ some f → FoundAs (telling last pass 0) (record { 0 = i }) kind f → kind ≡ Eod
  at_end {kind} {i} {f} r q = kind_same q (subst (FoundAs (telling last pass 0) (record { 0 = length ps }) Eod) (some_same (sym l.headers.ends.reads ∙ r)) l.headers.ends.stands.found)

  below_end : {kind : Kind} (a i : ℕ) (f : List ℕ) → is_user last a ≡ true → t a ≡ some f → FoundAs (telling last pass 0) (record { 0 = i }) kind f → (kind ≡ Eod → ⊥) → a < l.headers.end_at
  below_end a i f u r q element = go (ℕ_discrete a l.headers.end_at) (dec_le a l.headers.end_at)
    where
      go : Dec (a ≡ l.headers.end_at) → Dec (a ≤ l.headers.end_at) → a < l.headers.end_at
      go (yes same) _ = absurd (element (at_end (sym (ap t same) ∙ r) q))
      go (no other) (yes low) = omega arith
      go (no other) (no high) = absurd (l.headers.ends.above bears a f (omega arith) u r q.typed.written)

  -- an element's frame is of one that is read
  delivered : (kind : Kind) (a i : ℕ) (f : List ℕ) → is_user last a ≡ true → t a ≡ some f → FoundAs (telling last pass 0) (record { 0 = i }) kind f → (kind ≡ Eod → ⊥) → i < count
  delivered kind a i f u r q element =
      let below = below_end a i f u r q element in
      let h =
      element_delivered told t (take count xs) l.headers.end_at (left_whole l l.headers.header l.headers.newest) a i f kind (subst (λ (n : ℕ). is_user n a ≡ true) (sym last_is) u)
      (subst (λ (n : ℕ). a ≤ n) (sym last_is) (user_within last a large u)) below r
      (found_told (telling last pass 0) told (sym last_is) (sym (l.headers.passes l.headers.header l.headers.newest)) q) element in
      omega (arith, size)

  is_read : {kind : Kind} (a i : ℕ) (f : List ℕ) → is_user last a ≡ true → t a ≡ some f → FoundAs (telling last pass 0) (record { 0 = i }) kind f → kind ≡ kind_for (item_at xs i) → (kind ≡ kind_for (item_at (take count xs) i)) ⊎ (kind ≡ Eod)
  is_read {kind} a i f u r q e = go kind q e
    where
      element : (k : Kind) → FoundAs (telling last pass 0) (record { 0 = i }) k f → (k ≡ Eod → ⊥) → k ≡ kind_for (item_at xs i) → (k ≡ kind_for (item_at (take count xs) i)) ⊎ (k ≡ Eod)
      element k q other e = inl (e ∙ ap kind_for (sym (alike i (delivered k a i f u r q other))))

      go : (k : Kind) → FoundAs (telling last pass 0) (record { 0 = i }) k f → k ≡ kind_for (item_at xs i) → (k ≡ kind_for (item_at (take count xs) i)) ⊎ (k ≡ Eod)
      go Data q e = element Data q (λ z. never (cc)) e
      go Marker q e = element Marker q (λ z. never (cc)) e
      go Eod q e = inr refl

  trails_so : {k edge : ℕ} → TapeTrails last pass ps xs k edge t → Trails last pass (take count xs) t
  trails_so {k} {edge} x a f kind u r q =
      let i = sequence_number f in
      let found = found_back last pass f kind q in
      let y = x a i f kind u r found in
      let few = y.among in
      let least = l.reads.least in
      record {
        among = omega (arith, size);
        is = ⊎_elim (λ z. ⊎_elim (λ v. inl (q ∙ ap found_said v)) (λ v. inr (q ∙ ap found_said v)) (is_read a i f u r found z)) (λ z. inr (q ∙ ap found_said z)) y.is;
        counts = y.counts ∙ sym (filemarks_alike xs (take count xs) i (λ j h. alike j (omega arith)));
        names = names_alike _ (marker_named f) (sym (latest_alike xs (take count xs) i (λ j h. alike j (omega arith))))
            (latest_map xs i (MarkerBelow last pass edge t) _ (marker_named f) (λ j _ _ m. marker_on m) y.names);
      }

-- of any judgement, since comparing that of a frame with itself takes seconds
kind_said : {j : JudgementSaid} (k kind : Kind) → j ≡ found_said kind → (j ≡ found_said k) ⊎ (j ≡ judgement.end) → (kind ≡ k) ⊎ (kind ≡ Eod)
kind_said k kind said (inl z) = inl (found_kind k kind (sym said ∙ z))
kind_said k kind said (inr z) = inr (found_kind Eod kind (sym said ∙ z))

-- where current markers are below an address
so_trails : {last pass : ℕ} {xs : List Element} {t : Tape} (edge : ℕ) → ((j b : ℕ) (f : List ℕ) → is_user last b ≡ true → t b ≡ some f → FoundAs (telling last pass 0) (record { 0 = j }) Marker f → b < edge) → Trails last pass xs t → TapeTrails last pass xs xs (length xs) edge t
so_trails {last} {pass} {xs} {t} edge low x a i f kind u r q =
    subst (λ (n : ℕ). trailing.TapeSays last pass xs xs (length xs) edge t n kind f) q.number
    (let y = x a f kind u r (judged_so q) in
    let said = judged_so q in
    record { among = y.among; upto = y.among; is = kind_said _ kind said y.is; counts = y.counts; names = latest_map xs (sequence_number f) _ (MarkerBelow last pass edge t) (marker_named f) (λ j _ _ m. below j (marker_named f) m) y.names })
  where
    below : (j b : ℕ) → FrameOn last pass t Marker j b → MarkerBelow last pass edge t j b
    below j b m =
        let z = subst (λ (n : ℕ). FoundAs (telling last pass 0) (record { 0 = n }) Marker m.frame) m.is.number (found_back last pass m.frame Marker m.is.current) in
        record { frame = m.frame; user = m.user; low = low j b m.frame m.user m.reads z; reads = m.reads; found = z }

-- what the invariant has of it at a done close
record Says (last pass : ℕ) (ps xs : List Element) (t : Tape) : Type 0 where
  k : ℕ
  edge : ℕ
  trails : TapeTrails last pass ps xs k edge t

tape_says : {last pass : ℕ} {on_newest none_bears : Type 0} {prior : Prior} (w : World) → Inv last pass on_newest none_bears prior w → w.notes.reported ≡ true → prior.same → prior.trailed → Says last pass (promised w.notes) w.notes.accepted w.drive.tape
tape_says {last} {pass} w (live _ l) reported same trailed = record { k = l.k; edge = l.edge; trails = subst (λ (ps : List Element). TapeTrails last pass ps w.notes.accepted l.k l.edge w.drive.tape) l.promises.is (l.trailing.tape same trailed) }
tape_says w (rejecting _ x) reported same trailed = absurd (true≢false (sym reported ∙ x.unreported))
tape_says w (spent _ x) reported same trailed = absurd (true≢false (sym reported ∙ x.unreported))
tape_says w (over _ x) reported same trailed = absurd (true≢false (sym reported ∙ x.unreported))

-- ---- both statements

module _ (g : Geometry) (last : ℕ) (seg : g.segtrk < 2 ^ 16) (trk : g.trks < 2 ^ 16) (e : last_of g ≡ address last) where
  pass_so : (s : State) (b : Start g last s) → s.copies.header.pass ≡ pass_of b
  pass_so s (fresh depth blocks tail o q) = pass_is g last depth blocks tail s e o q
  pass_so s (added depth blocks tail u h r read q) = sym (pass_kept g last seg trk e s depth blocks tail u h r read q)

  writes : (d : Drive) (s : State) (b : Start g last s) (w : recordings.World) → HasRecorded g last d s w → (a : Address) (frame : List ℕ) → w.flight ≡ recordings.sent (Write a) frame
      → InFlight last (pass_of b) (length (earlier_of b)) (earlier_of b ++ promised w.notes) w.drive (AsItStands b d.tape) a.0 frame
  writes d s b w x a frame q =
      let k = kept_after g last d w s b x in
      let out = goes_out (noted (earlier_of b) true w) k.set k.whole a frame q in
      subst (λ (n : ℕ). InFlight last n (length (earlier_of b)) (earlier_of b ++ promised w.notes) w.drive (AsItStands b d.tape) a.0 frame) (pass_so s b)
      (subst (λ (ys : List Element). InFlight last s.copies.header.pass (length (earlier_of b)) ys w.drive (AsItStands b d.tape) a.0 frame) (promised_behind (earlier_of b) true w out.1) out.0)

  abbrev TrailsOn : Tape → List Element → Type 0
  TrailsOn t xs = (h : List ℕ) → Newest last t h → Trails last (header_of h).pass xs t

  closed_trails : (d : Drive) (s : State) (b : Start g last s) (w : recordings.World) (cart : Cartridge last d.tape) (c : Closed g last d s b w)
      → TapeTrails last s.copies.header.pass (earlier_of b) (earlier_of b) (length (earlier_of b)) (start_of b) d.tape → TrailsOn w.drive.tape (earlier_of b ++ take (closed_count g last seg trk e d s b w cart c) w.notes.accepted)
  closed_trails d s b w cart c trailed h n =
      let k = start_kept g last seg trk e d c.window c.calls w cart c.unwritten c.rests s b c.runs in
      let l = closed_leaves g last seg trk e d s b w cart c in
      subst (λ (m : ℕ). Trails last m (earlier_of b ++ take (closed_count g last seg trk e d s b w cart c) w.notes.accepted) w.drive.tape) (sym ((headers k c.on_newest c.reported).passes h n))
      (subst (λ (ys : List Element). Trails last s.copies.header.pass ys w.drive.tape) (read_behind (earlier_of b) w l)
      (trails_so (frames_of_lem g last e).large l (c.as_it_stands, c.none_in_the_way) (tape_says (noted (earlier_of b) true w) k.whole c.reported c.as_it_stands trailed).trails))

  -- where nothing bore the pass nothing is current
  fresh_trailed : (d : Drive) (s : State) (b : Start g last s) (w : recordings.World) → way_of b ≡ afresh → Closed g last d s b w → TapeTrails last s.copies.header.pass (earlier_of b) (earlier_of b) (length (earlier_of b)) (start_of b) d.tape
  fresh_trailed d s (fresh depth blocks tail o q) w is c = λ a i f kind u r x. absurd (c.none_in_the_way a f u r (x.typed.written ∙ pass_is g last depth blocks tail s e o q))
  fresh_trailed d s (added depth blocks tail u h r read q) w is c = never (cc)

  added_trailed : (t : Tape) (xs : List Element) → TrailsOn t xs → (d : Drive) (s : State) (b : Start g last s) (w : recordings.World) → way_of b ≡ adding → SameFrames last t d.tape → OnItsNewest b t → earlier_of b ≡ xs
      → Closed g last d s b w → TapeTrails last s.copies.header.pass (earlier_of b) (earlier_of b) (length (earlier_of b)) (start_of b) d.tape
  added_trailed t xs before d s (fresh depth blocks tail o q) w is same on got c = never (cc)
  added_trailed t xs before d s (added depth blocks tail u h r read q) w is same on got c =
      subst (λ (m : ℕ). TapeTrails last m r.notes.deliveries r.notes.deliveries (length r.notes.deliveries) (start_of (added depth blocks tail u h r read q)) d.tape) (pass_kept g last seg trk e s depth blocks tail u h r read q)
      (subst (λ (ys : List Element). TapeTrails last (header_of h).pass ys ys (length ys) (start_of (added depth blocks tail u h r read q)) d.tape) (sym got)
      (so_trails (start_of (added depth blocks tail u h r read q)) (markers_low g last seg trk e s depth blocks tail u h r read q d.tape c.as_it_stands c.none_in_the_way) (trails_same (before h on))))
    where
      trails_same : Trails last (header_of h).pass xs t → Trails last (header_of h).pass xs d.tape
      trails_same x a f kind us v cur =
          let y = x a f kind us (same a us ∙ v) cur in
          record {
            among = y.among;
            is = y.is;
            counts = y.counts;
            names = latest_map xs (sequence_number f) _ _ (marker_named f)
                (λ j _ _ m. record { frame = m.frame; user = m.user; reads = sym (same (marker_named f) m.user) ∙ m.reads; is = m.is }) y.names;
          }

  -- what a chain holds, and what its frames say of that
  record Trailing (t : Tape) (xs : List Element) (ns : List recordings.Notes) : Type 0 where
    held : Held g last t xs ns
    trails : TrailsOn t held.reads.elements

  chain_trails : {way : Way} {t : Tape} {xs : List Element} {ns : List recordings.Notes} → Chain g last way t xs ns → way ≡ afresh → Trailing t xs ns
  chain_trails (first d s b w cart is c) began = record {
    held = held_behind g last w.drive.tape (earlier_of b) [] (earlier_of b) w.notes _ none (nothing_whole (earlier_of b)) (closed_left g last seg trk e d s b w cart c);
    trails = closed_trails d s b w cart c (fresh_trailed d s b w (is ∙ began) c);
  }
  chain_trails (more t xs ns before d s b w cart is same on c) began =
      let x = chain_trails before began in
      let h = x.held in
      let got = earlier_is g last seg trk e t xs ns h s b is on (as_left g last seg trk e t d.tape s b same c.as_it_stands) in
      record {
        held = held_behind g last w.drive.tape xs ns h.reads.elements w.notes _ h.reads.together h.reads.whole
            (subst (λ (ys : List Element). Left g last w.drive.tape ys w.notes (closed_count g last seg trk e d s b w cart c)) got (closed_left g last seg trk e d s b w cart c));
        trails = subst (λ (ys : List Element). TrailsOn w.drive.tape (ys ++ take (closed_count g last seg trk e d s b w cart c) w.notes.accepted)) got
            (closed_trails d s b w cart c (added_trailed t h.reads.elements x.trails d s b w is same on got c));
      }

pub writes_name_markers : WritesNameMarkers
unfolding WritesNameMarkers
writes_name_markers g last d s b w recorded = writes g last recorded.sized.segtrk recorded.sized.trks recorded.sized.is_last d s b w recorded

pub chains_name_markers : ChainsNameMarkers
unfolding ChainsNameMarkers
chains_name_markers g last t xs ns sized c = let x = chain_trails g last sized.segtrk sized.trks sized.is_last c refl in record { reads = x.held.reads; trails = x.trails }

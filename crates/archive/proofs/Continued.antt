-- What holds after any calls of a recording, however the session was opened: by the invariant. Assumes nothing.
use Prim.Native.Nat.{ℕ, zero, suc, ◌+◌, ◌-◌, ◌^◌, ◌≤◌, ◌<◌}
use mathlib.Core.Path.{◌≡◌, refl, sym, ap, subst, ◌∙◌}
use mathlib.Core.Bool.{Bool, true, false, not, true≢false}
use mathlib.Core.List.{List, [], ◌∷◌, ◌++◌}
use mathlib.Core.Logic.{⊎_elim}
use mathlib.Core.Option.{some}
use native.Mathlib.Nat.{eq-or-lt_of_le, not-suc-le-zero, le_of_suc-le-suc}
use native.Mathlib.Omega.{arith}
use borrow.Author.Tests.{eq-eqb, ne_eqb}
use lib.Dec.{eqb}
use lib.ListN.{length, take, length-append}
use lib.Seq.{take-length, length-take-le}
use Rattle.geometry.specs.Place.{address}
use Rattle.geometry.specs.Cartridge.{last_of, is_user}
use Rattle.geometry.specs.declared.cartridge.Geometry.{Geometry}
use Rattle.geometry.proofs.Last.{frames_of_lem, last_small}
use Rattle.geometry.proofs.TestLaws.{neither}
use Rattle.frame.specs.declared.element.Kind.TheVariants.{Marker}
use Rattle.frame.specs.declared.header.Header.{Header}
use Rattle.header.specs.Valid.{header_of, update_of}
use Rattle.header.proofs.Facts.{valid_last, valid_pass}
use Rattle.judgement.specs.Judgement.{ends_from}
use Rattle.judgement.proofs.Facts.{FoundAs}
use Rattle.elements.specs.Due.{due_of}
use Rattle.elements.proofs.FormerLaws.{as_formerly}
use Rattle.recording_state.specs.State.{OutcomeSaid, accepting}
use Rattle.recording_state.specs.Accept.{is_spent, close_of}
use Rattle.recording_state.specs.Answer.{command}
use Rattle.recording_state.specs.Fetch.{fetch_of}
use Rattle.recording_state.specs.declared.state.Stage.TheVariants as S
use Rattle.recording_state.specs.declared.state.State.{State}
use Rattle.reading_state.specs.State.{is_at_end, end_of}
use Rattle.reading_state.specs.Open as reading
use Rattle.adding_opening.specs.AtEnd.{ends_elsewhere, open_at_end_of}
use Rattle.archive_lists.specs.Tape.{Tape, Cartridge, SameFrames}
use Rattle.archive_lists.specs.Conduct.{Drive, AtRest, Within}
use Rattle.archive_lists.specs.Headers.{Newest}
use Rattle.archive_lists.specs.Fold.{finished, whole_of, ReadingIsFold}
use Rattle.archive_lists.specs.Recordings as recordings
use Rattle.archive_lists.specs.Recordings.{Element, promised}
use Rattle.archive_lists.specs.Readings as readings
use Rattle.archive_lists.specs.Openings.{Opening, opened, new_pass, OnNewest, NoneBears}
use Rattle.archive_lists.specs.Faithful.{Faithful}
use Rattle.archive.specs.Recorded.{HasRecorded}
use Rattle.archive.specs.Demand.{Readable}
use Rattle.archive.specs.Chain.{HasRead, Start, fresh, added, earlier_of, OnItsNewest, AsItStands, NoneAbove, NoneInTheWay, Read, ReadsBack, Continued}
use Rattle.archive.specs.WorstCase.{start_of}
use Rattle.archive.specs.EndNamed.{EndsAt}
use Rattle.archive_lists.proofs.tape.Basics.{promised_all}
use Rattle.archive_lists.proofs.tape.Seen.{Seen, Clean}
use Rattle.archive_lists.proofs.tape.Stands.{telling}
use Rattle.archive_lists.proofs.tape.FoldLaws.{fold_users}
use Rattle.archive_cuts.proofs.View.{Fair}
use Rattle.archive_lists.proofs.tape.Ended.{EndsHere, fold_ended, ends_known}
use Rattle.archive_lists.proofs.reading.Invariant.{Ended}
use Rattle.archive_lists.proofs.reading.Promises.{AtEnd, at_end_so}
use Rattle.archive_lists.proofs.recording.Trailing.{Prior, Marked, Traces, prior_of}
use Rattle.archive_lists.proofs.recording.Setting.{Setting, HeadersLeft, Leaves}
use Rattle.archive_lists.proofs.recording.Invariant.{Inv, gave_up, live, rejecting, spent, over}
use Rattle.archive_lists.proofs.recording.InvariantLaws.{flight_awaits, fetch_awaited}
use Rattle.archive_lists.proofs.recording.Start.{Started, started_as, starts_below, sets, pass_is, trail_none, opened_unspent, nothing_seen, nothing_borne, nothing_traced, begins}
use Rattle.archive.proofs.recording.Added.{AddedView, at_end_facts, added_view, added_started, added_pass, added_traced, marker_low, added_count, added_below, added_seen, added_fair, added_clean}
use Rattle.archive_lists.proofs.recording.Noted.{noted, runs_with}
use Rattle.archive_lists.proofs.recording.SetUp.{close_unspent, runs_unspent}
use Rattle.archive_lists.proofs.Refusals.{close_spent}
use Rattle.geometry.proofs.PickLaws.{pick_t}
use Rattle.archive_lists.proofs.recording.HeaderCopies.{Below}
use Rattle.archive_lists.proofs.recording.DriveMoves.{keeps_move}
use Rattle.archive_lists.proofs.recording.Calls.{keeps_call}
use Rattle.archive_lists.proofs.recording.Completion.{spent_first, user_some, ends_named, reported_rests, closes, completes, aims, opens}
use Rattle.archive.proofs.recording.Named.{given_named, newest_named}
use Rattle.archive_lists.proofs.Fold.{Opens, reading_is_fold, reading_opened, reading_kept}

-- ---- the invariant holds after every list

runs_keep : {last pass : ℕ} {on_newest none_bears : Type 0} {prior : Prior} {w v : recordings.World} {cs : List recordings.Call} → Setting last pass → Inv last pass on_newest none_bears prior w → recordings.Runs w cs v → Inv last pass on_newest none_bears prior v
runs_keep set i recordings.stop = i
runs_keep set i (recordings.call c rest) = runs_keep set (keeps_call _ _ _ set i c) rest
runs_keep set i (recordings.drive m rest) = runs_keep set (keeps_move _ _ set i m) rest

within : {last pass : ℕ} {on_newest none_bears : Type 0} {prior : Prior} {w : recordings.World} → Inv last pass on_newest none_bears prior w → Within last w.drive.written
within (live h _) = h
within (rejecting h _) = h
within (spent h _) = h
within (over h _) = h

-- ---- what a recording left that reported done

-- every newest header names the EOD, so that a reading on it ends there
names_end : {last pass n : ℕ} {none_bears : Type 0} {t : Tape} (l : HeadersLeft last pass none_bears n t) (h : List ℕ) → Newest last t h → ends_from (header_of h) ≡ l.end_at
names_end {last} l h n = ends_named (header_of h) (λ z. user_some last l.end_at l.ends.user (sym (l.names h n) ∙ z)) ∙ l.names h n

pub left_whole : {last pass base : ℕ} {none_bears : Type 0} {t : Tape} {ps xs : List Element} (l : Leaves last pass base none_bears t ps xs) (h : List ℕ) → Newest last t h → whole_of (header_of h) t ≡ finished (take l.reads.count xs) l.headers.end_at
left_whole {last} l h n = l.reads.recorded (header_of h) (valid_last last h n.here.valid) (l.headers.passes h n) (l.headers.names h n)

-- so a reading of it is an instance of what every reading gives
pub readable : {none_bears : Type 0} (g : Geometry) (last pass base : ℕ) (t : Tape) (ps xs : List Element) → g.segtrk < 2 ^ 16 → g.trks < 2 ^ 16 → last_of g ≡ address last → (l : Leaves last pass base none_bears t ps xs) → Readable g last t (take l.reads.count xs)
unfolding ReadingIsFold
readable g last pass base t ps xs seg trk e l = record {
  header = l.headers.header;
  newest = l.headers.newest;
  opens = opens g last t l.headers.header e l.cartridge l.headers.newest;
  reads = λ h at calls w n r.
      subst (λ (x : ℕ). Faithful x (take l.reads.count xs) w) (valid_last last h n.here.valid)
      ((reading_is_fold g last t h at calls w (record { segtrk = seg; trks = trk; is_last = e }) l.cartridge (opens g last t h e l.cartridge n) r).faithful (take l.reads.count xs) l.headers.end_at (left_whole l h n));
}

-- ---- what was there before comes first

take_behind : (ys xs : List Element) (n : ℕ) → length ys ≤ n → take n (ys ++ xs) ≡ ys ++ take (n - length ys) xs
take_behind [] xs n h = let e : n ≡ n - 0 = omega arith in ap (λ (i : ℕ). take i xs) e
take_behind (y ∷ ys) xs zero h = absurd (not-suc-le-zero h)
take_behind (y ∷ ys) xs (suc n) h =
    let e : n - length ys ≡ suc n - suc (length ys) = omega arith in
    ap (λ (zs : List Element). y ∷ zs) (take_behind ys xs n (le_of_suc-le-suc h) ∙ ap (λ (i : ℕ). ys ++ take i xs) e)

module _ (earlier : List Element) (kept : Bool) (w : recordings.World) where
  abbrev together : recordings.Notes
  together = (noted earlier kept w).notes

  whole_size : length (earlier ++ w.notes.accepted) ≡ length earlier + length w.notes.accepted
  whole_size = length-append earlier w.notes.accepted

  promised_size : length (promised together) ≡ length (earlier ++ w.notes.accepted) - w.notes.given_up
  promised_size = length-take-le (length (earlier ++ w.notes.accepted) - w.notes.given_up) (earlier ++ w.notes.accepted) (omega arith)

  pub promised_behind : length earlier ≤ length (promised together) → promised together ≡ earlier ++ promised w.notes
  promised_behind floor =
      let n : length (earlier ++ w.notes.accepted) - w.notes.given_up - length earlier ≡ length w.notes.accepted - w.notes.given_up = omega (arith, whole_size, promised_size) in
      take_behind earlier w.notes.accepted (length (earlier ++ w.notes.accepted) - w.notes.given_up) (omega (arith, promised_size)) ∙ ap (λ (i : ℕ). earlier ++ take i w.notes.accepted) n

-- counted from the first of this session's elements
least_behind : (count early all given : ℕ) → early ≤ early + all - given → early + all - given ≤ count → all - given ≤ count - early
least_behind count early all given floor h = omega arith

most_behind : (count early all given : ℕ) → early ≤ early + all - given → count ≤ early + all - given + 1 → count - early ≤ all - given + 1
most_behind count early all given floor h = omega arith

-- so many of this session's elements are read
pub read_count : {last pass : ℕ} {none_bears : Type 0} (earlier : List Element) (w : recordings.World) (l : Leaves last pass (length earlier) none_bears w.drive.tape (promised (noted earlier true w).notes) (earlier ++ w.notes.accepted)) → Read w.notes (l.reads.count - length earlier)
read_count earlier w l =
    let size : length (promised (noted earlier true w).notes) ≡ length earlier + length w.notes.accepted - w.notes.given_up = promised_size earlier true w ∙ ap (λ (n : ℕ). n - w.notes.given_up) (whole_size earlier true w) in
    let floor : length earlier ≤ length earlier + length w.notes.accepted - w.notes.given_up = subst (λ (n : ℕ). length earlier ≤ n) size l.floor in
    let within = l.reads.within in
    record {
      least = least_behind l.reads.count (length earlier) (length w.notes.accepted) w.notes.given_up floor (subst (λ (n : ℕ). n ≤ l.reads.count) size l.reads.least);
      most = most_behind l.reads.count (length earlier) (length w.notes.accepted) w.notes.given_up floor (subst (λ (n : ℕ). l.reads.count ≤ n + 1) size l.reads.most);
      within = omega (arith, whole_size earlier true w);
    }

pub read_behind : {last pass : ℕ} {none_bears : Type 0} (earlier : List Element) (w : recordings.World) (l : Leaves last pass (length earlier) none_bears w.drive.tape (promised (noted earlier true w).notes) (earlier ++ w.notes.accepted))
    → take l.reads.count (earlier ++ w.notes.accepted) ≡ earlier ++ take (l.reads.count - length earlier) w.notes.accepted
read_behind earlier w l = let floor = l.floor in let least = l.reads.least in take_behind earlier w.notes.accepted l.reads.count (omega arith)

pub reads_back : {none_bears : Type 0} (g : Geometry) (last pass : ℕ) (earlier : List Element) (w : recordings.World) → g.segtrk < 2 ^ 16 → g.trks < 2 ^ 16 → last_of g ≡ address last
    → Leaves last pass (length earlier) none_bears w.drive.tape (promised (noted earlier true w).notes) (earlier ++ w.notes.accepted) → ReadsBack g last earlier w
reads_back g last pass earlier w seg trk e l = record {
  count = l.reads.count - length earlier;
  read = read_count earlier w l;
  readable = subst (λ (xs : List Element). Readable g last w.drive.tape xs) (read_behind earlier w l) (readable g last pass (length earlier) w.drive.tape (promised (noted earlier true w).notes) (earlier ++ w.notes.accepted) seg trk e l);
}

-- where nothing was given up: all that was accepted
pub all_read : (g : Geometry) (last : ℕ) (earlier : List Element) (w : recordings.World) → w.notes.given_up ≡ 0 → ReadsBack g last earlier w → Readable g last w.drive.tape (earlier ++ w.notes.accepted)
all_read g last earlier w none b =
    let least = b.read.least in
    let within = b.read.within in
    let all : b.count ≡ length w.notes.accepted = omega arith in
    subst (λ (xs : List Element). Readable g last w.drive.tape (earlier ++ xs)) (ap (λ (n : ℕ). take n w.notes.accepted) all ∙ take-length w.notes.accepted) b.readable

-- above the EOD that they name nothing bears the pass
pub left_clear : {last pass n : ℕ} {none_bears : Type 0} {t : Tape} → none_bears → HeadersLeft last pass none_bears n t → (h : List ℕ) → Newest last t h → NoneAbove last t (header_of h).eod.0 (header_of h).pass
left_clear none l h n a f u above there bears = l.ends.above none a f (omega (arith, l.names h n)) u there (bears ∙ l.passes h n)

-- ---- a reading that has come to its end

module _ (g : Geometry) (last : ℕ) (seg : g.segtrk < 2 ^ 16) (trk : g.trks < 2 ^ 16) (e : last_of g ≡ address last) where
  pub read_ended : {t : Tape} {h : List ℕ} {r : readings.World} → HasRead g last t h r → r.session.finished ≡ true → r.session.ended ≡ false → AtEnd (header_of h) t r
  read_ended {t} {h} {r} x = at_end_so r (reading_kept g last t h x.at x.calls r seg trk e x.cartridge x.opens x.runs)

  -- it ended at an EOD from the named one on, above which nothing bears the pass: so there
  ends_there : {pass n : ℕ} {none_bears : Type 0} {t : Tape} → none_bears → HeadersLeft last pass none_bears n t → (h : List ℕ) (r : readings.World) → Newest last t h → HasRead g last t h r
      → is_at_end r.session ≡ true → ends_elsewhere r.session ≡ false
  ends_there {t = t} none l h r n x end =
      let s = r.session in
      let told = (header_of h) in
      let facts = at_end_facts s end in
      let a = read_ended x facts.0 facts.1 in
      let here : EndsHere told t r.notes.deliveries (end_of s).0 = fold_ended told t r.notes.deliveries (end_of s).0 (told.last.0 + 1) a.ended.whole in
      let known = ends_known here in
      let user : is_user last (end_of s).0 ≡ true = subst (λ (m : ℕ). is_user m (end_of s).0 ≡ true) (valid_last last h n.here.valid) here.user in
      let low : l.end_at ≤ (end_of s).0 = omega (arith, names_end l h n, known.2) in
      let there : l.end_at ≡ (end_of s).0 =
      ⊎_elim (λ same. same) (λ above. absurd (l.ends.above none (end_of s).0 here.frame (omega arith) user here.reads (known.0.written ∙ l.passes h n))) (eq-or-lt_of_le low) in
      let named : s.told.eod.0 ≡ l.end_at = ap (λ (y : Header). y.eod.0) a.ended.told_is ∙ l.names h n in
      neither (eqb s.told.eod.0 0) (not (eqb s.told.eod.0 (end_of s).0))
      (ne_eqb _ _ (λ z. user_some last l.end_at l.ends.user (sym named ∙ z))) (ap not (eq-eqb _ _ (named ∙ there)))

-- ---- the invariant of a session, behind the elements that the cartridge held already

-- of the list as it is, and of the same with its window noted as altered, where nothing of what the tape held need be known
pub record Kept (last pass : ℕ) (on_newest as_it_stands none_in_the_way : Type 0) (prior : Prior) (earlier : List Element) (w : recordings.World) : Type 0 where
  pub set : Setting last pass
  pub whole : Inv last pass on_newest (as_it_stands × none_in_the_way) prior (noted earlier true w)
  pub frames : Inv last pass on_newest none_in_the_way prior (noted earlier false w)

pub kept_on : {last pass : ℕ} {on_newest as_it_stands none_in_the_way : Type 0} {prior : Prior} {earlier : List Element} {w v : recordings.World} {calls : List recordings.Call}
    → Kept last pass on_newest as_it_stands none_in_the_way prior earlier w → recordings.Runs w calls v → Kept last pass on_newest as_it_stands none_in_the_way prior earlier v
kept_on {earlier = earlier} k r = record { set = k.set; whole = runs_keep k.set k.whole (runs_with earlier true r); frames = runs_keep k.set k.frames (runs_with earlier false r) }

module _ (g : Geometry) (last : ℕ) (seg : g.segtrk < 2 ^ 16) (trk : g.trks < 2 ^ 16) (e : last_of g ≡ address last) (d : Drive) (window : List ℕ)
    (cart : Cartridge last d.tape) (unwritten : d.written ≡ []) (rest : AtRest d) where
  -- from the start of its elements, and what the cartridge was then
  begun_kept : (s : State) (earlier : List Element) (at : ℕ) (x : Started last earlier at s) (on_newest as_it_stands none_in_the_way : Type 0)
      → (on_newest → Below last s.copies.header d.tape) → (as_it_stands → none_in_the_way → Seen last s.copies.header.pass earlier earlier (length earlier) at d.tape)
      → (none_in_the_way → Clean last s.copies.header.pass at d.tape)
      → Traces earlier (Marked (prior_of last s.copies.header earlier at d.tape as_it_stands) last s.copies.header.pass at d.tape) (length earlier) s.elements.trail
      → Kept last s.copies.header.pass on_newest as_it_stands none_in_the_way (prior_of last s.copies.header earlier at d.tape as_it_stands) earlier (recordings.started s window d)
  begun_kept s earlier at x on_newest as_it_stands none_in_the_way below seen clean traced =
      let set = sets g last earlier at s seg trk e x in
      record {
        set = set;
        whole = begins last d window earlier true at s x on_newest (as_it_stands × none_in_the_way) as_it_stands set unwritten rest cart below (λ c _. seen c.0 c.1) (λ c. clean c.1) traced;
        frames = begins last d window earlier false at s x on_newest none_in_the_way as_it_stands set unwritten rest cart below (λ _ z. absurd (true≢false (sym z))) clean traced;
      }

-- ---- opened afresh

module _ (g : Geometry) (last : ℕ) (e : last_of g ≡ address last) (s : State) (depth blocks tail : ℕ) (o : Opening) (op : opened g depth blocks tail o ≡ accepting s) (t : Tape) where
  pub fresh_none : NoneBears last t (new_pass o) → NoneBears last t s.copies.header.pass
  fresh_none = subst (NoneBears last t) (sym (pass_is g last depth blocks tail s e o op))

  fresh_seen : Cartridge last t → NoneBears last t (new_pass o) → Seen last s.copies.header.pass [] [] 0 10 t
  fresh_seen cart none = nothing_seen last s.copies.header.pass t cart (fresh_none none)

-- ---- a session that was opened at the end of a reading

module _ (g : Geometry) (last : ℕ) (seg : g.segtrk < 2 ^ 16) (trk : g.trks < 2 ^ 16) (e : last_of g ≡ address last)
    (s : State) (depth blocks tail : ℕ) (u : Tape) (h : List ℕ) (r : readings.World) (read : HasRead g last u h r) (op : open_at_end_of r.session depth blocks tail ≡ accepting s) where
  view : AddedView r.session depth blocks tail s
  view = added_view r.session depth blocks tail s op

  pub added_ended : AtEnd (header_of h) u r
  added_ended = read_ended g last seg trk e read view.finished_is view.going_on

  opened_is : Opens last h (reading.open_of g h)
  opened_is = reading_opened g last u h read.at read.calls r seg trk e read.cartridge read.opens read.runs

  large : 3000 ≤ last
  large = (frames_of_lem g last e).large

  -- the reading ended so on a cartridge with the same user frames
  ended_now : (t : Tape) → SameFrames last u t → Ended (header_of h) t r.session r.notes.deliveries
  ended_now t same =
      let x = added_ended.ended in
      let users = subst (λ (n : ℕ). SameFrames n u t) (sym opened_is.last_is) same in
      record {
        told_is = x.told_is;
        so_far = sym (fold_users (header_of h) u t users (end_of r.session).0) ∙ x.so_far;
        whole = sym (fold_users (header_of h) u t users ((header_of h).last.0 + 1)) ∙ x.whole;
      }

  pub added_so : Started last r.notes.deliveries (end_of r.session).0 s
  added_so = added_started (header_of h) last u r.session r.notes.deliveries large opened_is.last_is added_ended.ended depth blocks tail s view (valid_pass last h opened_is.valid)

  pub pass_kept : (header_of h).pass ≡ s.copies.header.pass
  pass_kept = sym (added_pass (header_of h) last u r.session r.notes.deliveries large opened_is.last_is added_ended.ended depth blocks tail s view)

  -- so the current markers of such a cartridge are below the old end, if none above bears the pass
  pub markers_low : (t : Tape) → SameFrames last u t → NoneAbove last t (end_of r.session).0 (header_of h).pass
      → (j b : ℕ) (f : List ℕ) → is_user last b ≡ true → t b ≡ some f → FoundAs (telling last (header_of h).pass 0) (record { 0 = j }) Marker f → b < (end_of r.session).0
  markers_low t same = marker_low (header_of h) last t r.session r.notes.deliveries large opened_is.last_is (ended_now t same) depth blocks tail s view

  -- it sees what the reading delivered, and from the old end on each frame is of another pass, or as the table has it
  added_sees : (t : Tape) → Cartridge last t → SameFrames last u t → NoneAbove last t (end_of r.session).0 (header_of h).pass
      → Seen last s.copies.header.pass r.notes.deliveries r.notes.deliveries (length r.notes.deliveries) (end_of r.session).0 t
  added_sees t cart same none =
      subst (λ (n : ℕ). Seen last n r.notes.deliveries r.notes.deliveries (length r.notes.deliveries) (end_of r.session).0 t) pass_kept
      (added_seen (header_of h) last t r.session r.notes.deliveries large opened_is.last_is (ended_now t same) depth blocks tail s view cart none)

  pub added_fairly : (t : Tape) → Cartridge last t → SameFrames last u t → NoneAbove last t (end_of r.session).0 (header_of h).pass → Fair last s.copies.header.pass (end_of r.session).0 t
  added_fairly t cart same none =
      subst (λ (n : ℕ). Fair last n (end_of r.session).0 t) pass_kept
      (added_fair (header_of h) last t r.session r.notes.deliveries large opened_is.last_is (ended_now t same) depth blocks tail s view cart none)

  pub added_counts : update_of h < s.copies.header.update
  added_counts = added_count (header_of h) last u r.session r.notes.deliveries large opened_is.last_is added_ended.ended depth blocks tail s view h refl

  -- the header that it was opened on names the old end
  pub names_old : ((header_of h).eod.0 ≡ 0 → ⊥) × ((header_of h).eod.0 ≡ (end_of r.session).0)
  names_old = let same = ap (λ (x : Header). x.eod.0) added_ended.ended.told_is in (λ z. view.some_end (same ∙ z), sym same ∙ view.named)

  added_kept : (d : Drive) (window : List ℕ) → Cartridge last d.tape → d.written ≡ [] → AtRest d
      → Kept last s.copies.header.pass (Newest last d.tape h) (SameFrames last u d.tape) (NoneAbove last d.tape (end_of r.session).0 (header_of h).pass)
      (prior_of last s.copies.header r.notes.deliveries (end_of r.session).0 d.tape (SameFrames last u d.tape)) r.notes.deliveries (recordings.started s window d)
  added_kept d window cart unwritten rest =
      begun_kept g last seg trk e d window cart unwritten rest s r.notes.deliveries (end_of r.session).0 added_so
      (Newest last d.tape h) (SameFrames last u d.tape) (NoneAbove last d.tape (end_of r.session).0 (header_of h).pass)
      (added_below (header_of h) last u r.session r.notes.deliveries large opened_is.last_is added_ended.ended depth blocks tail s view h refl d.tape)
      (added_sees d.tape cart)
      (λ none. subst (λ (n : ℕ). Clean last n (end_of r.session).0 d.tape) pass_kept (added_clean none))
      (added_traced (header_of h) last u r.session r.notes.deliveries large opened_is.last_is added_ended.ended depth blocks tail s view (last_small g last seg trk (frames_of_lem g last e)) d.tape)

-- ---- however it was opened

pub start_started : (g : Geometry) (last : ℕ) → g.segtrk < 2 ^ 16 → g.trks < 2 ^ 16 → last_of g ≡ address last → (s : State) (b : Start g last s) → Started last (earlier_of b) (start_of b) s
start_started g last seg trk e s (fresh depth blocks tail o q) = started_as g last depth blocks tail s e (frames_of_lem g last e).large o q
start_started g last seg trk e s (added depth blocks tail u h r read q) = added_so g last seg trk e s depth blocks tail u h r read q

start_unspent : (g : Geometry) (last : ℕ) → last_of g ≡ address last → (s : State) (b : Start g last s) → s.spent ≡ false
start_unspent g last e s (fresh depth blocks tail o q) = opened_unspent g last depth blocks tail s e o q
start_unspent g last e s (added depth blocks tail u h r read q) = sym (ap (λ (x : State). x.spent) (added_view r.session depth blocks tail s q).is)

-- the invariant at its start
pub start_begins : (g : Geometry) (last : ℕ) → g.segtrk < 2 ^ 16 → g.trks < 2 ^ 16 → last_of g ≡ address last → (d : Drive) (window : List ℕ)
    → Cartridge last d.tape → d.written ≡ [] → AtRest d → (s : State) (b : Start g last s)
    → Kept last s.copies.header.pass (OnItsNewest b d.tape) (AsItStands b d.tape) (NoneInTheWay b d.tape)
    (prior_of last s.copies.header (earlier_of b) (start_of b) d.tape (AsItStands b d.tape)) (earlier_of b) (recordings.started s window d)
start_begins g last seg trk e d window cart unwritten rest s (fresh depth blocks tail o op) =
    begun_kept g last seg trk e d window cart unwritten rest s [] 10 (started_as g last depth blocks tail s e (frames_of_lem g last e).large o op) (OnNewest last d.tape o) (Unit {0}) (NoneBears last d.tape (new_pass o))
    (starts_below g last depth blocks tail s e d.tape o op) (λ _. fresh_seen g last e s depth blocks tail o op d.tape cart)
    (λ none. nothing_borne last s.copies.header.pass d.tape (fresh_none g last e s depth blocks tail o op d.tape none))
    (nothing_traced _ s.elements.trail (trail_none g last depth blocks tail s e o op))
start_begins g last seg trk e d window cart unwritten rest s (added depth blocks tail u h r read op) = added_kept g last seg trk e s depth blocks tail u h r read op d window cart unwritten rest

-- what a reading sees there
pub start_seen : (g : Geometry) (last : ℕ) → g.segtrk < 2 ^ 16 → g.trks < 2 ^ 16 → last_of g ≡ address last → (t : Tape) → Cartridge last t → (s : State) (b : Start g last s) → AsItStands b t → NoneInTheWay b t
    → Seen last s.copies.header.pass (earlier_of b) (earlier_of b) (length (earlier_of b)) (start_of b) t
start_seen g last seg trk e t cart s (fresh depth blocks tail o op) same none = fresh_seen g last e s depth blocks tail o op t cart none
start_seen g last seg trk e t cart s (added depth blocks tail u h r read op) same none = added_sees g last seg trk e s depth blocks tail u h r read op t cart same none

pub start_kept : (g : Geometry) (last : ℕ) → g.segtrk < 2 ^ 16 → g.trks < 2 ^ 16 → last_of g ≡ address last → (d : Drive) (window : List ℕ) (calls : List recordings.Call) (w : recordings.World)
    → Cartridge last d.tape → d.written ≡ [] → AtRest d → (s : State) (b : Start g last s) → recordings.Runs (recordings.started s window d) calls w
    → Kept last s.copies.header.pass (OnItsNewest b d.tape) (AsItStands b d.tape) (NoneInTheWay b d.tape)
    (prior_of last s.copies.header (earlier_of b) (start_of b) d.tape (AsItStands b d.tape)) (earlier_of b) w
start_kept g last seg trk e d window calls w cart unwritten rest s b r = kept_on (start_begins g last seg trk e d window cart unwritten rest s b) r

pub kept_after : (g : Geometry) (last : ℕ) (d : Drive) (w : recordings.World) (s : State) (b : Start g last s) → HasRecorded g last d s w
    → Kept last s.copies.header.pass (OnItsNewest b d.tape) (AsItStands b d.tape) (NoneInTheWay b d.tape)
    (prior_of last s.copies.header (earlier_of b) (start_of b) d.tape (AsItStands b d.tape)) (earlier_of b) w
kept_after g last d w s b x = start_kept g last x.sized.segtrk x.sized.trks x.sized.is_last d x.window x.calls w x.cartridge x.unwritten x.rests s b x.runs

module _ {last pass : ℕ} {on_newest as_it_stands none_in_the_way : Type 0} {prior : Prior} {earlier : List Element} {w : recordings.World} (k : Kept last pass on_newest as_it_stands none_in_the_way prior earlier w) where
  -- the tape, where all is as it should be
  pub leaves : on_newest → as_it_stands → none_in_the_way → w.notes.unaltered ≡ true → w.notes.reported ≡ true → Leaves last pass prior.base (as_it_stands × none_in_the_way) w.drive.tape (promised (noted earlier true w).notes) (earlier ++ w.notes.accepted)
  leaves newest same none = completes (noted earlier true w) k.set k.whole newest (same, none)

  -- its headers, where less is
  pub headers : on_newest → w.notes.reported ≡ true → HeadersLeft last pass none_in_the_way (length (promised (noted earlier false w).notes)) w.drive.tape
  headers = closes (noted earlier false w) k.set k.frames

pub continued : (g : Geometry) (last : ℕ) (d : Drive) (s : State) (b : Start g last s) (w : recordings.World) → HasRecorded g last d s w → Continued g last d.tape s b w
continued g last d s b w recorded = record {
  written = within k.whole;
  alone = λ lent frame busy. fetch_awaited w.session lent frame (flight_awaits k.whole busy);
  reads_back = back;
  readable = all;
  rests = reported_rests v k.whole;
  given = given;
  newest = newest;
  clear = λ newest none reported. left_clear none (headers k newest reported);
  addable = λ newest none reported. ends_there g last seg trk e none (headers k newest reported);
  tells = tells;
  untailed = λ none.
      let x = runs_unspent recorded.runs (record { untailed = none; unspent = unspent_at_first; ungiven = refl }) in
      let promised_is : promised w.notes ≡ w.notes.accepted = promised_all w.notes x.ungiven in
      record {
        ungiven = x.ungiven;
        unspent = x.unspent;
        close = close_unspent w.session x.unspent;
        due = λ going free.
            ap (λ (n : ℕ). due_of w.session.setup.depth n w.session.elements) x.untailed
            ∙ as_formerly.due w.session.setup.depth w.session.elements (aims v k.set k.whole x.untailed going free);
        readable = all x.ungiven;
        given = λ lent frame a closing said. subst (λ (ys : List Element). EndsAt (header_of (fetch_of w.session lent frame).frame) (length (earlier_of b ++ ys)) w.drive.tape) promised_is (given lent frame a closing said);
        newest = λ on reported h n. subst (λ (ys : List Element). EndsAt (header_of h) (length (earlier_of b ++ ys)) w.drive.tape) promised_is (newest on reported h n);
      };
}
  where
    k : Kept last s.copies.header.pass (OnItsNewest b d.tape) (AsItStands b d.tape) (NoneInTheWay b d.tape) (prior_of last s.copies.header (earlier_of b) (start_of b) d.tape (AsItStands b d.tape)) (earlier_of b) w
    k = kept_after g last d w s b recorded

    seg : g.segtrk < 2 ^ 16
    seg = recorded.sized.segtrk

    trk : g.trks < 2 ^ 16
    trk = recorded.sized.trks

    e : last_of g ≡ address last
    e = recorded.sized.is_last

    v : recordings.World
    v = noted (earlier_of b) true w

    back : OnItsNewest b d.tape → AsItStands b d.tape → NoneInTheWay b d.tape → w.notes.unaltered ≡ true → w.notes.reported ≡ true → ReadsBack g last (earlier_of b) w × Cartridge last w.drive.tape
    back newest same none unaltered reported =
        let l = leaves k newest same none unaltered reported in
        (reads_back g last s.copies.header.pass (earlier_of b) w seg trk e l, l.cartridge)

    all : w.notes.given_up ≡ 0 → OnItsNewest b d.tape → AsItStands b d.tape → NoneInTheWay b d.tape → w.notes.unaltered ≡ true → w.notes.reported ≡ true → Readable g last w.drive.tape (earlier_of b ++ w.notes.accepted) × Cartridge last w.drive.tape
    all ungiven newest same none unaltered reported = let x = back newest same none unaltered reported in (all_read g last (earlier_of b) w ungiven x.0, x.1)

    numbered : (h : Header) → EndsAt h (length (promised v.notes)) w.drive.tape × (length (earlier_of b) ≤ length (promised v.notes)) → EndsAt h (length (earlier_of b ++ promised w.notes)) w.drive.tape
    numbered h x = subst (λ (ys : List Element). EndsAt h (length ys) w.drive.tape) (promised_behind (earlier_of b) true w x.1) x.0

    given : (lent frame : List ℕ) (a : ℕ) → w.session.stage ≡ S.ClosingHeaders → (fetch_of w.session lent frame).said ≡ command 0x0A a
        → EndsAt (header_of (fetch_of w.session lent frame).frame) (length (earlier_of b ++ promised w.notes)) w.drive.tape
    given lent frame a closing said = numbered _ (given_named v k.set k.whole lent frame a closing said)

    newest : OnItsNewest b d.tape → w.notes.reported ≡ true → (h : List ℕ) → Newest last w.drive.tape h → EndsAt (header_of h) (length (earlier_of b ++ promised w.notes)) w.drive.tape
    newest on reported h n = numbered _ (newest_named v k.set k.whole on reported h n)

    tells : is_spent w.session ≡ true → (close_of w.session).session.elements.queue.first.0 ≡ length (earlier_of b ++ promised (recordings.after_close w).notes)
    tells spent_now =
        let x = spent_first v k.whole spent_now in
        let after = (recordings.after_close w).notes in
        let noted_as : (recordings.after_close v).notes ≡ (gave_up v).notes = ap (λ (n : ℕ). record { accepted = earlier_of b ++ w.notes.accepted; unaltered = w.notes.unaltered; reported = w.notes.reported; given_up = n }) (pick_t _ spent_now) in
        ap (λ (r : OutcomeSaid). r.session.elements.queue.first.0) (close_spent w.session spent_now)
        ∙ x.0
        ∙ ap (λ (n : recordings.Notes). length (promised n)) (sym noted_as)
        ∙ ap length (promised_behind (earlier_of b) true (recordings.after_close w) (subst (λ (n : recordings.Notes). length (earlier_of b) ≤ length (promised n)) (sym noted_as) x.1))

    unspent_at_first : s.spent ≡ false
    unspent_at_first = start_unspent g last e s b

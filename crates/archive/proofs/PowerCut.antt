-- A cartridge whose session was cut, or ended by a refusal, gives everything earlier and then the first so many of that session. Assumes nothing.
use Prim.Native.Nat.{ℕ, ◌+◌, ◌^◌, ◌≤◌, ◌<◌}
use mathlib.Core.Path.{◌≡◌, refl, sym, ap, subst, ◌∙◌}
use mathlib.Core.Bool.{true}
use mathlib.Core.List.{List, [], ◌++◌, append-nil}
use mathlib.Core.Logic.{◌⊎◌, inl, inr, ⊎_elim}
use mathlib.Core.Option.{some}
use native.Mathlib.Decide.{dec_le, ℕ_discrete}
use native.Mathlib.Nat.{le_refl}
use native.Mathlib.Omega.{arith}
use lib.Dec.{lit<}
use lib.ListN.{length, take, get_or}
use lib.Seq.{get_or-take}
use Rattle.geometry.specs.Place.{address}
use Rattle.geometry.specs.Cartridge.{last_of, is_user}
use Rattle.geometry.specs.declared.cartridge.Geometry.{Geometry}
use Rattle.frame.specs.declared.header.Header.{Header}
use Rattle.header.specs.Valid.{header_of}
use Rattle.header.proofs.Facts.{valid_last}
use Rattle.judgement.specs.Judgement.{ends_from}
use Rattle.recording_state.specs.declared.state.State.{State}
use Rattle.reading_state.specs.State.{end_of}
use Rattle.reading_state.specs.Open as reading
use Rattle.archive_lists.specs.Tape.{Tape, Cartridge, Bears}
use Rattle.archive_lists.specs.Conduct.{Drive}
use Rattle.archive_lists.specs.Headers.{HeaderAt}
use Rattle.archive_lists.specs.Recordings as recordings
use Rattle.archive_lists.specs.Recordings.{Element}
use Rattle.archive_lists.specs.Readings as readings
use Rattle.archive_lists.specs.Openings.{on_header, on_none}
use Rattle.archive_lists.specs.Fold.{Reader, going, finished, fold_of, whole_of}
use Rattle.archive_lists.proofs.tape.Closed.{from_named}
use Rattle.archive_lists.proofs.tape.Seen.{Has, Seen}
use Rattle.archive_lists.proofs.tape.SeenLaws.{seen_moves}
use Rattle.archive_lists.proofs.tape.Stands.{unending}
use Rattle.archive_lists.proofs.tape.StandsLaws.{ends_telling}
use Rattle.archive_lists.proofs.tape.FoldLaws.{fold_alike}
use Rattle.archive_lists.proofs.reading.Facts.{fold_low}
use Rattle.archive_lists.proofs.recording.Trailing.{Prior, prior_of}
use Rattle.archive_lists.proofs.recording.HeaderCopies.{Late}
use Rattle.archive_lists.proofs.recording.Setting.{Setting}
use Rattle.archive_lists.proofs.recording.ElementReplies.{seen_top}
use Rattle.archive_lists.proofs.recording.Completion.{copy_fields, opens_at}
use Rattle.archive_lists.proofs.Fold.{tape_read, reading_kept, reading_few}
use Rattle.archive_cuts.specs.Cuts.{FaithfulInPart}
use Rattle.archive_cuts.proofs.Throughout.{throughout_any}
use Rattle.archive_cuts.proofs.HeldCopies.{OwnCopy, at_rest}
use Rattle.archive_cuts.proofs.View as view
use Rattle.archive_cuts.proofs.View.{Fair, alien, Viewed, view_whole}
use Rattle.archive_cuts.proofs.Intact.{Intact, no_elements}
use Rattle.archive_cuts.proofs.CutLists.{keeps_intact, runs_kept}
use Rattle.archive_cuts.proofs.InPart.{Whole, without_end, with_end, in_part}
use Rattle.archive.specs.Recorded.{HasRecorded}
use Rattle.archive.specs.Chain.{Start, fresh, added, earlier_of, OnItsNewest, AsItStands, NoneInTheWay}
use Rattle.archive.specs.WorstCase.{start_of}
use Rattle.archive.specs.PowerCut.{IsNewer, CopyOf, IsCopy, MayEnd, old_end, own_end, WindowKept, PowerCut}
use Rattle.archive.proofs.Continued.{Kept, fresh_none, added_fairly, names_old, pass_kept, start_started, start_begins, start_seen}

-- ---- what a reading gives on a header of the pass under which no EOD below the start ends it

module _ {last pass : ℕ} {prior : Prior} {old : Tape} (large : 3000 ≤ last) (earlier accepted : List Element) (base_is : prior.base ≡ length earlier) (start_low : prior.start ≤ last + 1) (d : Drive) (b : Intact last pass prior old (earlier ++ accepted) d)
    (may_end : ℕ → Type 0) (may : (e : ℕ) (f : List ℕ) → prior.start ≤ e → is_user last e ≡ true → d.tape e ≡ some f → Bears pass f → may_end e) where
  abbrev xs : List Element
  xs = earlier ++ accepted

  -- in the open view, over the whole tape
  top_seen : Seen last pass b.in_drive.list xs b.in_drive.k (last + 1) d.tape
  top_seen = go (dec_le b.in_drive.edge (last + 1))
    where
      go : Dec (b.in_drive.edge ≤ last + 1) → Seen last pass b.in_drive.list xs b.in_drive.k (last + 1) d.tape
      go (yes l) = seen_moves (last + 1) l b.in_drive.seen
      go (no l) = seen_top large (omega arith) b.in_drive.seen

  module _ (told : Header) (last_is : told.last.0 ≡ last) (pass_is : told.pass ≡ pass) (late : (prior.start ≤ 10) ⊎ (prior.start ≤ ends_from told)) where
    -- below the start it goes with the open view
    agrees : (prior.start ≤ 10) ⊎ (prior.start ≤ ends_from told) → fold_of told d.tape prior.start ≡ fold_of (unending last pass) d.tape prior.start
    agrees (inl low) = fold_low told d.tape prior.start low ∙ sym (fold_low (unending last pass) d.tape prior.start low)
    agrees (inr high) = fold_alike told (unending last pass) last_is pass_is d.tape prior.start (λ a l. (omega arith, omega (arith, ends_telling last pass (last + 1), start_low)))

    record Found : Type 0 where
      count : ℕ
      least : length earlier ≤ count
      size : length (take count xs) ≡ count
      whole : Whole told d.tape xs may_end count

    whole_is : (r : Reader) → fold_of told d.tape (last + 1) ≡ r → whole_of told d.tape ≡ r
    whole_is r q = ap (λ (n : ℕ). fold_of told d.tape (n + 1)) last_is ∙ q

    found : Found
    found = go (view_whole d.tape told last_is pass_is large start_low top_seen.top top_seen.seen b.on_tape.begun (agrees late) b.on_tape.fair)
      where
        go : Viewed d.tape told last_is pass_is large start_low top_seen.top top_seen.seen b.on_tape.begun (agrees late) b.on_tape.fair (last + 1) → Found
        go (view.goes j trail low size o q) = record { count = j; least = omega (arith, base_is); size = size; whole = without_end trail (whole_is (going j (take j xs) trail) q) }
        go (view.ended j e f low size l u r own q) = record { count = j; least = omega (arith, base_is); size = size; whole = with_end e (may e f l u r own) (whole_is (finished (take j xs) e) q) }

    -- every list of a reading's calls
    reads_part : (g : Geometry) (h : List ℕ) (at : ℕ) (calls : List readings.Call) (r : readings.World) → g.segtrk < 2 ^ 16 → g.trks < 2 ^ 16 → last_of g ≡ address last → (header_of h) ≡ told → (reading.open_of g h).number ≡ 0
        → readings.Runs d.tape (readings.started (reading.open_of g h).session at) calls r → FaithfulInPart last earlier accepted may_end r
    reads_part g h at calls r seg trk e is op runs =
        let cart = b.on_tape.cartridge in
        subst (λ (n : ℕ). FaithfulInPart n earlier accepted may_end r) (ap (λ (x : Header). x.last.0) is ∙ last_is)
        (in_part (tape_read g last d.tape h at calls r seg trk e cart op runs) earlier accepted may_end found.count found.least found.size
        (subst (λ (x : Header). Whole x d.tape xs may_end found.count) (sym is) found.whole) r (reading_few g last d.tape h at calls r seg trk e cart op runs) (reading_kept g last d.tape h at calls r seg trk e cart op runs))

-- ---- the header that is read on

-- one that is the session's own
own_told : {last pass : ℕ} {prior : Prior} {h : List ℕ} → Setting last pass → OwnCopy last pass prior h → ((header_of h).pass ≡ pass) × Late prior.start (header_of h)
own_told {prior = prior} set o =
    let same = copy_fields set o.header o.carried o.as_sent in
    (ap (λ (x : Header). x.pass) same ∙ o.carried.pass_is, subst (Late prior.start) (sym same) o.carried.late)

-- a copy has the fields of the data bytes
copy_byte : {h copy : List ℕ} → CopyOf h copy → (i : ℕ) → i < 32768 → get_or copy i 0 ≡ get_or h i 0
copy_byte {h} {copy} c i low = sym (get_or-take 32768 copy i 0 low) ∙ ap (λ (l : List ℕ). get_or l i 0) c.data_agrees ∙ get_or-take 32768 h i 0 low

copy_pass : {h copy : List ℕ} → CopyOf h copy → (header_of copy).pass ≡ (header_of h).pass
copy_pass c = rw (copy_byte c 22 (lit< tt), copy_byte c 23 (lit< tt))

copy_eod : {h copy : List ℕ} → CopyOf h copy → (header_of copy).eod.0 ≡ (header_of h).eod.0
copy_eod c = rw (copy_byte c 32 (lit< tt), copy_byte c 33 (lit< tt), copy_byte c 34 (lit< tt), copy_byte c 35 (lit< tt))

module _ (g : Geometry) (last : ℕ) (seg : g.segtrk < 2 ^ 16) (trk : g.trks < 2 ^ 16) (e : last_of g ≡ address last) (s : State) (t : Tape) where
  -- one that the cartridge held at the opening: where the session adds it is a copy of the one that it was opened on
  old_told : (b : Start g last s) → OnItsNewest b t → (a : ℕ) (h : List ℕ) → HeaderAt last t a h → IsCopy b h ⊎ IsNewer b h → ((header_of h).pass ≡ s.copies.header.pass) × Late (start_of b) (header_of h)
  old_told (fresh depth blocks tail o q) newest a h at (inl c) = absurd c
  old_told (fresh depth blocks tail (on_header h0) q) newest a h at (inr newer) = absurd (omega (arith, newest.highest a h at))
  old_told (fresh depth blocks tail on_none q) none a h at (inr newer) = absurd (none a h at)
  old_told (added depth blocks tail u h0 r read q) newest a h at (inr newer) = absurd (omega (arith, newest.highest a h at))
  old_told (added depth blocks tail u h0 r read q) newest a h at (inl c) =
      let named = names_old g last seg trk e s depth blocks tail u h0 r read q in
      (copy_pass c ∙ pass_kept g last seg trk e s depth blocks tail u h0 r read q, inr (omega (arith, from_named (header_of h) (λ z. named.0 (sym (copy_eod c) ∙ z)), copy_eod c, named.1)))

  -- frames from the start on
  start_fair : (b : Start g last s) → Cartridge last t → AsItStands b t → NoneInTheWay b t → Fair last s.copies.header.pass (start_of b) t
  start_fair (fresh depth blocks tail o q) cart same none = λ a f _ u there. alien (cart.long a f there) (fresh_none g last e s depth blocks tail o q t none a f u there)
  start_fair (added depth blocks tail u h r read q) cart same none = added_fairly g last seg trk e s depth blocks tail u h r read q t cart same none

  -- an EOD of the pass from the start on is the old one, or was not there
  start_ends : (b : Start g last s) (v : Tape) → NoneInTheWay b t → (a : ℕ) (f : List ℕ) → start_of b ≤ a → is_user last a ≡ true → v a ≡ some f → Bears s.copies.header.pass f → MayEnd b t v a
  start_ends (fresh depth blocks tail o q) v none a f l u there bears = own_end (λ same. fresh_none g last e s depth blocks tail o q t none a f u (sym same ∙ there) bears)
  start_ends (added depth blocks tail w h r read q) v none a f l u there bears = go (ℕ_discrete a (end_of r.session).0)
    where
      go : Dec (a ≡ (end_of r.session).0) → MayEnd (added depth blocks tail w h r read q) t v a
      go (yes at) = old_end at
      go (no other) = own_end (λ same. none a f u (omega arith) (sym same ∙ there) (bears ∙ sym (pass_kept g last seg trk e s depth blocks tail w h r read q)))

-- ---- after every list

-- what the open view has at the start
seen_begun : {last pass at : ℕ} {earlier : List Element} {t : Tape} → Seen last pass earlier earlier (length earlier) at t → Has (earlier ++ []) (length earlier) (fold_of (unending last pass) t at)
seen_begun {last} {pass} {at} {earlier} {t} h =
    let least : length earlier ≤ h.m = ⊎_elim (λ l. l) (λ l. l) h.low in
    let all : h.m ≡ length earlier = omega (arith, h.top) in
    subst (λ (ys : List Element). Has ys (length earlier) (fold_of (unending last pass) t at)) (sym (append-nil earlier)) (subst (λ (n : ℕ). Has earlier n (fold_of (unending last pass) t at)) all h.seen)

module _ (g : Geometry) (last : ℕ) (d : Drive) (s : State) (b : Start g last s) (w : recordings.World) (recorded : HasRecorded g last d s w)
    (newest : OnItsNewest b d.tape) (same : AsItStands b d.tape) (none : NoneInTheWay b d.tape) (window_kept : WindowKept w) where
  seg : g.segtrk < 2 ^ 16
  seg = recorded.sized.segtrk

  trk : g.trks < 2 ^ 16
  trk = recorded.sized.trks

  e : last_of g ≡ address last
  e = recorded.sized.is_last

  abbrev pass : ℕ
  pass = s.copies.header.pass

  abbrev prior : Prior
  prior = prior_of last s.copies.header (earlier_of b) (start_of b) d.tape (AsItStands b d.tape)

  pub begun : Kept last pass (OnItsNewest b d.tape) (AsItStands b d.tape) (NoneInTheWay b d.tape) prior (earlier_of b) (recordings.started s recorded.window d)
  begun = start_begins g last seg trk e d recorded.window recorded.cartridge recorded.unwritten recorded.rests s b

  seen : Seen last pass (earlier_of b) (earlier_of b) (length (earlier_of b)) (start_of b) d.tape
  seen = start_seen g last seg trk e d.tape recorded.cartridge s b same none

  first_intact : Intact last pass prior d.tape (earlier_of b ++ []) d
  first_intact = record {
    on_tape = record { cartridge = recorded.cartridge; few = omega (arith, ap length (append-nil (earlier_of b))); traced = λ a f h. inl h.reads; fair = start_fair g last seg trk e s d.tape b recorded.cartridge same none; begun = seen_begun seen };
    in_drive = record {
      list = earlier_of b;
      k = length (earlier_of b);
      edge = start_of b;
      ahead = le_refl (start_of b);
      seen = subst (λ (ys : List Element). Seen last pass (earlier_of b) ys (length (earlier_of b)) (start_of b) d.tape) (sym (append-nil (earlier_of b))) seen;
      holds = no_elements (at_rest recorded.rests);
    };
  }

  pub intact : Intact last pass prior d.tape (earlier_of b ++ w.notes.accepted) w.drive
  intact =
      runs_kept last pass (OnItsNewest b d.tape) (AsItStands b d.tape × NoneInTheWay b d.tape) prior begun.set
      (keeps_intact last pass (OnItsNewest b d.tape) (AsItStands b d.tape × NoneInTheWay b d.tape) prior (same, none) d.tape begun.set.large)
      (earlier_of b) true begun.whole (λ _. first_intact) recorded.runs (throughout_any (λ _. Unit {0}) (λ _. tt) recorded.runs) window_kept

  opens : (a : ℕ) (h : List ℕ) → HeaderAt last w.drive.tape a h → (reading.open_of g h).number ≡ 0
  opens a h at = opens_at g last w.drive.tape a h e intact.on_tape.cartridge at

  reads : (a : ℕ) (h : List ℕ) → HeaderAt last w.drive.tape a h → IsCopy b h ⊎ IsNewer b h → (at : ℕ) (read : List readings.Call) (r : readings.World)
      → readings.Runs w.drive.tape (readings.started (reading.open_of g h).session at) read r → FaithfulInPart last (earlier_of b) w.notes.accepted (MayEnd b d.tape w.drive.tape) r
  reads a h at is from read r runs2 =
      let told = ⊎_elim (λ q. old_told g last seg trk e s d.tape b newest a h (record { group = at.group; reads = q; valid = at.valid }) is) (λ c. own_told begun.set c) (intact.on_tape.traced a h at) in
      let roof = (start_started g last seg trk e s b).roof in
      reads_part begun.set.large (earlier_of b) w.notes.accepted refl (omega arith) w.drive intact (MayEnd b d.tape w.drive.tape) (start_ends g last seg trk e s d.tape b w.drive.tape none)
      (header_of h) (valid_last last h at.valid) told.0 told.1 g h from read r seg trk e refl (opens a h at) runs2

pub power_cut : PowerCut
unfolding PowerCut
power_cut g last d s b w recorded newest same none kept = record {
  cartridge = (intact g last d s b w recorded newest same none kept).on_tape.cartridge;
  opens = opens g last d s b w recorded newest same none kept;
  reads = reads g last d s b w recorded newest same none kept;
}

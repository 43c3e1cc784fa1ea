-- The bounds of 02, Card 12, are reached, however the session was opened; on a blank cartridge such a list reads back. Assumes nothing.
use Prim.Native.Nat.{ℕ, ◌+◌, ◌-◌, ◌*◌, ◌^◌, ◌≤◌, ◌<◌}
use mathlib.Core.Path.{◌≡◌, refl, sym, ap, subst, ◌∙◌}
use mathlib.Core.Bool.{false}
use mathlib.Core.List.{List}
use mathlib.Core.Logic.{inl, inr, ⊎_elim}
use mathlib.Core.Option.{Option, none, some}
use native.Mathlib.Nat.{add-mul, mod-eq_of_lt}
use native.Mathlib.Omega.{arith}
use borrow.Author.Tests.{ne_eqb, le-ltb}
use lib.Dec.{leb}
use lib.ListN.{length}
use Rattle.geometry.specs.Place.{PlaceSaid, address, as_address}
use Rattle.geometry.specs.Cartridge.{last_of}
use Rattle.geometry.specs.declared.cartridge.Geometry.{Geometry}
use Rattle.geometry.proofs.Last.{frames_of_lem, last_small}
use Rattle.geometry.proofs.Impossible.{never}
use Rattle.geometry.proofs.PickLaws.{pick_f, pick_by}
use Rattle.geometry.proofs.TestLaws.{neither}
use Rattle.frame_bounds.specs.Bounds.{smaller, copies_again}
use Rattle.frame_bounds.proofs.SmallerLaws.{smaller_left, smaller_right, below_smaller}
use Rattle.carried_headers.specs.Carried.{opening_header}
use Rattle.recording_state.specs.State.{accepting, window_length}
use Rattle.recording_state.specs.Open.{started_at, setup_of, fresh, is_misfit, open_with, open_blank_for, open_blank_of}
use Rattle.recording_state.specs.declared.state.Setup.{Setup}
use Rattle.recording_state.specs.declared.state.State.{State}
use Rattle.archive_lists.specs.Conduct.{Drive, empty}
use Rattle.archive_lists.specs.Tape.{Cartridge}
use Rattle.archive_lists.specs.Openings.{on_none}
use Rattle.archive_lists.specs.Recordings.{Element, started}
use Rattle.archive_lists.proofs.recording.Start.{Started, Starts}
use Rattle.archive_counts.specs.Acceptable.{Acceptable}
use Rattle.archive_counts.proofs.Tallies.{Tally}
use Rattle.archive_counts.proofs.run.Goes.{Goes}
use Rattle.archive_counts.proofs.run.Standing.{Sizes, Batch}
use Rattle.archive_counts.proofs.run.Places.{Clear, room_at}
use Rattle.archive_counts.proofs.run.Closing.{Ends}
use Rattle.archive_counts.proofs.run.Whole.{account_of, all_goes}
use Rattle.archive.specs.Chain as chain
use Rattle.archive.specs.Chain.{Start, Continued, Adds}
use Rattle.archive.specs.Demand.{Readable}
use Rattle.archive.specs.WorstCase.{depth_of, blocks_of, tail_of, start_of, EnoughTape, ClearOfReserved, Reaches, WorstReached, blank_drive, WorstOnBlank}
use Rattle.archive.proofs.Chain.{adds}
use Rattle.archive.proofs.Continued.{start_started}
use Rattle.archive.proofs.WorstCase.{start_starts}

-- ---- what was counted, as the statement says it

reached : (s : State) (window : List ℕ) (d : Drive) (depth blocks : ℕ) (xs : List Element) (e h k : ℕ)
    → Goes (started s window d) (account_of (length xs) e (smaller depth blocks) depth h k) (Ends xs) → Reaches s window d depth blocks xs e (h + k)
reached s window d depth blocks xs e h k x = record {
  calls = x.calls;
  world = x.end;
  runs = x.runs;
  reported = x.holds.reported;
  unaltered = x.holds.noted.unaltered;
  ungiven = x.holds.noted.ungiven;
  accepted = x.holds.noted.accepted;
  errors = ap (λ (t : Tally). t.errors) x.tally_is ∙ omega arith;
  taken = ap (λ (t : Tally). t.taken) x.tally_is ∙ omega arith;
  header_errors = ap (λ (t : Tally). t.header_errors) x.tally_is ∙ omega arith;
  headers_taken = ap (λ (t : Tally). t.headers) x.tally_is ∙ omega (arith, add-mul h k (copies_again depth));
}

reaches : (last depth blocks tail at : ℕ) (earlier : List Element) (d : Drive) (s : State) (window : List ℕ) (xs : List Element) (e h : ℕ) → last + 65 < 2 ^ 32
    → Started last earlier at s → Starts depth blocks tail s → length window ≡ window_length s
    → Acceptable xs → smaller depth blocks ≤ length xs → h ≤ 4 → EnoughTape at (length xs) e (smaller depth blocks) tail last → ClearOfReserved at (smaller depth blocks)
    → Reaches s window d depth blocks xs e h
reaches last depth blocks tail at earlier d s window xs e h low x y wide able enough few room clear =
    let m = smaller depth blocks in
    let i : ℕ = smaller h 2 in
    let deep = y.sizes.deep in
    let least = y.sizes.some in
    let most = y.sizes.few in
    let last_is = x.last_is in
    let sizes : Sizes (setup_of depth blocks tail) (last + 1) = record { deep = deep; narrow = omega arith; fits = omega arith } in
    let batch : Batch (setup_of depth blocks tail) m = record { least = below_smaller 1 depth blocks deep least; deep = smaller_left depth blocks; wide = let q = smaller_right depth blocks in omega arith } in
    let setup_is : x.setup ≡ setup_of depth blocks tail = ap (λ (t : State). t.setup) x.is ∙ sym (ap (λ (t : State). t.setup) y.is) in
    let is : started_at (setup_of depth blocks tail) x.header (as_address at) x.number x.trail ≡ s =
    subst (λ (t : Setup). started_at t x.header (as_address at) x.number x.trail ≡ s) setup_is x.is in
    let left : i ≤ h = smaller_left h 2 in
    let right : h - i ≤ 2 = pick_by (λ (k : ℕ). h - k ≤ 2) (leb h 2) (λ _. omega arith) (λ _. omega arith) in
    let shared : i + (h - i) ≡ h = omega arith in
    let off : Clear at m = ⊎_elim (λ l. inl (omega arith)) (λ l. inr (omega arith)) clear in
    subst (Reaches s window d depth blocks xs e) shared
    (reached s window d depth blocks xs e i (h - i)
    (subst (λ (t : State). Goes (started t window d) (account_of (length xs) e m depth i (h - i)) (Ends xs)) is
    (all_goes sizes m e i (h - i) x.header x.number x.trail at xs window d
    (mod-eq_of_lt (omega arith) ∙ omega arith) (wide ∙ sym (ap window_length is)) able (smaller_right h 2) right batch enough
    (room_at m tail last at (e + (length xs + 1)) off (omega arith)) off)))

pub worst_reached : WorstReached
unfolding WorstReached
worst_reached g last d s b window xs e h sized wide able enough few room clear =
    let seg = sized.segtrk in
    let trk = sized.trks in
    let le = sized.is_last in
    reaches last (depth_of b) (blocks_of b) (tail_of b) (start_of b) (chain.earlier_of b) d s window xs e h (last_small g last seg trk (frames_of_lem g last le))
    (start_started g last seg trk le s b) (start_starts le b) wide able (omega arith) (omega arith) room clear

-- ---- on a blank cartridge

nothing_reads : {X : Type 0} {f : List ℕ} → ◌≡◌ {A = Option (List ℕ)} none (some f) → X
nothing_reads e = never (cc)

blank_cartridge : (last : ℕ) → Cartridge last blank_drive.tape
blank_cartridge last = record { long = λ a f e. nothing_reads e; bounded = λ a l. refl }

fits : (depth blocks : ℕ) → 1 ≤ depth → 1 ≤ blocks → blocks ≤ 64 → is_misfit depth blocks ≡ false
fits depth blocks deep least most = neither _ _ (ne_eqb depth 0 (λ z. omega arith)) (neither _ _ (ne_eqb blocks 0 (λ z. omega arith)) (le-ltb 64 blocks most))

blank_opens : (g : Geometry) (last depth blocks tail : ℕ) → last_of g ≡ address last → is_misfit depth blocks ≡ false
    → open_blank_of g depth blocks tail ≡ accepting (fresh (setup_of depth blocks tail) (opening_header (as_address last) 1 0))
unfolding open_blank_of open_with
blank_opens g last depth blocks tail le sizes = ap (λ (y : PlaceSaid). open_blank_for y depth blocks tail) le ∙ pick_f _ sizes

pub worst_on_blank : WorstOnBlank
unfolding WorstReached WorstOnBlank Adds
worst_on_blank g last depth blocks tail window xs e h sized deep _ least most _ wide able enough few room =
    let s : State = fresh (setup_of depth blocks tail) (opening_header (as_address last) 1 0) in
    let o : open_blank_of g depth blocks tail ≡ accepting s = blank_opens g last depth blocks tail sized.is_last (fits depth blocks deep least most) in
    let b : Start g last s = chain.fresh depth blocks tail on_none o in
    let narrow : smaller depth blocks ≤ blocks = smaller_right depth blocks in
    let all : blocks ≡ blocks - 1 + 1 = omega arith in
    let x : Reaches s window blank_drive depth blocks xs e h = worst_reached g last blank_drive s b window xs e h sized
    (wide ∙ ap (λ (k : ℕ). k * 32768) all) able enough few room (inl (omega arith)) in
    let c : Continued g last blank_drive.tape s b x.world = adds g last blank_drive s b x.world
    (record { sized = sized; cartridge = blank_cartridge last; unwritten = refl; rests = empty refl; window = window; calls = x.calls; runs = x.runs }) in
    record {
      session = s;
      opens = o;
      reaches = x;
      readable = subst (Readable g last x.world.drive.tape) x.accepted
          (c.readable x.ungiven (λ a f there. nothing_reads there.reads) tt (λ a f user reads. nothing_reads reads) x.unaltered x.reported).0;
    }

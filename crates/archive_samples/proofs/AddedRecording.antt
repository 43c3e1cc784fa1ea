-- A sample recording that adds to the cartridge that the first left, from its opening behind a reading to done: a chain of two sessions, of which Chains speaks. Assumes nothing.
use Prim.Native.Nat.{ℕ, ◌≤◌, ◌<◌}
use mathlib.Core.Path.{◌≡◌, refl, ap, sym, subst, ◌∙◌}
use mathlib.Core.Bool.{Bool, true}
use mathlib.Core.List.{List, [], ◌∷◌, ◌++◌}
use mathlib.Core.Logic.{◌⊎◌, inl, inr}
use mathlib.Core.Option.{none, some}
use native.Mathlib.Omega.{arith}
use lib.Dec.{lit<, lit≤}
use lib.ListN.{length}
use Rattle.geometry.specs.Place.{as_address}
use Rattle.geometry.specs.declared.cartridge.Geometry.{Geometry}
use Rattle.geometry.proofs.UserFrames.{User, user_ranges}
use Rattle.frame.specs.Frame.{blank, element_frame}
use Rattle.frame.specs.Header.{header_frame}
use Rattle.frame.specs.declared.header.Header.{Header}
use Rattle.header.specs.Valid.{valid_header, header_of}
use Rattle.header.proofs.Built.{built_valid, built_fields}
use Rattle.archive_lists.specs.Conduct as conduct
use Rattle.archive_lists.specs.Conduct.{Drive}
use Rattle.drive.specs.Senses.{meaning_in}
use Rattle.archive_lists.specs.Tape.{Tape, put, Cartridge}
use Rattle.drive.specs.declared.command.Command.TheVariants.{Write, Locate, ReadPosition}
use Rattle.elements.specs.Trail.{trail_of}
use Rattle.elements.specs.Due.{due_of}
use Rattle.elements.specs.Reply as reply
use Rattle.elements.specs.declared.elements.Elements.{Elements}
use Rattle.recording_state.specs.Open.{started_at, setup_of, fresh}
use Rattle.recording_state.specs.State.{accepting, settled_of}
use Rattle.recording_state.specs.Due.{decision_of}
use Rattle.recording_state.specs.Written.{written_frame, written_element, element_of}
use Rattle.recording_state.specs.Reply.{reply_by, reply_of}
use Rattle.recording_state.specs.declared.state.State.{State}
use Rattle.reading_state.specs.State.{end_of}
use Rattle.reading_state.specs.Open as reading
use Rattle.adding_opening.specs.AtEnd.{open_at_end_of}
use Rattle.archive_lists.specs.Headers.{Newest}
use Rattle.archive_lists.specs.Recordings.{Element, Notes, World, Call, Runs, started}
use Rattle.archive_lists.specs.Readings as readings
use Rattle.archive_lists.specs.Openings.{on_none}
use Rattle.archive.specs.Demand.{Readable}
use Rattle.archive.specs.Chain as chain
use Rattle.archive.specs.Chain.{NoneAbove, Adds, Continued, Chain, accepted_in, NoneGiven, ReadTogether, Chains}
use Rattle.archive_samples.specs.Sample.{geometry, depth, blocks, good, stopped, older, first_opening, window, first_elements, first_block, first_filemark, first_eod, first_closing, first_calls, first_reading, added_opening, added_elements, added_error, added_filemark, added_eod, added_closing, through_eod, added_calls}
use Rattle.archive_lists.proofs.tape.Basics.{none_some}
use Rattle.archive_lists.proofs.tape.FoldLaws.{put_other}
use Rattle.archive_samples.proofs.Exchange.{Step, between, reported}
use Rattle.archive_samples.proofs.Flush.{buffered, starting_on}
use Rattle.archive_samples.proofs.Headers.{writing, ending, closing, finished, headers_written, opening_written_at, closing_written}
use Rattle.archive_samples.proofs.Tapes.{empty, same_reads, headers_elsewhere, headers_newest}
use Rattle.archive_samples.proofs.Elements.{element_failed}
use Rattle.archive_samples.proofs.Filemark.{reaches, located, eod_due, eod_on_tape, filemark_begun, filemark_taken_lem, filemark_written, eod_written_lem}
use Rattle.archive_samples.proofs.FirstRecording.{window_long, after_failure, after_block, after_filemark, first_opened, first_written, first_left, first_end, first_opened_lem, first_runs, first_cartridge, first_on_none, first_bears_none, first_newest, first_sized}
use Rattle.archive_samples.proofs.FirstReading.{first_trail, first_read_world, first_reading_opened, first_read}
use Rattle.archive_samples.proofs.SecondRecording.{second_cartridge}
use Rattle.archive.proofs.Chain.{adds, chains}

-- ---- the opening

abbrev pub added_state : State
added_state = started_at (setup_of depth 1 0) added_opening (as_address 46) (record { 0 = 2 }) first_trail

pub added_opened_lem : (b : List ℕ) → open_at_end_of (first_read_world b).session depth blocks 0 ≡ accepting added_state
unfolding open_at_end_of
added_opened_lem b = refl

-- ---- the filemark fails at 46 and is due again at 80

abbrev filemark_taken : Elements
filemark_taken = reply.taken_of (located 11999 46 2 first_trail)

abbrev filemark_failed : Elements
filemark_failed = reply.relocated_of (reply.confirmed_of filemark_taken 0) (as_address 80)

abbrev relocated : Elements
relocated = reply.located_of filemark_failed (as_address 80)

filemark_failed_lem : Step (writing 0 added_opening filemark_taken (Write (as_address 46))) ReadPosition added_error (writing 0 added_opening filemark_failed ReadPosition)
unfolding decision_of due_of reply_of reply_by reply.failed_of reply.confirmed_of trail_of settled_of meaning_in
filemark_failed_lem = record { free = refl; sized = refl; decided = refl; replied = refl }

filemark_relocated : Step (writing 0 added_opening filemark_failed ReadPosition) (Locate (as_address 80)) good (writing 0 added_opening relocated (Locate (as_address 80)))
unfolding decision_of due_of reply_of reply_by reply.confirmed_of settled_of meaning_in
filemark_relocated = record { free = refl; sized = refl; decided = refl; replied = refl }

-- and is then written, with EOD behind it
abbrev pub marks : List Bool
marks = (located 11999 46 2 first_trail).queue.marks

abbrev pub eod_written : Elements
eod_written = eod_on_tape 11999 80 2 80 first_trail marks

-- ---- the tape, by what was written

-- at the failed address the old EOD still reads
abbrev pub after_error : Tape → Tape
after_error t = put t 46 (t 46)

abbrev pub after_mark : Tape → Tape
after_mark t = put (after_error t) 80 (some (element_frame added_filemark blank))

abbrev pub after_end : Tape → Tape
after_end t = put (after_mark t) 81 (some (element_frame added_eod blank))

-- the drive as the first recording left it, for which nothing is written yet; after the opening headers, after EOD, and at the end
abbrev pub added_start : List ℕ → Drive
added_start b = starting_on (first_left b)

abbrev pub added_opened : List ℕ → Drive
added_opened b = headers_written added_opening (added_start b)

abbrev pub added_written : List ℕ → Drive
added_written b = buffered (after_end (added_opened b).tape) 82 (81 ∷ 80 ∷ 46 ∷ (added_opened b).written) []

abbrev pub added_left : List ℕ → Drive
added_left b = headers_written added_closing (added_written b)

-- the close has reported done
abbrev pub added_end : List ℕ → World
added_end b = reported window added_elements (finished 0 added_closing eod_written) (added_left b)

-- ---- the list

filemark_frame : written_frame (writing 0 added_opening relocated (Locate (as_address 80))) window ≡ element_frame added_filemark blank
unfolding written_frame written_element element_of element_frame reply.confirmed_of trail_of
filemark_frame = refl

eod_frame : written_frame (ending 0 added_opening (eod_due 11999 80 2 80 first_trail marks) ReadPosition) window ≡ element_frame added_eod blank
unfolding written_frame written_element element_of element_frame reply.confirmed_of trail_of
eod_frame = refl

-- up to its closing headers
pub through_eod_lem : (b : List ℕ) {cs : List Call} {u : World} → Runs (between window added_elements (closing 0 added_closing eod_written) (added_written b)) cs u → Runs (started added_state window (added_start b)) (through_eod cs) u
unfolding reply.confirmed_of trail_of
through_eod_lem b rest =
    let t : Tape = (added_opened b).tape in
    let past : List ℕ = (added_opened b).written in
    opening_written_at 0 window window_long added_opening (as_address 46) (record { 0 = 2 }) first_trail (added_start b)
    (filemark_begun 11999 46 2 first_trail reaches added_opening (lit< tt) (added_opened b)
    (element_failed window window_long added_elements t past 46 34 80 (filemark_taken_lem 11999 46 2 46 first_trail marks added_opening reaches (lit< tt) (Locate (as_address 46))) filemark_failed_lem filemark_relocated
    (filemark_written 11999 80 2 80 first_trail marks added_opening reaches (lit< tt) added_elements (after_error t) (46 ∷ past) (element_frame added_filemark blank) (Locate (as_address 80)) filemark_frame
    (eod_written_lem 11999 80 2 80 first_trail marks added_opening reaches (lit< tt) added_elements (after_mark t) (80 ∷ 46 ∷ past) (element_frame added_eod blank) eod_frame
    rest))))

pub added_runs : (b : List ℕ) → Runs (started added_state window (added_start b)) added_calls (added_end b)
added_runs b = through_eod_lem b (closing_written 0 window window_long added_elements eod_written added_closing (added_written b))

-- ---- the premises

outside : {a : ℕ} → User 11999 a → ((10 ≤ a) × (a ≤ 2989)) ⊎ (2995 ≤ a)
outside (inl r) = inl r
outside (inr r) = inr (omega (arith, r.0))

-- nothing reads above the first recording's EOD
pub above_empty : (b : List ℕ) (a : ℕ) → 46 < a → ((10 ≤ a) × (a ≤ 2989)) ⊎ (2995 ≤ a) → (first_left b).tape a ≡ none
above_empty b a high off =
    let t : Tape = first_opened.tape in
    headers_elsewhere first_closing (first_written b) a off
    ∙ put_other (after_filemark b t) 46 (some (element_frame first_eod blank)) a (λ e. omega arith)
    ∙ put_other (after_block b t) 45 (some (element_frame first_filemark blank)) a (λ e. omega arith)
    ∙ put_other (after_failure t) 44 (some (element_frame first_block b)) a (λ e. omega arith)
    ∙ same_reads t 10 a
    ∙ headers_elsewhere first_opening stopped a off
    ∙ put_other empty 10 (some (element_frame older blank)) a (λ e. omega arith)

none_above : (b : List ℕ) (pass : ℕ) → NoneAbove 11999 (first_left b).tape 46 pass
none_above b pass a f user high reads bears = none_some (sym (above_empty b a high (outside (user_ranges 11999 a user))) ∙ reads)

-- ---- a chain, and a session behind it that adds where a reading of its tape ended, on a drive with nothing buffered

module _ (g : Geometry) (last : ℕ) (t : Tape) (ns : List Notes) (before : Chain g last chain.afresh t [] ns) (at : ℕ) (s : State) (h : List ℕ) (r : readings.World) (read : chain.HasRead g last t h r)
    (opened : open_at_end_of r.session depth blocks 0 ≡ accepting s) (newest : Newest last t h) (clear : NoneAbove last t (end_of r.session).0 (header_of h).pass) where
  pub chain_continued : (calls : List Call) (w : World) → Runs (started s window (buffered t at [] [])) calls w → w.notes.unaltered ≡ true → w.notes.reported ≡ true
      → Chain g last chain.afresh w.drive.tape [] (ns ++ w.notes ∷ [])
  chain_continued calls w runs unaltered reported =
      chain.more t [] ns before (buffered t at [] []) s (chain.added depth blocks 0 t h r read opened) w read.cartridge refl (λ _ _. refl) newest (record {
        unwritten = refl;
        rests = conduct.empty refl;
        on_newest = newest;
        as_it_stands = λ _ _. refl;
        none_in_the_way = clear;
        window = window;
        calls = calls;
        runs = runs;
        unaltered = unaltered;
        reported = reported;
      })

-- where nothing was given up, reading gives all that was accepted
pub chain_readable : (t : Tape) (ns : List Notes) → Chain geometry 11999 chain.afresh t [] ns → NoneGiven ns → Readable geometry 11999 t (accepted_in ns)
unfolding Chains
chain_readable t ns c ungiven =
    let together : ReadTogether geometry 11999 t [] ns = (chains geometry 11999 chain.afresh t [] ns first_sized c).0 in
    subst (λ (xs : List Element). Readable geometry 11999 t xs) (together.whole ungiven) together.readable

-- ---- the chain of the first recording and this one

module _ (b : List ℕ) (full : length b ≡ 32768) where
  pub first_chain : Chain geometry 11999 chain.afresh (first_left b).tape [] ((first_end b).notes ∷ [])
  first_chain = chain.first stopped (fresh (setup_of depth 1 0) first_opening) (chain.fresh depth blocks 0 on_none first_opened_lem) (first_end b) first_cartridge refl (record {
    unwritten = refl;
    rests = conduct.stopped refl;
    on_newest = first_on_none;
    as_it_stands = tt;
    none_in_the_way = first_bears_none;
    window = window;
    calls = first_calls b;
    runs = first_runs b full;
    unaltered = refl;
    reported = refl;
  })

  pub first_read_at : chain.HasRead geometry 11999 (first_left b).tape (header_frame first_closing) (first_read_world b)
  first_read_at = record {
    cartridge = second_cartridge b full;
    opens = ap (λ (x : reading.OpenedSaid). x.number) first_reading_opened;
    at = 0;
    calls = first_reading b;
    runs = first_read b full 0;
  }

  pub none_in_the_way : NoneAbove 11999 (first_left b).tape 46 (header_of (header_frame first_closing)).pass
  none_in_the_way = none_above b (header_of (header_frame first_closing)).pass

  pub added_chain : Chain geometry 11999 chain.afresh (added_left b).tape [] ((first_end b).notes ∷ (added_end b).notes ∷ [])
  added_chain =
      chain_continued geometry 11999 (first_left b).tape ((first_end b).notes ∷ []) first_chain (first_left b).at added_state (header_frame first_closing) (first_read_world b) first_read_at (added_opened_lem b) (first_newest b) none_in_the_way
      added_calls (added_end b) (added_runs b) refl refl

  -- reading gives the elements of both
  pub added_readable : Readable geometry 11999 (added_left b).tape (first_elements b ++ added_elements)
  unfolding accepted_in NoneGiven
  added_readable = chain_readable (added_left b).tape ((first_end b).notes ∷ (added_end b).notes ∷ []) added_chain (refl, (refl, tt))

-- the newest header of the cartridge as left
pub added_valid : valid_header (as_address 11999) (header_frame added_closing) ≡ true
added_valid = built_valid added_closing (lit< tt) (lit≤ tt) (lit< tt) refl

pub added_newest : (b : List ℕ) → Newest 11999 (added_left b).tape (header_frame added_closing)
added_newest b = headers_newest added_closing (added_written b) 11999 added_valid

-- what the next session needs of it: a cartridge, and on it no frame of the pass above the end
module _ (b : List ℕ) (full : length b ≡ 32768) where
  -- what Adds says of this session
  abbrev pub at_first_end : chain.Start geometry 11999 added_state
  at_first_end = chain.added depth blocks 0 (first_left b).tape (header_frame first_closing) (first_read_world b) (first_read_at b full) (added_opened_lem b)

  added_continued : Continued geometry 11999 (first_left b).tape added_state at_first_end (added_end b)
  unfolding Adds
  added_continued = adds geometry 11999 (added_start b) added_state at_first_end (added_end b)
      (record { sized = first_sized; cartridge = second_cartridge b full; unwritten = refl; rests = conduct.empty refl; window = window; calls = added_calls; runs = added_runs b })

  pub added_cartridge : Cartridge 11999 (added_left b).tape
  added_cartridge = (added_continued.readable refl (first_newest b) (λ _ _. refl) (none_in_the_way b full) refl refl).1

  pub added_clear : NoneAbove 11999 (added_left b).tape 81 (header_of (header_frame added_closing)).pass
  added_clear =
      subst (λ (x : Header). NoneAbove 11999 (added_left b).tape x.eod.0 (header_of (header_frame added_closing)).pass) (built_fields added_closing (lit< tt) (lit< tt) (lit< tt) (lit< tt) (lit< tt))
      (added_continued.clear (first_newest b) (none_in_the_way b full) refl (header_frame added_closing) (added_newest b))

-- The second sample recording, on the newest header that the first left, from its opening to done: every premise of demand 3 holds. Assumes nothing.
use Prim.Native.Nat.{ℕ, ◌+◌}
use mathlib.Core.Path.{◌≡◌, refl, ap, sym, subst, ◌∙◌}
use mathlib.Core.Bool.{Bool, true}
use mathlib.Core.List.{List, [], ◌∷◌}
use mathlib.Core.Option.{some}
use native.Mathlib.Omega.{arith}
use lib.Dec.{lit<, lit≤}
use lib.ListN.{length}
use Rattle.geometry.specs.Place.{as_address}
use Rattle.frame.specs.declared.element.Kind.TheVariants.{Data}
use Rattle.frame.specs.Frame.{blank, element_frame}
use Rattle.frame.specs.Header.{header_frame}
use Rattle.frame.specs.declared.header.Header.{Header}
use Rattle.frame.proofs.Frames.{header_length}
use Rattle.header.specs.Valid.{valid_header}
use Rattle.header.specs.Read.{CheckedSaid}
use Rattle.header.proofs.ReadLaws.{valid_taken}
use Rattle.frame.proofs.HeaderFields.{header_pass}
use Rattle.header.proofs.Built.{built_valid, built_fields}
use Rattle.archive_lists.specs.Conduct as conduct
use Rattle.archive_lists.specs.Conduct.{Drive}
use Rattle.drive.specs.Senses.{meaning_in}
use Rattle.archive_lists.specs.Tape.{Tape, put, Cartridge}
use Rattle.drive.specs.declared.command.Command.TheVariants.{Write, Locate, ReadPosition}
use Rattle.frame.specs.Trail.{no_trail}
use Rattle.elements.specs.Trail.{trail_of}
use Rattle.elements.specs.Due.{due_of}
use Rattle.elements.specs.Reply as reply
use Rattle.elements.specs.declared.elements.Elements.{Elements}
use Rattle.carried_headers.specs.Carried.{is_exhausted, renewed}
use Rattle.recording_state.specs.Open.{setup_of, fresh, open_with, open_for, open_of}
use Rattle.recording_state.specs.State.{accepting, settled_of}
use Rattle.recording_state.specs.Due.{decision_of}
use Rattle.recording_state.specs.Written.{written_frame, written_element, element_of}
use Rattle.recording_state.specs.Reply.{reply_by, reply_of}
use Rattle.archive_lists.specs.Headers.{Newest}
use Rattle.archive_lists.specs.Recordings.{World, Runs, started}
use Rattle.archive_lists.specs.Openings.{NoneBears, new_pass, on_header}
use Rattle.archive.specs.Demand.{Promised, Readable, Demand3}
use Rattle.archive_samples.specs.Sample.{geometry, depth, blocks, good, stopped, first_opening, window, first_block, first_filemark, first_eod, first_closing, second_opening, second_elements, second_error, second_filemark, second_eod, second_closing, second_calls}
use Rattle.archive_samples.proofs.Exchange.{Step, reported, close_accepted}
use Rattle.archive_samples.proofs.Flush.{buffered, starting_on}
use Rattle.archive_samples.proofs.Headers.{writing, ending, closing, finished, headers_written, opening_written, closing_written}
use Rattle.archive_lists.proofs.tape.WrittenFrames.{block_fits}
use Rattle.archive_samples.proofs.Tapes.{frame_cartridge, frame_bears_none, same_cartridge, same_bears_none, headers_newest, headers_cartridge, headers_bear_none}
use Rattle.archive_samples.proofs.Elements.{element_written, element_failed}
use Rattle.archive_samples.proofs.Filemark.{reaches, located, on_tape, eod_due, filemark_begun, filemark_written, close_called, eod_taken_lem}
use Rattle.archive_samples.proofs.FirstRecording.{window_long, after_failure, after_block, after_filemark, first_opened, first_written, first_left, first_cartridge, older_bears, first_valid, first_newest, first_sized}
use Rattle.archive.proofs.Demand.{demand_3}

-- ---- the opening

pub second_opened_lem : open_of geometry depth blocks 0 (header_frame first_closing) ≡ accepting (fresh (setup_of depth 1 0) second_opening)
unfolding open_of open_with
second_opened_lem =
    ap (λ (c : CheckedSaid). open_for c depth blocks 0) (valid_taken geometry (header_frame first_closing) refl (header_length first_closing) first_valid)
    ∙ ap (λ (h : Header). open_with depth blocks 0 (is_exhausted h) (renewed h)) (built_fields first_closing (lit< tt) (lit< tt) (lit< tt) (lit< tt) (lit< tt))

-- ---- EOD fails at 11, behind the filemark at 10, and is due again at 45

abbrev marks : List Bool
marks = (located 11999 10 0 no_trail).queue.marks

abbrev eod_taken : Elements
eod_taken = reply.taken_of (eod_due 11999 10 0 10 no_trail marks)

abbrev eod_failed : Elements
eod_failed = reply.relocated_of (reply.confirmed_of eod_taken 0) (as_address 45)

abbrev relocated : Elements
relocated = reply.located_of eod_failed (as_address 45)

abbrev eod_retaken : Elements
eod_retaken = reply.taken_of relocated

abbrev eod_on_tape : Elements
eod_on_tape = reply.confirmed_of eod_retaken 1

eod_failed_lem : Step (ending 0 second_opening eod_taken (Write (as_address 11))) ReadPosition second_error (ending 0 second_opening eod_failed ReadPosition)
unfolding decision_of due_of reply_of reply_by reply.failed_of reply.confirmed_of trail_of settled_of meaning_in
eod_failed_lem = record { free = refl; sized = refl; decided = refl; replied = refl }

eod_relocated : Step (ending 0 second_opening eod_failed ReadPosition) (Locate (as_address 45)) good (ending 0 second_opening relocated (Locate (as_address 45)))
unfolding decision_of due_of reply_of reply_by reply.confirmed_of settled_of meaning_in
eod_relocated = record { free = refl; sized = refl; decided = refl; replied = refl }

eod_retaken_lem : Step (ending 0 second_opening relocated (Locate (as_address 45))) (Write (as_address 45)) good (ending 0 second_opening eod_retaken (Write (as_address 45)))
unfolding decision_of due_of reply_of reply_by reply.confirmed_of settled_of meaning_in
eod_retaken_lem = record { free = refl; sized = refl; decided = refl; replied = refl }

eod_confirmed : Step (ending 0 second_opening eod_retaken (Write (as_address 45))) ReadPosition good (closing 0 second_closing eod_on_tape)
unfolding decision_of due_of reply_of reply_by reply.counted_of reply.confirmed_of settled_of meaning_in
eod_confirmed = record { free = refl; sized = refl; decided = refl; replied = refl }

-- ---- the tape, by what was written

abbrev pub after_mark : Tape → Tape
after_mark t = put t 10 (some (element_frame second_filemark blank))

-- the failed address reads as before
abbrev pub after_error : Tape → Tape
after_error t = put (after_mark t) 11 (after_mark t 11)

abbrev after_end : Tape → Tape
after_end t = put (after_error t) 45 (some (element_frame second_eod blank))

-- the drive as the first recording left it, for which nothing is written yet; after the opening headers, after EOD, and at the end
abbrev pub second_start : List ℕ → Drive
second_start b = starting_on (first_left b)

abbrev pub second_opened : List ℕ → Drive
second_opened b = headers_written second_opening (second_start b)

abbrev pub second_written : List ℕ → Drive
second_written b = buffered (after_end (second_opened b).tape) 46 (45 ∷ 11 ∷ 10 ∷ (second_opened b).written) []

abbrev pub second_left : List ℕ → Drive
second_left b = headers_written second_closing (second_written b)

-- the close has reported done
abbrev pub second_end : List ℕ → World
second_end b = reported window second_elements (finished 0 second_closing eod_on_tape) (second_left b)

-- ---- the list

filemark_frame : written_frame (writing 0 second_opening (located 11999 10 0 no_trail) (Locate (as_address 10))) window ≡ element_frame second_filemark blank
unfolding written_frame written_element element_of element_frame trail_of
filemark_frame = refl

eod_frame : written_frame (ending 0 second_opening relocated (Locate (as_address 45))) window ≡ element_frame second_eod blank
unfolding written_frame written_element element_of element_frame reply.confirmed_of trail_of
eod_frame = refl

pub second_runs : (b : List ℕ) → Runs (started (fresh (setup_of depth 1 0) second_opening) window (second_start b)) second_calls (second_end b)
second_runs b =
    let t : Tape = (second_opened b).tape in
    let past : List ℕ = (second_opened b).written in
    opening_written 0 window window_long second_opening (second_start b)
    (filemark_begun 11999 10 0 no_trail reaches second_opening (lit< tt) (second_opened b)
    (filemark_written 11999 10 0 10 no_trail marks second_opening reaches (lit< tt) second_elements t past (element_frame second_filemark blank) (Locate (as_address 10)) filemark_frame
    (close_accepted window second_elements (writing 0 second_opening (on_tape 11999 10 0 10 no_trail marks) ReadPosition) (buffered (after_mark t) 11 (10 ∷ past) []) refl (close_called 11999 10 0 10 no_trail marks second_opening)
    (element_failed window window_long second_elements (after_mark t) (10 ∷ past) 11 34 45 (eod_taken_lem 11999 10 0 10 no_trail marks second_opening reaches (lit< tt)) eod_failed_lem eod_relocated
    (element_written window window_long second_elements (after_error t) (11 ∷ 10 ∷ past) 45 (element_frame second_eod blank) eod_frame eod_retaken_lem eod_confirmed
    (closing_written 0 window window_long second_elements eod_on_tape second_closing (second_written b)))))))

-- ---- the premises: the cartridge as the first left it, and first_newest

pub second_cartridge : (b : List ℕ) → length b ≡ 32768 → Cartridge 11999 (first_left b).tape
second_cartridge b full =
    let t : Tape = first_opened.tape in
    headers_cartridge first_closing (first_written b) 11999 (lit≤ tt)
    (frame_cartridge first_eod blank refl (after_filemark b t) 46 11999 (lit≤ tt)
    (frame_cartridge first_filemark blank refl (after_block b t) 45 11999 (lit≤ tt)
    (frame_cartridge first_block b (block_fits Data b full) (after_failure t) 44 11999 (lit≤ tt)
    (same_cartridge t 10 11999 (headers_cartridge first_opening stopped 11999 (lit≤ tt) first_cartridge)))))

-- the new pass is 2
pub second_bears_none : (b : List ℕ) → length b ≡ 32768 → NoneBears 11999 (first_left b).tape (new_pass (on_header (header_frame first_closing)))
second_bears_none b full =
    let t : Tape = first_opened.tape in
    subst (λ (n : ℕ). NoneBears 11999 (first_left b).tape (n + 1)) (sym (header_pass first_closing (lit< tt)))
    (headers_bear_none first_closing (first_written b) 11999 2
    (frame_bears_none first_eod blank refl (after_filemark b t) 46 11999 2 (lit< tt) (λ e. omega arith)
    (frame_bears_none first_filemark blank refl (after_block b t) 45 11999 2 (lit< tt) (λ e. omega arith)
    (frame_bears_none first_block b (block_fits Data b full) (after_failure t) 44 11999 2 (lit< tt) (λ e. omega arith)
    (same_bears_none t 10 11999 2 (headers_bear_none first_opening stopped 11999 2 (older_bears 2 (λ e. omega arith))))))))

-- ---- what demand 3 says of it

module _ (b : List ℕ) (full : length b ≡ 32768) where
  pub second_promised : Promised geometry 11999 (first_left b).tape (on_header (header_frame first_closing)) (second_end b)
  unfolding Demand3
  second_promised =
      demand_3 geometry 11999 depth blocks (second_start b) (on_header (header_frame first_closing)) (fresh (setup_of depth 1 0) second_opening) (second_end b) second_opened_lem
      (record { sized = first_sized; cartridge = second_cartridge b full; unwritten = refl; rests = conduct.empty refl; window = window; calls = second_calls; runs = second_runs b })

  pub second_readable : Readable geometry 11999 (second_left b).tape second_elements
  second_readable = second_promised.readable (first_newest b) (second_bears_none b full) refl refl

-- the newest header of the cartridge as left
pub second_valid : valid_header (as_address 11999) (header_frame second_closing) ≡ true
second_valid = built_valid second_closing (lit< tt) (lit≤ tt) (lit< tt) refl

pub second_newest : (b : List ℕ) → Newest 11999 (second_left b).tape (header_frame second_closing)
second_newest b = headers_newest second_closing (second_written b) 11999 second_valid

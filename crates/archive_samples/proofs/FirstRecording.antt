-- The first sample recording, from its opening to done: every premise of demand 3 holds. Assumes nothing.
use Prim.Native.Nat.{ℕ}
use mathlib.Core.Path.{◌≡◌, refl, ap, ◌∙◌}
use mathlib.Core.Bool.{true, false}
use mathlib.Core.List.{List, [], ◌∷◌}
use mathlib.Core.Option.{some}
use native.Mathlib.Omega.{arith}
use borrow.Author.Tests.{eq-eqb}
use lib.Dec.{lit<, lit≤}
use lib.ListN.{length}
use Rattle.geometry.specs.Place.{as_address}
use Rattle.frame.specs.Frame.{blank, element_frame, element_fits}
use Rattle.frame.specs.Header.{header_frame}
use Rattle.frame.specs.declared.element.Kind.TheVariants.{Data, Eod}
use Rattle.frame.proofs.Frames.{data_length}
use Rattle.header.specs.Valid.{valid_header, header_of}
use Rattle.header.proofs.Built.{built_valid}
use Rattle.archive_lists.specs.Conduct as conduct
use Rattle.archive_lists.specs.Conduct.{Drive, locates, waits}
use Rattle.drive.specs.Senses.{meaning_in}
use Rattle.archive_lists.specs.Tape.{Tape, put, HasLast, Cartridge}
use Rattle.drive.specs.declared.command.Command.TheVariants.{Write, Locate, ReadPosition}
use Rattle.elements.specs.Elements as elements
use Rattle.elements.specs.Trail.{trail_of}
use Rattle.elements.specs.Due.{due_of}
use Rattle.elements.specs.Reply as reply
use Rattle.elements.specs.declared.elements.Elements.{Elements}
use Rattle.recording_state.specs.Open.{setup_of, fresh, open_with, open_blank_of}
use Rattle.recording_state.specs.State.{accepting, refusing, settled_of}
use Rattle.recording_state.specs.Accept.{block_of, filemark_of, close_of}
use Rattle.recording_state.specs.Due.{decision_of}
use Rattle.recording_state.specs.Written.{written_frame, written_element, element_of}
use Rattle.recording_state.specs.Fetch.{awaits}
use Rattle.recording_state.specs.Reply.{repeated_of, reply_by, reply_of}
use Rattle.recording_state.specs.declared.state.State.{State}
use Rattle.archive_lists.specs.Headers.{Newest, NoHeader}
use Rattle.archive_lists.specs.Recordings.{block, World, Call, accept_block, accept_filemark, close, fetch, reply, Runs, started}
use Rattle.archive_lists.specs.Openings.{NoneBears, new_pass, on_none}
use Rattle.archive.specs.Demand.{Promised, Readable, Demand3}
use Rattle.archive.specs.EndNamed.{EndsAt, EndNamed}
use Rattle.archive_samples.specs.Sample.{geometry, depth, blocks, good, busy, older, tape, stopped, first_opening, window, frame, first_elements, window_with, first_error, first_block, first_filemark, first_eod, first_closing, exchanges, first_calls}
use Rattle.archive_samples.proofs.Exchange.{Step, between, reported, exchange, block_accepted_lem, filemark_accepted_lem, close_accepted, filemark_refused, close_refused}
use Rattle.archive_samples.proofs.Flush.{buffered}
use Rattle.recording_state.proofs.WindowLaws.{put_length, put_same_block}
use Rattle.archive_samples.proofs.Headers.{writing, ending, closing, finished, headers_written, opening_written, closing_written}
use Rattle.archive_lists.proofs.tape.WrittenFrames.{block_fits}
use Rattle.archive_samples.proofs.Tapes.{empty, empty_cartridge, empty_bears_none, frame_on_none, frame_cartridge, frame_bears_none, headers_newest}
use Rattle.archive_samples.proofs.Elements.{none_accepted, element_written, element_failed}
use Rattle.archive.proofs.Demand.{demand_3}
use Rattle.archive.proofs.EndNamed.{end_named}

-- ---- the opening

pub first_opened_lem : open_blank_of geometry depth blocks 0 ≡ accepting (fresh (setup_of depth 1 0) first_opening)
unfolding open_blank_of open_with
first_opened_lem = refl

pub window_long : length window ≡ 32768
window_long = data_length Eod [] refl

-- ---- the elements, by what has happened to them

abbrev block_accepted : Elements
block_accepted = elements.accepted_of none_accepted false

abbrev located : Elements
located = reply.located_of block_accepted (as_address 10)

abbrev block_taken : Elements
block_taken = reply.taken_of located

abbrev block_failed : Elements
block_failed = reply.relocated_of (reply.confirmed_of block_taken 0) (as_address 44)

abbrev relocated : Elements
relocated = reply.located_of block_failed (as_address 44)

abbrev block_retaken : Elements
block_retaken = reply.taken_of relocated

abbrev block_on_tape : Elements
block_on_tape = reply.confirmed_of block_retaken 1

abbrev filemark_accepted : Elements
filemark_accepted = elements.accepted_of block_on_tape true

abbrev filemark_taken : Elements
filemark_taken = reply.taken_of filemark_accepted

abbrev filemark_on_tape : Elements
filemark_on_tape = reply.confirmed_of filemark_taken 1

abbrev eod_due : Elements
eod_due = elements.eod_due filemark_on_tape

abbrev eod_taken : Elements
eod_taken = reply.taken_of eod_due

abbrev eod_on_tape : Elements
eod_on_tape = reply.confirmed_of eod_taken 1

-- ---- the calls, by what happens

block_located : Step (writing 0 first_opening block_accepted ReadPosition) (Locate (as_address 10)) good (writing 0 first_opening located (Locate (as_address 10)))
unfolding decision_of due_of reply_of reply_by settled_of meaning_in
block_located = record { free = refl; sized = refl; decided = refl; replied = refl }

abbrev repeating : State
repeating = repeated_of (awaits (writing 0 first_opening located (Locate (as_address 10))) (Write (as_address 10)))

write_busy : Step (writing 0 first_opening located (Locate (as_address 10))) (Write (as_address 10)) busy repeating
unfolding decision_of due_of reply_of reply_by meaning_in
write_busy = record { free = refl; sized = refl; decided = refl; replied = refl }

write_repeated : Step repeating (Write (as_address 10)) good (writing 0 first_opening block_taken (Write (as_address 10)))
unfolding decision_of reply_of reply_by settled_of meaning_in
write_repeated = record { free = refl; sized = refl; decided = refl; replied = refl }

write_failed : Step (writing 0 first_opening block_taken (Write (as_address 10))) ReadPosition first_error (writing 0 first_opening block_failed ReadPosition)
unfolding decision_of due_of reply_of reply_by reply.failed_of reply.confirmed_of trail_of settled_of meaning_in
write_failed = record { free = refl; sized = refl; decided = refl; replied = refl }

block_relocated : Step (writing 0 first_opening block_failed ReadPosition) (Locate (as_address 44)) good (writing 0 first_opening relocated (Locate (as_address 44)))
unfolding decision_of due_of reply_of reply_by reply.confirmed_of settled_of meaning_in
block_relocated = record { free = refl; sized = refl; decided = refl; replied = refl }

block_retaken_lem : Step (writing 0 first_opening relocated (Locate (as_address 44))) (Write (as_address 44)) good (writing 0 first_opening block_retaken (Write (as_address 44)))
unfolding decision_of due_of reply_of reply_by reply.confirmed_of settled_of meaning_in
block_retaken_lem = record { free = refl; sized = refl; decided = refl; replied = refl }

block_confirmed : Step (writing 0 first_opening block_retaken (Write (as_address 44))) ReadPosition good (writing 0 first_opening block_on_tape ReadPosition)
unfolding decision_of due_of reply_of reply_by reply.counted_of reply.confirmed_of settled_of meaning_in
block_confirmed = record { free = refl; sized = refl; decided = refl; replied = refl }

-- the window is full until the block is on tape
filemark_early : filemark_of (writing 0 first_opening block_accepted ReadPosition) ≡ refusing (writing 0 first_opening block_accepted ReadPosition) 6
unfolding filemark_of
filemark_early = refl

filemark_in_time : filemark_of (writing 0 first_opening block_on_tape ReadPosition) ≡ accepting (writing 0 first_opening filemark_accepted ReadPosition)
unfolding filemark_of reply.confirmed_of
filemark_in_time = refl

filemark_taken_lem : Step (writing 0 first_opening filemark_accepted ReadPosition) (Write (as_address 45)) good (writing 0 first_opening filemark_taken (Write (as_address 45)))
unfolding decision_of due_of reply_of reply_by reply.confirmed_of settled_of meaning_in
filemark_taken_lem = record { free = refl; sized = refl; decided = refl; replied = refl }

filemark_confirmed : Step (writing 0 first_opening filemark_taken (Write (as_address 45))) ReadPosition good (writing 0 first_opening filemark_on_tape ReadPosition)
unfolding decision_of due_of reply_of reply_by reply.counted_of reply.confirmed_of settled_of meaning_in
filemark_confirmed = record { free = refl; sized = refl; decided = refl; replied = refl }

close_called : close_of (writing 0 first_opening filemark_on_tape ReadPosition) ≡ accepting (ending 0 first_opening eod_due ReadPosition)
unfolding close_of settled_of reply.confirmed_of
close_called = refl

close_called_twice : close_of (ending 0 first_opening eod_due ReadPosition) ≡ refusing (ending 0 first_opening eod_due ReadPosition) 7
unfolding close_of
close_called_twice = refl

eod_taken_lem : Step (ending 0 first_opening eod_due ReadPosition) (Write (as_address 46)) good (ending 0 first_opening eod_taken (Write (as_address 46)))
unfolding decision_of due_of reply_of reply_by reply.confirmed_of settled_of meaning_in
eod_taken_lem = record { free = refl; sized = refl; decided = refl; replied = refl }

eod_confirmed : Step (ending 0 first_opening eod_taken (Write (as_address 46))) ReadPosition good (closing 0 first_closing eod_on_tape)
unfolding decision_of due_of reply_of reply_by reply.counted_of reply.confirmed_of settled_of meaning_in
eod_confirmed = record { free = refl; sized = refl; decided = refl; replied = refl }

-- ---- the tape, by what was written

-- the failed address reads as before
abbrev pub after_failure : Tape → Tape
after_failure t = put t 10 (t 10)

abbrev pub after_block : List ℕ → Tape → Tape
after_block b t = put (after_failure t) 44 (some (element_frame first_block b))

abbrev pub after_filemark : List ℕ → Tape → Tape
after_filemark b t = put (after_block b t) 45 (some (element_frame first_filemark blank))

abbrev after_eod : List ℕ → Tape → Tape
after_eod b t = put (after_filemark b t) 46 (some (element_frame first_eod blank))

-- the drive after the opening headers, after EOD, and at the end
abbrev pub first_opened : Drive
first_opened = headers_written first_opening stopped

abbrev pub first_written : List ℕ → Drive
first_written b = buffered (after_eod b first_opened.tape) 47 (46 ∷ 45 ∷ 44 ∷ 10 ∷ first_opened.written) []

abbrev pub first_left : List ℕ → Drive
first_left b = headers_written first_closing (first_written b)

-- the close has reported done
abbrev pub first_end : List ℕ → World
first_end b = reported (window_with b) (first_elements b) (finished 0 first_closing eod_on_tape) (first_left b)

-- ---- the list

module _ (b : List ℕ) (full : length b ≡ 32768) where
  block_stored : block_of (writing 0 first_opening none_accepted ReadPosition) b window ≡ record { result = accepting (writing 0 first_opening block_accepted ReadPosition); window = window_with b }
  unfolding block_of
  block_stored = rw (eq-eqb (length b) 32768 full, eq-eqb (length window) 32768 window_long)

  pub stored_long : length (window_with b) ≡ 32768
  stored_long = put_length window b 0 (omega (arith, window_long)) full ∙ window_long

  block_frame : written_frame (writing 0 first_opening relocated (Locate (as_address 44))) (window_with b) ≡ element_frame first_block b
  unfolding written_frame written_element element_of reply.confirmed_of trail_of
  block_frame = ap (element_frame first_block) (put_same_block window b 0 (omega (arith, window_long)) full)

  filemark_frame : written_frame (writing 0 first_opening filemark_accepted ReadPosition) (window_with b) ≡ element_frame first_filemark blank
  unfolding written_frame written_element element_of element_frame reply.confirmed_of trail_of
  filemark_frame = refl

  eod_frame : written_frame (ending 0 first_opening eod_due ReadPosition) (window_with b) ≡ element_frame first_eod blank
  unfolding written_frame written_element element_of element_frame reply.confirmed_of trail_of
  eod_frame = refl

  module _ (t : Tape) (past : List ℕ) {cs : List Call} {u : World} where
    block_written : (place : ℕ)
        → Runs (between (window_with b) (block b ∷ []) (writing 0 first_opening block_on_tape ReadPosition) (buffered (after_block b t) 45 (44 ∷ 10 ∷ past) [])) cs u
        → Runs (between window [] (writing 0 first_opening none_accepted ReadPosition) (buffered t place past []))
        (accept_block b window ∷ accept_filemark
        ∷ fetch (window_with b) frame ∷ reply good
        ∷ fetch (window_with b) frame ∷ reply busy
        ∷ fetch (window_with b) frame ∷ reply good
        ∷ fetch (window_with b) frame ∷ reply first_error
        ∷ exchanges (window_with b) 3 cs) u
    unfolding meaning_in
    block_written place rest =
        let start : Drive = buffered t place past [] in
        let w : List ℕ = window_with b in
        block_accepted_lem window [] (writing 0 first_opening none_accepted ReadPosition) start b w block_stored
        (filemark_refused w (block b ∷ []) (writing 0 first_opening block_accepted ReadPosition) start filemark_early
        (exchange w (block b ∷ []) (writing 0 first_opening block_accepted ReadPosition) start stored_long block_located (locates (as_address 10) good refl)
        (exchange w (block b ∷ []) (writing 0 first_opening located (Locate (as_address 10))) (buffered t 10 past []) stored_long write_busy (waits (Write (as_address 10)) busy refl)
        (element_failed w stored_long (block b ∷ []) t past 10 34 44 write_repeated write_failed block_relocated
        (element_written w stored_long (block b ∷ []) (after_failure t) (10 ∷ past) 44 (element_frame first_block b) block_frame block_retaken_lem block_confirmed rest)))))

    filemark_written :
        Runs (between (window_with b) (first_elements b) (writing 0 first_opening filemark_on_tape ReadPosition) (buffered (after_filemark b t) 46 (45 ∷ past) [])) cs u
        → Runs (between (window_with b) (block b ∷ []) (writing 0 first_opening block_on_tape ReadPosition) (buffered (after_block b t) 45 past [])) (accept_filemark ∷ exchanges (window_with b) 2 cs) u
    filemark_written rest =
        filemark_accepted_lem (window_with b) (block b ∷ []) (writing 0 first_opening block_on_tape ReadPosition) (buffered (after_block b t) 45 past []) filemark_in_time
        (element_written (window_with b) stored_long (first_elements b) (after_block b t) past 45 (element_frame first_filemark blank) filemark_frame filemark_taken_lem filemark_confirmed rest)

    eod_written_lem :
        Runs (between (window_with b) (first_elements b) (closing 0 first_closing eod_on_tape) (buffered (after_eod b t) 47 (46 ∷ past) [])) cs u
        → Runs (between (window_with b) (first_elements b) (writing 0 first_opening filemark_on_tape ReadPosition) (buffered (after_filemark b t) 46 past [])) (close ∷ close ∷ exchanges (window_with b) 2 cs) u
    eod_written_lem rest =
        let d : Drive = buffered (after_filemark b t) 46 past [] in
        close_accepted (window_with b) (first_elements b) (writing 0 first_opening filemark_on_tape ReadPosition) d refl close_called
        (close_refused (window_with b) (first_elements b) (ending 0 first_opening eod_due ReadPosition) d close_called_twice
        (element_written (window_with b) stored_long (first_elements b) (after_filemark b t) past 46 (element_frame first_eod blank) eod_frame eod_taken_lem eod_confirmed rest))

  pub first_runs : Runs (started (fresh (setup_of depth 1 0) first_opening) window stopped) (first_calls b) (first_end b)
  first_runs =
      let t : Tape = first_opened.tape in
      let past : List ℕ = first_opened.written in
      opening_written 0 window window_long first_opening stopped
      (block_written t past first_opened.at
      (filemark_written t (44 ∷ 10 ∷ past)
      (eod_written_lem t (45 ∷ 44 ∷ 10 ∷ past)
      (closing_written 0 (window_with b) stored_long (first_elements b) eod_on_tape first_closing (first_written b)))))

-- ---- the premises

pub older_fits : element_fits Data 33280 (length blank) ≡ true
older_fits = block_fits Data blank window_long

-- the LAST of its geometry
pub first_sized : HasLast geometry 11999
first_sized = record { segtrk = lit< tt; trks = lit< tt; is_last = refl }

pub first_cartridge : Cartridge 11999 tape
first_cartridge = frame_cartridge older blank older_fits empty 10 11999 (lit≤ tt) (empty_cartridge 11999)

pub first_on_none : NoHeader 11999 tape
first_on_none = frame_on_none 11999 10 (some (element_frame older blank)) refl

-- the older frame bears its own pass alone
pub older_bears : (pass : ℕ) → (older.pass ≡ pass → ⊥) → NoneBears 11999 tape pass
older_bears pass differ = frame_bears_none older blank older_fits empty 10 11999 pass (lit< tt) differ (empty_bears_none 11999 pass)

pub first_bears_none : NoneBears 11999 tape (new_pass on_none)
first_bears_none = older_bears 1 (λ e. omega arith)

-- ---- what demand 3 says of it

module _ (b : List ℕ) (full : length b ≡ 32768) where
  pub first_promised : Promised geometry 11999 tape on_none (first_end b)
  unfolding Demand3
  first_promised =
      demand_3 geometry 11999 depth blocks stopped on_none (fresh (setup_of depth 1 0) first_opening) (first_end b) first_opened_lem
      (record { sized = first_sized; cartridge = first_cartridge; unwritten = refl; rests = conduct.stopped refl; window = window; calls = first_calls b; runs = first_runs b full })

  pub first_readable : Readable geometry 11999 (first_left b).tape (first_elements b)
  first_readable = first_promised.readable first_on_none first_bears_none refl refl

-- the newest header of the cartridge as left
pub first_valid : valid_header (as_address 11999) (header_frame first_closing) ≡ true
first_valid = built_valid first_closing (lit< tt) (lit≤ tt) (lit< tt) refl

pub first_newest : (b : List ℕ) → Newest 11999 (first_left b).tape (header_frame first_closing)
first_newest b = headers_newest first_closing (first_written b) 11999 first_valid

-- and that it names where EOD stands, at 46 and numbered 2
pub first_ends : (b : List ℕ) → length b ≡ 32768 → EndsAt (header_of (header_frame first_closing)) 2 (first_left b).tape
unfolding EndNamed
first_ends b full =
    (end_named geometry 11999 depth blocks 0 stopped on_none (fresh (setup_of depth 1 0) first_opening) (first_end b) first_opened_lem
    (record { sized = first_sized; cartridge = first_cartridge; unwritten = refl; rests = conduct.stopped refl; window = window; calls = first_calls b; runs = first_runs b full })
    ).newest first_on_none refl (header_frame first_closing) (first_newest b)

-- The sample recording that gives up its block, from its opening to done. Assumes nothing.
use Prim.Native.Nat.{ℕ, zero, suc, ◌+◌, ◌-◌, ◌*◌, ◌%◌, ◌^◌, ◌≤◌}
use mathlib.Core.Path.{◌≡◌, refl, ap, subst, ◌∙◌}
use mathlib.Core.Bool.{Bool, true, false}
use mathlib.Core.List.{List, [], ◌∷◌}
use mathlib.Core.Option.{some}
use native.Mathlib.Nat.{mod-eq_of_lt}
use native.Mathlib.Omega.{arith}
use borrow.Author.Tests.{eq-eqb, ne_eqb, lt-ltb, le-ltb, lt-leb}
use lib.Dec.{lit<, lit≤}
use lib.ListN.{length}
use Rattle.geometry.specs.Place as place
use Rattle.geometry.specs.Place.{as_address, as_seq}
use Rattle.geometry.proofs.PickLaws.{pick_f}
use Rattle.write_error.specs.WriteError.{target_of}
use Rattle.frame.specs.Frame.{blank, element_frame}
use Rattle.frame.specs.Header.{header_frame}
use Rattle.frame.specs.Trail.{no_trail}
use Rattle.header.specs.Valid.{valid_header}
use Rattle.header.proofs.Built.{built_valid}
use Rattle.drive.specs.Command.{command_said}
use Rattle.drive.specs.Senses.{meaning_in}
use Rattle.drive.specs.declared.command.Command.TheVariants.{Write, Locate, ReadPosition}
use Rattle.elements.specs.Elements as elements
use Rattle.elements.specs.Trail.{trail_of}
use Rattle.elements.specs.Due.{due_of}
use Rattle.elements.specs.Reply as reply
use Rattle.elements.specs.declared.elements.Elements.{Elements}
use Rattle.recording_state.specs.Open.{setup_of, fresh, open_with, open_blank_of}
use Rattle.recording_state.specs.State.{accepting, ended_of, with_elements, settled_of}
use Rattle.recording_state.specs.Accept.{block_of, close_of}
use Rattle.recording_state.specs.Answer.{giving}
use Rattle.recording_state.specs.Due.{decision_of}
use Rattle.recording_state.specs.Written.{written_frame, written_element, element_of}
use Rattle.recording_state.specs.Fetch.{awaits}
use Rattle.recording_state.specs.Reply.{element_reply_by, reply_by, reply_of}
use Rattle.recording_state.specs.declared.state.State.{State}
use Rattle.recording_state.proofs.WindowLaws.{put_same_block}
use Rattle.archive_lists.specs.Conduct.{Drive, Answers, locates, takes, fails, as_new, reads, position_fails}
use Rattle.archive_lists.specs.Tape.{Tape, put}
use Rattle.archive_lists.specs.Headers.{Newest}
use Rattle.archive_lists.specs.Recordings.{World, Call, promised, fetch, reply, Runs, started}
use Rattle.archive_samples.specs.Sample.{depth, blocks, good, write_error, window, frame, window_with, exchanges, header_exchanges, smallest, tail, given_up_opening, given_up_elements, given_up_block, given_up_eod, given_up_closing, failures, given_up_calls}
use Rattle.archive_lists.proofs.tape.Basics.{reads_itself}
use Rattle.archive_samples.proofs.Exchange.{Step, between, reported, exchange, exchange_ended, acting, block_accepted_lem}
use Rattle.archive_samples.proofs.Flush.{buffered}
use Rattle.archive_samples.proofs.Headers.{writing, ending, closing, finished, headers_written, opening_written, closing_written}
use Rattle.archive_samples.proofs.Tapes.{empty, headers_newest}
use Rattle.archive_samples.proofs.Elements.{element_written, element_failed}
use Rattle.archive_samples.proofs.FirstRecording.{window_long, stored_long}
use Rattle.archive_samples.proofs.GivenUpNoted.{with_given, close_given_up}

-- ---- the opening

abbrev pub given_up_state : State
given_up_state = fresh (setup_of depth 1 tail) given_up_opening

pub given_up_opened_lem : open_blank_of smallest depth blocks tail ≡ accepting given_up_state
unfolding open_blank_of open_with
given_up_opened_lem = refl

-- ---- the block: a LOCATE of its target is due, the drive stands at its address, has taken it

abbrev unaccepted : Elements
unaccepted = elements.start_of (as_address 3000) (as_address 10) (as_seq 0) no_trail

abbrev by : ℕ → ℕ → Bool → ℕ → Elements
by outstanding next locate target = record {
  queue = record { first = as_seq 0; pending = 1; outstanding = outstanding; marks = (elements.accepted_of unaccepted false).queue.marks };
  course = record { next = as_address next; limit = as_address 3001; locate = locate; target = as_address target };
  eod = false;
  trail = no_trail;
}

abbrev sought : ℕ → ℕ → State
sought next target = writing tail given_up_opening (by 0 next true target) ReadPosition

abbrev stood : ℕ → State
stood a = writing tail given_up_opening (by 0 a false a) (Locate (as_address a))

abbrev took : ℕ → State
took a = writing tail given_up_opening (by 1 (a + 1) false a) (Write (as_address a))

located : (next a : ℕ) → a ≤ 2560 → Step (sought next a) (Locate (as_address a)) good (stood a)
unfolding decision_of due_of reply_of reply_by settled_of meaning_in
located next a low = record { free = refl; sized = refl; decided = rw (lt-leb 3001 a (omega arith)); replied = refl }

module _ (a : ℕ) (low : a ≤ 2560) where
  next_address : (a + 1) % 2 ^ 32 ≡ a + 1
  next_address = mod-eq_of_lt (omega arith)

  taken : Step (stood a) (Write (as_address a)) good (took a)
  unfolding decision_of due_of reply_of reply_by settled_of meaning_in
  taken = record { free = refl; sized = refl; decided = rw (lt-leb 2746 a (omega arith), ne_eqb a 2990 (λ e. omega arith)); replied = rw next_address }

-- ---- it fails, and goes to the next target

module _ (a : ℕ) (low : a + 255 ≤ 2560) where
  noted : reply.noted_of (by 1 (a + 1) false a) (as_address a) (as_address (a + 255)) ≡ by 0 (a + 1) true (a + 255)
  unfolding reply.confirmed_of trail_of
  noted =
      let oldest : a - (a + 1 - 1) ≡ 0 = omega arith in
      ap (λ (n : ℕ). reply.relocated_of (reply.confirmed_of (by 1 (a + 1) false a) n) (as_address (a + 255))) oldest

  target_fits : target_of (as_address a) 255 (as_address 2746) ≡ place.address (a + 255)
  target_fits = rw (lt-ltb (a + 255) 2990 (omega arith), lt-ltb (a + 255) 2746 (omega arith))

  stepped : reply.failed_of tail (by 1 (a + 1) false a) (as_address a) 255 ≡ reply.kept (by 0 (a + 1) true (a + 255))
  unfolding reply.failed_of
  stepped =
      pick_f _ (le-ltb a (a + 1 - 1) (omega arith))
      ∙ pick_f _ (lt-leb (a + 1) a (omega arith))
      ∙ ap (reply.failed_to (by 1 (a + 1) false a) (as_address a) 255) target_fits
      ∙ ap reply.kept noted

  failed : Step (took a) ReadPosition (write_error a 255) (sought (a + 1) (a + 255))
  unfolding decision_of due_of reply_of reply_by settled_of meaning_in
  failed = record { free = refl; sized = refl; decided = refl; replied = ap (λ (x : reply.SteppedSaid). element_reply_by x (awaits (took a) ReadPosition)) stepped }

-- n times: the address then, the tape, on which the failed addresses read as before, and what was written to
abbrev address_after : ℕ → ℕ → ℕ
address_after zero a = a
address_after (suc n) a = address_after n (a + 255)

abbrev pub after_failures : ℕ → ℕ → Tape → Tape
after_failures zero a t = t
after_failures (suc n) a t = after_failures n (a + 255) (put t a (t a))

abbrev failed_past : ℕ → ℕ → List ℕ → List ℕ
failed_past zero a past = past
failed_past (suc n) a past = failed_past n (a + 255) (a ∷ past)

-- ---- the eleventh error: 9, and the session is spent

abbrev block_failed : Elements
block_failed = by 0 2561 true 2815

abbrev spent : State
spent = ended_of (with_elements (awaits (took 2560) ReadPosition) block_failed) 9

asked : decision_of (took 2560) ≡ giving (command_said ReadPosition)
unfolding decision_of due_of
asked = refl

no_room : reply_of (awaits (took 2560) ReadPosition) (write_error 2560 255) ≡ record { session = spent; number = 9 }
unfolding reply_of reply_by reply.failed_of reply.confirmed_of trail_of meaning_in
no_room = refl

-- ---- close, and EOD in the block's place

abbrev eod_due : Elements
eod_due = elements.given_up_of block_failed

abbrev eod_located : Elements
eod_located = reply.located_of eod_due (as_address 2815)

abbrev eod_taken : Elements
eod_taken = reply.taken_of eod_located

abbrev eod_on_tape : Elements
eod_on_tape = reply.confirmed_of eod_taken 1

abbrev closed : State
closed = ending tail given_up_opening eod_due ReadPosition

close_called : close_of spent ≡ accepting closed
unfolding close_of
close_called = refl

eod_located_lem : Step closed (Locate (as_address 2815)) good (ending tail given_up_opening eod_located (Locate (as_address 2815)))
unfolding decision_of due_of reply_of reply_by settled_of meaning_in
eod_located_lem = record { free = refl; sized = refl; decided = refl; replied = refl }

eod_taken_lem : Step (ending tail given_up_opening eod_located (Locate (as_address 2815))) (Write (as_address 2815)) good (ending tail given_up_opening eod_taken (Write (as_address 2815)))
unfolding decision_of due_of reply_of reply_by settled_of meaning_in
eod_taken_lem = record { free = refl; sized = refl; decided = refl; replied = refl }

eod_confirmed : Step (ending tail given_up_opening eod_taken (Write (as_address 2815))) ReadPosition good (closing tail given_up_closing eod_on_tape)
unfolding decision_of due_of reply_of reply_by reply.counted_of reply.confirmed_of settled_of meaning_in
eod_confirmed = record { free = refl; sized = refl; decided = refl; replied = refl }

-- ---- the drive, by what was written: at first, after the opening headers, after eleven failures, after EOD, and at the end

abbrev pub given_up_start : Drive
given_up_start = buffered empty 0 [] []

abbrev pub given_up_opened : Drive
given_up_opened = headers_written given_up_opening given_up_start

abbrev pub after_ten : Tape
after_ten = after_failures 10 10 given_up_opened.tape

abbrev pub after_eleven : List ℕ → Tape
after_eleven b = put after_ten 2560 (some (element_frame given_up_block b))

abbrev past : List ℕ
past = failed_past 10 10 given_up_opened.written

-- stopped at a failure
abbrev stopped_at : Tape → List ℕ → List ℕ → Drive
stopped_at t written f = record { tape = t; at = 2560; buffer = f ∷ []; failed = true; written = 2560 ∷ written }

abbrev pub given_up_written : List ℕ → Drive
given_up_written b = buffered (put (after_eleven b) 2815 (some (element_frame given_up_eod blank))) 2816 (2815 ∷ 2560 ∷ past) []

abbrev pub given_up_left : List ℕ → Drive
given_up_left b = headers_written given_up_closing (given_up_written b)

-- the close has reported done, and one element is given up
abbrev pub given_up_end : List ℕ → World
given_up_end b = with_given 1 (reported (window_with b) (given_up_elements b) (finished tail given_up_closing eod_on_tape) (given_up_left b))

pub none_promised : (b : List ℕ) → promised (given_up_end b).notes ≡ []
none_promised b = refl

-- ---- the list

module _ (b : List ℕ) (full : length b ≡ 32768) where
  abbrev w : List ℕ
  w = window_with b

  abbrev f : List ℕ
  f = element_frame given_up_block b

  block_stored : block_of (writing tail given_up_opening unaccepted ReadPosition) b window ≡ record { result = accepting (sought 10 10); window = w }
  unfolding block_of
  block_stored = rw (eq-eqb (length b) 32768 full, eq-eqb (length window) 32768 window_long)

  block_frame : written_frame (stood 2560) w ≡ f
  unfolding written_frame written_element element_of trail_of
  block_frame = ap (element_frame given_up_block) (put_same_block window b 0 (omega (arith, window_long)) full)

  eod_frame : written_frame (ending tail given_up_opening eod_located (Locate (as_address 2815))) w ≡ element_frame given_up_eod blank
  unfolding written_frame written_element element_of element_frame trail_of
  eod_frame = refl

  module _ {cs : List Call} {u : World} where
    failures_through : (n a : ℕ) → a + 255 * n ≤ 2560 → (t : Tape) (written : List ℕ)
        → Runs (between w (given_up_elements b) (stood (address_after n a)) (buffered (after_failures n a t) (address_after n a) (failed_past n a written) [])) cs u
        → Runs (between w (given_up_elements b) (stood a) (buffered t a written [])) (failures w n a cs) u
    failures_through zero a low t written rest = rest
    failures_through (suc n) a low t written rest =
        element_failed w (stored_long b full) (given_up_elements b) t written a 255 (a + 255) (taken a (omega arith)) (failed a (omega arith)) (located (a + 1) (a + 255) (omega arith))
        (failures_through n (a + 255) (omega arith) (put t a (t a)) (a ∷ written) rest)

    -- WRITE 2,560, the drive fails and leaves the new frame, READ POSITION reports it
    block_spent : (t : Tape) (written : List ℕ)
        → Runs (between w (given_up_elements b) spent (stopped_at (put t 2560 (some f)) written f)) cs u
        → Runs (between w (given_up_elements b) (stood 2560) (buffered t 2560 written [])) (exchanges w 1 (fetch w frame ∷ reply (write_error 2560 255) ∷ cs)) u
    unfolding meaning_in
    block_spent t written rest =
        exchange w (given_up_elements b) (stood 2560) (buffered t 2560 written []) (stored_long b full) (taken 2560 (lit≤ tt))
        (subst (λ (x : List ℕ). Answers (buffered t 2560 written []) (written_frame (stood 2560) w) (Write (as_address 2560)) good (buffered t 2560 written (x ∷ []))) block_frame (takes (as_address 2560) good refl))
        (acting w (given_up_elements b) (took 2560) (buffered t 2560 written (f ∷ [])) (fails f [] (some f) refl refl (as_new (some f) (reads f (reads_itself f))))
        (exchange_ended w (given_up_elements b) (took 2560) (stopped_at (put t 2560 (some f)) written f) 9 (lit≤ tt) (stored_long b full) refl refl asked no_room
        (position_fails (write_error 2560 255) refl refl refl) rest))

  -- LOCATE of the noted target, EOD, and the closing headers
  eod_written_lem : (t : Tape) (written : List ℕ)
      → Runs (between w (given_up_elements b) closed (stopped_at t written f)) (exchanges w 3 (header_exchanges w (fetch w frame ∷ [])))
      (reported w (given_up_elements b) (finished tail given_up_closing eod_on_tape) (headers_written given_up_closing (buffered (put t 2815 (some (element_frame given_up_eod blank))) 2816 (2815 ∷ 2560 ∷ written) [])))
  unfolding meaning_in
  eod_written_lem t written =
      exchange w (given_up_elements b) closed (stopped_at t written f) (stored_long b full) eod_located_lem (locates (as_address 2815) good refl)
      (element_written w (stored_long b full) (given_up_elements b) t (2560 ∷ written) 2815 (element_frame given_up_eod blank) eod_frame eod_taken_lem eod_confirmed
      (closing_written tail w (stored_long b full) (given_up_elements b) eod_on_tape given_up_closing (buffered (put t 2815 (some (element_frame given_up_eod blank))) 2816 (2815 ∷ 2560 ∷ written) [])))

  pub given_up_runs : Runs (started given_up_state window given_up_start) (given_up_calls b) (given_up_end b)
  unfolding meaning_in
  given_up_runs =
      opening_written tail window window_long given_up_opening given_up_start
      (block_accepted_lem window [] (writing tail given_up_opening unaccepted ReadPosition) given_up_opened b w block_stored
      (exchange w (given_up_elements b) (sought 10 10) given_up_opened (stored_long b full) (located 10 10 (lit≤ tt)) (locates (as_address 10) good refl)
      (failures_through 10 10 (lit≤ tt) given_up_opened.tape given_up_opened.written
      (block_spent after_ten past
      (close_given_up w (given_up_elements b) spent (stopped_at (after_eleven b) past f) refl close_called tt
      (eod_written_lem (after_eleven b) past))))))

-- the newest header of the cartridge as left
pub given_up_valid : valid_header (as_address 3000) (header_frame given_up_closing) ≡ true
given_up_valid = built_valid given_up_closing (lit< tt) (lit≤ tt) (lit< tt) refl

pub given_up_newest : (b : List ℕ) → Newest 3000 (given_up_left b).tape (header_frame given_up_closing)
given_up_newest b = headers_newest given_up_closing (given_up_written b) 3000 given_up_valid

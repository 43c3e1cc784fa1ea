-- A filemark that is the only element of a sample session, and EOD behind it: accepted, located and written without an error, wherever it goes. Assumes nothing.
use Prim.Native.Nat.{ℕ, ◌+◌, ◌-◌, ◌%◌, ◌^◌, ◌≤◌, ◌<◌}
use mathlib.Core.Path.{◌≡◌, refl, ap, ◌∙◌}
use mathlib.Core.Bool.{Bool, true, false}
use mathlib.Core.List.{List, [], ◌∷◌}
use mathlib.Core.Option.{some}
use native.Mathlib.Nat.{mod-eq_of_lt}
use native.Mathlib.Omega.{arith}
use borrow.Author.Tests.{lt-leb, ne_eqb}
use lib.Dec.{eqb, leb, lit<, lit≤}
use Rattle.geometry.specs.Place.{as_address, as_seq}
use Rattle.frame.specs.declared.header.Header.{Header}
use Rattle.frame.specs.declared.trail.Trail.{Trail}
use Rattle.archive_lists.specs.Conduct.{Drive, locates}
use Rattle.drive.specs.Senses.{meaning_in}
use Rattle.archive_lists.specs.Tape.{Tape, put}
use Rattle.drive.specs.declared.command.Command.{Command}
use Rattle.drive.specs.declared.command.Command.TheVariants.{Write, Locate, ReadPosition}
use Rattle.carried_headers.specs.Carried.{closing_of}
use Rattle.elements.specs.Elements as elements
use Rattle.elements.specs.Due.{due_of}
use Rattle.elements.specs.Reply as reply
use Rattle.elements.specs.declared.elements.Elements.{Elements}
use Rattle.recording_state.specs.State.{accepting, settled_of}
use Rattle.recording_state.specs.Accept.{filemark_of, close_of}
use Rattle.recording_state.specs.Due.{decision_of}
use Rattle.recording_state.specs.Written.{written_frame}
use Rattle.recording_state.specs.Reply.{reply_by, reply_of}
use Rattle.archive_lists.specs.Recordings.{Element, filemark, World, Call, accept_filemark, close, Runs}
use Rattle.archive_samples.specs.Sample.{good, window, exchanges}
use Rattle.archive_samples.proofs.Exchange.{Step, between, exchange, filemark_accepted_lem, close_accepted}
use Rattle.archive_samples.proofs.Flush.{buffered}
use Rattle.archive_samples.proofs.Headers.{writing, ending, closing}
use Rattle.archive_samples.proofs.Elements.{element_written}
use Rattle.archive_samples.proofs.FirstRecording.{window_long}

user_frame : (a : ℕ) → a < 2990 → eqb a 2990 ≡ false
user_frame a low = ne_eqb a 2990 (λ e. omega arith)

-- a cartridge reaches beyond the second header group's start, and its addresses have 32 bits
abbrev pub Reaches : ℕ → Type 0
Reaches last = (2990 ≤ last) × (last + 1 < 2 ^ 32)

pub reaches : Reaches 11999
reaches = (lit≤ tt, lit< tt)

-- a cartridge of any size, and no tail
module _ (last : ℕ) where
  abbrev limit : ℕ
  limit = (last + 1) % 2 ^ 32

  room : Reaches last → (a : ℕ) → a < 2990 → leb limit a ≡ false
  room large a low = ap (λ (n : ℕ). leb n a) (mod-eq_of_lt large.1) ∙ lt-leb (last + 1) a (omega (arith, large.0))

  element_room : Reaches last → (a : ℕ) → a < 2990 → leb (limit - 0) a ≡ false
  element_room large a low = let whole : limit - 0 ≡ limit = omega arith in ap (λ (n : ℕ). leb n a) whole ∙ room large a low

  -- ---- accepted and located, by a session that begins at an address with a number, behind a trail

  module _ (a number : ℕ) (trail : Trail) where
    abbrev unaccepted : Elements
    unaccepted = elements.start_of (as_address last) (as_address a) (as_seq number) trail

    abbrev accepted : Elements
    accepted = elements.accepted_of unaccepted true

    abbrev pub located : Elements
    located = reply.located_of accepted (as_address a)

    module _ (large : Reaches last) (h : Header) (low : a < 2990) where
      in_time : filemark_of (writing 0 h unaccepted ReadPosition) ≡ accepting (writing 0 h accepted ReadPosition)
      unfolding filemark_of
      in_time = refl

      filemark_located : Step (writing 0 h accepted ReadPosition) (Locate (as_address a)) good (writing 0 h located (Locate (as_address a)))
      unfolding decision_of due_of reply_of reply_by settled_of meaning_in
      filemark_located = record { free = refl; sized = refl; decided = rw (room large a low); replied = refl }

      pub filemark_begun : (d : Drive) {cs : List Call} {u : World}
          → Runs (between window (filemark ∷ []) (writing 0 h located (Locate (as_address a))) (buffered d.tape a d.written [])) cs u
          → Runs (between window [] (writing 0 h unaccepted ReadPosition) d) (accept_filemark ∷ exchanges window 1 cs) u
      unfolding meaning_in
      filemark_begun d rest =
          filemark_accepted_lem window [] (writing 0 h unaccepted ReadPosition) d in_time
          (exchange window (filemark ∷ []) (writing 0 h accepted ReadPosition) d window_long filemark_located (locates (as_address a) good refl) rest)

  -- ---- due at an address, with nothing outstanding: written, and EOD at the next

  module _ (a number target : ℕ) (trail : Trail) (marks : List Bool) where
    abbrev due : Elements
    due = record {
      queue = record { first = as_seq number; pending = 1; outstanding = 0; marks = marks };
      course = record { next = as_address a; limit = as_address limit; locate = false; target = as_address target };
      eod = false;
      trail = trail;
    }

    abbrev taken : Elements
    taken = reply.taken_of due

    abbrev pub on_tape : Elements
    on_tape = reply.confirmed_of taken 1

    abbrev pub eod_due : Elements
    eod_due = elements.eod_due on_tape

    abbrev eod_taken : Elements
    eod_taken = reply.taken_of eod_due

    abbrev pub eod_on_tape : Elements
    eod_on_tape = reply.confirmed_of eod_taken 1

    module _ (h : Header) where
      pub close_called : close_of (writing 0 h on_tape ReadPosition) ≡ accepting (ending 0 h eod_due ReadPosition)
      unfolding close_of settled_of reply.confirmed_of
      close_called = refl

      module _ (large : Reaches last) (low : a < 2989) where
        pub filemark_taken_lem : (c : Command) → Step (writing 0 h due c) (Write (as_address a)) good (writing 0 h taken (Write (as_address a)))
        unfolding decision_of due_of reply_of reply_by settled_of meaning_in
        filemark_taken_lem c = record { free = refl; sized = refl; decided = rw (element_room large a (omega arith), user_frame a (omega arith)); replied = refl }

        filemark_confirmed : Step (writing 0 h taken (Write (as_address a))) ReadPosition good (writing 0 h on_tape ReadPosition)
        unfolding decision_of due_of reply_of reply_by reply.counted_of reply.confirmed_of settled_of meaning_in
        filemark_confirmed = record { free = refl; sized = refl; decided = refl; replied = refl }

        next_address : (a + 1) % 2 ^ 32 ≡ a + 1
        next_address = mod-eq_of_lt (omega arith)

        pub eod_taken_lem : Step (ending 0 h eod_due ReadPosition) (Write (as_address (a + 1))) good (ending 0 h eod_taken (Write (as_address (a + 1))))
        unfolding decision_of due_of reply_of reply_by reply.confirmed_of settled_of meaning_in
        eod_taken_lem = record { free = refl; sized = refl; decided = rw (next_address, room large (a + 1) (omega arith), user_frame (a + 1) (omega arith)); replied = refl }

        eod_confirmed : Step (ending 0 h eod_taken (Write (as_address (a + 1)))) ReadPosition good (closing 0 (closing_of h eod_on_tape.course.next) eod_on_tape)
        unfolding decision_of due_of reply_of reply_by reply.counted_of reply.confirmed_of settled_of meaning_in
        eod_confirmed = record { free = refl; sized = refl; decided = refl; replied = refl }

        module _ (accepted : List Element) (t : Tape) (past : List ℕ) (f : List ℕ) {cs : List Call} {u : World} where
          pub filemark_written : (c : Command) → written_frame (writing 0 h due c) window ≡ f
              → Runs (between window accepted (writing 0 h on_tape ReadPosition) (buffered (put t a (some f)) (a + 1) (a ∷ past) [])) cs u
              → Runs (between window accepted (writing 0 h due c) (buffered t a past [])) (exchanges window 2 cs) u
          filemark_written c sent rest = element_written window window_long accepted t past a f sent (filemark_taken_lem c) filemark_confirmed rest

          pub eod_written_lem : written_frame (ending 0 h eod_due ReadPosition) window ≡ f
              → Runs (between window accepted (closing 0 (closing_of h eod_on_tape.course.next) eod_on_tape) (buffered (put t (a + 1) (some f)) (a + 1 + 1) ((a + 1) ∷ past) [])) cs u
              → Runs (between window accepted (writing 0 h on_tape ReadPosition) (buffered t (a + 1) past [])) (close ∷ exchanges window 2 cs) u
          eod_written_lem sent rest =
              close_accepted window accepted (writing 0 h on_tape ReadPosition) (buffered t (a + 1) past []) refl close_called
              (element_written window window_long accepted t past (a + 1) f sent eod_taken_lem eod_confirmed rest)

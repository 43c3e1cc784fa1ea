-- A sample recording that adds to what the one that gives up left, from its opening behind a reading to done: its filemark has the number behind
-- the block's, which was delivered, and goes over the EOD that has the block's number. Assumes nothing.
use Prim.Native.Nat.{ℕ}
use mathlib.Core.Path.{◌≡◌, refl}
use mathlib.Core.Bool.{Bool, true}
use mathlib.Core.List.{List}
use lib.Dec.{lit<, lit≤}
use Rattle.geometry.specs.Place.{as_address}
use Rattle.frame.specs.Frame.{blank, element_frame}
use Rattle.frame.specs.Header.{header_frame}
use Rattle.frame.specs.Trail.{no_trail}
use Rattle.header.specs.Valid.{valid_header}
use Rattle.header.proofs.Built.{built_valid}
use Rattle.drive.specs.declared.command.Command.TheVariants.{Locate, ReadPosition}
use Rattle.elements.specs.Trail.{trail_of}
use Rattle.elements.specs.Reply as reply
use Rattle.recording_state.specs.Open.{started_at, setup_of}
use Rattle.recording_state.specs.State.{accepting}
use Rattle.recording_state.specs.Written.{written_frame, written_element, element_of}
use Rattle.recording_state.specs.declared.state.State.{State}
use Rattle.adding_opening.specs.AtEnd.{open_at_end_of}
use Rattle.archive_lists.specs.Conduct.{Drive}
use Rattle.archive_lists.specs.Headers.{Newest}
use Rattle.archive_lists.specs.Recordings.{World, Runs, started}
use Rattle.archive_samples.specs.Sample.{depth, blocks, window, resumed_opening, resumed_elements, resumed_filemark, resumed_eod, resumed_closing, filemark_calls}
use Rattle.archive_samples.proofs.Exchange.{reported}
use Rattle.archive_samples.proofs.Flush.{starting_on}
use Rattle.archive_samples.proofs.Headers.{writing, ending, finished, headers_written}
use Rattle.archive_samples.proofs.Tapes.{headers_newest}
use Rattle.archive_samples.proofs.Filemark.{Reaches, located, eod_due}
use Rattle.archive_samples.proofs.FilemarkSession.{eod_written, written, filemark_runs}
use Rattle.archive_samples.proofs.GivenUp.{given_up_left}
use Rattle.archive_samples.proofs.GivenUpReading.{given_up_read}

-- ---- the opening

abbrev pub resumed_state : State
resumed_state = started_at (setup_of depth 1 0) resumed_opening (as_address 2815) (record { 0 = 1 }) no_trail

pub resumed_opened : (b : List ℕ) → open_at_end_of (given_up_read b).session depth blocks 0 ≡ accepting resumed_state
unfolding open_at_end_of
resumed_opened b = refl

-- ---- the list

abbrev marks : List Bool
marks = (located 3000 2815 1 no_trail).queue.marks

-- the drive as it was left, for which nothing is written yet
abbrev pub resumed_start : List ℕ → Drive
resumed_start b = starting_on (given_up_left b)

-- the filemark goes to 2,815, EOD behind it
module _ (b : List ℕ) where
  abbrev mark : List ℕ
  mark = element_frame resumed_filemark blank

  abbrev eod : List ℕ
  eod = element_frame resumed_eod blank

  abbrev resumed_written : Drive
  resumed_written = written resumed_opening 2815 1 no_trail (resumed_start b) mark eod

  abbrev pub resumed_left : Drive
  resumed_left = headers_written resumed_closing resumed_written

  -- the close has reported done
  abbrev pub resumed_end : World
  resumed_end = reported window resumed_elements (finished 0 resumed_closing (eod_written resumed_opening 2815 1 no_trail (resumed_start b) mark eod)) resumed_left

large : Reaches 3000
large = (lit≤ tt, lit< tt)

filemark_frame : written_frame (writing 0 resumed_opening (located 3000 2815 1 no_trail) (Locate (as_address 2815))) window ≡ element_frame resumed_filemark blank
unfolding written_frame written_element element_of element_frame trail_of
filemark_frame = refl

eod_frame : written_frame (ending 0 resumed_opening (eod_due 3000 2815 1 2815 no_trail marks) ReadPosition) window ≡ element_frame resumed_eod blank
unfolding written_frame written_element element_of element_frame reply.confirmed_of trail_of
eod_frame = refl

pub resumed_runs : (b : List ℕ) → Runs (started resumed_state window (resumed_start b)) filemark_calls (resumed_end b)
unfolding reply.confirmed_of
resumed_runs b = filemark_runs resumed_opening 2815 1 no_trail (resumed_start b) (element_frame resumed_filemark blank) (element_frame resumed_eod blank) large (lit< tt) filemark_frame eod_frame

-- the newest header of the cartridge as left
pub resumed_valid : valid_header (as_address 3000) (header_frame resumed_closing) ≡ true
resumed_valid = built_valid resumed_closing (lit< tt) (lit≤ tt) (lit< tt) refl

pub resumed_newest : (b : List ℕ) → Newest 3000 (resumed_left b).tape (header_frame resumed_closing)
resumed_newest b = headers_newest resumed_closing (resumed_written b) 3000 resumed_valid

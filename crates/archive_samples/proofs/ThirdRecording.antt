-- A third session behind the two of the sample chain, opened at the end of their reading, to done: its filemark goes over the old EOD. Assumes nothing.
use Prim.Native.Nat.{ℕ}
use mathlib.Core.Path.{◌≡◌, refl, ap}
use mathlib.Core.Bool.{Bool, true}
use mathlib.Core.List.{List, [], ◌∷◌, ◌++◌}
use lib.Dec.{lit<, lit≤}
use lib.ListN.{length}
use Rattle.geometry.specs.Place.{as_address}
use Rattle.frame.specs.Frame.{blank, element_frame}
use Rattle.frame.specs.Header.{header_frame}
use Rattle.header.specs.Valid.{valid_header}
use Rattle.header.proofs.Built.{built_valid}
use Rattle.archive_lists.specs.Conduct.{Drive}
use Rattle.drive.specs.declared.command.Command.TheVariants.{Locate, ReadPosition}
use Rattle.elements.specs.Trail.{trail_of}
use Rattle.elements.specs.Reply as reply
use Rattle.recording_state.specs.Open.{started_at, setup_of}
use Rattle.recording_state.specs.State.{accepting}
use Rattle.recording_state.specs.Written.{written_frame, written_element, element_of}
use Rattle.recording_state.specs.declared.state.State.{State}
use Rattle.reading_state.specs.Open as reading
use Rattle.adding_opening.specs.AtEnd.{open_at_end_of}
use Rattle.archive_lists.specs.Headers.{Newest}
use Rattle.archive_lists.specs.Recordings.{Notes, World, Runs, started}
use Rattle.archive.specs.Demand.{Readable}
use Rattle.archive.specs.Chain as chain
use Rattle.archive.specs.Chain.{Chain, accepted_in, NoneGiven}
use Rattle.archive_samples.specs.Sample.{geometry, depth, blocks, window, first_elements, added_elements, added_closing, added_reading, third_opening, third_elements, third_filemark, third_eod, third_closing, filemark_calls}
use Rattle.archive_samples.proofs.Exchange.{reported}
use Rattle.archive_samples.proofs.Flush.{starting_on}
use Rattle.archive_samples.proofs.Headers.{writing, ending, finished, headers_written}
use Rattle.archive_samples.proofs.Tapes.{headers_newest}
use Rattle.archive_samples.proofs.Filemark.{reaches, located, eod_due}
use Rattle.archive_samples.proofs.FilemarkSession.{eod_written, opened, written, filemark_runs}
use Rattle.archive_samples.proofs.FirstRecording.{first_end}
use Rattle.archive_samples.proofs.AddedRecording.{added_left, added_end, chain_continued, chain_readable, added_chain, added_newest, added_cartridge, added_clear}
use Rattle.archive_samples.proofs.AddedReading.{added_trail, added_read, added_reading_opened, added_read_lem}

-- ---- the opening

abbrev pub third_state : State
third_state = started_at (setup_of depth 1 0) third_opening (as_address 81) (record { 0 = 3 }) added_trail

pub third_opened_lem : (b : List ℕ) → open_at_end_of (added_read b).session depth blocks 0 ≡ accepting third_state
unfolding open_at_end_of
third_opened_lem b = refl

-- ---- the list

abbrev pub marks : List Bool
marks = (located 11999 81 3 added_trail).queue.marks

-- the drive as the two left it, for which nothing is written yet
abbrev pub third_start : List ℕ → Drive
third_start b = starting_on (added_left b)

-- the filemark goes to 81, EOD behind it
module _ (b : List ℕ) where
  abbrev mark : List ℕ
  mark = element_frame third_filemark blank

  abbrev eod : List ℕ
  eod = element_frame third_eod blank

  abbrev pub third_opened : Drive
  third_opened = opened third_opening 81 3 added_trail (third_start b) mark eod

  abbrev third_written : Drive
  third_written = written third_opening 81 3 added_trail (third_start b) mark eod

  abbrev pub third_left : Drive
  third_left = headers_written third_closing third_written

  -- the close has reported done
  abbrev pub third_end : World
  third_end = reported window third_elements (finished 0 third_closing (eod_written third_opening 81 3 added_trail (third_start b) mark eod)) third_left

pub filemark_frame : written_frame (writing 0 third_opening (located 11999 81 3 added_trail) (Locate (as_address 81))) window ≡ element_frame third_filemark blank
unfolding written_frame written_element element_of element_frame trail_of
filemark_frame = refl

eod_frame : written_frame (ending 0 third_opening (eod_due 11999 81 3 81 added_trail marks) ReadPosition) window ≡ element_frame third_eod blank
unfolding written_frame written_element element_of element_frame reply.confirmed_of trail_of
eod_frame = refl

pub third_runs : (b : List ℕ) → Runs (started third_state window (third_start b)) filemark_calls (third_end b)
unfolding reply.confirmed_of
third_runs b = filemark_runs third_opening 81 3 added_trail (third_start b) (element_frame third_filemark blank) (element_frame third_eod blank) reaches (lit< tt) filemark_frame eod_frame

-- ---- the chain of the three

module _ (b : List ℕ) (full : length b ≡ 32768) where
  pub added_read_at : chain.HasRead geometry 11999 (added_left b).tape (header_frame added_closing) (added_read b)
  added_read_at = record {
    cartridge = added_cartridge b full;
    opens = ap (λ (x : reading.OpenedSaid). x.number) added_reading_opened;
    at = 0;
    calls = added_reading b;
    runs = added_read_lem b full 0;
  }

  abbrev pub three_notes : List Notes
  three_notes = (first_end b).notes ∷ (added_end b).notes ∷ (third_end b).notes ∷ []

  pub third_chain : Chain geometry 11999 chain.afresh (third_left b).tape [] three_notes
  third_chain =
      chain_continued geometry 11999 (added_left b).tape ((first_end b).notes ∷ (added_end b).notes ∷ []) (added_chain b full) (added_left b).at third_state (header_frame added_closing) (added_read b) added_read_at (third_opened_lem b) (added_newest b) (added_clear b full)
      filemark_calls (third_end b) (third_runs b) refl refl

  pub none_given : NoneGiven three_notes
  unfolding NoneGiven
  none_given = (refl, (refl, (refl, tt)))

  -- reading gives the elements of all three
  pub third_readable : Readable geometry 11999 (third_left b).tape (first_elements b ++ added_elements ++ third_elements)
  unfolding accepted_in
  third_readable = chain_readable (third_left b).tape three_notes third_chain none_given

-- the newest header of the cartridge as left
pub third_valid : valid_header (as_address 11999) (header_frame third_closing) ≡ true
third_valid = built_valid third_closing (lit< tt) (lit≤ tt) (lit< tt) refl

pub third_newest : (b : List ℕ) → Newest 11999 (third_left b).tape (header_frame third_closing)
third_newest b = headers_newest third_closing (third_written b) 11999 third_valid

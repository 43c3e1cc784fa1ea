-- The reading of what that addition left, to its end: the block that was given up and read nevertheless, then the filemark. Assumes nothing.
use Prim.Native.Nat.{ℕ, ◌<◌, ◌≤◌}
use mathlib.Core.Path.{◌≡◌, refl, sym, subst}
use mathlib.Core.Bool.{true, false}
use mathlib.Core.List.{List, ◌++◌}
use mathlib.Core.Option.{some}
use lib.Dec.{lit<}
use lib.ListN.{length}
use Rattle.geometry.specs.Place.{as_address}
use Rattle.frame.specs.Frame.{blank, element_frame}
use Rattle.frame.specs.Header.{header_frame}
use Rattle.frame.specs.Trail.{no_trail}
use Rattle.frame.specs.declared.trail.Trail.{Trail}
use Rattle.frame.proofs.Frames.{element_length}
use Rattle.drive.specs.declared.command.Command.TheVariants.{Read}
use Rattle.frame.specs.declared.header.Header.{Header}
use Rattle.judgement.specs.Judgement as judgement
use Rattle.judgement.proofs.Written.{judged_written}
use Rattle.reading_state.specs.Open.{OpenedSaid, fresh, open_of}
use Rattle.archive_lists.specs.Tape.{Tape, put}
use Rattle.archive_lists.specs.Recordings.{Element}
use Rattle.archive_lists.specs.Readings.{World, Runs, started}
use Rattle.archive_samples.specs.Sample.{smallest, given_up_elements, resumed_opening, resumed_elements, resumed_filemark, resumed_eod, resumed_closing, resumed_reading}
use Rattle.archive_lists.proofs.tape.Basics.{reads_itself}
use Rattle.archive_samples.proofs.ReadingExchange.{between, before, frame_read, end_said, reading_opened_on}
use Rattle.archive_samples.proofs.GivenUpReading.{given_up_through}
use Rattle.archive_samples.proofs.FilemarkSession as session
use Rattle.archive_samples.proofs.GivenUpAdded.{resumed_start, resumed_left, resumed_valid}

pub resumed_reading_opened : open_of smallest (header_frame resumed_closing) ≡ record { session = fresh resumed_closing; number = 0 }
resumed_reading_opened = reading_opened_on smallest 3000 refl resumed_closing (lit< tt) (lit< tt) (lit< tt) (lit< tt) (lit< tt) resumed_valid

-- ---- the frames, as this reading judges them

filemark_found : judgement.judge_frame resumed_closing (as_address 2815) (record { 0 = 1 }) (element_frame resumed_filemark blank) ≡ judgement.filemark
filemark_found = judged_written resumed_filemark (lit< tt) (lit< tt) blank refl (reads_itself (element_frame resumed_filemark blank)) resumed_closing (as_address 2815) refl refl refl

eod_found : judgement.judge_frame resumed_closing (as_address 2816) (record { 0 = 2 }) (element_frame resumed_eod blank) ≡ judgement.end
unfolding judgement.ends_from
eod_found = judged_written resumed_eod (lit< tt) (lit< tt) blank refl (reads_itself (element_frame resumed_eod blank)) resumed_closing (as_address 2816) refl refl refl

-- ---- the tape

module _ (b : List ℕ) where
  abbrev pub left : Tape
  left = (resumed_left b).tape

  filemark_reads : left 2815 ≡ some (element_frame resumed_filemark blank)
  unfolding put
  filemark_reads = refl

  eod_reads : left 2816 ≡ some (element_frame resumed_eod blank)
  unfolding put
  eod_reads = refl

  -- as it was left before, but for what was written
  as_left : (a : ℕ) → 10 ≤ a → a < 2815 → left a ≡ (resumed_start b).tape a
  as_left a low high = session.as_left resumed_opening 2815 1 no_trail (resumed_start b) (element_frame resumed_filemark blank) (element_frame resumed_eod blank) resumed_closing a low high (lit< tt)

-- ---- the list

-- the filemark was delivered at 2,815
abbrev resumed_trail : Trail
resumed_trail = record { filemarks = 1; marker = as_address 2815 }

-- the end, with 2,808 replies taken in
abbrev pub resumed_read : List ℕ → World
resumed_read b = between 2817 (given_up_elements b ++ resumed_elements) 2808 (before resumed_closing resumed_trail (Read (as_address 2816)) 2817 false 2 true)

module _ (b : List ℕ) (full : length b ≡ 32768) where
  from_fresh : (place : ℕ) → Runs (left b) (started (fresh resumed_closing) place) (resumed_reading b) (resumed_read b)
  from_fresh place =
      let told : Header = resumed_closing in
      let all : List Element = given_up_elements b ++ resumed_elements in
      given_up_through b full (left b) (as_left b) 2816 3 place
      (λ c.
      frame_read (left b) told no_trail (given_up_elements b) 2806 c 2815 1 refl refl true (element_frame resumed_filemark blank) judgement.filemark (filemark_reads b) (element_length resumed_filemark blank refl) filemark_found refl
      (frame_read (left b) told resumed_trail all 2807 (Read (as_address 2815)) 2816 2 refl refl true (element_frame resumed_eod blank) judgement.end (eod_reads b) (element_length resumed_eod blank refl) eod_found refl
      (end_said (left b) 2817 all 2808 told resumed_trail (Read (as_address 2816)) 2817 2)))

  -- from the newest header of the cartridge, to the end
  pub resumed_read_lem : (place : ℕ) → Runs (left b) (started (open_of smallest (header_frame resumed_closing)).session place) (resumed_reading b) (resumed_read b)
  resumed_read_lem place = subst (λ (x : OpenedSaid). Runs (left b) (started x.session place) (resumed_reading b) (resumed_read b)) (sym resumed_reading_opened) (from_fresh place)

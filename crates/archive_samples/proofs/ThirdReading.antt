-- The reading of what the chain of three left, to its end: all elements in order. Assumes nothing.
use Prim.Native.Nat.{ℕ, ◌<◌, ◌≤◌}
use mathlib.Core.Path.{◌≡◌, refl, sym, subst}
use mathlib.Core.Bool.{true, false}
use mathlib.Core.List.{List, ◌++◌}
use mathlib.Core.Option.{some}
use lib.Dec.{lit<}
use lib.ListN.{length}
use Rattle.geometry.specs.Place.{as_address}
use Rattle.frame.specs.Frame.{blank, element_frame}
use Rattle.frame.specs.Header.{header_frame}
use Rattle.frame.specs.declared.trail.Trail.{Trail}
use Rattle.frame.proofs.Frames.{element_length}
use Rattle.archive_lists.specs.Tape.{Tape, put}
use Rattle.drive.specs.declared.command.Command.TheVariants.{Read}
use Rattle.judgement.specs.Judgement as judgement
use Rattle.judgement.proofs.Written.{judged_written}
use Rattle.reading_state.specs.Open.{OpenedSaid, fresh, open_of}
use Rattle.archive_lists.specs.Recordings.{Element}
use Rattle.archive_lists.specs.Readings.{World, Runs, started}
use Rattle.archive_lists.specs.Faithful.{Faithful}
use Rattle.archive_samples.specs.Sample.{geometry, first_elements, added_elements, third_opening, third_elements, third_filemark, third_eod, third_closing, third_reading}
use Rattle.archive_lists.proofs.tape.Basics.{reads_itself}
use Rattle.archive_samples.proofs.ReadingExchange.{between, before, frame_read, end_said, reading_opened}
use Rattle.archive_samples.proofs.AddedReading.{added_trail, added_through}
use Rattle.archive_samples.proofs.FilemarkSession as session
use Rattle.archive_samples.proofs.ThirdRecording.{third_start, third_left, third_valid, third_newest, third_readable}

pub third_reading_opened : open_of geometry (header_frame third_closing) ≡ record { session = fresh third_closing; number = 0 }
third_reading_opened = reading_opened third_closing (lit< tt) (lit< tt) (lit< tt) (lit< tt) (lit< tt) third_valid

-- ---- the frames, as this reading judges them

third_found : judgement.judge_frame third_closing (as_address 81) (record { 0 = 3 }) (element_frame third_filemark blank) ≡ judgement.filemark
third_found = judged_written third_filemark (lit< tt) (lit< tt) blank refl (reads_itself (element_frame third_filemark blank)) third_closing (as_address 81) refl refl refl

eod_found : judgement.judge_frame third_closing (as_address 82) (record { 0 = 4 }) (element_frame third_eod blank) ≡ judgement.end
unfolding judgement.ends_from
eod_found = judged_written third_eod (lit< tt) (lit< tt) blank refl (reads_itself (element_frame third_eod blank)) third_closing (as_address 82) refl refl refl

-- ---- the tape

module _ (b : List ℕ) where
  abbrev pub left : Tape
  left = (third_left b).tape

  pub third_reads : left 81 ≡ some (element_frame third_filemark blank)
  unfolding put
  third_reads = refl

  pub end_reads : left 82 ≡ some (element_frame third_eod blank)
  unfolding put
  end_reads = refl

  -- as the two left it, but for what was written
  pub as_left : (a : ℕ) → 10 ≤ a → a < 81 → left a ≡ (third_start b).tape a
  as_left a low high = session.as_left third_opening 81 3 added_trail (third_start b) (element_frame third_filemark blank) (element_frame third_eod blank) third_closing a low high (lit< tt)

-- ---- the list

-- the latest filemark was delivered at 81
abbrev third_trail : Trail
third_trail = record { filemarks = 3; marker = as_address 81 }

-- the end, with 14 replies taken in
abbrev pub third_read : List ℕ → World
third_read b = between 83 (first_elements b ++ added_elements ++ third_elements) 14 (before third_closing third_trail (Read (as_address 82)) 83 false 4 true)

module _ (b : List ℕ) (full : length b ≡ 32768) where
  from_fresh : (place : ℕ) → Runs (left b) (started (fresh third_closing) place) (third_reading b) (third_read b)
  unfolding judgement.ends_from
  from_fresh place =
      let told = third_closing in
      let all : List Element = first_elements b ++ added_elements ++ third_elements in
      added_through b full (left b) (as_left b) 82 5 (lit< tt) place
      (frame_read (left b) told added_trail (first_elements b ++ added_elements) 12 (Read (as_address 80)) 81 3 refl refl true (element_frame third_filemark blank) judgement.filemark (third_reads b) (element_length third_filemark blank refl) third_found refl
      (frame_read (left b) told third_trail all 13 (Read (as_address 81)) 82 4 refl refl true (element_frame third_eod blank) judgement.end (end_reads b) (element_length third_eod blank refl) eod_found refl
      (end_said (left b) 83 all 14 told third_trail (Read (as_address 82)) 83 4)))

  -- from the newest header of the cartridge: what all three accepted comes back, and the end
  pub third_read_lem : (place : ℕ) → Runs (left b) (started (open_of geometry (header_frame third_closing)).session place) (third_reading b) (third_read b)
  third_read_lem place = subst (λ (x : OpenedSaid). Runs (left b) (started x.session place) (third_reading b) (third_read b)) (sym third_reading_opened) (from_fresh place)

  -- and Chains speaks of this list
  pub third_faithful : Faithful 11999 (first_elements b ++ added_elements ++ third_elements) (third_read b)
  third_faithful = (third_readable b full).reads (header_frame third_closing) 0 (third_reading b) (third_read b) (third_newest b) (third_read_lem 0)

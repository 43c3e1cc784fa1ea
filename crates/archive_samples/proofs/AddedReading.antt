-- The reading of what the sample chain of two left, to its end: the EOD of the first recording is an earlier end and is passed over. Assumes nothing.
use Prim.Native.Nat.{ℕ, ◌<◌, ◌≤◌}
use mathlib.Core.Path.{◌≡◌, refl, sym, subst, ◌∙◌}
use mathlib.Core.Bool.{true, false}
use mathlib.Core.List.{List, [], ◌++◌}
use mathlib.Core.Logic.{inl}
use mathlib.Core.Option.{none, some}
use native.Mathlib.Omega.{arith}
use lib.Dec.{lit<, lit≤}
use lib.ListN.{length}
use Rattle.geometry.specs.Place.{as_address}
use Rattle.frame.specs.Frame.{blank, element_frame}
use Rattle.frame.specs.Header.{header_frame}
use Rattle.frame.specs.Trail.{no_trail}
use Rattle.frame.specs.declared.trail.Trail.{Trail}
use Rattle.frame.proofs.Frames.{element_length}
use Rattle.archive_lists.specs.Tape.{Tape, put}
use Rattle.drive.specs.declared.command.Command.TheVariants.{Read, Locate, ReadPosition}
use Rattle.frame.specs.declared.header.Header.{Header}
use Rattle.judgement.specs.Judgement as judgement
use Rattle.judgement.proofs.Written.{judged_written, judged_earlier}
use Rattle.reading_state.specs.Open.{OpenedSaid, fresh, open_of}
use Rattle.archive_lists.specs.Recordings.{Element}
use Rattle.archive_lists.specs.Readings.{World, Call, Runs, started}
use Rattle.archive_lists.specs.Faithful.{Faithful}
use Rattle.archive_samples.specs.Sample.{geometry, first_elements, first_eod, added_opening, added_elements, added_filemark, added_eod, added_closing, through_added, added_reading}
use Rattle.archive_lists.proofs.tape.Basics.{reads_itself}
use Rattle.archive_lists.proofs.tape.FoldLaws.{put_other}
use Rattle.archive_samples.proofs.Tapes.{same_reads, headers_elsewhere}
use Rattle.archive_samples.proofs.ReadingExchange.{between, before, address_located, frame_read, unreadable_passed_over, blank_jumped, end_said, reading_opened}
use Rattle.archive_samples.proofs.FirstReading.{told_at, first_trail, eod_reads, first_through}
use Rattle.archive_samples.proofs.AddedRecording.{after_error, after_mark, added_start, added_opened, added_written, added_left, above_empty, added_valid, added_newest, added_readable}

pub added_reading_opened : open_of geometry (header_frame added_closing) ≡ record { session = fresh added_closing; number = 0 }
added_reading_opened = reading_opened added_closing (lit< tt) (lit< tt) (lit< tt) (lit< tt) (lit< tt) added_valid

-- ---- the frames, as a reading on this header or a later one judges them

module _ (eod update : ℕ) where
  -- the old end: number 2 is expected, and the header names a later one
  old_end_passed_over : 46 < judgement.ends_from (told_at eod update) → judgement.judge_frame (told_at eod update) (as_address 46) (record { 0 = 2 }) (element_frame first_eod blank) ≡ judgement.passed_over
  old_end_passed_over later = judged_earlier first_eod (lit< tt) (lit< tt) blank refl (reads_itself (element_frame first_eod blank)) (told_at eod update) (as_address 46) refl refl later

  pub added_found : (a : ℕ) → judgement.judge_frame (told_at eod update) (as_address a) (record { 0 = 2 }) (element_frame added_filemark blank) ≡ judgement.filemark
  added_found a = judged_written added_filemark (lit< tt) (lit< tt) blank refl (reads_itself (element_frame added_filemark blank)) (told_at eod update) (as_address a) refl refl refl

eod_found : judgement.judge_frame added_closing (as_address 81) (record { 0 = 3 }) (element_frame added_eod blank) ≡ judgement.end
unfolding judgement.ends_from
eod_found = judged_written added_eod (lit< tt) (lit< tt) blank refl (reads_itself (element_frame added_eod blank)) added_closing (as_address 81) refl refl refl

-- ---- the tape

module _ (b : List ℕ) where
  abbrev pub left : Tape
  left = (added_left b).tape

  pub added_reads : left 80 ≡ some (element_frame added_filemark blank)
  unfolding put
  added_reads = refl

  end_reads : left 81 ≡ some (element_frame added_eod blank)
  unfolding put
  end_reads = refl

  -- as the first recording left it, but for what was written
  pub as_left : (a : ℕ) → 10 ≤ a → a < 80 → left a ≡ (added_start b).tape a
  as_left a low high =
      let t : Tape = (added_opened b).tape in
      headers_elsewhere added_closing (added_written b) a (inl (low, omega arith))
      ∙ put_other (after_mark t) 81 (some (element_frame added_eod blank)) a (λ e. omega arith)
      ∙ put_other (after_error t) 80 (some (element_frame added_filemark blank)) a (λ e. omega arith)
      ∙ same_reads t 46 a
      ∙ headers_elsewhere added_opening (added_start b) a (inl (low, omega arith))

-- ---- the list

-- the later filemark was delivered at 80
abbrev pub added_trail : Trail
added_trail = record { filemarks = 2; marker = as_address 80 }

-- the end, with 13 replies taken in
abbrev pub added_read : List ℕ → World
added_read b = between 82 (first_elements b ++ added_elements) 13 (before added_closing added_trail (Read (as_address 81)) 82 false 3 true)

module _ (b : List ℕ) (full : length b ≡ 32768) where
  -- the elements of both recordings, also from a later tape that reads as this one up to 80, on a header that names a later end than 46
  module _ (t : Tape) (same : (a : ℕ) → 10 ≤ a → a < 81 → t a ≡ left b a) (eod update : ℕ) (later : 46 < judgement.ends_from (told_at eod update)) {cs : List Call} {u : World} where
    pub added_through : (place : ℕ) → Runs t (between 81 (first_elements b ++ added_elements) 12 (before (told_at eod update) added_trail (Read (as_address 80)) 81 false 3 false)) cs u
        → Runs t (started (fresh (told_at eod update)) place) (through_added b cs) u
    added_through place rest =
        let told : Header = told_at eod update in
        let as_first : (a : ℕ) → 10 ≤ a → a < 80 → t a ≡ (added_start b).tape a = λ a low high. same a low (omega arith) ∙ as_left b a low high in
        let behind : (a : ℕ) → 47 ≤ a → a < 80 → t a ≡ none = λ a low high. as_first a (omega arith) high ∙ above_empty b a (omega arith) (inl (omega arith, omega arith)) in
        address_located t told no_trail [] 0 ReadPosition 10 0 refl place
        (first_through b full t (λ a low high. as_first a low (omega arith)) eod update
        (frame_read t told first_trail (first_elements b) 7 (Read (as_address 45)) 46 2 refl refl true (element_frame first_eod blank) judgement.passed_over (as_first 46 (lit≤ tt) (lit< tt) ∙ eod_reads b) (element_length first_eod blank refl) (old_end_passed_over eod update later) refl
        (blank_jumped t told first_trail (first_elements b) 8 (Read (as_address 46)) 47 2 refl refl (λ a low high. behind a low (omega arith))
        (address_located t told first_trail (first_elements b) 9 (Read (as_address 47)) 79 2 refl 47
        (unreadable_passed_over t told first_trail (first_elements b) 10 (Locate (as_address 79)) 79 2 refl refl (behind 79 (lit≤ tt) (lit< tt))
        (frame_read t told first_trail (first_elements b) 11 (Read (as_address 79)) 80 2 refl refl true (element_frame added_filemark blank) judgement.filemark (same 80 (lit≤ tt) (lit< tt) ∙ added_reads b) (element_length added_filemark blank refl) (added_found eod update 80) refl rest))))))

  from_fresh : (place : ℕ) → Runs (left b) (started (fresh added_closing) place) (added_reading b) (added_read b)
  unfolding judgement.ends_from
  from_fresh place =
      let all : List Element = first_elements b ++ added_elements in
      added_through (left b) (λ _ _ _. refl) 81 3 (lit< tt) place
      (frame_read (left b) added_closing added_trail all 12 (Read (as_address 80)) 81 3 refl refl true (element_frame added_eod blank) judgement.end (end_reads b) (element_length added_eod blank refl) eod_found refl
      (end_said (left b) 82 all 13 added_closing added_trail (Read (as_address 81)) 82 3))

  -- from the newest header of the cartridge: what both recordings accepted comes back, and the end
  pub added_read_lem : (place : ℕ) → Runs (left b) (started (open_of geometry (header_frame added_closing)).session place) (added_reading b) (added_read b)
  added_read_lem place = subst (λ (x : OpenedSaid). Runs (left b) (started x.session place) (added_reading b) (added_read b)) (sym added_reading_opened) (from_fresh place)

  -- and Chains speaks of this list
  pub added_faithful : Faithful 11999 (first_elements b ++ added_elements) (added_read b)
  added_faithful = (added_readable b full).reads (header_frame added_closing) 0 (added_reading b) (added_read b) (added_newest b) (added_read_lem 0)

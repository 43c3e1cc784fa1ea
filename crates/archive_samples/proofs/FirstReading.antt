-- The reading of what the first sample recording left, to its end: the older frame is passed over, an address is unreadable, a gap is jumped. Assumes nothing.
use Prim.Native.Nat.{ℕ, ◌<◌, ◌≤◌}
use mathlib.Core.Path.{◌≡◌, refl, sym, subst, ◌∙◌}
use mathlib.Core.Bool.{true, false}
use mathlib.Core.List.{List, [], ◌∷◌}
use mathlib.Core.Logic.{inl}
use mathlib.Core.Option.{none, some}
use native.Mathlib.Omega.{arith}
use lib.Dec.{lit<, lit≤}
use lib.ListN.{length, take}
use Rattle.geometry.specs.Place.{as_address}
use Rattle.frame.specs.declared.element.Kind.TheVariants.{Data}
use Rattle.frame.specs.Frame.{blank, element_frame}
use Rattle.frame.specs.Header.{header_frame}
use Rattle.frame.proofs.Frames.{element_length, element_data}
use Rattle.archive_lists.specs.Tape.{Tape, put}
use Rattle.drive.specs.declared.command.Command.TheVariants.{Read, Locate, ReadPosition}
use Rattle.frame.specs.Trail.{no_trail}
use Rattle.frame.specs.declared.trail.Trail.{Trail}
use Rattle.frame.specs.declared.header.Header.{Header}
use Rattle.judgement.specs.Judgement as judgement
use Rattle.judgement.proofs.Written.{judged_written, judged_other_pass}
use Rattle.reading_state.specs.Open.{OpenedSaid, fresh, open_of}
use Rattle.archive_lists.specs.Recordings.{block, filemark}
use Rattle.archive_lists.specs.Readings.{World, Call, Runs, started}
use Rattle.archive_lists.specs.Faithful.{Faithful}
use Rattle.archive_samples.specs.Sample.{geometry, older, stopped, first_opening, first_elements, first_block, first_filemark, first_eod, first_closing, through_first, first_reading}
use Rattle.archive_lists.proofs.tape.Basics.{reads_itself}
use Rattle.archive_lists.proofs.tape.FoldLaws.{put_other}
use Rattle.archive_lists.proofs.tape.WrittenFrames.{block_fits}
use Rattle.archive_samples.proofs.Tapes.{empty, same_reads, headers_elsewhere}
use Rattle.archive_samples.proofs.ReadingExchange.{between, before, address_located, address_located_again, frame_read, unreadable_passed_over, blank_jumped, end_said, told_on, reading_opened}
use Rattle.archive_samples.proofs.FirstRecording.{older_fits, after_failure, after_block, after_filemark, first_opened, first_written, first_left, first_valid, first_newest, first_readable}

pub first_reading_opened : open_of geometry (header_frame first_closing) ≡ record { session = fresh first_closing; number = 0 }
first_reading_opened = reading_opened first_closing (lit< tt) (lit< tt) (lit< tt) (lit< tt) (lit< tt) first_valid

-- ---- the frames, as a reading of pass 1 judges them

abbrev pub told_at : ℕ → ℕ → Header
told_at = told_on 11999

module _ (eod update : ℕ) where
  older_passed_over : judgement.judge_frame (told_at eod update) (as_address 10) (record { 0 = 0 }) (element_frame older blank) ≡ judgement.passed_over
  older_passed_over = judged_other_pass older (lit< tt) (lit< tt) blank older_fits (reads_itself (element_frame older blank)) (told_at eod update) (as_address 10) (record { 0 = 0 }) (λ q. omega arith)

  block_found : (b : List ℕ) → length b ≡ 32768 → judgement.judge_frame (told_at eod update) (as_address 44) (record { 0 = 0 }) (element_frame first_block b) ≡ judgement.block
  block_found b full = judged_written first_block (lit< tt) (lit< tt) b (block_fits Data b full) (reads_itself (element_frame first_block b)) (told_at eod update) (as_address 44) refl refl refl

  filemark_found : judgement.judge_frame (told_at eod update) (as_address 45) (record { 0 = 1 }) (element_frame first_filemark blank) ≡ judgement.filemark
  filemark_found = judged_written first_filemark (lit< tt) (lit< tt) blank refl (reads_itself (element_frame first_filemark blank)) (told_at eod update) (as_address 45) refl refl refl

eod_found : judgement.judge_frame first_closing (as_address 46) (record { 0 = 2 }) (element_frame first_eod blank) ≡ judgement.end
unfolding judgement.ends_from
eod_found = judged_written first_eod (lit< tt) (lit< tt) blank refl (reads_itself (element_frame first_eod blank)) first_closing (as_address 46) refl refl refl

-- ---- the tape

module _ (b : List ℕ) where
  abbrev pub left : Tape
  left = (first_left b).tape

  ten_reads : left 10 ≡ some (element_frame older blank)
  unfolding put
  ten_reads = refl

  block_reads : left 44 ≡ some (element_frame first_block b)
  unfolding put
  block_reads = refl

  pub filemark_reads : left 45 ≡ some (element_frame first_filemark blank)
  unfolding put
  filemark_reads = refl

  pub eod_reads : left 46 ≡ some (element_frame first_eod blank)
  unfolding put
  eod_reads = refl

  -- nothing between the older frame and the block
  pub gap_empty : (a : ℕ) → 11 ≤ a → a < 44 → left a ≡ none
  gap_empty a low high =
      let t : Tape = first_opened.tape in
      headers_elsewhere first_closing (first_written b) a (inl (omega arith, omega arith))
      ∙ put_other (after_filemark b t) 46 (some (element_frame first_eod blank)) a (λ e. omega arith)
      ∙ put_other (after_block b t) 45 (some (element_frame first_filemark blank)) a (λ e. omega arith)
      ∙ put_other (after_failure t) 44 (some (element_frame first_block b)) a (λ e. omega arith)
      ∙ same_reads t 10 a
      ∙ headers_elsewhere first_opening stopped a (inl (omega arith, omega arith))
      ∙ put_other empty 10 (some (element_frame older blank)) a (λ e. omega arith)

-- ---- the list

-- the filemark was delivered at 45
abbrev pub first_trail : Trail
first_trail = record { filemarks = 1; marker = as_address 45 }

-- the end, with eight replies taken in
abbrev pub first_read_world : List ℕ → World
first_read_world b = between 47 (first_elements b) 8 (before first_closing first_trail (Read (as_address 46)) 47 false 2 true)

module _ (b : List ℕ) (full : length b ≡ 32768) where
  -- what was accepted comes back byte for byte, also from a later tape that reads as this one up to 45
  module _ (t : Tape) (same : (a : ℕ) → 10 ≤ a → a < 46 → t a ≡ left b a) (eod update : ℕ) {cs : List Call} {u : World} where
    pub first_through : Runs t (between 46 (first_elements b) 7 (before (told_at eod update) first_trail (Read (as_address 45)) 46 false 2 false)) cs u
        → Runs t (between 10 [] 1 (before (told_at eod update) no_trail (Locate (as_address 10)) 10 false 0 false)) (through_first b cs) u
    first_through rest =
        let told : Header = told_at eod update in
        let fits = block_fits Data b full in
        let gap : (a : ℕ) → 11 ≤ a → a < 44 → t a ≡ none = λ a low high. same a (omega arith) (omega arith) ∙ gap_empty b a low high in
        let read : List ℕ = take 32768 (element_frame first_block b) in
        frame_read t told no_trail [] 1 (Locate (as_address 10)) 10 0 refl refl true (element_frame older blank) judgement.passed_over (same 10 (lit≤ tt) (lit< tt) ∙ ten_reads b) (element_length older blank older_fits) (older_passed_over eod update) refl
        (unreadable_passed_over t told no_trail [] 2 (Read (as_address 10)) 11 0 refl refl (gap 11 (lit≤ tt) (lit< tt))
        (blank_jumped t told no_trail [] 3 (Read (as_address 11)) 12 0 refl refl (λ a low high. gap a (omega arith) high)
        (address_located t told no_trail [] 4 (Read (as_address 12)) 44 0 refl 12
        (frame_read t told no_trail [] 5 (Locate (as_address 44)) 44 0 refl refl true (element_frame first_block b) judgement.block (same 44 (lit≤ tt) (lit< tt) ∙ block_reads b) (element_length first_block b fits) (block_found eod update b full) refl
        (frame_read t told no_trail (block read ∷ []) 6 (Read (as_address 44)) 45 1 refl refl true (element_frame first_filemark blank) judgement.filemark (same 45 (lit≤ tt) (lit< tt) ∙ filemark_reads b) (element_length first_filemark blank refl) (filemark_found eod update) refl
        (subst (λ (bytes : List ℕ). Runs t (between 46 (block bytes ∷ filemark ∷ []) 7 (before told first_trail (Read (as_address 45)) 46 false 2 false)) cs u) (sym (element_data first_block b fits)) rest))))))

  from_fresh : (place : ℕ) → Runs (left b) (started (fresh first_closing) place) (first_reading b) (first_read_world b)
  from_fresh place =
      address_located_again (left b) first_closing no_trail [] 0 ReadPosition 10 0 refl place
      (first_through (left b) (λ _ _ _. refl) 46 1
      (frame_read (left b) first_closing first_trail (first_elements b) 7 (Read (as_address 45)) 46 2 refl refl true (element_frame first_eod blank) judgement.end (eod_reads b) (element_length first_eod blank refl) eod_found refl
      (end_said (left b) 47 (first_elements b) 8 first_closing first_trail (Read (as_address 46)) 47 2)))

  -- from the newest header of the cartridge, to the end
  pub first_read : (place : ℕ) → Runs (left b) (started (open_of geometry (header_frame first_closing)).session place) (first_reading b) (first_read_world b)
  first_read place = subst (λ (x : OpenedSaid). Runs (left b) (started x.session place) (first_reading b) (first_read_world b)) (sym first_reading_opened) (from_fresh place)

  -- and demand 3 speaks of this list
  pub first_faithful : Faithful 11999 (first_elements b) (first_read_world b)
  first_faithful = (first_readable b full).reads (header_frame first_closing) 0 (first_reading b) (first_read_world b) (first_newest b) (first_read 0)

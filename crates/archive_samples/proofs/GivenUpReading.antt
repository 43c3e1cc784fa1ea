-- The reading of what the sample recording that gives up left, to its end: the block is delivered from its last bad spot, and then EOD, which has its number, ends reading. Assumes nothing.
use Prim.Native.Nat.{ℕ, zero, suc, ◌+◌, ◌<◌, ◌≤◌}
use mathlib.Core.Path.{◌≡◌, refl, sym, subst, ◌∙◌}
use mathlib.Core.Bool.{true, false}
use mathlib.Core.List.{List, [], ◌∷◌}
use mathlib.Core.Logic.{◌⊎◌, inl}
use mathlib.Core.Option.{none, some}
use native.Mathlib.Omega.{arith}
use lib.Dec.{lit<, lit≤}
use lib.ListN.{length}
use Rattle.geometry.specs.Place.{as_address}
use Rattle.frame.specs.declared.element.Kind.TheVariants.{Data}
use Rattle.frame.specs.Frame.{blank, element_frame}
use Rattle.frame.specs.Header.{header_frame}
use Rattle.frame.specs.Trail.{no_trail}
use Rattle.frame.proofs.Frames.{element_length, element_data}
use Rattle.drive.specs.declared.command.Command.{Command}
use Rattle.drive.specs.declared.command.Command.TheVariants.{Read, Locate, ReadPosition}
use Rattle.frame.specs.declared.header.Header.{Header}
use Rattle.judgement.specs.Judgement as judgement
use Rattle.judgement.proofs.JudgeLaws.{one_below_so, found_told}
use Rattle.judgement.proofs.Written.{found_written, judged_written}
use Rattle.reading_state.specs.Open.{OpenedSaid, fresh, open_of}
use Rattle.archive_lists.specs.Tape.{Tape, put}
use Rattle.archive_lists.specs.Filemarks.{naming_no_end}
use Rattle.archive_lists.specs.Recordings.{block}
use Rattle.archive_lists.specs.Readings.{World, Call, Runs, started}
use Rattle.archive_samples.specs.Sample.{smallest, given_up_opening, given_up_elements, given_up_block, given_up_eod, given_up_closing, unreadables, through_given_up, given_up_reading}
use Rattle.archive_lists.proofs.tape.Basics.{reads_itself}
use Rattle.archive_lists.proofs.tape.FoldLaws.{put_other}
use Rattle.archive_lists.proofs.tape.WrittenFrames.{block_fits}
use Rattle.archive_samples.proofs.Tapes.{same_reads, headers_elsewhere}
use Rattle.archive_samples.proofs.ReadingExchange.{between, before, address_located, frame_read, addresses_missed, end_said, told_on, reading_opened_on}
use Rattle.archive_samples.proofs.GivenUp.{after_failures, after_ten, after_eleven, given_up_start, given_up_opened, given_up_written, given_up_left, given_up_valid}

pub given_up_reading_opened : open_of smallest (header_frame given_up_closing) ≡ record { session = fresh given_up_closing; number = 0 }
given_up_reading_opened = reading_opened_on smallest 3000 refl given_up_closing (lit< tt) (lit< tt) (lit< tt) (lit< tt) (lit< tt) given_up_valid

-- ---- the frames, as a reading on this header or a later one judges them

block_found : (eod update : ℕ) (b : List ℕ) → length b ≡ 32768 → judgement.judge_frame (told_on 3000 eod update) (as_address 2560) (record { 0 = 0 }) (element_frame given_up_block b) ≡ judgement.block
block_found eod update b full = judged_written given_up_block (lit< tt) (lit< tt) b (block_fits Data b full) (reads_itself (element_frame given_up_block b)) (told_on 3000 eod update) (as_address 2560) refl refl refl

-- number 1 is expected, and EOD has 0
one_below : judgement.judge_frame given_up_closing (as_address 2815) (record { 0 = 1 }) (element_frame given_up_eod blank) ≡ judgement.end
one_below =
    one_below_so given_up_closing (as_address 2815) (record { 0 = 1 }) (element_frame given_up_eod blank) (λ e. omega arith) refl (record { 0 = 0 }) refl
    (found_told (naming_no_end 3000 1) given_up_closing refl refl (found_written given_up_eod (lit< tt) (lit< tt) blank refl (reads_itself (element_frame given_up_eod blank))))

-- ---- the tape

failures_read : (n a : ℕ) (t : Tape) (x : ℕ) → after_failures n a t x ≡ t x
failures_read zero a t x = refl
failures_read (suc n) a t x = failures_read n (a + 255) (put t a (t a)) x ∙ same_reads t a x

module _ (b : List ℕ) where
  abbrev pub left : Tape
  left = (given_up_left b).tape

  block_reads : left 2560 ≡ some (element_frame given_up_block b)
  unfolding put
  block_reads = refl

  eod_reads : left 2815 ≡ some (element_frame given_up_eod blank)
  unfolding put
  eod_reads = refl

  -- nothing else reads
  pub none_reads : (a : ℕ) → ((10 ≤ a) × (a ≤ 2989)) ⊎ (2995 ≤ a) → (a ≡ 2560 → ⊥) → (a ≡ 2815 → ⊥) → left a ≡ none
  none_reads a off block_elsewhere eod_elsewhere =
      headers_elsewhere given_up_closing (given_up_written b) a off
      ∙ put_other (after_eleven b) 2815 (some (element_frame given_up_eod blank)) a eod_elsewhere
      ∙ put_other after_ten 2560 (some (element_frame given_up_block b)) a block_elsewhere
      ∙ failures_read 10 10 given_up_opened.tape a
      ∙ headers_elsewhere given_up_opening given_up_start a off

-- ---- the list

-- the end, with 2,807 replies taken in
abbrev pub given_up_read : List ℕ → World
given_up_read b = between 2816 (given_up_elements b) 2807 (before given_up_closing no_trail (Read (as_address 2815)) 2816 false 1 true)

module _ (b : List ℕ) (full : length b ≡ 32768) where
  -- the block comes back byte for byte, also from a later tape that reads as this one up to 2,814
  module _ (t : Tape) (same : (a : ℕ) → 10 ≤ a → a < 2815 → t a ≡ left b a) (eod update : ℕ) where
    abbrev told : Header
    told = told_on 3000 eod update

    nothing : (a : ℕ) → 10 ≤ a → a < 2815 → (a ≡ 2560 → ⊥) → t a ≡ none
    nothing a low high other = same a low high ∙ none_reads b a (inl (low, omega arith)) other (λ e. omega arith)

    pub given_up_through : {cs : List Call} {u : World} (place : ℕ) → ((c : Command) → Runs t (between 2815 (given_up_elements b) 2806 (before told no_trail c 2815 false 1 false)) cs u)
        → Runs t (started (fresh told) place) (through_given_up b cs) u
    given_up_through {cs} {u} place rest =
        let fits = block_fits Data b full in
        address_located t told no_trail [] 0 ReadPosition 10 0 refl place
        (addresses_missed t told no_trail [] 0 2560 2551 (lit≤ tt) (lit≤ tt)
        (λ c.
        frame_read t told no_trail [] 2551 c 2560 0 refl refl true (element_frame given_up_block b) judgement.block (same 2560 (lit≤ tt) (lit< tt) ∙ block_reads b) (element_length given_up_block b fits) (block_found eod update b full) refl
        (subst (λ (bytes : List ℕ). Runs t (between 2561 (block bytes ∷ []) 2552 (before told no_trail (Read (as_address 2560)) 2561 false 1 false)) (unreadables 254 cs) u) (sym (element_data given_up_block b fits))
        (addresses_missed t told no_trail (given_up_elements b) 1 2815 2806 (lit≤ tt) (lit≤ tt) rest 254 2561 2552 (Read (as_address 2560)) refl refl (λ a low high. nothing a (omega arith) high (λ e. omega arith)))))
        2550 10 1 (Locate (as_address 10)) refl refl (λ a low high. nothing a low (omega arith) (λ e. omega arith)))

  from_fresh : (place : ℕ) → Runs (left b) (started (fresh given_up_closing) place) (given_up_reading b) (given_up_read b)
  from_fresh place =
      given_up_through (left b) (λ _ _ _. refl) 2815 1 place
      (λ c.
      frame_read (left b) given_up_closing no_trail (given_up_elements b) 2806 c 2815 1 refl refl true (element_frame given_up_eod blank) judgement.end (eod_reads b) (element_length given_up_eod blank refl) one_below refl
      (end_said (left b) 2816 (given_up_elements b) 2807 given_up_closing no_trail (Read (as_address 2815)) 2816 1))

  -- from the newest header of the cartridge, to the end
  pub given_up_read_lem : (place : ℕ) → Runs (left b) (started (open_of smallest (header_frame given_up_closing)).session place) (given_up_reading b) (given_up_read b)
  given_up_read_lem place = subst (λ (x : OpenedSaid). Runs (left b) (started x.session place) (given_up_reading b) (given_up_read b)) (sym given_up_reading_opened) (from_fresh place)

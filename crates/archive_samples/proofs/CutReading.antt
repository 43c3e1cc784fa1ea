-- A reading of the cartridge on which the sample session was cut, on the header that it was opened on: the filemark is read behind what the first
-- recording holds. Assumes nothing.
use Prim.Native.Nat.{ℕ, ◌≤◌, ◌<◌}
use mathlib.Core.Path.{◌≡◌, refl, sym, subst, ◌∙◌}
use mathlib.Core.Bool.{true, false}
use mathlib.Core.List.{List, [], ◌++◌}
use mathlib.Core.Option.{some}
use native.Mathlib.Omega.{arith}
use lib.ListN.{length}
use Rattle.geometry.specs.Place.{as_address}
use Rattle.frame.specs.Frame.{blank, element_frame}
use Rattle.frame.specs.Header.{header_frame}
use Rattle.frame.specs.Trail.{no_trail}
use Rattle.frame.specs.declared.trail.Trail.{Trail}
use Rattle.frame.proofs.Frames.{element_length}
use Rattle.judgement.specs.Judgement as judgement
use Rattle.drive.specs.declared.command.Command.TheVariants.{Read, ReadPosition}
use Rattle.reading_state.specs.Open.{OpenedSaid, open_of}
use Rattle.archive_lists.specs.Tape.{put}
use Rattle.archive_lists.specs.Readings.{World, Runs, stop, started}
use Rattle.archive_cuts.specs.Cuts.{FaithfulInPart}
use Rattle.archive.specs.PowerCut.{MayEnd}
use Rattle.archive_samples.specs.Sample.{geometry, first_elements, first_closing, added_opening, added_elements, added_filemark, cut_reading}
use Rattle.archive_lists.proofs.tape.FoldLaws.{put_other}
use Rattle.archive_samples.proofs.Tapes.{last_copy_elsewhere}
use Rattle.archive_samples.proofs.ReadingExchange.{between, before, address_located, frame_read}
use Rattle.archive_samples.proofs.FirstRecording.{first_left}
use Rattle.archive_samples.proofs.FirstReading.{first_trail, first_reading_opened, first_through}
use Rattle.archive_samples.proofs.AddedReading.{added_found}
use Rattle.archive_samples.proofs.AddedRecording.{added_start, at_first_end}
use Rattle.archive_samples.proofs.CutRecording.{cut_opened, cut_left, cut_read_so}

-- the filemark was delivered at 46, with eight replies taken in
abbrev cut_trail : Trail
cut_trail = record { filemarks = 2; marker = as_address 46 }

abbrev pub cut_read : List ℕ → World
cut_read b = between 47 (first_elements b ++ added_elements) 8 (before first_closing cut_trail (Read (as_address 46)) 47 false 3 false)

module _ (b : List ℕ) (full : length b ≡ 32768) where
  -- below 46 as the first recording left it
  as_left : (a : ℕ) → 10 ≤ a → a < 46 → (cut_left b).tape a ≡ (first_left b).tape a
  as_left a low high =
      put_other (cut_opened b).tape 46 (some (element_frame added_filemark blank)) a (λ e. omega arith)
      ∙ last_copy_elsewhere added_opening (added_start b) a low (omega arith)

  mark_reads : (cut_left b).tape 46 ≡ some (element_frame added_filemark blank)
  unfolding put
  mark_reads = refl

  pub cut_read_lem : (place : ℕ) → Runs (cut_left b).tape (started (open_of geometry (header_frame first_closing)).session place) (cut_reading b) (cut_read b)
  cut_read_lem place =
      subst (λ (x : OpenedSaid). Runs (cut_left b).tape (started x.session place) (cut_reading b) (cut_read b)) (sym first_reading_opened)
      (address_located (cut_left b).tape first_closing no_trail [] 0 ReadPosition 10 0 refl place
      (first_through b full (cut_left b).tape as_left 46 1
      (frame_read (cut_left b).tape first_closing first_trail (first_elements b) 7 (Read (as_address 45)) 46 2 refl refl true (element_frame added_filemark blank) judgement.filemark mark_reads (element_length added_filemark blank refl) (added_found 46 1 46) refl stop)))

  -- and PowerCut speaks of this list
  pub cut_faithful : FaithfulInPart 11999 (first_elements b) added_elements (MayEnd (at_first_end b full) (first_left b).tape (cut_left b).tape) (cut_read b)
  cut_faithful = cut_read_so b full 0 (cut_reading b) (cut_read b) (cut_read_lem 0)

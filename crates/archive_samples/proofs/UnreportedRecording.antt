-- The sample session that adds a filemark behind the first recording, cut behind its first closing header copy, before done is answered: ClosingCopy
-- speaks of it. Assumes nothing.
use Prim.Native.Nat.{ℕ, ◌<◌}
use mathlib.Core.Path.{◌≡◌, refl, ap, subst}
use mathlib.Core.Bool.{true, false}
use mathlib.Core.List.{List, [], ◌∷◌}
use mathlib.Core.Option.{some}
use native.Mathlib.Omega.{arith}
use lib.Dec.{lit<}
use lib.ListN.{length}
use Rattle.geometry.specs.Place.{as_address}
use Rattle.frame.specs.Header.{header_frame}
use Rattle.frame.specs.declared.header.Header.{Header}
use Rattle.header.specs.Valid.{header_of, update_of}
use Rattle.header.proofs.Built.{built_fields, built_update}
use Rattle.drive.specs.Senses.{meaning_in}
use Rattle.drive.specs.declared.command.Command.{Command}
use Rattle.drive.specs.declared.command.Command.TheVariants.{Write, Locate, ReadPosition}
use Rattle.recording_state.specs.Written.{written_frame}
use Rattle.recording_state.specs.declared.state.State.{State}
use Rattle.archive_lists.specs.Conduct as conduct
use Rattle.archive_lists.specs.Conduct.{Drive, Answers}
use Rattle.archive_lists.specs.Tape.{put}
use Rattle.archive_lists.specs.Headers.{HeaderAt}
use Rattle.archive_lists.specs.Recordings.{World, Runs, stop, started}
use Rattle.archive.specs.PowerCut.{AsDone, ClosingCopy}
use Rattle.archive_samples.specs.Sample.{geometry, good, window, first_closing, added_elements, added_closing, unreported_calls}
use Rattle.archive_lists.proofs.tape.Basics.{reads_itself, none_answered}
use Rattle.archive_samples.proofs.Exchange.{between, acting, exchange}
use Rattle.archive_samples.proofs.Flush.{buffered}
use Rattle.archive_samples.proofs.Headers.{among, closing, group_located, copy_taken, copy_frame}
use Rattle.archive_samples.proofs.FirstRecording.{window_long, first_newest, first_sized}
use Rattle.archive_samples.proofs.SecondRecording.{second_cartridge}
use Rattle.archive_samples.proofs.AddedRecording.{added_state, eod_written, added_start, added_written, through_eod_lem, none_in_the_way, added_valid, at_first_end}
use Rattle.archive.proofs.ClosingCopy.{closing_copy}

-- ---- the list

abbrev to_five : Command
to_five = Locate (as_address 5)

abbrev first_copy : Command
first_copy = Write (as_address 5)

-- among the closing headers, behind the LOCATE, and with a copy taken
abbrev closing_at : Command → ℕ → State
closing_at c copy = among 0 false true eod_written added_closing 0 0 c copy false

abbrev pub unreported_left : List ℕ → Drive
unreported_left b = buffered (put (added_written b).tape 5 (some (header_frame added_closing))) 6 (5 ∷ (added_written b).written) []

abbrev pub unreported_end : List ℕ → World
unreported_end b = between window added_elements (closing_at first_copy 1) (unreported_left b)

pub unreported_runs : (b : List ℕ) → Runs (started added_state window (added_start b)) unreported_calls (unreported_end b)
unfolding meaning_in
unreported_runs b =
    let f : List ℕ = header_frame added_closing in
    let start : Drive = buffered (added_written b).tape 5 (added_written b).written [] in
    let holding : Drive = buffered (added_written b).tape 5 (added_written b).written (f ∷ []) in
    through_eod_lem b
    (exchange window added_elements (closing 0 added_closing eod_written) (added_written b) window_long (group_located 0 true eod_written added_closing 0 0 ReadPosition false) (conduct.locates (as_address 5) good refl)
    (exchange window added_elements (closing_at to_five 0) start window_long (copy_taken 0 true eod_written added_closing 0 0 to_five 0 (lit< tt) false)
    (subst (λ (x : List ℕ). Answers start (written_frame (closing_at to_five 0) window) first_copy good (buffered (added_written b).tape 5 (added_written b).written (x ∷ []))) (copy_frame 0 true eod_written added_closing 0 0 to_five 0 (lit< tt) false window) (conduct.takes (as_address 5) good refl))
    (acting window added_elements (closing_at first_copy 1) holding (conduct.writes f [] (some f) refl refl (conduct.reads f (reads_itself f))) stop)))

-- ---- what ClosingCopy says of it

module _ (b : List ℕ) (full : length b ≡ 32768) where
  copy_reads : HeaderAt 11999 (unreported_left b).tape 5 (header_frame added_closing)
  unfolding put
  copy_reads = record { group = refl; reads = refl; valid = added_valid }

  eod_named : (header_of (header_frame added_closing)).eod.0 ≡ 81
  eod_named = ap (λ (x : Header). x.eod.0) (built_fields added_closing (lit< tt) (lit< tt) (lit< tt) (lit< tt) (lit< tt))

  newer : update_of (header_frame first_closing) < update_of (header_frame added_closing)
  newer = omega (arith, built_update first_closing (lit< tt), built_update added_closing (lit< tt))

  -- the tape is as after done
  pub unreported_as_done : AsDone geometry 11999 added_state (at_first_end b full) (unreported_end b) (header_frame added_closing)
  unfolding ClosingCopy
  unreported_as_done =
      closing_copy geometry 11999 (added_start b) added_state (at_first_end b full) (unreported_end b)
      (record { sized = first_sized; cartridge = second_cartridge b full; unwritten = refl; rests = conduct.empty refl; window = window; calls = unreported_calls; runs = unreported_runs b })
      (first_newest b) (λ _ _. refl) (none_in_the_way b full) refl (record { going = refl; lawful = λ r q _. none_answered q }) 5 (header_frame added_closing) copy_reads newer (λ z. omega (arith, eod_named))

-- The sample session that adds to what the first recording left, cut while its first header copy is being written, where nothing reads then:
-- BeforeFirstCopy speaks of it. Assumes nothing.
use Prim.Native.Nat.{ℕ}
use mathlib.Core.Path.{◌≡◌, refl, sym, ap, ◌∙◌}
use mathlib.Core.Bool.{true, false}
use mathlib.Core.List.{List, []}
use mathlib.Core.Logic.{inl}
use mathlib.Core.Option.{none}
use native.Mathlib.Decide.{ℕ_discrete}
use native.Mathlib.Omega.{arith}
use lib.Dec.{lit<}
use lib.ListN.{length}
use Rattle.geometry.specs.Place.{as_address}
use Rattle.drive.specs.Senses.{meaning_in}
use Rattle.drive.specs.declared.command.Command.{Command}
use Rattle.drive.specs.declared.command.Command.TheVariants.{Write, Locate, ReadPosition}
use Rattle.recording_state.specs.Fetch.{awaits, frame_for}
use Rattle.recording_state.specs.declared.state.State.{State}
use Rattle.archive_lists.specs.Conduct as conduct
use Rattle.archive_lists.specs.Conduct.{Drive, moved, taking, failing}
use Rattle.archive_lists.specs.Tape.{Tape, put}
use Rattle.archive_lists.specs.Recordings.{World, answered, acts, answers, Runs, stop, call, drive, started}
use Rattle.archive_cuts.specs.Cuts.{Throughout}
use Rattle.archive.specs.PowerCut.{NoneNewer, AsBefore, BeforeFirstCopy}
use Rattle.archive_samples.specs.Sample.{geometry, good, window, frame, added_opening, uncopied_calls}
use Rattle.archive_lists.proofs.tape.Basics.{none_some}
use Rattle.archive_lists.proofs.tape.FoldLaws.{put_same, put_other}
use Rattle.archive_samples.proofs.Exchange.{Step, world, asks, brings}
use Rattle.archive_samples.proofs.Headers.{among, group_located, copy_taken}
use Rattle.archive_samples.proofs.FirstRecording.{window_long, first_left, first_newest, first_sized}
use Rattle.archive_samples.proofs.SecondRecording.{second_cartridge}
use Rattle.archive_samples.proofs.AddedRecording.{added_state, added_start, at_first_end}
use Rattle.archive.proofs.BeforeFirstCopy.{before_first_copy}

-- ---- the list: LOCATE 5, and WRITE 5 is taken

abbrev to_five : Command
to_five = Locate (as_address 5)

abbrev first_copy : Command
first_copy = Write (as_address 5)

abbrev located : State
located = among 0 true false added_state.elements added_opening 0 0 to_five 0 false

locates_five : Step added_state to_five good located
locates_five = group_located 0 false added_state.elements added_opening 0 0 ReadPosition true

takes_copy : Step located first_copy good (among 0 true false added_state.elements added_opening 0 0 first_copy 1 false)
takes_copy = copy_taken 0 false added_state.elements added_opening 0 0 to_five 0 (lit< tt) true

abbrev copy_frame : List ℕ
copy_frame = frame_for first_copy located window frame

-- the drive with that copy, and cut while it is being written
abbrev holding : List ℕ → Drive
holding b = taking (moved (added_start b) 5) copy_frame

abbrev pub uncopied_left : List ℕ → Drive
uncopied_left b = failing (holding b) none

abbrev pub uncopied_end : List ℕ → World
uncopied_end b = world window [] (awaits located first_copy) (uncopied_left b) (answered good)

module _ (b : List ℕ) where
  abbrev first_tape : Tape
  first_tape = (first_left b).tape

  located_so : conduct.Answers (added_start b) (frame_for to_five added_state window frame) to_five good (moved (added_start b) 5)
  unfolding meaning_in
  located_so = conduct.locates (as_address 5) good refl

  taken_so : conduct.Answers (moved (added_start b) 5) copy_frame first_copy good (holding b)
  unfolding meaning_in
  taken_so = conduct.takes (as_address 5) good refl

  -- written out, so that each tape of it can be looked at
  abbrev uncopied_runs : Runs (started added_state window (added_start b)) uncopied_calls (uncopied_end b)
  uncopied_runs =
      call (asks window [] added_state (added_start b) {c = to_five} window_long locates_five.free locates_five.sized locates_five.decided)
      (drive (answers to_five (frame_for to_five added_state window frame) good (moved (added_start b) 5) refl located_so)
      (call (brings window [] added_state (moved (added_start b) 5) {next = located} {c = to_five} {r = good} 0 (inl refl) locates_five.replied)
      (call (asks window [] located (moved (added_start b) 5) {c = first_copy} window_long takes_copy.free takes_copy.sized takes_copy.decided)
      (drive (answers first_copy copy_frame good (holding b) refl taken_so)
      (drive (acts (uncopied_left b) (conduct.fails copy_frame [] none refl refl conduct.not_at_all)) stop)))))

  module _ (full : length b ≡ 32768) where
    -- ---- no tape of it holds a newer header

    none_newer : NoneNewer (at_first_end b full) first_tape
    none_newer a h at newer = omega (arith, (first_newest b).highest a h at)

    none_newer_left : NoneNewer (at_first_end b full) (put first_tape 5 none)
    none_newer_left a h at newer = go (ℕ_discrete a 5)
      where
        go : Dec (a ≡ 5) → ⊥
        go (yes e) = none_some (sym (ap (put first_tape 5 none) e ∙ put_same first_tape 5 none) ∙ at.reads)
        go (no other) = none_newer a h (record { group = at.group; reads = sym (put_other first_tape 5 none a other) ∙ at.reads; valid = at.valid }) newer

    throughout : Throughout (NoneNewer (at_first_end b full)) uncopied_runs
    throughout = (none_newer, (none_newer, (none_newer, (none_newer, (none_newer, (none_newer, none_newer_left))))))

    -- so the cartridge reads as it did
    pub as_before : AsBefore geometry 11999 first_tape (uncopied_left b).tape
    unfolding BeforeFirstCopy
    as_before =
        before_first_copy geometry 11999 (added_start b) added_state (at_first_end b full) (uncopied_end b)
        (record { sized = first_sized; cartridge = second_cartridge b full; unwritten = refl; rests = conduct.empty refl; window = window; calls = uncopied_calls; runs = uncopied_runs }) throughout

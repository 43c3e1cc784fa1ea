-- A sample session that adds to the cartridge that the first recording left and is cut behind its first element, with a header copy that failed and
-- reads as the old header: PowerCut speaks of it, and EarlierFirst. Assumes nothing.
use Prim.Native.Nat.{ℕ}
use mathlib.Core.Path.{◌≡◌, refl, subst}
use mathlib.Core.List.{List, [], ◌∷◌, ◌++◌}
use mathlib.Core.Logic.{inl}
use mathlib.Core.Option.{some}
use lib.Dec.{lit<}
use lib.ListN.{length}
use Rattle.geometry.specs.Place.{as_address}
use Rattle.frame.specs.Frame.{blank, element_frame}
use Rattle.frame.specs.Header.{header_frame}
use Rattle.drive.specs.Senses.{meaning_in}
use Rattle.drive.specs.declared.command.Command.TheVariants.{Write, Locate}
use Rattle.elements.specs.Trail.{trail_of}
use Rattle.elements.specs.Reply as reply
use Rattle.elements.specs.declared.elements.Elements.{Elements}
use Rattle.recording_state.specs.Written.{written_frame, written_element, element_of}
use Rattle.recording_state.specs.declared.state.State.{State}
use Rattle.reading_state.specs.Open.{open_of}
use Rattle.archive_lists.specs.Conduct as conduct
use Rattle.archive_lists.specs.Conduct.{Drive, Answers}
use Rattle.archive_lists.specs.Tape.{put}
use Rattle.archive_lists.specs.Headers.{HeaderAt}
use Rattle.archive_lists.specs.Recordings.{World, Runs, stop, started}
use Rattle.archive_lists.specs.Readings as readings
use Rattle.archive_cuts.specs.Cuts.{FaithfulInPart}
use Rattle.archive.specs.Chain as chain
use Rattle.archive.specs.Chain.{accepted_in, NoneGiven}
use Rattle.archive.specs.PowerCut.{MayEnd, Recoverable, PowerCut, EarlierFirst}
use Rattle.archive_samples.specs.Sample.{geometry, good, window, first_elements, first_closing, added_opening, added_elements, added_filemark, cut_calls}
use Rattle.archive_lists.proofs.tape.Basics.{reads_itself}
use Rattle.archive_samples.proofs.Exchange.{between, acting, exchange}
use Rattle.archive_samples.proofs.Flush.{buffered}
use Rattle.archive_samples.proofs.Headers.{writing, last_copy_failed, opening_fails_last}
use Rattle.archive_samples.proofs.Filemark.{reaches, located, filemark_begun, filemark_taken_lem}
use Rattle.archive_samples.proofs.FirstRecording.{window_long, first_left, first_end, first_valid, first_newest, first_sized}
use Rattle.archive_samples.proofs.FirstReading.{first_trail}
use Rattle.archive_samples.proofs.SecondRecording.{second_cartridge}
use Rattle.archive_samples.proofs.AddedRecording.{added_state, added_start, at_first_end, none_in_the_way, first_chain}
use Rattle.archive.proofs.PowerCut.{power_cut}
use Rattle.archive.proofs.Chain.{earlier_first}

-- ---- the list

-- the drive after the opening headers, and with the filemark on tape
abbrev pub cut_opened : List ℕ → Drive
cut_opened b = last_copy_failed added_opening (added_start b)

abbrev pub cut_left : List ℕ → Drive
cut_left b = buffered (put (cut_opened b).tape 46 (some (element_frame added_filemark blank))) 47 (46 ∷ (cut_opened b).written) []

abbrev filemark_taken : Elements
filemark_taken = reply.taken_of (located 11999 46 2 first_trail)

-- the power goes: the filemark is outstanding, and no READ POSITION has told of it
abbrev pub cut_end : List ℕ → World
cut_end b = between window added_elements (writing 0 added_opening filemark_taken (Write (as_address 46))) (cut_left b)

filemark_frame : written_frame (writing 0 added_opening (located 11999 46 2 first_trail) (Locate (as_address 46))) window ≡ element_frame added_filemark blank
unfolding written_frame written_element element_of element_frame reply.confirmed_of trail_of
filemark_frame = refl

pub cut_runs : (b : List ℕ) → Runs (started added_state window (added_start b)) cut_calls (cut_end b)
unfolding meaning_in
cut_runs b =
    let s : State = writing 0 added_opening (located 11999 46 2 first_trail) (Locate (as_address 46)) in
    let f : List ℕ = element_frame added_filemark blank in
    let start : Drive = buffered (cut_opened b).tape 46 (cut_opened b).written [] in
    opening_fails_last 0 window window_long added_opening (as_address 46) (record { 0 = 2 }) first_trail (added_start b)
    (filemark_begun 11999 46 2 first_trail reaches added_opening (lit< tt) (cut_opened b)
    (exchange window added_elements s start window_long (filemark_taken_lem 11999 46 2 46 first_trail (located 11999 46 2 first_trail).queue.marks added_opening reaches (lit< tt) (Locate (as_address 46)))
    (subst (λ (x : List ℕ). Answers start (written_frame s window) (Write (as_address 46)) good (buffered (cut_opened b).tape 46 (cut_opened b).written (x ∷ []))) filemark_frame (conduct.takes (as_address 46) good refl))
    (acting window added_elements (writing 0 added_opening filemark_taken (Write (as_address 46))) (buffered (cut_opened b).tape 46 (cut_opened b).written (f ∷ []))
    (conduct.writes f [] (some f) refl refl (conduct.reads f (reads_itself f))) stop)))

-- ---- what PowerCut says of it

module _ (b : List ℕ) (full : length b ≡ 32768) where
  cut_recoverable : Recoverable geometry 11999 (first_left b).tape added_state (at_first_end b full) (cut_end b)
  unfolding PowerCut
  cut_recoverable =
      power_cut geometry 11999 (added_start b) added_state (at_first_end b full) (cut_end b)
      (record { sized = first_sized; cartridge = second_cartridge b full; unwritten = refl; rests = conduct.empty refl; window = window; calls = cut_calls; runs = cut_runs b })
      (first_newest b) (λ _ _. refl) (none_in_the_way b full) refl

  -- the header of the first recording reads where the copy failed
  pub old_header : HeaderAt 11999 (cut_left b).tape 2994 (header_frame first_closing)
  unfolding put
  old_header = record { group = refl; reads = refl; valid = first_valid }

  -- so on it every list of a reading's calls gives what the first recording holds, and behind that the filemark or nothing
  pub cut_read_so : (at : ℕ) (calls : List readings.Call) (r : readings.World) → readings.Runs (cut_left b).tape (readings.started (open_of geometry (header_frame first_closing)).session at) calls r
      → FaithfulInPart 11999 (first_elements b) added_elements (MayEnd (at_first_end b full) (first_left b).tape (cut_left b).tape) r
  cut_read_so = cut_recoverable.reads 2994 (header_frame first_closing) old_header (inl (record { count = refl; data_agrees = refl }))

  -- and what the first recording holds is all that was accepted in it
  pub earlier_held : first_elements b ≡ [] ++ accepted_in ((first_end b).notes ∷ [])
  unfolding EarlierFirst NoneGiven
  earlier_held = (earlier_first geometry 11999 chain.afresh (first_left b).tape [] ((first_end b).notes ∷ []) added_state (at_first_end b full) first_sized (first_chain b full) refl (first_newest b) (λ _ _. refl)).1 (refl, tt)

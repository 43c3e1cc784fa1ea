-- The frames of the sample chain name their filemarks: EOD at 82 the one at 81, that the one at 80, that the one at 45, and that none. And the WRITE of the
-- third session's filemark, while it is with the drive, names the one that the reading delivered. Assumes nothing.
use Prim.Native.Nat.{ℕ, ◌^◌, ◌<◌}
use mathlib.Core.Path.{◌≡◌, refl, ap, subst, ◌∙◌}
use mathlib.Core.Bool.{true}
use mathlib.Core.List.{List, [], ◌∷◌, ◌++◌}
use mathlib.Core.Option.{Option, none, some}
use lib.Dec.{lit<, lit≤}
use lib.ListN.{length}
use Rattle.geometry.specs.Place.{as_address}
use Rattle.geometry.specs.Cartridge.{is_user}
use Rattle.buffer.specs.Bytes.{get32}
use Rattle.frame.specs.Aux.{element_aux}
use Rattle.frame.specs.Frame.{blank, element_frame, element_fits}
use Rattle.frame.specs.Header.{header_frame}
use Rattle.frame.specs.declared.element.Element.{Element as FrameElement}
use Rattle.frame.specs.declared.element.Kind.{Kind}
use Rattle.frame.specs.declared.element.Kind.TheVariants.{Marker, Eod}
use Rattle.frame.specs.declared.header.Header.{Header}
use Rattle.frame.proofs.AuxFields.{aux_seq, aux_marker}
use Rattle.frame.proofs.Frames.{element_aux_lem}
use Rattle.header.proofs.Built.{built_fields}
use Rattle.judgement.proofs.Written.{found_written}
use Rattle.drive.specs.declared.command.Command.TheVariants.{Write, Locate}
use Rattle.recording_state.specs.Fetch.{awaits}
use Rattle.recording_state.specs.declared.state.State.{State}
use Rattle.archive_lists.specs.Conduct.{Drive, empty}
use Rattle.archive_lists.specs.Recordings.{Element, World, Call, accept_filemark, fetch, sent, Runs, stop, started}
use Rattle.archive.specs.Chain as chain
use Rattle.archive.specs.Chain.{accepted_in}
use Rattle.archive_lists.specs.Filemarks.{item_at, latest_among, NamesLatest, marker_named, sequence_number}
use Rattle.archive.specs.Trails.{FrameOn, StandsAt, InFlight, WritesNameMarkers, Trails, TrailsTogether, ChainsNameMarkers}
use Rattle.archive_samples.specs.Sample.{geometry, depth, blocks, frame_element, no_marker, window, frame, header_exchanges, exchanges, first_elements, first_filemark, added_elements, added_closing, third_opening, third_elements, third_filemark, third_closing}
use Rattle.archive_lists.proofs.tape.Basics.{reads_itself}
use Rattle.archive_lists.proofs.tape.Judged.{judged_so}
use Rattle.archive.proofs.Trails.{writes_name_markers, chains_name_markers}
use Rattle.archive_samples.proofs.Exchange.{world, between, given}
use Rattle.archive_samples.proofs.Flush.{buffered}
use Rattle.archive_samples.proofs.Headers.{writing, opening_written_at}
use Rattle.archive_samples.proofs.Filemark.{reaches, located, filemark_begun, filemark_taken_lem}
use Rattle.archive_samples.proofs.FirstRecording.{window_long, first_sized}
use Rattle.archive_samples.proofs.FirstReading.{filemark_reads}
use Rattle.archive_samples.proofs.AddedRecording.{added_left, added_cartridge}
use Rattle.archive_samples.proofs.AddedReading as added
use Rattle.archive_samples.proofs.AddedReading.{added_trail, added_read}
use Rattle.archive_samples.proofs.ThirdRecording.{third_state, marks, third_start, third_opened, third_opened_lem, filemark_frame, added_read_at, three_notes, third_chain, none_given, third_newest}
use Rattle.archive_samples.proofs.ThirdReading.{left, third_reads, end_reads, as_left}

-- ---- the tape

module _ (b : List ℕ) (full : length b ≡ 32768) where
  abbrev all : List Element
  all = first_elements b ++ added_elements ++ third_elements

  trails : Trails 11999 1 all (left b)
  unfolding ChainsNameMarkers accepted_in
  trails =
      let together : TrailsTogether geometry 11999 (left b) [] (three_notes b full) = chains_name_markers geometry 11999 (left b) [] (three_notes b full) first_sized (third_chain b full) in
      subst (λ (xs : List Element). Trails 11999 1 xs (left b)) (together.reads.whole (none_given b full))
      (subst (λ (h : Header). Trails 11999 h.pass together.reads.elements (left b)) (built_fields third_closing (lit< tt) (lit< tt) (lit< tt) (lit< tt) (lit< tt)) (together.trails (header_frame third_closing) (third_newest b)))

  -- the frame of an element of pass 1, and its number and name
  module _ (kind : Kind) (number filemarks marker : ℕ) (fits : element_fits kind 33280 (length blank) ≡ true) (small : number < 2 ^ 32) (low : marker < 2 ^ 32) where
    abbrev e : FrameElement
    e = frame_element kind 1 number filemarks marker

    pub number_is : sequence_number (element_frame e blank) ≡ number
    number_is = ap (λ (x : List ℕ). get32 x 44) (element_aux_lem e blank fits) ∙ aux_seq (element_aux e) small

    pub name_is : marker_named (element_frame e blank) ≡ marker
    name_is = ap (λ (x : List ℕ). get32 x 200) (element_aux_lem e blank fits) ∙ aux_marker (element_aux e) low

    named : (a : ℕ) → is_user 11999 a ≡ true → left b a ≡ some (element_frame e blank) → (o : Option ℕ) → latest_among all number ≡ o → NamesLatest o (FrameOn 11999 1 (left b) Marker) marker
    named a user reads o is =
        let says = trails a (element_frame e blank) kind user reads (judged_so (found_written e (lit< tt) small blank fits (reads_itself (element_frame e blank)))) in
        subst (λ (n : ℕ). NamesLatest o (FrameOn 11999 1 (left b) Marker) n) name_is
        (subst (λ (x : Option ℕ). NamesLatest x (FrameOn 11999 1 (left b) Marker) (marker_named (element_frame e blank))) (ap (latest_among all) number_is ∙ is) says.names)

  -- EOD, number 4, names the third filemark, number 3
  pub from_eod : FrameOn 11999 1 (left b) Marker 3 81
  unfolding latest_among item_at
  from_eod = named Eod 4 3 81 refl (lit< tt) (lit< tt) 82 refl (end_reads b) (some 3) refl

  -- which names the second, number 2, that failed at 46 and went to 80
  pub from_third : FrameOn 11999 1 (left b) Marker 2 80
  unfolding latest_among item_at
  from_third = named Marker 3 2 80 refl (lit< tt) (lit< tt) 81 refl (third_reads b) (some 2) refl

  -- which names the first, number 1
  pub from_second : FrameOn 11999 1 (left b) Marker 1 45
  unfolding latest_among item_at
  from_second = named Marker 2 1 45 refl (lit< tt) (lit< tt) 80 refl (as_left b 80 (lit≤ tt) (lit< tt) ∙ added.added_reads b) (some 1) refl

  -- which names none
  pub from_first : first_filemark.marker.0 ≡ 0xFFFFFFFF
  unfolding latest_among item_at
  from_first = named Marker 1 0 no_marker refl (lit< tt) (lit< tt) 45 refl (as_left b 45 (lit≤ tt) (lit< tt) ∙ added.as_left b 45 (lit≤ tt) (lit< tt) ∙ filemark_reads b) none refl

  -- ---- a WRITE in flight

  abbrev placed : State
  placed = writing 0 third_opening (located 11999 81 3 added_trail) (Locate (as_address 81))

  abbrev begun : Drive
  begun = buffered (third_opened b).tape 81 (third_opened b).written []

  -- with WRITE 81 with the drive
  abbrev asked : List ℕ → World
  asked f = world window third_elements (awaits placed (Write (as_address 81))) begun (sent (Write (as_address 81)) f)

  abbrev to_write : List Call
  to_write = header_exchanges window (accept_filemark ∷ exchanges window 1 (fetch window frame ∷ []))

  third_asks : Runs (started third_state window (third_start b)) to_write (asked (element_frame third_filemark blank))
  third_asks =
      opening_written_at 0 window window_long third_opening (as_address 81) (record { 0 = 3 }) added_trail (third_start b)
      (filemark_begun 11999 81 3 added_trail reaches third_opening (lit< tt) (third_opened b)
      (subst (λ (f : List ℕ). Runs (between window third_elements placed begun) (fetch window frame ∷ []) (asked f)) filemark_frame
      (given window third_elements placed begun window_long (filemark_taken_lem 11999 81 3 81 added_trail marks third_opening reaches (lit< tt) (Locate (as_address 81))) stop)))

  abbrev begins : chain.Start geometry 11999 third_state
  begins = chain.added depth blocks 0 (added_left b).tape (header_frame added_closing) (added_read b) (added_read_at b full) (third_opened_lem b)

  in_flight : InFlight 11999 (chain.pass_of begins) 3 all begun (chain.AsItStands begins (third_start b).tape) 81 (element_frame third_filemark blank)
  unfolding WritesNameMarkers
  in_flight =
      writes_name_markers geometry 11999 (third_start b) third_state begins (asked (element_frame third_filemark blank))
      (record { sized = first_sized; cartridge = added_cartridge b full; unwritten = refl; rests = empty refl; window = window; calls = to_write; runs = third_asks }) (as_address 81) (element_frame third_filemark blank) refl

  -- it names the second filemark, which the reading delivered at 80
  pub third_names : StandsAt 11999 1 begun Marker 2 80
  unfolding latest_among item_at
  third_names =
      let Standing : ℕ → ℕ → Type 0 = λ j name. (j < 3 → chain.AsItStands begins (third_start b).tape) → StandsAt 11999 (chain.pass_of begins) begun Marker j name in
      let x : NamesLatest (latest_among all 3) Standing 80 =
      subst (λ (n : ℕ). NamesLatest (latest_among all 3) Standing n) (name_is Marker 3 2 80 refl (lit< tt) (lit< tt))
      (subst (λ (n : ℕ). NamesLatest (latest_among all n) Standing (marker_named (element_frame third_filemark blank))) (number_is Marker 3 2 80 refl (lit< tt) (lit< tt)) (in_flight.element refl).names) in
      subst (λ (h : Header). StandsAt 11999 h.pass begun Marker 2 80) (built_fields added_closing (lit< tt) (lit< tt) (lit< tt) (lit< tt) (lit< tt)) (x (λ _ _ _. refl))

-- What Adds and Chains say of the sample recording that gives up and of the one that adds to it: none of the first's elements is promised and at most
-- one more is read. The readings tell that it is one: so every reading delivers it. Assumes nothing.
use Prim.Native.Nat.{ℕ}
use mathlib.Core.Path.{◌≡◌, refl, sym, ap, subst}
use mathlib.Core.List.{List, [], ◌∷◌, ◌++◌}
use lib.Dec.{lit<}
use lib.ListN.{length}
use Rattle.frame.specs.Header.{header_frame}
use Rattle.frame.specs.declared.header.Header.{Header}
use Rattle.header.specs.Valid.{header_of}
use Rattle.header.proofs.Built.{built_fields}
use Rattle.reading_state.specs.Open as reading
use Rattle.archive_lists.specs.Conduct as conduct
use Rattle.archive_lists.specs.Headers.{NoHeader}
use Rattle.archive_lists.specs.Recordings.{Element, Notes}
use Rattle.archive_lists.specs.Openings.{on_none}
use Rattle.archive_lists.specs.Faithful.{Faithful}
use Rattle.archive.specs.Demand.{Readable}
use Rattle.archive.specs.EndNamed.{EndsAt}
use Rattle.archive.specs.Chain as chain
use Rattle.archive.specs.Chain.{NoneAbove, ReadsBack, Adds, Continued, Chain, ReadTogether, Chains}
use Rattle.archive_samples.specs.Sample.{depth, blocks, window, smallest, tail, given_up_elements, given_up_closing, given_up_calls, given_up_reading, resumed_elements, resumed_closing, filemark_calls, resumed_reading}
use Rattle.archive_lists.proofs.tape.Basics.{none_some}
use Rattle.archive_samples.proofs.Tapes.{empty, empty_cartridge, empty_bears_none}
use Rattle.archive_samples.proofs.AddedRecording.{chain_continued}
use Rattle.archive_samples.proofs.GivenUp.{given_up_state, given_up_opened_lem, given_up_start, given_up_left, given_up_end, given_up_runs, given_up_newest}
use Rattle.archive_samples.proofs.GivenUpReading.{given_up_reading_opened, given_up_read, given_up_read_lem}
use Rattle.archive_samples.proofs.GivenUpAdded.{resumed_state, resumed_opened, resumed_left, resumed_end, resumed_runs, resumed_newest}
use Rattle.archive_samples.proofs.GivenUpAddedReading.{resumed_read, resumed_read_lem}
use Rattle.archive.proofs.Chain.{adds, chains}

-- ---- the recording that gives up

abbrev afresh : chain.Start smallest 3000 given_up_state
afresh = chain.fresh depth blocks tail on_none given_up_opened_lem

on_no_header : NoHeader 3000 empty
on_no_header a h there = none_some there.reads

module _ (b : List ℕ) (full : length b ≡ 32768) where
  continued : Continued smallest 3000 empty given_up_state afresh (given_up_end b)
  unfolding Adds
  continued = adds smallest 3000 given_up_start given_up_state afresh (given_up_end b)
      (record { sized = record { segtrk = lit< tt; trks = lit< tt; is_last = refl }; cartridge = empty_cartridge 3000; unwritten = refl; rests = conduct.empty refl; window = window; calls = given_up_calls b; runs = given_up_runs b full })

  -- none is promised, and at most one is read
  pub given_up_reads_back : ReadsBack smallest 3000 [] (given_up_end b)
  given_up_reads_back = (continued.reads_back on_no_header tt (empty_bears_none 3000 1) refl refl).0

  -- it is one, since a reading has delivered it
  pub given_up_readable : Readable smallest 3000 (given_up_left b).tape (given_up_elements b)
  given_up_readable =
      let said = given_up_reads_back.readable in
      subst (λ (xs : List Element). Readable smallest 3000 (given_up_left b).tape xs)
      (sym ((said.reads (header_frame given_up_closing) 0 (given_up_reading b) (given_up_read b) (given_up_newest b) (given_up_read_lem b full 0)).complete refl)) said

  pub given_up_faithful : Faithful 3000 (given_up_elements b) (given_up_read b)
  given_up_faithful = given_up_readable.reads (header_frame given_up_closing) 0 (given_up_reading b) (given_up_read b) (given_up_newest b) (given_up_read_lem b full 0)

  -- the newest header names an EOD numbered by what is promised: 0
  pub given_up_ends : EndsAt (header_of (header_frame given_up_closing)) 0 (given_up_left b).tape
  given_up_ends = continued.newest on_no_header refl (header_frame given_up_closing) (given_up_newest b)

  -- ---- the chain of this recording and the one that adds to it

  given_up_chain : Chain smallest 3000 chain.afresh (given_up_left b).tape [] ((given_up_end b).notes ∷ [])
  given_up_chain = chain.first given_up_start given_up_state afresh (given_up_end b) (empty_cartridge 3000) refl (record {
    unwritten = refl;
    rests = conduct.empty refl;
    on_newest = on_no_header;
    as_it_stands = tt;
    none_in_the_way = empty_bears_none 3000 1;
    window = window;
    calls = given_up_calls b;
    runs = given_up_runs b full;
    unaltered = refl;
    reported = refl;
  })

  given_up_read_at : chain.HasRead smallest 3000 (given_up_left b).tape (header_frame given_up_closing) (given_up_read b)
  given_up_read_at = record {
    cartridge = (continued.reads_back on_no_header tt (empty_bears_none 3000 1) refl refl).1;
    opens = ap (λ (x : reading.OpenedSaid). x.number) given_up_reading_opened;
    at = 0;
    calls = given_up_reading b;
    runs = given_up_read_lem b full 0;
  }

  none_above : NoneAbove 3000 (given_up_left b).tape 2815 (header_of (header_frame given_up_closing)).pass
  none_above =
      subst (λ (x : Header). NoneAbove 3000 (given_up_left b).tape x.eod.0 (header_of (header_frame given_up_closing)).pass) (built_fields given_up_closing (lit< tt) (lit< tt) (lit< tt) (lit< tt) (lit< tt))
      (continued.clear on_no_header (empty_bears_none 3000 1) refl (header_frame given_up_closing) (given_up_newest b))

  abbrev both : List Notes
  both = (given_up_end b).notes ∷ (resumed_end b).notes ∷ []

  resumed_chain : Chain smallest 3000 chain.afresh (resumed_left b).tape [] both
  resumed_chain =
      chain_continued smallest 3000 (given_up_left b).tape ((given_up_end b).notes ∷ []) given_up_chain (given_up_left b).at resumed_state (header_frame given_up_closing) (given_up_read b) given_up_read_at (resumed_opened b) (given_up_newest b) none_above
      filemark_calls (resumed_end b) (resumed_runs b) refl refl

  -- of each session what is promised, and at most one more
  pub resumed_together : ReadTogether smallest 3000 (resumed_left b).tape [] both
  unfolding Chains
  resumed_together = (chains smallest 3000 chain.afresh (resumed_left b).tape [] both (record { segtrk = lit< tt; trks = lit< tt; is_last = refl }) resumed_chain).0

  -- the block of the first and the filemark of the second
  pub resumed_readable : Readable smallest 3000 (resumed_left b).tape (given_up_elements b ++ resumed_elements)
  resumed_readable =
      let said = resumed_together.readable in
      subst (λ (xs : List Element). Readable smallest 3000 (resumed_left b).tape xs)
      (sym ((said.reads (header_frame resumed_closing) 0 (resumed_reading b) (resumed_read b) (resumed_newest b) (resumed_read_lem b full 0)).complete refl)) said

  pub resumed_faithful : Faithful 3000 (given_up_elements b ++ resumed_elements) (resumed_read b)
  resumed_faithful = resumed_readable.reads (header_frame resumed_closing) 0 (resumed_reading b) (resumed_read b) (resumed_newest b) (resumed_read_lem b full 0)

-- 01, "AUX bytes": elements and the filemarks among them, and what a frame says of its own number, of those before it and of the latest.
use Rattle.std.specs.Prelude.{ℕ, zero, suc, ◌+◌, ◌≡◌, Bool, true, false, List, [], ◌∷◌, drop}
use Rattle.std.proofs.Math.Option.{Option, none, some}
use Rattle.geometry.specs.Pick.{pick}
use Rattle.geometry.specs.Place.{as_address, as_seq}
use Rattle.buffer.specs.Bytes.{get32}
use Rattle.frame.specs.Lengths.{data_length}
use Rattle.frame.specs.Aux.{no_marker}
use Rattle.frame.specs.declared.element.Kind.{Kind}
use Rattle.frame.specs.declared.element.Kind.TheVariants.{Data, Marker, Eod}
use Rattle.judgement.specs.Judgement.{JudgementSaid, judge_frame}
use Rattle.frame.specs.declared.header.Header.{Header}
use Rattle.archive_lists.specs.Recordings.{Element, block, filemark}

-- ---- elements, which are numbered from 0

-- an element, or EOD behind the last
pub data Item : Type 0 where
  element : Element → Item
  eod : Item

-- the element with this number, or EOD behind the last
unfoldable pub item_at : List Element → ℕ → Item
item_at [] n = eod
item_at (x ∷ xs) zero = element x
item_at (x ∷ xs) (suc n) = item_at xs n

-- the kind of its frame
abbrev pub kind_for : Item → Kind
kind_for (element (block b)) = Data
kind_for (element filemark) = Marker
kind_for eod = Eod

-- whether it is a filemark
abbrev pub is_marker : Item → Bool
is_marker (element (block b)) = false
is_marker (element filemark) = true
is_marker eod = false

-- how many of the first n elements are filemarks
unfoldable pub filemarks_among : List Element → ℕ → ℕ
filemarks_among xs zero = 0
filemarks_among xs (suc n) = pick (is_marker (item_at xs n)) (filemarks_among xs n + 1) (filemarks_among xs n)

-- the number of the latest filemark of the first n elements
unfoldable pub latest_among : List Element → ℕ → Option ℕ
latest_among xs zero = none
latest_among xs (suc n) = pick (is_marker (item_at xs n)) (some n) (latest_among xs n)

-- a name of that filemark: an address where it stands, and FF FF FF FF where there is none
abbrev pub NamesLatest : Option ℕ → (ℕ → ℕ → Type 0) → ℕ → Type 0
NamesLatest none IsAt name = name ≡ no_marker
NamesLatest (some j) IsAt name = IsAt j name

-- ---- frames: AUX 44-47, 192-195 and 200-203

-- the number that a frame carries
abbrev pub sequence_number : List ℕ → ℕ
sequence_number frame = get32 (drop data_length frame) 44

-- how many filemarks it says are before it
abbrev pub filemarks_before : List ℕ → ℕ
filemarks_before frame = get32 (drop data_length frame) 192

-- which address it names as the latest of them
abbrev pub marker_named : List ℕ → ℕ
marker_named frame = get32 (drop data_length frame) 200

-- what a header tells that has this LAST and pass and names no end, as those that open a fresh recording: under it every EOD ends reading
abbrev pub naming_no_end : ℕ → ℕ → Header
naming_no_end last pass = record { last = as_address last; pass = pass; eod = as_address 0; old = as_address 0; update = 0 }

-- 02, Card 5: what a frame is to a reading on such a header that expects the frame's own number. It is current if that is a block, a filemark or the end.
-- The address plays no part: only an EOD's is looked at, and here no EOD is an earlier end or one that the header names
abbrev pub judged : ℕ → ℕ → List ℕ → JudgementSaid
judged last pass frame = judge_frame (naming_no_end last pass) (as_address 0) (as_seq (sequence_number frame)) frame

-- When a frame stands for an element: by what the judgement looks at, which AUX 4 to 11 don't change. Assumes nothing.
use Prim.Native.Nat.{ℕ, ◌+◌, ◌%◌}
use mathlib.Core.Path.{◌≡◌}
use mathlib.Core.Bool.{Bool, true, false}
use mathlib.Core.List.{List, [], ◌∷◌}
use lib.ListN.{get_or, take}
use Rattle.judgement.proofs.Facts.{FoundAs}
use Rattle.frame.specs.declared.header.Header.{Header}
use Rattle.recording_state.specs.Window.{block_at}
use Rattle.archive_lists.specs.Recordings.{Element, block, filemark}
use Rattle.archive_lists.specs.Filemarks.{Item, element, eod, item_at, kind_for}

abbrev pub Carries : Item → List ℕ → Type 0
Carries (element (block b)) f = take 32768 f ≡ b
Carries (element filemark) f = Unit {0}
Carries eod f = Unit {0}

-- what a header of this LAST and pass tells under which an EOD ends reading from an address on
abbrev pub telling : ℕ → ℕ → ℕ → Header
telling last pass from = record { last = record { 0 = last }; pass = pass; eod = record { 0 = from }; old = record { 0 = 0 }; update = 0 }

-- the open view: no EOD ends reading
abbrev pub unending : ℕ → ℕ → Header
unending last pass = telling last pass (last + 1)

-- a frame, sent or read, that stands for item number i
pub record Stands (last pass : ℕ) (x : Item) (i : ℕ) (f : List ℕ) : Type 0 where
  pub found : FoundAs (telling last pass 0) (record { 0 = i }) (kind_for x) f
  pub carries : Carries x f

-- frames that stand for items k, k + 1 and so on
unfoldable pub Queue : ℕ → ℕ → List Element → ℕ → List (List ℕ) → Type 0
Queue last pass xs k [] = Unit {0}
Queue last pass xs k (f ∷ fs) = Stands last pass (item_at xs k) k f × Queue last pass xs (k + 1) fs

-- an item that is pending stands in the window, or is marked as a filemark; nothing is kept of EOD
abbrev pub StoredAs : Item → List ℕ → List Bool → ℕ → ℕ → Type 0
StoredAs (element (block b)) window marks width i = (block_at window (i % width) ≡ b) × (get_or marks (i % 64) false ≡ false)
StoredAs (element filemark) window marks width i = get_or marks (i % 64) false ≡ true
StoredAs eod window marks width i = Unit {0}

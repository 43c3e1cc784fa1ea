-- What the session, the drive and the tape hold of the filemarks before each frame. Assumes nothing.
use Prim.Native.Nat.{ℕ, ◌+◌, ◌%◌, ◌≤◌, ◌<◌}
use mathlib.Core.Path.{◌≡◌}
use mathlib.Core.Bool.{true, false}
use mathlib.Core.List.{List, [], ◌∷◌}
use mathlib.Core.Logic.{◌⊎◌}
use mathlib.Core.Option.{some}
use lib.ListN.{length, get_or}
use Rattle.geometry.specs.Cartridge.{is_user}
use Rattle.geometry.specs.declared.address.Address.{Address}
use Rattle.frame.specs.declared.header.Header.{Header}
use Rattle.frame.specs.declared.element.Kind.{Kind}
use Rattle.frame.specs.declared.element.Kind.TheVariants.{Marker, Eod}
use Rattle.frame.specs.declared.trail.Trail.{Trail}
use Rattle.judgement.proofs.Facts.{FoundAs}
use Rattle.drive.specs.declared.command.Command.TheVariants.{Write}
use Rattle.elements.specs.declared.elements.Elements.{Elements}
use Rattle.recording_state.specs.declared.state.Stage.{Stage}
use Rattle.recording_state.specs.declared.state.Stage.TheVariants as S
use Rattle.archive_lists.specs.Tape.{Tape}
use Rattle.archive_lists.specs.Conduct.{Drive}
use Rattle.archive_lists.specs.Recordings as recordings
use Rattle.archive_lists.specs.Recordings.{Element, Flight}
use Rattle.archive_lists.specs.Filemarks.{item_at, kind_for, filemarks_among, latest_among, NamesLatest, filemarks_before, marker_named}
use Rattle.archive_lists.proofs.tape.Marks.{is_filemark}
use Rattle.archive_lists.proofs.tape.Stands.{telling}

-- what there was before a session: so many elements, up to the address of its first, and what its opening headers count; what may be assumed of the
-- trail that it started with, and of the frames that the tape held
pub record Prior : Type 1 where
  pub base : ℕ
  pub start : ℕ
  pub least : ℕ
  pub same : Type 0
  pub trailed : Type 0

-- ---- where a marker is

-- on tape, below the first address that the drive has not tried: it stays there
pub record MarkerBelow (last pass edge : ℕ) (t : Tape) (j a : ℕ) : Type 0 where
  pub frame : List ℕ
  pub user : is_user last a ≡ true
  pub low : a < edge
  pub reads : t a ≡ some frame
  pub found : FoundAs (telling last pass 0) (record { 0 = j }) Marker frame

-- so it is, for one that was there before, where the trail that the session started with was of this tape
pub record Marked (prior : Prior) (last pass edge : ℕ) (t : Tape) (j a : ℕ) : Type 0 where
  pub inside : a ≤ last
  pub there : (j < prior.base → prior.same) → MarkerBelow last pass edge t j a

-- of k on tape, or where the drive, which is at this address, will put it
pub data Place (prior : Prior) (last pass k at edge : ℕ) (t : Tape) (j a : ℕ) : Type 0 where
  on_tape : j < k → Marked prior last pass edge t j a → Place prior last pass k at edge t j a
  to_come : k ≤ j → a + k ≡ at + j → Place prior last pass k at edge t j a

-- any element, or EOD
pub record NumberAt (last pass : ℕ) (xs : List Element) (t : Tape) (j a : ℕ) : Type 0 where
  pub frame : List ℕ
  pub user : is_user last a ≡ true
  pub reads : t a ≡ some frame
  pub found : FoundAs (telling last pass 0) (record { 0 = j }) (kind_for (item_at xs j)) frame

-- below the first address that the drive has not tried
pub record NumberBelow (last pass : ℕ) (xs : List Element) (edge : ℕ) (t : Tape) (j : ℕ) : Type 0 where
  pub place : ℕ
  pub low : place < edge
  pub there : NumberAt last pass xs t j place

-- ---- what is said of the filemarks before number n

-- by a trail
pub record Traces (xs : List Element) (P : ℕ → ℕ → Type 0) (n : ℕ) (trail : Trail) : Type 0 where
  pub counts : trail.filemarks ≡ filemarks_among xs n
  pub names : NamesLatest (latest_among xs n) P trail.marker.0

-- by a frame
pub record Says (last pass : ℕ) (xs : List Element) (P : ℕ → ℕ → Type 0) (n : ℕ) (f : List ℕ) : Type 0 where
  pub found : FoundAs (telling last pass 0) (record { 0 = n }) (kind_for (item_at xs n)) f
  pub counts : filemarks_before f ≡ filemarks_among xs n
  pub names : NamesLatest (latest_among xs n) P (marker_named f)

-- by frames with numbers n, n + 1 and so on
unfoldable pub Frames : ℕ → ℕ → List Element → (ℕ → ℕ → Type 0) → ℕ → List (List ℕ) → Type 0
Frames last pass xs P n [] = Unit {0}
Frames last pass xs P n (f ∷ fs) = Says last pass xs P n f × Frames last pass xs P (n + 1) fs

-- by one on tape, where k are: its number is no higher, nor behind EOD's. Of the elements ys the first, xs, are promised; one that was given up may
-- stand at its bad spot
pub record TapeSays (last pass : ℕ) (xs ys : List Element) (k edge : ℕ) (t : Tape) (i : ℕ) (kind : Kind) (f : List ℕ) : Type 0 where
  pub among : i ≤ length xs
  pub upto : i ≤ k
  pub is : (kind ≡ kind_for (item_at ys i)) ⊎ (kind ≡ Eod)
  pub counts : filemarks_before f ≡ filemarks_among ys i
  pub names : NamesLatest (latest_among ys i) (MarkerBelow last pass edge t) (marker_named f)

abbrev pub TapeTrails : ℕ → ℕ → List Element → List Element → ℕ → ℕ → Tape → Type 0
TapeTrails last pass xs ys k edge t = (a i : ℕ) (f : List ℕ) (kind : Kind) → is_user last a ≡ true → t a ≡ some f → FoundAs (telling last pass 0) (record { 0 = i }) kind f → TapeSays last pass xs ys k edge t i kind f

-- behind elements that the cartridge holds already, up to an address
abbrev pub prior_of : ℕ → Header → List Element → ℕ → Tape → Type 0 → Prior
prior_of last h earlier at t same = record {
  base = length earlier;
  start = at;
  least = h.update;
  same = same;
  trailed = TapeTrails last h.pass earlier earlier (length earlier) at t;
}

-- ---- the drive's buffer

-- it holds the frames from number k on; or it has stopped before the elements began, and a LOCATE that empties it is due
pub data Buffered (last pass : ℕ) (prior : Prior) (xs : List Element) (e : Elements) (d : Drive) (k edge : ℕ) : Type 0 where
  holds : k + length d.buffer ≤ e.queue.first.0 + e.queue.pending → Frames last pass xs (Place prior last pass k d.at edge d.tape) k d.buffer → Buffered last pass prior xs e d k edge
  halted : d.failed ≡ true → e.course.locate ≡ true → Buffered last pass prior xs e d k edge

-- ---- the whole, of a session's stage and elements, the drive and the command in flight. Of the elements ys the first, xs, are promised; of these k
-- are on tape, EOD counted as one more

pub record Trailing (last pass : ℕ) (prior : Prior) (xs ys : List Element) (st : Stage) (e : Elements) (d : Drive) (g : Flight) (k edge : ℕ) : Type 0 where
  pub from : prior.base ≤ e.queue.first.0
  pub prefix : (i : ℕ) → i < length xs → item_at ys i ≡ item_at xs i
  -- the marks are those of the pending elements
  pub marked : (i : ℕ) → i < e.queue.pending → get_or e.queue.marks ((e.queue.first.0 + i) % 64) false ≡ is_filemark xs (e.queue.first.0 + i)
  -- the trail is that before the oldest of them
  pub trail : Traces xs (Marked prior last pass edge d.tape) e.queue.first.0 e.trail
  -- the session's that are on tape
  pub written : (j : ℕ) → prior.base ≤ j → j < k → NumberBelow last pass xs edge d.tape j
  -- of these, those that are not known to be lie behind one another before the drive's place
  pub behind : st ≡ S.Elements → (j a : ℕ) → e.queue.first.0 ≤ j → j < k → a + k ≡ d.at + j → NumberAt last pass xs d.tape j a
  -- the frames that the drive holds, and one that goes to it
  pub queue : st ≡ S.Elements → Buffered last pass prior xs e d k edge
  pub sent : (a : Address) (f : List ℕ) → st ≡ S.Elements → g ≡ recordings.sent (Write a) f → Says last pass xs (Place prior last pass k d.at edge d.tape) (e.queue.first.0 + e.queue.outstanding) f
  -- the tape
  pub tape : prior.same → prior.trailed → TapeTrails last pass xs ys k edge d.tape

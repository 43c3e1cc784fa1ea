-- 01, "AUX bytes", over whole lists: each frame's number and kind, the filemarks before it (192-195) and where the latest of them stands (200-203);
-- and that the drive puts a WRITE's frame where the WRITE says. 02, Card 5, rests on this.
use Rattle.std.specs.Prelude.{ℕ, ◌+◌, ◌≤◌, ◌<◌, ◌≡◌, true, false, List, [], ◌++◌, ◌⊎◌, length, get_or}
use Rattle.std.proofs.Math.Option.{some}
use Rattle.geometry.specs.Cartridge.{is_user, is_header}
use Rattle.geometry.specs.declared.address.Address.{Address}
use Rattle.geometry.specs.declared.cartridge.Geometry.{Geometry}
use Rattle.frame.specs.Aux.{no_marker}
use Rattle.frame.specs.declared.element.Kind.{Kind}
use Rattle.frame.specs.declared.element.Kind.TheVariants.{Marker}
use Rattle.header.specs.Valid.{header_of}
use Rattle.judgement.specs.Judgement as judgement
use Rattle.judgement.specs.Judgement.{found_said}
use Rattle.drive.specs.declared.command.Command.TheVariants.{Write}
use Rattle.recording_state.specs.declared.state.State.{State}
use Rattle.archive_lists.specs.Tape.{Tape, HasLast}
use Rattle.archive_lists.specs.Conduct.{Drive}
use Rattle.archive_lists.specs.Headers.{Newest}
use Rattle.archive_lists.specs.Recordings as recordings
use Rattle.archive_lists.specs.Recordings.{Element, promised}
use Rattle.archive_lists.specs.Filemarks.{item_at, kind_for, filemarks_among, latest_among, NamesLatest, sequence_number, filemarks_before, marker_named, judged}
use Rattle.archive.specs.Recorded.{HasRecorded}
use Rattle.archive.specs.Chain.{Start, earlier_of, pass_of, AsItStands, afresh, Chain, ReadTogether}

-- ---- frames

-- a current frame of this kind with number j
pub record IsFrame (last pass : ℕ) (kind : Kind) (j : ℕ) (frame : List ℕ) : Type 0 where
  pub number : sequence_number frame ≡ j
  pub current : judged last pass frame ≡ found_said kind

-- a is a user frame, and the tape reads there as such a frame
pub record FrameOn (last pass : ℕ) (t : Tape) (kind : Kind) (j a : ℕ) : Type 0 where
  pub frame : List ℕ
  pub user : is_user last a ≡ true
  pub reads : t a ≡ some frame
  pub is : IsFrame last pass kind j frame

-- where such a frame stands: the tape reads so there, or the drive holds it for that user frame. What it holds is for consecutive addresses from its place
-- on. This is said also where it has stopped at a failure, though it will write none of that: a LOCATE ends the stop and empties the buffer
pub data StandsAt (last pass : ℕ) (d : Drive) (kind : Kind) (j a : ℕ) : Type 0 where
  on_tape : FrameOn last pass d.tape kind j a → StandsAt last pass d kind j a
  held : (i : ℕ) → i < length d.buffer → a ≡ d.at + i → is_user last a ≡ true → IsFrame last pass kind j (get_or d.buffer i [])
      → StandsAt last pass d kind j a

-- it stands at some address
pub record StandsSomewhere (last pass : ℕ) (d : Drive) (kind : Kind) (j : ℕ) : Type 0 where
  pub place : ℕ
  pub there : StandsAt last pass d kind j place

-- ---- every WRITE

-- a header's frame: number and filemarks are 0, it names none, and a reading of this pass passes it over
pub record HeaderGoesOut (last pass : ℕ) (frame : List ℕ) : Type 0 where
  pub number : sequence_number frame ≡ 0
  pub counts : filemarks_before frame ≡ 0
  pub names : marker_named frame ≡ no_marker
  pub passed_over : judged last pass frame ≡ judgement.passed_over

-- the frame of an element or EOD, for address a, while the drive is d. xs are the elements that there were before, base in number, and those
-- accepted since and not given up
pub record ElementGoesOut (last pass base : ℕ) (xs : List Element) (d : Drive) (as_it_stands : Type 0) (a : ℕ) (frame : List ℕ) : Type 0 where
  pub user : is_user last a ≡ true
  -- numbered as an element of this session or as EOD
  pub own : base ≤ sequence_number frame
  pub among : sequence_number frame ≤ length xs
  -- where the drive holds frames, they are numbered one after another, and this one is next behind them
  pub in_turn : (i : ℕ) → i < length d.buffer → sequence_number (get_or d.buffer i []) + length d.buffer ≡ sequence_number frame + i
  -- each of this session's with a lower number is on tape or held: none is passed over
  pub before : (j : ℕ) → base ≤ j → j < sequence_number frame → StandsSomewhere last pass d (kind_for (item_at xs j)) j
  -- it is a block or a filemark as the element with its number is, EOD behind the last
  pub is : judged last pass frame ≡ found_said (kind_for (item_at xs (sequence_number frame)))
  -- 192-195: the filemarks before it
  pub counts : filemarks_before frame ≡ filemarks_among xs (sequence_number frame)
  -- 200-203: where the latest of them stands now. Of one that a reading delivered this is said where what was read is what the cartridge held at the
  -- opening
  pub names : NamesLatest (latest_among xs (sequence_number frame)) (λ j name. (j < base → as_it_stands) → StandsAt last pass d Marker j name)
      (marker_named frame)

-- every WRITE that is with the drive
pub record InFlight (last pass base : ℕ) (xs : List Element) (d : Drive) (as_it_stands : Type 0) (a : ℕ) (frame : List ℕ) : Type 0 where
  -- the drive, if it takes the frame, holds it for the address that the WRITE says, and so writes it there or nowhere
  pub puts : a ≡ d.at + length d.buffer
  pub header : is_header a ≡ true → HeaderGoesOut last pass frame
  pub element : is_header a ≡ false → ElementGoesOut last pass base xs d as_it_stands a frame

-- after any calls of a recording, however it was opened, whatever the window holds, closed or not
unfoldable pub WritesNameMarkers : Type 0
WritesNameMarkers =
    (g : Geometry) (last : ℕ) (d : Drive) (s : State) (b : Start g last s) (w : recordings.World)
    → HasRecorded g last d s w
    → (a : Address) (frame : List ℕ) → w.flight ≡ recordings.sent (Write a) frame
    → InFlight last (pass_of b) (length (earlier_of b)) (earlier_of b ++ promised w.notes) w.drive (AsItStands b d.tape) a.0 frame

-- ---- a cartridge that a chain of closed sessions left

-- what a frame on tape says
pub record Trailed (last pass : ℕ) (xs : List Element) (t : Tape) (frame : List ℕ) : Type 0 where
  pub among : sequence_number frame ≤ length xs
  -- it is a block or a filemark as the element with its number is, EOD behind the last; or an EOD of another number, as those of earlier sessions
  -- are, and the last one's own if it gave elements up and the first of them is read. Such an EOD counts and names none of that element (02, Card 6)
  pub is : (judged last pass frame ≡ found_said (kind_for (item_at xs (sequence_number frame)))) ⊎ (judged last pass frame ≡ judgement.end)
  pub counts : filemarks_before frame ≡ filemarks_among xs (sequence_number frame)
  pub names : NamesLatest (latest_among xs (sequence_number frame)) (FrameOn last pass t Marker) (marker_named frame)

-- every current frame on a user frame says so, stale copies and earlier EODs too
abbrev pub Trails : ℕ → ℕ → List Element → Tape → Type 0
Trails last pass xs t =
    (a : ℕ) (frame : List ℕ) (kind : Kind) → is_user last a ≡ true → t a ≡ some frame → judged last pass frame ≡ found_said kind
    → Trailed last pass xs t frame

-- what is read of all its sessions, and that its frames say so
pub record TrailsTogether (g : Geometry) (last : ℕ) (t : Tape) (xs : List Element) (ns : List recordings.Notes) : Type 0 where
  pub reads : ReadTogether g last t xs ns
  pub trails : (h : List ℕ) → Newest last t h → Trails last (header_of h).pass reads.elements t

-- the chain began afresh, since what others wrote may name anything
unfoldable pub ChainsNameMarkers : Type 0
ChainsNameMarkers =
    (g : Geometry) (last : ℕ) (t : Tape) (xs : List Element) (ns : List recordings.Notes)
    → HasLast g last → Chain g last afresh t xs ns → TrailsTogether g last t xs ns

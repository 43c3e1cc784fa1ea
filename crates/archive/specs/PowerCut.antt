-- 02, Card 14: the mains gone in the middle of a session. The power may go at any point of a list of calls: what the drive has written by then is on
-- the tape, what the drive still holds or was never sent is not, and a frame being written is one that fails (archive_lists specs/Conduct: Left). A
-- session that a refusal ended is cut too, and the drive may go on with what it holds.
use Rattle.std.specs.Prelude.{ℕ, ◌<◌, ◌≡◌, true, false, List, ◌++◌, ◌⊎◌, take}
use Rattle.geometry.specs.declared.cartridge.Geometry.{Geometry}
use Rattle.frame.specs.Lengths.{data_length}
use Rattle.drive.specs.declared.reply.Reply.{Reply}
use Rattle.header.specs.Valid.{header_of, update_of}
use Rattle.recording_state.specs.declared.state.State.{State}
use Rattle.reading_state.specs.State.{end_of}
use Rattle.reading_state.specs.Open as reading
use Rattle.archive_lists.specs.Tape.{Tape, HasLast, Cartridge, SameFrames}
use Rattle.archive_lists.specs.Conduct.{Drive}
use Rattle.archive_lists.specs.Headers.{HeaderAt, Newest}
use Rattle.archive_lists.specs.Recordings as recordings
use Rattle.archive_lists.specs.Recordings.{Element}
use Rattle.archive_lists.specs.Readings as readings
use Rattle.archive_lists.specs.Openings.{on_header, on_none}
use Rattle.archive_lists.specs.Fold.{IsFold}
use Rattle.archive_cuts.specs.Cuts.{FaithfulInPart, Throughout}
use Rattle.archive.specs.Recorded.{HasRecorded}
use Rattle.archive.specs.Chain.{Start, fresh, added, earlier_of, OnItsNewest, AsItStands, NoneInTheWay, Way, adding, way_of}
use Rattle.archive.specs.Chain.{ReadsBack, NoneAbove, Chain, Together, accepted_in, NoneGiven}

-- ---- on which header the later reading is opened

-- a header that counts higher than the one that the session was opened on; where it was opened on none, any
abbrev pub IsNewer : {g : Geometry} {last : ℕ} {s : State} → Start g last s → List ℕ → Type 0
IsNewer (fresh depth blocks tail (on_header old) q) h = update_of old < update_of h
IsNewer (fresh depth blocks tail on_none q) h = Unit {0}
IsNewer (added depth blocks tail u old r read q) h = update_of old < update_of h

-- a copy of a header: the same count and the same 32,768 data bytes, as 01 has it for two that are chosen from. A header of that count with other
-- data is no copy
pub record CopyOf (h copy : List ℕ) : Type 0 where
  pub count : update_of copy ≡ update_of h
  pub data_agrees : take data_length copy ≡ take data_length h

-- a copy of the one that the session was opened on, where it adds. A fresh recording writes over what its old header tells of
abbrev pub IsCopy : {g : Geometry} {last : ℕ} {s : State} → Start g last s → List ℕ → Type 0
IsCopy (fresh depth blocks tail o q) h = ⊥
IsCopy (added depth blocks tail u old r read q) h = CopyOf old h

-- ---- where that reading may end

-- the old end, which only a session that adds has
abbrev pub IsOldEnd : {g : Geometry} {last : ℕ} {s : State} → Start g last s → ℕ → Type 0
IsOldEnd (fresh depth blocks tail o q) a = ⊥
IsOldEnd (added depth blocks tail u h r read q) a = a ≡ (end_of r.session).0

-- there, or at an EOD that the cut session wrote: the tape reads otherwise there than it did at the opening
pub data MayEnd {g : Geometry} {last : ℕ} {s : State} (b : Start g last s) (old t : Tape) (a : ℕ) : Type 0 where
  old_end : IsOldEnd b a → MayEnd b old t a
  own_end : (t a ≡ old a → ⊥) → MayEnd b old t a

-- ---- the claim

-- what is asked of the window: that it was lent back unaltered
abbrev pub WindowKept : recordings.World → Type 0
WindowKept w = w.notes.unaltered ≡ true

-- what is left of a cartridge wherever the power went
pub record Recoverable (g : Geometry) (last : ℕ) (old : Tape) (s : State) (b : Start g last s) (w : recordings.World) : Type 0 where
  -- the tape is a cartridge's as before
  pub cartridge : Cartridge last w.drive.tape
  -- a reading opens on every valid header that it holds
  pub opens : (a : ℕ) (h : List ℕ) → HeaderAt last w.drive.tape a h → (reading.open_of g h).number ≡ 0
  -- and on a copy or a newer one every list of its calls gives what was there before, and then the first so many of what was accepted
  pub reads : (a : ℕ) (h : List ℕ) → HeaderAt last w.drive.tape a h → IsCopy b h ⊎ IsNewer b h
      → (at : ℕ) (calls : List readings.Call) (r : readings.World)
      → readings.Runs w.drive.tape (readings.started (reading.open_of g h).session at) calls r
      → FaithfulInPart last (earlier_of b) w.notes.accepted (MayEnd b old w.drive.tape) r

-- after any calls of a recording, closed or not, ended by a refusal or not, on every cartridge, whoever wrote it, where the session was opened
-- as it should be and the window was kept. What was there before is what the reading delivered at whose end the session was opened; behind closed
-- sessions EarlierFirst says that this is all that they hold
unfoldable pub PowerCut : Type 0
PowerCut =
    (g : Geometry) (last : ℕ) (d : Drive) (s : State) (b : Start g last s) (w : recordings.World)
    → HasRecorded g last d s w
    → OnItsNewest b d.tape → AsItStands b d.tape → NoneInTheWay b d.tape → WindowKept w
    → Recoverable g last d.tape s b w

-- behind a chain of closed sessions, opened on a newest header of what they left, at the end of a reading of it: the reading delivered of each session
-- what is promised, and at most one more; where nothing was given up, all that was accepted
unfoldable pub EarlierFirst : Type 0
EarlierFirst =
    (g : Geometry) (last : ℕ) (begun : Way) (t : Tape) (xs : List Element) (ns : List recordings.Notes) (s : State) (b : Start g last s)
    → HasLast g last → Chain g last begun t xs ns → way_of b ≡ adding → OnItsNewest b t → AsItStands b t
    → Together xs ns (earlier_of b) × (NoneGiven ns → earlier_of b ≡ xs ++ accepted_in ns)

-- ---- a closing header that reads

-- the session goes on: it is not ended, or a close has taken it up again behind a 9 (request 6); and the reply that the drive has given and nobody has
-- brought, if there is one, will not be refused with 8
pub record GoesOn (w : recordings.World) : Type 0 where
  pub going : w.session.ended ≡ false
  pub lawful : (r : Reply) → w.flight ≡ recordings.answered r → recordings.refusal w.session (recordings.reply r) ≡ 8 → ⊥

-- three things that hold after a close that reported done: a reading gives what was there before, and then what is promised and at most one more; the
-- header is a newest one; and above the EOD that it names no user frame bears the pass, so that whoever adds next finds none in the way
pub record AsDone (g : Geometry) (last : ℕ) (s : State) (b : Start g last s) (w : recordings.World) (h : List ℕ) : Type 0 where
  pub reads_back : ReadsBack g last (earlier_of b) w
  pub newest : Newest last w.drive.tape h
  pub clear : NoneAbove last w.drive.tape (header_of h).eod.0 (header_of h).pass

-- under the conditions of PowerCut, of a session that goes on: where a newer header reads that names an EOD, whether done was answered or not
unfoldable pub ClosingCopy : Type 0
ClosingCopy =
    (g : Geometry) (last : ℕ) (d : Drive) (s : State) (b : Start g last s) (w : recordings.World)
    → HasRecorded g last d s w
    → OnItsNewest b d.tape → AsItStands b d.tape → NoneInTheWay b d.tape
    → WindowKept w → GoesOn w
    → (a : ℕ) (h : List ℕ) → HeaderAt last w.drive.tape a h → IsNewer b h → ((header_of h).eod.0 ≡ 0 → ⊥)
    → AsDone g last s b w h

-- ---- before the first new copy of a header

-- no valid header on the tape is newer
abbrev pub NoneNewer : {g : Geometry} {last : ℕ} {s : State} → Start g last s → Tape → Type 0
NoneNewer {last = last} b t = (a : ℕ) (h : List ℕ) → HeaderAt last t a h → IsNewer b h → ⊥

-- the old recording still reads: on each valid header that is left, which is as it was, every list of a reading's calls gives what the old tape has
pub record AsBefore (g : Geometry) (last : ℕ) (old t : Tape) : Type 0 where
  pub cartridge : Cartridge last t
  pub user_frames : SameFrames last old t
  pub headers : (a : ℕ) (h : List ℕ) → HeaderAt last t a h → HeaderAt last old a h
  -- a newest header of the old cartridge that still reads is a newest one
  pub newest : (a : ℕ) (h : List ℕ) → HeaderAt last t a h → Newest last old h → Newest last t h
  pub opens : (a : ℕ) (h : List ℕ) → HeaderAt last t a h → (reading.open_of g h).number ≡ 0
  pub reads : (a : ℕ) (h : List ℕ) → HeaderAt last t a h
      → (at : ℕ) (calls : List readings.Call) (r : readings.World) → readings.Runs t (readings.started (reading.open_of g h).session at) calls r
      → IsFold (header_of h) old r

-- as long as no tape from the opening on held a newer header. The last tape alone would not tell: closing headers may spoil the only new copy when user
-- frames are long written. That none counted higher than the header opened on is part of this, for the tape at the opening is one of them; opened on none,
-- there was none. Nothing is asked of the window, nor of what the frames on the tape bear
unfoldable pub BeforeFirstCopy : Type 0
BeforeFirstCopy =
    (g : Geometry) (last : ℕ) (d : Drive) (s : State) (b : Start g last s) (w : recordings.World) (recorded : HasRecorded g last d s w)
    → Throughout (NoneNewer b) recorded.runs
    → AsBefore g last d.tape w.drive.tape

-- 02, Card 12: how many frames the drive takes at most, and a list of calls in which it takes so many.
use Rattle.std.specs.Prelude.{ℕ, ◌+◌, ◌*◌, ◌≤◌, ◌≡◌, true, false, List, [], ◌⊎◌, length}
use Rattle.std.proofs.Math.Option.{none}
use Rattle.geometry.specs.Place.{address}
use Rattle.geometry.specs.Cartridge.{first_user, last_of}
use Rattle.geometry.specs.declared.cartridge.Geometry.{Geometry}
use Rattle.frame.specs.Lengths.{data_length, most_blocks}
use Rattle.frame_bounds.specs.Bounds.{smaller, frames_at_most, header_frames_at_most}
use Rattle.recording_state.specs.State.{accepting, window_length}
use Rattle.recording_state.specs.Open.{open_blank_of}
use Rattle.recording_state.specs.declared.state.State.{State}
use Rattle.reading_state.specs.State.{end_of}
use Rattle.archive_lists.specs.Tape.{HasLast}
use Rattle.archive_lists.specs.Conduct.{Drive}
use Rattle.archive_lists.specs.Recordings.{Element, World, Call, Runs, started}
use Rattle.archive_counts.specs.Acceptable.{Acceptable}
use Rattle.archive_counts.specs.Counts.{frames_taken, errors_met, header_frames_taken, header_errors_met}
use Rattle.archive.specs.Demand.{Readable}
use Rattle.archive.specs.Chain.{Start, fresh, added}

-- ---- the bound

-- D of a session, as it was opened
abbrev pub depth_of : {g : Geometry} {last : ℕ} {s : State} → Start g last s → ℕ
depth_of (fresh depth blocks tail o q) = depth
depth_of (added depth blocks tail u h r read q) = depth

-- its W
abbrev pub blocks_of : {g : Geometry} {last : ℕ} {s : State} → Start g last s → ℕ
blocks_of (fresh depth blocks tail o q) = blocks
blocks_of (added depth blocks tail u h r read q) = blocks

-- its T
abbrev pub tail_of : {g : Geometry} {last : ℕ} {s : State} → Start g last s → ℕ
tail_of (fresh depth blocks tail o q) = tail
tail_of (added depth blocks tail u h r read q) = tail

-- what the drive took over a list that has come to w, of elements and EOD and, counted separately, of headers
pub record TakenAtMost (depth blocks : ℕ) {v w : World} {calls : List Call} (runs : Runs v calls w) : Type 0 where
  pub elements : frames_taken runs ≤ frames_at_most (length w.notes.accepted) (errors_met runs) depth blocks
  pub headers : header_frames_taken runs ≤ header_frames_at_most (header_errors_met runs) depth

-- after any calls of a recording, closed or not, with or without elements given up, however the session was opened, on any tape, whatever
-- the drive holds at the start and whatever the window holds
unfoldable pub WorstCase : Type 0
WorstCase =
    (g : Geometry) (last : ℕ) (d : Drive) (s : State) (b : Start g last s) (window : List ℕ) (calls : List Call) (w : World)
    → last_of g ≡ address last
    → (runs : Runs (started s window d) calls w)
    → TakenAtMost (depth_of b) (blocks_of b) runs

-- ---- reached

-- a list of calls in which just these elements are accepted, nothing is given up, the window is lent each time as last left and done is answered; e write
-- errors are met by elements and h by headers, at addresses that the list chooses, and the drive takes exactly as many frames as the bound says
pub record Reaches (s : State) (window : List ℕ) (d : Drive) (depth blocks : ℕ) (xs : List Element) (e h : ℕ) : Type 0 where
  pub calls : List Call
  pub world : World
  pub runs : Runs (started s window d) calls world
  pub reported : world.notes.reported ≡ true
  pub unaltered : world.notes.unaltered ≡ true
  pub ungiven : world.notes.given_up ≡ 0
  pub accepted : world.notes.accepted ≡ xs
  pub errors : errors_met runs ≡ e
  pub taken : frames_taken runs ≡ frames_at_most (length xs) e depth blocks
  pub header_errors : header_errors_met runs ≡ h
  pub headers_taken : header_frames_taken runs ≡ header_frames_at_most h depth

-- the address of the first element: 10, or the old end
abbrev pub start_of : {g : Geometry} {last : ℕ} {s : State} → Start g last s → ℕ
start_of (fresh depth blocks tail o q) = first_user
start_of (added depth blocks tail u h r read q) = (end_of r.session).0

-- enough tape for n elements, EOD and e failed frames, an address each: up to m more are passed over before 2,990, and the ten from there on; T are
-- kept for EOD
abbrev pub EnoughTape : ℕ → ℕ → ℕ → ℕ → ℕ → ℕ → Type 0
EnoughTape start n e m tail last = start + (n + 1) + e + m + 10 + tail ≤ last

-- m frames have room before 2,990, or the first address is behind 2,999. A fresh recording starts so. For an addition this is enough, and some such
-- condition is needed: with the old end at 2,985, D = W = n = 8 and one error the number can't be reached
abbrev pub ClearOfReserved : ℕ → ℕ → Type 0
ClearOfReserved start m = (start + m ≤ 2990) ⊎ (3000 ≤ start)

-- n is at least m, and h at most 4, one for each group of header copies. For whatever is to be recorded, however the session was opened, on any
-- tape, whatever the drive holds at the start
unfoldable pub WorstReached : Type 0
WorstReached =
    (g : Geometry) (last : ℕ) (d : Drive) (s : State) (b : Start g last s) (window : List ℕ) (xs : List Element) (e h : ℕ)
    → HasLast g last
    → length window ≡ window_length s → Acceptable xs
    → smaller (depth_of b) (blocks_of b) ≤ length xs → h ≤ 4
    → EnoughTape (start_of b) (length xs) e (smaller (depth_of b) (blocks_of b)) (tail_of b) last
    → ClearOfReserved (start_of b) (smaller (depth_of b) (blocks_of b))
    → Reaches s window d (depth_of b) (blocks_of b) xs e h

-- ---- on a blank cartridge

-- nothing reads, and the drive holds nothing
abbrev pub blank_drive : Drive
blank_drive = record { tape = λ (a : ℕ). none; at = 0; buffer = []; failed = false; written = [] }

-- a session opens, such a list is made of its calls, and a reading gives back what was accepted
pub record RecordsOnBlank (g : Geometry) (last depth blocks tail : ℕ) (window : List ℕ) (xs : List Element) (e h : ℕ) : Type 0 where
  pub session : State
  pub opens : open_blank_of g depth blocks tail ≡ accepting session
  pub reaches : Reaches session window blank_drive depth blocks xs e h
  pub readable : Readable g last reaches.world.drive.tape xs

-- so what is promised of recordings is not empty for any D, W and T that an opening takes
unfoldable pub WorstOnBlank : Type 0
WorstOnBlank =
    (g : Geometry) (last depth blocks tail : ℕ) (window : List ℕ) (xs : List Element) (e h : ℕ)
    → HasLast g last
    → 1 ≤ depth → depth ≤ 255 → 1 ≤ blocks → blocks ≤ most_blocks → tail ≤ 255
    → length window ≡ blocks * data_length → Acceptable xs
    → smaller depth blocks ≤ length xs → h ≤ 4
    → EnoughTape first_user (length xs) e (smaller depth blocks) tail last
    → RecordsOnBlank g last depth blocks tail window xs e h

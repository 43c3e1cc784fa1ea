-- 01, "Refused calls": what a refused call leaves, for every call of both sessions and on every input.
use Rattle.std.specs.Prelude.{ℕ, ◌≤◌, ◌<◌, ◌≡◌, true, false, List, []}
use Rattle.recording_state.specs.State as recording
use Rattle.geometry.specs.declared.cartridge.Geometry.{Geometry}
use Rattle.recording_state.specs.Open.{open_of, open_blank_of}
use Rattle.recording_state.specs.Accept.{block_of, is_spent}
use Rattle.recording_state.specs.Fetch.{fetch_of}
use Rattle.recording_state.specs.Reply.{ended_from}
use Rattle.recording_state.specs.declared.state.State.{State}
use Rattle.reading_state.specs.Open as opening
use Rattle.reading_state.specs.State as reading
use Rattle.reading_state.specs.declared.state.State.{State as Reading}
use Rattle.adding_opening.specs.AtEnd.{open_at_end_of}
use Rattle.archive_lists.specs.Recordings as recordings
use Rattle.archive_lists.specs.Readings as readings

-- the buffer that a call lends to be written to: the window of an accept, the frame of a fetch. No call of a reading has one
abbrev pub lent_by : recordings.Call → List ℕ
lent_by (recordings.accept_block b window) = window
lent_by recordings.accept_filemark = []
lent_by recordings.close = []
lent_by (recordings.fetch window frame) = frame
lent_by (recordings.reply r) = []

-- and as the call leaves it
abbrev pub left_by : State → recordings.Call → List ℕ
left_by s (recordings.accept_block b window) = (block_of s b window).window
left_by s recordings.accept_filemark = []
left_by s recordings.close = []
left_by s (recordings.fetch window frame) = (fetch_of s window frame).frame
left_by s (recordings.reply r) = []

-- the session that a call ends with 8 or more: as it was, but that the write error behind a reply's 9 is noted
abbrev pub ended_from_call : State → recordings.Call → State
ended_from_call s (recordings.accept_block b window) = s
ended_from_call s recordings.accept_filemark = s
ended_from_call s recordings.close = s
ended_from_call s (recordings.fetch window frame) = s
ended_from_call s (recordings.reply r) = ended_from s r (recordings.refusal s (recordings.reply r))

-- a call of a recording
pub record RecordingRefused (s : State) (c : recordings.Call) : Type 0 where
  -- no lent buffer is written
  pub untouched : 1 ≤ recordings.refusal s c → left_by s c ≡ lent_by c
  -- 1 to 7 leave the session as it is
  pub unchanged : 1 ≤ recordings.refusal s c → recordings.refusal s c ≤ 7 → recordings.returned s c ≡ s
  -- 8 or more end it
  pub ended : 8 ≤ recordings.refusal s c → recordings.returned s c ≡ recording.ended_of (ended_from_call s c) (recordings.refusal s c)
  -- and only 7 follows, but for the close of a spent session (02, Card 6)
  pub only_7 : s.ended ≡ true → (s.spent ≡ true → c ≡ recordings.close → ⊥) → recordings.refusal s c ≡ 7

-- 02, Card 6: the one exception. A 9 for an element spends a session that keeps a tail, and no other refusal spends one: so a 9 for EOD is final.
-- The close of a spent session is not refused and gives up what is not on tape; another is refused with 7
pub record SpentClose (s : State) : Type 0 where
  pub only_9 : (n : ℕ) → (recording.ended_of s n).spent ≡ true → (n ≡ 9) × (0 < s.setup.tail) × (s.elements.eod ≡ false)
  pub spends : 0 < s.setup.tail → s.elements.eod ≡ false → is_spent (recording.ended_of s 9) ≡ true
  pub allowed : is_spent s ≡ true → recordings.refusal s recordings.close ≡ 0
  pub gives_up : is_spent s ≡ true → recordings.returned s recordings.close ≡ recording.given_up_of s
  pub once : recordings.refusal (recording.given_up_of s) recordings.close ≡ 7

-- a call of a reading, which lends no buffer to be written to
pub record ReadingRefused (s : Reading) (c : readings.Call) : Type 0 where
  pub unchanged : 1 ≤ readings.refusal s c → readings.refusal s c ≤ 7 → readings.returned s c ≡ s
  pub ended : 8 ≤ readings.refusal s c → readings.returned s c ≡ reading.ended_of s
  pub only_7 : s.ended ≡ true → readings.refusal s c ≡ 7

-- a refused opening returns a session that has ended, and is not spent: only 7 follows
abbrev EndedForGood : State → Type 0
EndedForGood s = (s.ended ≡ true) × (s.spent ≡ false)

-- the four openings
pub record OpeningsRefused : Type 0 where
  pub recording : (g : Geometry) (depth window tail : ℕ) (h : List ℕ) → 1 ≤ (open_of g depth window tail h).number
      → EndedForGood (open_of g depth window tail h).session
  pub blank : (g : Geometry) (depth window tail : ℕ) → 1 ≤ (open_blank_of g depth window tail).number
      → EndedForGood (open_blank_of g depth window tail).session
  pub reading : (g : Geometry) (h : List ℕ) → 1 ≤ (opening.open_of g h).number → (opening.open_of g h).session.ended ≡ true
  pub at_end : (r : Reading) (depth window tail : ℕ) → 1 ≤ (open_at_end_of r depth window tail).number
      → EndedForGood (open_at_end_of r depth window tail).session

-- all of them
pub record RefusedCalls : Type 0 where
  pub openings : OpeningsRefused
  pub recording : (s : State) (c : recordings.Call) → RecordingRefused s c
  pub spent : (s : State) → SpentClose s
  pub reading : (s : Reading) (c : readings.Call) → ReadingRefused s c

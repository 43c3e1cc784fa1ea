-- The calls of a recording session, from numbers to numbers: each is the call on the session that they are, and numbers that are none come back with 7.
use Rattle.std.specs.Prelude.{ℕ, List}
use Rattle.geometry.specs.Pick.{pick}
use Rattle.recording_state.specs.declared.state.State.{State}
use Rattle.recording_state.specs.State.{OutcomeSaid}
use Rattle.recording_state.specs.Accept.{StoredSaid, block_of}
use Rattle.recording_state.specs.Fetch.{FetchedSaid, fetch_of}
use Rattle.recording_twins.specs.declared.recording_numbers.AdrRecording.{AdrRecording}
use Rattle.recording_twins.specs.Recording.{is_recording, recording_state_of, recording_state_twin}
use Rattle.recording_answers.specs.declared.recording_answers.AdrRecordOutcome.{AdrRecordOutcome}
use Rattle.recording_answers.specs.declared.recording_answers.AdrRecordFetched.{AdrRecordFetched}
use Rattle.recording_answers.specs.Recording.{outcome_twin, unknown, fetched_twin, unknown_fetch}

-- a call that lends nothing: filemark, close, reply
unfoldable pub through : (State → OutcomeSaid) → AdrRecording → AdrRecordOutcome
through call s = pick (is_recording s) (outcome_twin (call (recording_state_of s))) (unknown s)

-- an accept's outcome, and the window that it leaves
pub record Stored : Type 0 where
  pub result : AdrRecordOutcome
  pub window : List ℕ

-- both together
abbrev pub stored : AdrRecordOutcome → List ℕ → Stored
stored r window = record { result = r; window = window }

-- the numbers of what an accept of a block returns
abbrev pub stored_twin : StoredSaid → Stored
stored_twin r = stored (outcome_twin r.result) r.window

-- accepting a block
unfoldable pub block_through : AdrRecording → List ℕ → List ℕ → Stored
block_through s block window = pick (is_recording s) (stored_twin (block_of (recording_state_of s) block window)) (stored (unknown s) window)

-- a fetch's answer, and the frame that it leaves
pub record Fetched : Type 0 where
  pub result : AdrRecordFetched
  pub frame : List ℕ

-- both together
abbrev pub fetched : AdrRecordFetched → List ℕ → Fetched
fetched r frame = record { result = r; frame = frame }

-- the numbers of what a fetch returns
abbrev pub lent_twin : FetchedSaid → Fetched
lent_twin f = fetched (fetched_twin f.said (recording_state_twin f.session)) f.frame

-- a fetch
unfoldable pub fetch_through : AdrRecording → List ℕ → List ℕ → Fetched
fetch_through s window frame = pick (is_recording s) (lent_twin (fetch_of (recording_state_of s) window frame)) (fetched (unknown_fetch s) frame)

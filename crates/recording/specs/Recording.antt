-- What the public calls return, in the terms of the definitions over the session's state.
use Rattle.std.specs.Prelude.{ℕ, List, Result}
use Rattle.geometry.specs.Refusal.{verdict_number}
use Rattle.geometry.specs.declared.refusal.Refusal.{Refusal}
use Rattle.recording_state.specs.State.{OutcomeSaid}
use Rattle.recording_state.specs.Accept.{StoredSaid}
use Rattle.recording_state.specs.Answer.{answer_said}
use Rattle.recording_state.specs.Fetch.{FetchedSaid}
use Rattle.recording_state.specs.declared.state.Answer.{Answer}
use Rattle.recording.specs.declared.recording.Recording.{Recording}

-- the session and the number of the refusal, 0 for none
abbrev pub outcome_said : Recording × Result Unit Refusal → OutcomeSaid
outcome_said r = record { session = r.0.state; number = verdict_number r.1 }

-- a call's result, and the window that it leaves
abbrev pub stored_said : Recording × Result Unit Refusal → List ℕ → StoredSaid
stored_said r window = record { result = outcome_said r; window = window }

-- the session and the answer that a fetch returns, and the frame that it leaves
abbrev pub fetched_said : Recording × Result Answer Refusal → List ℕ → FetchedSaid
fetched_said r frame = record { session = r.0.state; said = answer_said r.1; frame = frame }

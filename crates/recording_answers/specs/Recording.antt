-- What the calls of a recording session return, as numbers. Numbers that are no session's come back as they are, with 7.
use Rattle.std.specs.Prelude.{ℕ}
use Rattle.recording_state.specs.State.{OutcomeSaid}
use Rattle.recording_state.specs.Answer as answers
use Rattle.recording_state.specs.Answer.{AnswerSaid}
use Rattle.recording_twins.specs.declared.recording_numbers.AdrRecording.{AdrRecording}
use Rattle.recording_twins.specs.Recording.{recording_state_twin}
use Rattle.recording_answers.specs.declared.recording_answers.AdrRecordOutcome.{AdrRecordOutcome}
use Rattle.recording_answers.specs.declared.recording_answers.AdrRecordFetched.{AdrRecordFetched}

-- the session and the number of the refusal, 0 for none
abbrev pub outcome_twin : OutcomeSaid → AdrRecordOutcome
outcome_twin r = record { session = recording_state_twin r.session; number = r.number }

-- numbers that are no session's
abbrev pub unknown : AdrRecording → AdrRecordOutcome
unknown s = record { session = s; number = 7 }

-- what a fetch answers, by number: 0 refused, 1 a command, 2 idle, 3 done; without a command its code and address are 0
abbrev pub without_command : AdrRecording → ℕ → ℕ → AdrRecordFetched
without_command s answer number = record { session = s; command = record { code = 0; address = 0 }; answer = answer; number = number }

-- the numbers of an answer, beside the session
abbrev pub fetched_twin : AnswerSaid → AdrRecording → AdrRecordFetched
fetched_twin (answers.command code at) s = record { session = s; command = record { code = code; address = at }; answer = 1; number = 0 }
fetched_twin answers.idle s = without_command s 2 0
fetched_twin answers.done s = without_command s 3 0
fetched_twin (answers.refused n) s = without_command s 0 n

-- numbers that are no session's
abbrev pub unknown_fetch : AdrRecording → AdrRecordFetched
unknown_fetch s = without_command s 0 7

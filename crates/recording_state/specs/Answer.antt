-- 01, "A recording session": what a fetch answers.
use Rattle.std.specs.Prelude.{ℕ, Result, Ok, Err}
use Rattle.geometry.specs.Refusal.{refusal_number}
use Rattle.geometry.specs.declared.refusal.Refusal.{Refusal}
use Rattle.drive.specs.Command.{CommandSaid, command_said}
use Rattle.recording_state.specs.declared.state.Answer.{Answer}
use Rattle.recording_state.specs.declared.state.Answer.TheVariants as A

-- a command by its operation code and address, idle, done, or a refusal by its number
pub data AnswerSaid : Type 0 where
  command : ℕ → ℕ → AnswerSaid
  idle : AnswerSaid
  done : AnswerSaid
  refused : ℕ → AnswerSaid

-- the fetch gives a command
abbrev pub giving : CommandSaid → AnswerSaid
giving x = command x.code x.address

-- what the code answers, in these terms
abbrev pub answer_said : Result Answer Refusal → AnswerSaid
answer_said (Ok (A.Command c)) = giving (command_said c)
answer_said (Ok A.Idle) = idle
answer_said (Ok A.Done) = done
answer_said (Err r) = refused (refusal_number r)

-- 01, "Reading a cartridge": fetching the next command.
use Rattle.std.specs.Prelude.{ℕ, ◌||◌, ◌==◌, nat_lt, Option, None, Some, Result, Ok, Err}
use Rattle.geometry.specs.Pick.{pick}
use Rattle.geometry.specs.Refusal.{refusal_number}
use Rattle.geometry.specs.declared.refusal.Refusal.{Refusal}
use Rattle.geometry.specs.Cartridge.{second_group, second_user}
use Rattle.drive.specs.Command.{CommandSaid, command_said, command_for, read, locate}
use Rattle.drive.specs.Exchange.{sent_of}
use Rattle.drive.specs.declared.command.Command.{Command}
use Rattle.reading_state.specs.declared.state.State.{State}
use Rattle.reading_state.specs.State.{with_exchange, ended_of}

-- LOCATE 10 at first, and LOCATE after 08/00/05; before 2,990 LOCATE 3,000; else READ
unfoldable pub command_of : State → CommandSaid
command_of s =
    pick s.position.locate (locate s.position.next.0)
    (pick (s.position.next.0 == second_group) (locate second_user) (read s.position.next.0))

-- what a fetch answers: a command by its operation code and address, the end, or a refusal by its number
pub data AnswerSaid : Type 0 where
  command : ℕ → ℕ → AnswerSaid
  end : AnswerSaid
  refused : ℕ → AnswerSaid

-- the fetch gives a command
abbrev pub giving : CommandSaid → AnswerSaid
giving x = command x.code x.address

-- the code's answer, in 01's numbers
abbrev pub answer_said : Result (Option Command) Refusal → AnswerSaid
answer_said (Ok (Some c)) = giving (command_said c)
answer_said (Ok None) = end
answer_said (Err r) = refused (refusal_number r)

-- what a fetch returns: the session and the answer
pub record FetchedSaid : Type 0 where
  pub session : State
  pub said : AnswerSaid

-- the same of the code's fetch
abbrev pub fetched_said : State × Result (Option Command) Refusal → FetchedSaid
fetched_said r = record { session = r.0; said = answer_said r.1 }

-- the command goes out and its reply is awaited
abbrev pub awaits : State → Command → State
awaits s c = with_exchange s (sent_of c)

-- a fetch that gives this command
abbrev pub sending : State → Command → FetchedSaid
sending s c = record { session = awaits s c; said = giving (command_said c) }

-- in this order: 7 if the session has ended or a reply is awaited; the command that was answered busy, once more; the end, said again at
-- each fetch; 12 if the next address is past LAST; the command that is due
unfoldable pub fetch_of : State → FetchedSaid
fetch_of s =
    pick (s.ended || s.exchange.awaiting) (record { session = s; said = refused 7 })
    (pick s.exchange.again (sending s s.exchange.command)
    (pick s.finished (record { session = s; said = end })
    (pick (nat_lt s.told.last.0 s.position.next.0) (record { session = ended_of s; said = refused 12 })
    (sending s (command_for (command_of s))))))

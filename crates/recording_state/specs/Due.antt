-- 01, "A recording session": what is due, by stage, as a fetch answers it.
use Rattle.geometry.specs.Pick.{pick}
use Rattle.drive.specs.Command.{command_said}
use Rattle.copies.specs.Copies as copies
use Rattle.elements.specs.Due as due
use Rattle.recording_state.specs.declared.state.State.{State}
use Rattle.recording_state.specs.declared.state.Stage.{Stage}
use Rattle.recording_state.specs.declared.state.Stage.TheVariants as S
use Rattle.recording_state.specs.Answer.{AnswerSaid, idle, done, refused, giving}

-- among header copies
abbrev pub header_due : State → AnswerSaid
header_due s = giving (copies.command_of s.setup.depth s.copies)

-- what the rules come to, as an answer
abbrev pub element_due_by : due.DueSaid → AnswerSaid
element_due_by (due.send x) = giving x
element_due_by due.idle = idle
element_due_by (due.refused n) = refused n

-- among elements and EOD
abbrev pub element_due : State → AnswerSaid
element_due s = element_due_by (due.due_of s.setup.depth s.setup.tail s.elements)

-- by stage: opening headers, LOCATE of the first address and elements and EOD, closing headers, done
abbrev pub decision_by : Stage → State → AnswerSaid
decision_by S.OpeningHeaders s = header_due s
decision_by S.Elements s = element_due s
decision_by S.ClosingHeaders s = header_due s
decision_by S.Done s = done

-- behind a busy reply the command goes out again, and no rule is asked
unfoldable pub decision_of : State → AnswerSaid
decision_of s = pick s.exchange.again (giving (command_said s.exchange.command)) (decision_by s.stage s)

-- The number of a case tells the command's code and the meaning of the reply. Assumes nothing.
use Rattle.std.proofs.Common.{◌≡◌, ℕ, ◌+◌, ◌*◌, ◌<◌}
use Rattle.drive.specs.Command.{command_code}
use Rattle.drive.specs.Senses.{meaning_of}
use Rattle.drive.specs.declared.reply.Reply.{Reply}
use Rattle.drive.proofs.CaseLaws as cases
use Rattle.reading_state.specs.declared.state.State.{State}
use Rattle.reading_state.specs.Reply.{case_of}

pub case_parts : (s : State) (r : Reply) (code meaning : ℕ) → meaning < 256 → case_of s r ≡ code * 256 + meaning → (command_code s.exchange.command ≡ code) × (meaning_of r.key r.asc r.ascq ≡ meaning)
case_parts s r code meaning h e = cases.case_parts s.exchange.command r code meaning h e

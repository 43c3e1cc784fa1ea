-- What is left to find is found in the rest of the table.
use Rattle.std.proofs.Common.{◌≡◌, drop}
use Rattle.drive.specs.Senses.{senses, meaning_in, meaning_of}
use Rattle.drive.proofs.reply.Reply.meaning.Given as goal

abbrev pub invariant-loop-sense : goal.invariant-loop-sense
invariant-loop-sense l = meaning_in (drop l.sense-index senses) l.self.key l.self.asc l.self.ascq ≡ meaning_of l.self.key l.self.asc l.self.ascq

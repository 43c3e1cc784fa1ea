-- A header that is valid has a frame's length.
use Rattle.std.proofs.Common.{sym}
use Rattle.header.proofs.ReadLaws.{taken_long}
use Rattle.header_choice.proofs.decide.Goals as goal

pub newer-requires-clause-first_len : goal.newer-requires-clause-first_len
newer-requires-clause-first_len c = taken_long _ _ (sym c.in-Ok-Ok.ensures)

pub newer-requires-clause-second_len : goal.newer-requires-clause-second_len
newer-requires-clause-second_len c = taken_long _ _ (sym c.in-Ok-Ok.ensures')

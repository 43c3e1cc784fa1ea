-- The bytes passed are stored.
use Rattle.std.proofs.Common.{◌≡◌}
use Rattle.buffer_writing.specs.Stored.{stored_upto}
use Rattle.buffer_writing.proofs.put_bytes.Given as goal

abbrev pub invariant-loop-i : goal.invariant-loop-i
invariant-loop-i g l = l.s ≡ stored_upto l.i l.initial.s l.at l.bytes

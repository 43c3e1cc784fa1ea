-- The bytes passed are the slice's.
use Rattle.std.proofs.Common.{◌≡◌, ℕ, ◌+◌, ◌<◌, length, get_or}
use Rattle.buffer.proofs.bytes_at.Given as goal

abbrev pub invariant-loop-i : goal.invariant-loop-i
invariant-loop-i g l = record { passed : (i : ℕ) → i < l.i → get_or l.bytes i 0 ≡ get_or l.s (l.at + i) 0; len : length l.bytes ≡ g.row.N }

-- Before index i the marks are those of the numbers.
use Rattle.std.proofs.Common.{◌≡◌, ◌++◌, false, take, drop, map, replicate}
use Rattle.exchange_twins.specs.Numbers.{flag_of}
use Rattle.recording_twins.proofs.marks.flags_of.Given as goal

abbrev pub invariant-loop-i : goal.invariant-loop-i
invariant-loop-i l = l.marks ≡ take l.i (map flag_of l.n) ++ drop l.i (replicate 64 false)

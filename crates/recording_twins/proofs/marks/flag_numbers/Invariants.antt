-- Before index i the numbers are those of the marks.
use Rattle.std.proofs.Common.{◌≡◌, ◌++◌, take, drop, map, replicate}
use Rattle.exchange_twins.specs.Numbers.{flag_number}
use Rattle.recording_twins.proofs.marks.flag_numbers.Given as goal

abbrev pub invariant-loop-i : goal.invariant-loop-i
invariant-loop-i l = l.n ≡ take l.i (map flag_number l.marks) ++ drop l.i (replicate 64 0)

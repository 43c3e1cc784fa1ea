-- Before index i: whether the numbers are flags.
use Rattle.std.proofs.Common.{◌≡◌, take}
use Rattle.recording_twins.specs.Marks.{all_flags}
use Rattle.recording_twins.proofs.marks.are_flags.Given as goal

abbrev pub invariant-loop-i : goal.invariant-loop-i
invariant-loop-i l = l.ok ≡ all_flags (take l.i l.n)

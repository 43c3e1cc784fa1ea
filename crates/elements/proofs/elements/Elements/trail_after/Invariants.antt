-- After i turns stands what stands before element first + i.
use Rattle.std.proofs.Common.{◌≡◌}
use Rattle.elements.specs.Trail.{trail_after}
use Rattle.elements.proofs.elements.Elements.trail_after.Given as goal

abbrev pub invariant-loop-i : goal.invariant-loop-i
invariant-loop-i l = l.trail ≡ trail_after l.self l.i

-- The column is filled from the right: what is left to fill are the characters in front.
use Rattle.std.proofs.Common.{◌≡◌, ◌++◌, length, drop}
use Rattle.sheet.specs.Line.{number_column}
use Rattle.sheet.proofs.Columns.{lead}
use Rattle.sheet.proofs.line.put_number.Given as goal

abbrev pub invariant-loop-i : goal.invariant-loop-i
invariant-loop-i l = number_column (length l.fn.column) l.n ≡ lead l.i l.left ++ drop l.i l.column

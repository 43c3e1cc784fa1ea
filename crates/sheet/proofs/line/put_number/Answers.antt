-- A turn, and the end.
use Rattle.std.proofs.Common.{ℕ, arith, length-set}
use Rattle.sheet.proofs.Columns.{fill_more, fill_end}
use Rattle.sheet.proofs.line.put_number.Goals as goal

pub loop-i-preserved : goal.loop-i-preserved
loop-i-preserved c =
    let l = c.loop-i in
    rw c.leading_digit.ensures (fill_more l.column _ l.i l.left (omega arith) (omega (arith, length-set {A = ℕ})) l.invariant)

pub returns : goal.returns
returns c =
    let l = c.loop-i in
    fill_end l.column _ l.i l.left (omega arith) l.invariant

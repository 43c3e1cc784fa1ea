-- The line is filled from the left.
use Rattle.std.proofs.Common.{◌≡◌, ◌∙◌, length, append_assoc, arith}
use Rattle.sheet.specs.Line.{line_of}
use Rattle.sheet.proofs.Lines.{not_yet, byte, column, whole}
use Rattle.sheet.proofs.line.put_line.Goals as goal

pub returns : goal.returns
unfolding line_of
returns c =
    let a = c.args in
    let l = a.line.now in
    let long : length l ≡ 28 = c.told-line in
    let job = column (not_yet l) 5 a.job (omega arith) c.put_number.ensures in
    let first = column (byte job _ (omega arith)) 10 a.first (omega arith) c.put_number-2.ensures in
    let blocks = column (byte first _ (omega arith)) 10 a.blocks (omega arith) c.put_number-3.ensures in
    whole (byte blocks _ (omega arith)) (omega arith) ∙ simp append_assoc

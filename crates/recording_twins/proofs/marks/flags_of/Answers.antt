-- The mark written at i is that of the number at i.
use Rattle.std.proofs.Common.{◌≡◌, List, Bool, false, length, get_or, replicate, ap, ◌∙◌, arith}
use lib.ListN.{set}
use Rattle.exchange_twins.specs.Numbers.{flag_of}
use Rattle.recording_twins.proofs.MarkLaws.{map_more}
use Rattle.recording_twins.proofs.marks.flags_of.Goals as goal

pub loop-i-preserved : goal.loop-i-preserved
loop-i-preserved c =
    let l = c.loop-i in
    let n = c.args.n in
    let k : length n ≡ 64 = omega arith in
    ap (λ (x : List Bool). set x l.i (flag_of (get_or n l.i 0))) l.invariant ∙ map_more flag_of l.i n (replicate 64 false) 0 (omega arith) (omega arith)

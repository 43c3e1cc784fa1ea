-- Equal counts leave it to the data, the front of each frame.
use Rattle.std.proofs.Common.{◌≡◌, true, false, take}
use lib.Dec.{eqb}
use lib.Pointwise.{pointwise}
use Rattle.header_choice.proofs.Choices.{by_data}
use Rattle.header_choice.proofs.newer.Goals as goal

pub returns-in-Equal : goal.returns-in-Equal
returns-in-Equal c =
    let a = c.args in
    let alike : true ≡ pointwise eqb (take 32768 a.first.now) (take 32768 a.second.now) = cc in
    by_data a.one a.other a.first.now a.second.now c.in-Equal.ensures alike

pub returns-in-Equal-2 : goal.returns-in-Equal-2
returns-in-Equal-2 c =
    let a = c.args in
    let unlike : false ≡ pointwise eqb (take 32768 a.first.now) (take 32768 a.second.now) = cc in
    by_data a.one a.other a.first.now a.second.now c.in-Equal-2.ensures unlike

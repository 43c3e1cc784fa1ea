-- Demand 3 holds: the case of a fresh session without a tail of what holds however it was opened. Assumes nothing.
use Rattle.archive.specs.Demand.{Demand3}
use Rattle.archive.specs.Chain.{fresh}
use Rattle.archive_lists.proofs.recording.Start.{opened_tail}
use Rattle.archive.proofs.Continued.{continued}

pub demand_3 : Demand3
unfolding Demand3
demand_3 g last depth blocks d o s w op recorded =
    let c = continued g last d s (fresh depth blocks 0 o op) w recorded in
    let untailed = c.untailed (opened_tail g last depth blocks 0 s recorded.sized.is_last o op) in
    record { written = c.written; alone = c.alone; readable = λ newest none unaltered reported. (untailed.readable newest tt none unaltered reported).0 }

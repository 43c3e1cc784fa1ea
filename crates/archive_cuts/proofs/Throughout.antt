-- Properties of every tape of a list. Assumes nothing.
use mathlib.Core.List.{List}
use Rattle.archive_lists.specs.Tape.{Tape}
use Rattle.archive_lists.specs.Recordings.{World, Call, Runs, stop, call, drive}
use Rattle.archive_cuts.specs.Cuts.{Throughout}

-- of its first tape, and of its last
pub at_first : (Q : Tape → Type 0) {w v : World} {cs : List Call} (r : Runs w cs v) → Throughout Q r → Q w.drive.tape
at_first holds stop h = h
at_first holds (call c rest) h = h.0
at_first holds (drive m rest) h = h.0

pub at_last : (Q : Tape → Type 0) {w v : World} {cs : List Call} (r : Runs w cs v) → Throughout Q r → Q v.drive.tape
at_last holds stop h = h
at_last holds (call c rest) h = at_last holds rest h.1
at_last holds (drive m rest) h = at_last holds rest h.1

-- one that every tape has, and one that follows
pub throughout_any : (Q : Tape → Type 0) → ((t : Tape) → Q t) → {w v : World} {cs : List Call} (r : Runs w cs v) → Throughout Q r
throughout_any Q f {w} stop = f w.drive.tape
throughout_any Q f {w} (call c rest) = (f w.drive.tape, throughout_any Q f rest)
throughout_any Q f {w} (drive m rest) = (f w.drive.tape, throughout_any Q f rest)

pub throughout_as : (P Q : Tape → Type 0) → ((t : Tape) → P t → Q t) → {w v : World} {cs : List Call} (r : Runs w cs v) → Throughout P r → Throughout Q r
throughout_as P Q f {w} stop h = f w.drive.tape h
throughout_as P Q f {w} (call c rest) h = (f w.drive.tape h.0, throughout_as P Q f rest h.1)
throughout_as P Q f {w} (drive m rest) h = (f w.drive.tape h.0, throughout_as P Q f rest h.1)

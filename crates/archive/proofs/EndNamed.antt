-- The closing headers name where EOD is: the case of a fresh session of what holds however it was opened. Assumes nothing.
use Prim.Native.Nat.{ℕ}
use mathlib.Core.Path.{◌≡◌, subst}
use native.Mathlib.Omega.{arith}
use lib.ListN.{length}
use lib.Seq.{length-take-le}
use Rattle.frame.specs.declared.header.Header.{Header}
use Rattle.archive_lists.specs.Tape.{Tape}
use Rattle.archive.specs.EndNamed.{EndsAt, EndNamed}
use Rattle.archive_lists.specs.Recordings as recordings
use Rattle.archive_lists.specs.Recordings.{kept_of, promised}
use Rattle.archive.specs.Chain.{fresh}
use Rattle.archive.proofs.Continued.{continued}

-- as many as are promised
kept_size : (n : recordings.Notes) → length (promised n) ≡ kept_of n
kept_size n = length-take-le (kept_of n) n.accepted (omega arith)

numbered : (n : recordings.Notes) {h : Header} {t : Tape} → EndsAt h (length (promised n)) t → EndsAt h (kept_of n) t
numbered n {h} {t} x = subst (λ (i : ℕ). EndsAt h i t) (kept_size n) x

pub end_named : EndNamed
unfolding EndNamed
end_named g last depth blocks tail d o s w op recorded =
    let c = continued g last d s (fresh depth blocks tail o op) w recorded in
    record { given = λ lent frame a closing said. numbered w.notes (c.given lent frame a closing said); newest = λ on reported h n. numbered w.notes (c.newest on reported h n) }

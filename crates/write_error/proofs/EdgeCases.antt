-- The cases of 01, "Edges", that are marked P hold of the definitions. Assumes nothing.
use mathlib.Core.Path.{◌≡◌, ap}
use mathlib.Core.Bool.{Bool, false}
use Prim.Native.Nat.{ℕ, ◌<◌}
use lib.Dec.{T, eqb, eqb→eq}
use lib.ListN.{length, get_or}
use Rattle.geometry.specs.declared.cartridge.LoadPoint.TheVariants.{Beginning}
use Rattle.geometry.specs.Place.{PlaceSaid, address, refused}
use Rattle.write_error.specs.Edges.{last_for, Case, answer, cases}
use Rattle.geometry.proofs.Table.{at_index}

same : PlaceSaid → PlaceSaid → Bool
same (address a) (address b) = eqb a b
same (refused a) (refused b) = eqb a b
same (address a) (refused b) = false
same (refused a) (address b) = false

same_is : (x y : PlaceSaid) → T (same x y) → x ≡ y
unfolding same
same_is (address a) (address b) t = ap address (eqb→eq a b t)
same_is (refused a) (refused b) t = ap refused (eqb→eq a b t)
same_is (address a) (refused b) t = absurd t
same_is (refused a) (address b) t = absurd t

abbrev none : Case
none = record { question = last_for 0 0 Beginning; expected = refused 2 }

abbrev case_at : ℕ → Case
case_at k = get_or cases k none

right : ℕ → Bool
right k = same (answer (case_at k).question) (case_at k).expected

pub case_holds : (k : ℕ) → k < length cases → answer (case_at k).question ≡ (case_at k).expected
unfolding right same
case_holds k h = same_is _ _ (at_index (length cases) right tt k h)

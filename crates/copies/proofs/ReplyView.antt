-- What a reply changes, by cases, each with what is known there. Assumes nothing.
use Prim.Native.Nat.{ℕ, ◌-◌, ◌≤◌, ◌<◌}
use mathlib.Core.Path.{◌≡◌}
use mathlib.Core.Bool.{◌||◌}
use mathlib.Core.Logic.{◌⊎◌, ⊎_elim, inl, inr}
use native.Mathlib.Omega.{arith}
use lib.Dec.{eqb, ltb, leb}
use borrow.Author.Tests.{ltb-true, ltb-false, leb-true, leb-false, eqb-true, eqb-false}
use Rattle.geometry.proofs.PickLaws.{pick_by}
use Rattle.copies.specs.declared.copies.Copies.{Copies}
use Rattle.copies.specs.Copies.{ProgressSaid, more, complete, refused, confirmed_of, next_group, onward_of, counted_of, failed_at, oldest_copy, failed_copy}
use Rattle.geometry.proofs.TestLaws.{or_true, or_false}

pub data OnwardView (c : Copies) : ProgressSaid → Type 0 where
  unfinished : (c.copy < 5) ⊎ (0 < c.outstanding) → OnwardView c (more c)
  turning : 5 ≤ c.copy → c.outstanding ≡ 0 → c.group ≡ 0 → OnwardView c (more (next_group c))
  unwritten : 5 ≤ c.copy → c.outstanding ≡ 0 → 0 < c.group → c.confirmed ≡ 0 → OnwardView c (refused 12)
  through : 5 ≤ c.copy → c.outstanding ≡ 0 → 0 < c.group → 0 < c.confirmed → OnwardView c complete

pub onward_view : (c : Copies) → OnwardView c (onward_of c)
unfolding onward_of
onward_view c =
    pick_by (OnwardView c) (ltb c.copy 5 || ltb 0 c.outstanding)
    (λ t. unfinished (⊎_elim (λ e. inl (ltb-true _ _ e)) (λ e. inr (ltb-true _ _ e)) (or_true (ltb c.copy 5) (ltb 0 c.outstanding) t)))
    (λ f. let tests = or_false (ltb c.copy 5) (ltb 0 c.outstanding) f in
    let filled : 5 ≤ c.copy = ltb-false _ _ tests.0 in
    let empty : c.outstanding ≡ 0 = omega (arith, ltb-false 0 c.outstanding tests.1) in
    pick_by (OnwardView c) (eqb c.group 0) (λ first. turning filled empty (eqb-true _ _ first))
    (λ second. let later : 0 < c.group = omega (arith, eqb-false c.group 0 second) in
    pick_by (OnwardView c) (eqb c.confirmed 0)
    (λ none. unwritten filled empty later (eqb-true _ _ none))
    (λ some. through filled empty later (omega (arith, eqb-false c.confirmed 0 some)))))

-- READ POSITION answered good, with f frames still buffered
pub data CountedView (c : Copies) (f : ℕ) : ProgressSaid → Type 0 where
  too_many : c.outstanding < f → CountedView c f (refused 8)
  counted : f ≤ c.outstanding → CountedView c f (onward_of (confirmed_of c (c.outstanding - f)))

pub counted_view : (c : Copies) (f : ℕ) → CountedView c f (counted_of c f)
unfolding counted_of
counted_view c f =
    pick_by (CountedView c f) (ltb c.outstanding f) (λ t. too_many (ltb-true _ _ t)) (λ e. counted (ltb-false _ _ e))

-- a write error of copy i
pub data FailedView (c : Copies) (i : ℕ) : ProgressSaid → Type 0 where
  before : i < oldest_copy c → FailedView c i (refused 8)
  behind : c.copy ≤ i → FailedView c i (refused 8)
  failed : oldest_copy c ≤ i → i < c.copy → FailedView c i (onward_of (failed_at c (i - oldest_copy c) i))

pub failed_view : (c : Copies) (i : ℕ) → FailedView c i (failed_copy c i)
unfolding failed_copy
failed_view c i =
    pick_by (FailedView c i) (ltb i (oldest_copy c)) (λ t. before (ltb-true _ _ t))
    (λ f. pick_by (FailedView c i) (leb c.copy i) (λ t. behind (leb-true _ _ t))
    (λ g. failed (ltb-false _ _ f) (leb-false _ _ g)))

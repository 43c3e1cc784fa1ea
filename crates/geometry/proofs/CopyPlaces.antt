-- Which copy stands at an address, and at which address a copy stands: each gives the other. Assumes nothing.
use Prim.Native.Nat.{ℕ, zero, suc, ◌+◌, ◌-◌, ◌≤◌, ◌<◌}
use mathlib.Core.Path.{◌≡◌, refl, ap}
use mathlib.Core.Bool.{Bool, true, false}
use native.Mathlib.Omega.{arith}
use borrow.Author.Tests.{eqb-true, eqb-false}
use lib.Dec.{eqb}
use Rattle.geometry.specs.Pick.{pick}
use Rattle.geometry.specs.Cartridge.{group_copies, header_address, copy_from, copy_at}
use Rattle.geometry.proofs.PickLaws.{pick_by}
use Rattle.geometry.proofs.HeaderPlaces.{header_from_first}

-- one turn of the walk
pub copy_step : (group copy a : ℕ) → copy < group_copies
    → copy_from (group_copies - copy) group copy a ≡ pick (eqb (header_address group copy) a) copy (copy_from (group_copies - (copy + 1)) group (copy + 1) a)
unfolding copy_from
copy_step group copy a h =
    let e : group_copies - copy ≡ suc (group_copies - (copy + 1)) = omega arith in
    ap (λ (n : ℕ). copy_from n group copy a) e

-- ---- of n copies from one on

copy_from_most : (n group copy a : ℕ) → copy_from n group copy a ≤ copy + n
unfolding copy_from
copy_from_most zero group copy a = omega arith
copy_from_most (suc n) group copy a =
    pick_by (λ (k : ℕ). k ≤ copy + suc n) (eqb (header_address group copy) a) (λ _. omega arith) (λ _. let below = copy_from_most n group (copy + 1) a in omega arith)

-- a copy that is found stands there
copy_from_stands : (n group copy a : ℕ) → copy_from n group copy a < copy + n → header_address group (copy_from n group copy a) ≡ a
unfolding copy_from
copy_from_stands zero group copy a = λ h. absurd (omega arith)
copy_from_stands (suc n) group copy a =
    pick_by (λ (k : ℕ). k < copy + suc n → header_address group k ≡ a) (eqb (header_address group copy) a)
    (λ e _. eqb-true (header_address group copy) a e)
    (λ _ h. copy_from_stands n group (copy + 1) a (omega arith))

-- none behind one that stands there is found
copy_from_first : (n group copy k : ℕ) → copy ≤ k → k < copy + n → copy_from n group copy (header_address group k) ≤ k
unfolding copy_from
copy_from_first zero group copy k low high = absurd (omega arith)
copy_from_first (suc n) group copy k low high =
    pick_by (λ (i : ℕ). i ≤ k) (eqb (header_address group copy) (header_address group k)) (λ _. low)
    (λ e. copy_from_first n group (copy + 1) k (behind (eqb-false _ _ e)) (omega arith))
  where
    behind : (header_address group copy ≡ header_address group k → ⊥) → copy + 1 ≤ k
    behind other = go (eqb copy k) refl
      where
        go : (b : Bool) → eqb copy k ≡ b → copy + 1 ≤ k
        go true e = absurd (other (ap (header_address group) (eqb-true copy k e)))
        go false e = let apart = eqb-false copy k e in omega arith

-- ---- of a group

pub copy_stands : (group a : ℕ) → copy_at group a < group_copies → header_address group (copy_at group a) ≡ a
copy_stands group a h = copy_from_stands group_copies group 0 a h

-- so its address is that of the group and its number
pub copy_address : (group a : ℕ) → copy_at group a < group_copies → a ≡ header_address group 0 + copy_at group a
copy_address group a h = let there = copy_stands group a h in let from = header_from_first group (copy_at group a) h in omega (arith, there, from)

pub copy_is : (group copy : ℕ) → copy < group_copies → copy_at group (header_address group copy) ≡ copy
copy_is group copy h =
    let low = copy_from_first group_copies group 0 copy (omega arith) h in
    let there = copy_address group (header_address group copy) (omega (arith, low)) in
    let from = header_from_first group copy h in
    omega (arith, there, from)

-- A list of what may be accepted, in parts. Assumes nothing.
use Prim.Native.Nat.{ℕ, zero, suc, ◌≤◌}
use mathlib.Core.Path.{◌≡◌, refl, ap}
use mathlib.Core.List.{List, [], ◌∷◌, ◌++◌}
use native.Mathlib.Omega.{arith}
use lib.ListN.{length}
use Rattle.archive_lists.specs.Recordings.{Element, block, filemark}
use Rattle.archive_counts.specs.Acceptable.{Acceptable}

pub acceptable_first : (x : Element) (xs : List Element) → Acceptable (x ∷ xs) → Acceptable (x ∷ [])
unfolding Acceptable
acceptable_first (block b) xs h = (h.0, tt)
acceptable_first filemark xs h = tt

pub acceptable_rest : (x : Element) (xs : List Element) → Acceptable (x ∷ xs) → Acceptable xs
unfolding Acceptable
acceptable_rest (block b) xs h = h.1
acceptable_rest filemark xs h = h

acceptable_more : (x : Element) (xs : List Element) → Acceptable (x ∷ []) → Acceptable xs → Acceptable (x ∷ xs)
unfolding Acceptable
acceptable_more (block b) xs h rest = (h.0, rest)
acceptable_more filemark xs h rest = rest

acceptable_none : Acceptable []
unfolding Acceptable
acceptable_none = tt

-- the first m, and the others
pub record Parts (m : ℕ) (xs : List Element) : Type 0 where
  pub front : List Element
  pub back : List Element
  pub is : front ++ back ≡ xs
  pub long : length front ≡ m
  pub front_acceptable : Acceptable front
  pub back_acceptable : Acceptable back

pub parted : (m : ℕ) (xs : List Element) → m ≤ length xs → Acceptable xs → Parts m xs
parted zero xs l h = record { front = []; back = xs; is = refl; long = refl; front_acceptable = acceptable_none; back_acceptable = h }
parted (suc m) [] l h = absurd (omega arith)
parted (suc m) (x ∷ xs) l h =
    let p = parted m xs (omega arith) (acceptable_rest x xs h) in
    record {
      front = x ∷ p.front;
      back = p.back;
      is = ap (λ (ys : List Element). x ∷ ys) p.is;
      long = let q = p.long in omega arith;
      front_acceptable = acceptable_more x p.front (acceptable_first x xs h) p.front_acceptable;
      back_acceptable = p.back_acceptable;
    }

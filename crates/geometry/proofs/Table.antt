-- A rule of a table, proved at every index by one test that the checker computes. Assumes nothing.
use mathlib.Core.Path.{◌≡◌, refl, subst}
use mathlib.Core.Bool.{Bool, true, false, ◌&&◌}
use Prim.Native.Nat.{ℕ, zero, suc, ◌<◌, ◌≤◌}
use native.Mathlib.Nat.{not-suc-le-zero}
use native.Mathlib.Omega.{arith}
use borrow.Author.Tests.{ltb-true, ltb-false}
use lib.Dec.{T, ltb}

-- the test passes at each index below a bound
abbrev pub upto : ℕ → (ℕ → Bool) → Bool
upto zero f = true
upto (suc n) f = f n && upto n f

both_left : (a b : Bool) → T (a && b) → T a
both_left true b t = tt
both_left false b t = t

both_right : (a b : Bool) → T (a && b) → T b
both_right true b t = t
both_right false b t = absurd t

last_or_below : (n : ℕ) (f : ℕ → Bool) (k : ℕ) → k < suc n → T (f n) → (k < n → T (f k)) → (b : Bool) → ltb k n ≡ b → T (f k)
last_or_below n f k h t below true e = below (ltb-true k n e)
last_or_below n f k h t below false e =
    let q : n ≤ k = ltb-false k n e in
    let p : n ≡ k = omega arith in
    subst (λ (i : ℕ). T (f i)) p t

-- so it holds at each of them
pub at_index : (n : ℕ) (f : ℕ → Bool) → T (upto n f) → (k : ℕ) → k < n → T (f k)
at_index zero f t k h = absurd (not-suc-le-zero h)
at_index (suc n) f t k h =
    last_or_below n f k h (both_left (f n) (upto n f) t) (λ b. at_index n f (both_right (f n) (upto n f) t) k b) (ltb k n) refl

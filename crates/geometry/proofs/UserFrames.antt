-- User frames as ranges; none is a header's; what follows one. Assumes nothing.
use Prim.Native.Nat.{ℕ, ◌+◌, ◌≤◌}
use mathlib.Core.Path.{◌≡◌, refl}
use mathlib.Core.Bool.{Bool, true, false, ◌&&◌, ◌||◌}
use mathlib.Core.Logic.{◌⊎◌, inl, inr, ⊎_elim}
use native.Mathlib.Decide.{dec_le}
use native.Mathlib.Omega.{arith}
use borrow.Author.Tests.{leb-true, le-leb}
use lib.Dec.{leb}
use Rattle.geometry.specs.Cartridge.{is_user, is_header}
use Rattle.geometry.proofs.TestLaws.{or_true, and_true, either_left, either_right}

-- an address of one of two ranges
pub ranges : (a b c d e : ℕ) → ((leb a e && leb e b) || (leb c e && leb e d)) ≡ true → ((a ≤ e) × (e ≤ b)) ⊎ ((c ≤ e) × (e ≤ d))
ranges a b c d e h =
    ⊎_elim
    (λ t. let s = and_true (leb a e) (leb e b) t in inl (leb-true a e s.0, leb-true e b s.1))
    (λ t. let s = and_true (leb c e) (leb e d) t in inr (leb-true c e s.0, leb-true e d s.1))
    (or_true (leb a e && leb e b) (leb c e && leb e d) h)

abbrev pub User : ℕ → ℕ → Type 0
User last a = ((10 ≤ a) × (a ≤ 2989)) ⊎ ((3000 ≤ a) × (a ≤ last))

pub user_ranges : (last a : ℕ) → is_user last a ≡ true → User last a
user_ranges last a h = ranges 10 2989 3000 last a h

pub ranges_user : (last a : ℕ) → User last a → is_user last a ≡ true
ranges_user last a (inl h) = either_left (leb 10 a && leb a 2989) (leb 3000 a && leb a last) (rw (le-leb 10 a h.0, le-leb a 2989 h.1))
ranges_user last a (inr h) = either_right (leb 10 a && leb a 2989) (leb 3000 a && leb a last) (rw (le-leb 3000 a h.0, le-leb a last h.1))

-- no address is both a header's and a user frame's
pub header_not_user : (last a : ℕ) → is_header a ≡ true → is_user last a ≡ true → ⊥
header_not_user last a h u =
    ⊎_elim
    (λ x. ⊎_elim (λ y. omega (arith, x.1, y.0)) (λ y. omega (arith, x.1, y.0)) (user_ranges last a u))
    (λ x. ⊎_elim (λ y. omega (arith, x.0, y.1)) (λ y. omega (arith, x.1, y.0)) (user_ranges last a u))
    (ranges 5 9 2990 2994 a h)

pub user_not_header : (last a : ℕ) → is_user last a ≡ true → is_header a ≡ false
user_not_header last a u = go (is_header a) refl
  where
    go : (b : Bool) → is_header a ≡ b → is_header a ≡ false
    go true h = absurd (header_not_user last a h u)
    go false h = h

-- where user data goes on: a user frame, or the first address of the gap
abbrev pub Stand : ℕ → ℕ → Type 0
Stand last a = (is_user last a ≡ true) ⊎ (a ≡ 2990)

pub user_next : (last a : ℕ) → is_user last a ≡ true → a + 1 ≤ last → Stand last (a + 1)
user_next last a u l = go (user_ranges last a u) (dec_le (a + 1) 2989)
  where
    go : User last a → Dec (a + 1 ≤ 2989) → Stand last (a + 1)
    go (inl h) (yes g) = inl (ranges_user last (a + 1) (inl (omega (arith, h.0), g)))
    go (inl h) (no g) = inr (omega (arith, h.1))
    go (inr h) g = inl (ranges_user last (a + 1) (inr (omega (arith, h.0), l)))

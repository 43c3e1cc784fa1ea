-- `agree` tells whether two lists are equal, as the library's equality of slices does. Assumes nothing.
use mathlib.Core.Path.{◌≡◌, refl, sym, ◌∙◌}
use mathlib.Core.Bool.{true}
use mathlib.Core.List.{List, [], ◌∷◌}
use Prim.Native.Nat.{ℕ}
use lib.Dec.{eqb}
use Rattle.std.proofs.lemmas.Cmp.{nat_list_eq_equiv}
use Rattle.std.specs.Cmp.Lexicographic.{same_text}
use lib.Pointwise.{pointwise}
use Rattle.buffer.specs.Bytes.{agree}

-- in either order
pub agree_pointwise : (a b : List ℕ) → agree a b ≡ pointwise eqb a b
unfolding agree
agree_pointwise [] [] = refl
agree_pointwise [] (y ∷ ys) = refl
agree_pointwise (x ∷ xs) [] = refl
agree_pointwise (x ∷ xs) (y ∷ ys) = rw (agree_pointwise xs ys)

pub agree_turned : (a b : List ℕ) → agree a b ≡ pointwise eqb b a
agree_turned a b = agree_pointwise a b ∙ nat_list_eq_equiv.symm a b

-- so it is true of equal lists, and of no others
pub agree_same : (a : List ℕ) → agree a a ≡ true
agree_same a = agree_pointwise a a ∙ nat_list_eq_equiv.refl a

pub agree_is : (a b : List ℕ) → agree a b ≡ true → a ≡ b
agree_is a b h = same_text a b (sym h ∙ agree_pointwise a b)

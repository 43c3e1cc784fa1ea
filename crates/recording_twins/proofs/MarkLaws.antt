-- Marks as flags and back. Assumes nothing.
use mathlib.Core.Path.{◌≡◌, refl, ap, ap₂, ◌∙◌}
use mathlib.Core.Bool.{Bool, true, false, ◌&&◌}
use mathlib.Core.List.{List, [], ◌∷◌, ◌++◌, map}
use Prim.Native.Nat.{ℕ, zero, suc, ◌+◌, ◌<◌}
use native.Mathlib.Nat.{not-suc-le-zero, le_of_suc-le-suc}
use native.Mathlib.Numerals.{add-one}
use lib.Dec.{leb}
use lib.ListN.{length, take, drop, get_or, set}
use Rattle.geometry.proofs.TestLaws.{and_true}
use Rattle.exchange_twins.specs.Numbers.{is_flag, flag_of, flag_number}
use Rattle.exchange_twins.proofs.FlagLaws.{flag_back, flag_number_lem}
use Rattle.recording_twins.specs.Marks.{all_flags}

-- one more of what is made of each element
map_suc : {A B : Type 0} (f : A → B) (n : ℕ) (s : List A) (d : List B) (x : A) → n < length s → n < length d → set (take n (map f s) ++ drop n d) n (f (get_or s n x)) ≡ take (suc n) (map f s) ++ drop (suc n) d
map_suc f n [] d x h k = absurd (not-suc-le-zero h)
map_suc f n (a ∷ s) [] x h k = absurd (not-suc-le-zero k)
map_suc f zero (a ∷ s) (b ∷ d) x h k = refl
map_suc {A} {B} f (suc n) (a ∷ s) (b ∷ d) x h k = ap (λ (l : List B). f a ∷ l) (map_suc f n s d x (le_of_suc-le-suc h) (le_of_suc-le-suc k))

pub map_more : {A B : Type 0} (f : A → B) (n : ℕ) (s : List A) (d : List B) (x : A) → n < length s → n < length d → set (take n (map f s) ++ drop n d) n (f (get_or s n x)) ≡ take (n + 1) (map f s) ++ drop (n + 1) d
map_more f n s d x h k = rw add-one (map_suc f n s d x h k)

-- and one more number that is looked at
and_last : (b : Bool) → (b && true) ≡ b
and_last true = refl
and_last false = refl

and_inner : (a b c : Bool) → (a && (b && c)) ≡ ((a && b) && c)
and_inner true b c = refl
and_inner false b c = refl

all_suc : (i : ℕ) (ns : List ℕ) → i < length ns → all_flags (take (suc i) ns) ≡ all_flags (take i ns) && leb (get_or ns i 0) 1
all_suc i [] h = absurd (not-suc-le-zero h)
all_suc zero (n ∷ ns) h = and_last (leb n 1)
all_suc (suc i) (n ∷ ns) h = ap (λ (b : Bool). leb n 1 && b) (all_suc i ns (le_of_suc-le-suc h)) ∙ and_inner (leb n 1) (all_flags (take i ns)) (leb (get_or ns i 0) 1)

pub all_more : (i : ℕ) (ns : List ℕ) → i < length ns → all_flags (take (i + 1) ns) ≡ all_flags (take i ns) && leb (get_or ns i 0) 1
all_more i ns h = rw add-one (all_suc i ns h)

pub flags_back : (bs : List Bool) → map flag_of (map flag_number bs) ≡ bs
flags_back [] = refl
flags_back (b ∷ bs) = ap₂ (λ (x : Bool) (xs : List Bool). x ∷ xs) (flag_back b) (flags_back bs)

pub flags_known : (bs : List Bool) → all_flags (map flag_number bs) ≡ true
flags_known [] = refl
flags_known (true ∷ bs) = flags_known bs
flags_known (false ∷ bs) = flags_known bs

pub flag_numbers : (ns : List ℕ) → all_flags ns ≡ true → map flag_number (map flag_of ns) ≡ ns
flag_numbers [] h = refl
flag_numbers (n ∷ ns) h = let both = and_true (is_flag n) (all_flags ns) h in ap₂ (λ (x : ℕ) (xs : List ℕ). x ∷ xs) (flag_number_lem n both.0) (flag_numbers ns both.1)

-- A column's characters one by one, from the right. Assumes nothing.
use Rattle.std.proofs.Common.{◌≡◌, ℕ, zero, suc, ◌+◌, ◌-◌, ◌/◌, ◌%◌, ◌<◌, ◌≤◌, Bool, true, false, eqb, ltb, List, [], ◌∷◌, ◌++◌, length, drop, set, replicate, sym, refl, ap, ◌∙◌, append_assoc, not-suc-le-zero, add-one, arith, length-append, drop_of_length-le, ltb-false, ltb-true, ne_eqb}
use Rattle.std.proofs.lemmas.List.{drop-set, replicate_more}
use Rattle.geometry.specs.Pick.{pick}
use Rattle.sheet.specs.Line.{blank, digit, decimal, right_aligned, number_column}

-- a character in front of a number's last digit: a digit, or a blank where none is left
abbrev pub leading : ℕ → ℕ
leading n = pick (eqb n 0) blank (digit (n % 10))

-- so many of them
unfoldable pub lead : ℕ → ℕ → List ℕ
lead zero n = []
lead (suc w) n = lead w (n / 10) ++ (leading n ∷ [])

lead_zero : (w : ℕ) → lead w 0 ≡ replicate w blank
unfolding lead
lead_zero zero = refl
lead_zero (suc w) = rw (lead_zero w) (replicate_more w blank ∙ ap (λ (k : ℕ). replicate k blank) (add-one w))

-- a number with a digit in front of its last
longer : (w : ℕ) (front : List ℕ) (d : ℕ) → right_aligned (suc w) (front ++ (d ∷ [])) ≡ right_aligned w front ++ (d ∷ [])
longer w front d =
    let e : suc w - (length front + 1) ≡ w - length front = omega arith in
    rw (length-append, e) (sym (append_assoc (replicate (w - length front) blank) front (d ∷ [])))

-- the last digit, where the digits in front of it stand as characters of their own
behind : (w n : ℕ) → ((m : ℕ) → 0 < m → number_column w m ≡ lead w m) → number_column (suc w) n ≡ lead w (n / 10) ++ ((0x30 + n % 10) ∷ [])
unfolding number_column decimal
behind w n front = go (ltb n 10) refl
  where
    go : (b : Bool) → ltb n 10 ≡ b → right_aligned (suc w) (decimal (suc w) n) ≡ lead w (n / 10) ++ ((0x30 + n % 10) ∷ [])
    go true e =
        let h = ltb-true n 10 e in
        let q : n / 10 ≡ 0 = omega arith in
        let r : n % 10 ≡ n = omega arith in
        let u : suc w - 1 ≡ w = omega arith in
        rw (e, q, r, lead_zero w) (ap (λ (k : ℕ). replicate k blank ++ ((0x30 + n) ∷ [])) u)
    go false e =
        let h = ltb-false n 10 e in
        rw e (longer w (decimal w (n / 10)) (0x30 + n % 10) ∙ ap (λ (l : List ℕ). l ++ ((0x30 + n % 10) ∷ [])) (front (n / 10) (omega arith)))

all_digits : (w n : ℕ) → 0 < n → number_column w n ≡ lead w n
unfolding number_column decimal lead
all_digits zero n h = refl
all_digits (suc w) n h = behind w n (all_digits w) ∙ rw (ne_eqb n 0 (λ (e : n ≡ 0). omega arith))

pub last_digit : (w n : ℕ) → number_column (suc w) n ≡ lead w (n / 10) ++ ((0x30 + n % 10) ∷ [])
last_digit w n = behind w n (all_digits w)

-- a column is as wide as it is to be
length_lead : (w n : ℕ) → length (lead w n) ≡ w
unfolding lead
length_lead zero n = refl
length_lead (suc w) n = rw (length-append, length_lead w (n / 10)) (add-one w)

pub length_number : (w n : ℕ) → length (number_column w n) ≡ w
unfolding number_column decimal
length_number zero n = refl
length_number (suc w) n = rw (last_digit w n, length-append, length_lead w (n / 10)) (add-one w)

-- a column is filled from the right: the last digit, a turn, and the end
pub fill_last : (l : List ℕ) (n : ℕ) → 0 < length l → number_column (length l) n ≡ lead (length l - 1) (n / 10) ++ drop (length l - 1) (set l (length l - 1) (0x30 + n % 10))
fill_last [] n h = absurd (not-suc-le-zero h)
fill_last (x ∷ xs) n h =
    let w : length (x ∷ xs) - 1 ≡ length xs = omega arith in
    let rest : drop (length xs + 1) (x ∷ xs) ≡ [] = drop_of_length-le (x ∷ xs) {i = length xs + 1} (omega arith) in
    rw w (last_digit (length xs) n ∙ ap (λ (t : List ℕ). lead (length xs) (n / 10) ++ t) (sym (drop-set (x ∷ xs) (length xs) (0x30 + n % 10) (omega arith) ∙ ap (λ (t : List ℕ). (0x30 + n % 10) ∷ t) rest)))

pub fill_more : (l all : List ℕ) (i left : ℕ) → 0 < i → i < length l → all ≡ lead i left ++ drop i l → all ≡ lead (i - 1) (left / 10) ++ drop (i - 1) (set l (i - 1) (leading left))
unfolding lead
fill_more l all zero left p h e = absurd (not-suc-le-zero p)
fill_more l all (suc i) left p h e =
    let w : suc i - 1 ≡ i = omega arith in
    let f : drop i (set l i (leading left)) ≡ leading left ∷ drop (suc i) l = drop-set l i (leading left) (omega arith) ∙ ap (λ (k : ℕ). leading left ∷ drop k l) (add-one i) in
    rw (w, f) (e ∙ append_assoc (lead i (left / 10)) (leading left ∷ []) (drop (suc i) l))

pub fill_end : (l all : List ℕ) (i left : ℕ) → i ≤ 0 → all ≡ lead i left ++ drop i l → l ≡ all
unfolding lead
fill_end l all zero left h e = sym e
fill_end l all (suc i) left h e = absurd (not-suc-le-zero h)

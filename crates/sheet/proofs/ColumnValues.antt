-- A column tells its number. Assumes nothing.
use Rattle.std.proofs.Common.{◌≡◌, ℕ, zero, suc, ◌+◌, ◌-◌, ◌*◌, ◌/◌, ◌%◌, ◌^◌, ◌<◌, Bool, true, false, eqb, List, [], ◌∷◌, ◌++◌, sym, refl, ap, ◌∙◌, pow-suc, arith, eqb-true}
use native.Mathlib.Nat.{pow-zero}
use Rattle.sheet.specs.Line.{decimal, number_column}
use Rattle.sheet.specs.Columns.{value_of, ColumnsTell}
use Rattle.sheet.proofs.Columns.{leading, lead, last_digit, length_number}

value_behind : (n : ℕ) (cs : List ℕ) (c : ℕ) → value_of n (cs ++ (c ∷ [])) ≡ value_of n cs * 10 + (c - 0x30)
unfolding value_of
value_behind n [] c = refl
value_behind n (d ∷ cs) c = value_behind (n * 10 + (d - 0x30)) cs c

leading_value : (n : ℕ) → leading n - 0x30 ≡ n % 10
leading_value n = go (eqb n 0) refl
  where
    go : (b : Bool) → eqb n 0 ≡ b → leading n - 0x30 ≡ n % 10
    go true e = rw e (sym (ap (λ (k : ℕ). k % 10) (eqb-true n 0 e)))
    go false e = rw e (omega arith)

lead_value : (w n : ℕ) → n < 10 ^ w → value_of 0 (lead w n) ≡ n
unfolding value_of lead
lead_value zero n h = omega (arith, simp pow-zero at h)
lead_value (suc w) n h =
    let low : n < 10 ^ w * 10 = rw pow-suc at h in
    value_behind 0 (lead w (n / 10)) (leading n) ∙ rw (lead_value w (n / 10) (omega arith), leading_value n) (omega arith)

tells : (w n : ℕ) → n < 10 ^ w → value_of 0 (number_column w n) ≡ n
unfolding value_of number_column decimal
tells zero n h = omega (arith, simp pow-zero at h)
tells (suc w) n h =
    let low : n < 10 ^ w * 10 = rw pow-suc at h in
    let digit : 0x30 + n % 10 - 0x30 ≡ n % 10 = omega arith in
    rw (last_digit w n, value_behind 0 (lead w (n / 10)) (0x30 + n % 10), lead_value w (n / 10) (omega arith), digit) (omega arith)

pub columns_tell : ColumnsTell
columns_tell = record { wide = length_number; tell = tells }

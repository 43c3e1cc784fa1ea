-- A flag as a number and back. Assumes nothing.
use Prim.Native.Nat.{ℕ}
use mathlib.Core.Path.{◌≡◌, refl}
use mathlib.Core.Bool.{Bool, true, false}
use Rattle.std.proofs.Common.{rules}
use Rattle.exchange_twins.specs.Numbers.{is_flag, flag_of, flag_number}

pub flag_back : (b : Bool) → flag_of (flag_number b) ≡ b
flag_back true = refl
flag_back false = refl

pub flag_known : (b : Bool) → is_flag (flag_number b) ≡ true
flag_known true = refl
flag_known false = refl

pub flag_number_lem : (n : ℕ) → is_flag n ≡ true → flag_number (flag_of n) ≡ n
flag_number_lem n h = search rules

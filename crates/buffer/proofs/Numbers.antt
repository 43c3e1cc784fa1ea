-- A number is read back from its bytes, and equal bytes are equal numbers. Assumes nothing.
use mathlib.Core.Path.{◌≡◌}
use mathlib.Core.List.{List}
use Prim.Native.Nat.{ℕ, ◌+◌, ◌*◌, ◌/◌, ◌%◌, ◌^◌, ◌<◌}
use native.Mathlib.Nat.{div-div-eq-div-mul, div-add-mod', mod-eq_of_lt}
use native.Mathlib.Omega.{arith}
use lib.ListN.{get_or}
use Rattle.buffer.specs.Bytes.{get16, get32}

pub be16_back : (v : ℕ) → v < 2 ^ 16 → v / 256 % 256 * 256 + v % 256 ≡ v
be16_back v h = omega arith

digits : (v q1 q2 q3 r0 r1 r2 r3 : ℕ) → q1 * 256 + r0 ≡ v → q2 * 256 + r1 ≡ q1 → q3 * 256 + r2 ≡ q2 → r3 ≡ q3 → r3 * 16777216 + r2 * 65536 + r1 * 256 + r0 ≡ v
digits v q1 q2 q3 r0 r1 r2 r3 a b c d = omega arith

pub be32_back : (v : ℕ) → v < 2 ^ 32 → v / 16777216 % 256 * 16777216 + v / 65536 % 256 * 65536 + v / 256 % 256 * 256 + v % 256 ≡ v
be32_back v h =
    let d2 : v / 65536 * 256 + v / 256 % 256 ≡ v / 256 = rw (← div-div-eq-div-mul v 256 256) (div-add-mod' (v / 256) 256) in
    let d3 : v / 16777216 * 256 + v / 65536 % 256 ≡ v / 65536 = rw (← div-div-eq-div-mul v 65536 256) (div-add-mod' (v / 65536) 256) in
    let top : v / 16777216 < 256 = omega arith in
    digits v _ _ _ _ _ _ _ (div-add-mod' v 256) d2 d3 (mod-eq_of_lt top)

module _ (a b : List ℕ) (m n : ℕ) (first : get_or a m 0 ≡ get_or b n 0) (second : get_or a (m + 1) 0 ≡ get_or b (n + 1) 0) where
  pub same16 : get16 a m ≡ get16 b n
  same16 = rw (first, second)

  pub same32 : get_or a (m + 2) 0 ≡ get_or b (n + 2) 0 → get_or a (m + 3) 0 ≡ get_or b (n + 3) 0 → get32 a m ≡ get32 b n
  same32 third fourth = rw (first, second, third, fourth)

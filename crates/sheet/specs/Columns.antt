-- 02, Card 9: a column is as wide as it should be, and tells its number.
use Rattle.std.specs.Prelude.{◌≡◌, ℕ, ◌+◌, ◌-◌, ◌*◌, ◌^◌, ◌<◌, List, [], ◌∷◌, length}
use Rattle.sheet.specs.Line.{digit, number_column}

-- the digits read from left to right, behind those read so far; the subtraction stops at 0, so a blank counts as 0
unfoldable pub value_of : ℕ → List ℕ → ℕ
value_of n [] = n
value_of n (c ∷ cs) = value_of (n * 10 + (c - digit 0)) cs

-- of every number that has room: any number of 32 bits and any count of blocks, at most 4,294,967,296, has in 10 characters
pub record ColumnsTell : Type 0 where
  pub wide : (w n : ℕ) → length (number_column w n) ≡ w
  pub tell : (w n : ℕ) → n < 10 ^ w → value_of 0 (number_column w n) ≡ n

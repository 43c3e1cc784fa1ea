-- Bytes as lists of numbers; fields of several bytes are big-endian.
use Rattle.std.specs.Prelude.{ℕ, ◌+◌, ◌*◌, ◌/◌, ◌%◌, Bool, true, false, ◌&&◌, List, [], ◌∷◌, eqb, get_or, set, replicate}

-- so many zero bytes
abbrev pub zeros : ℕ → List ℕ
zeros n = replicate n 0

-- the bytes of a number of 16 and of 32 bits, most significant first
abbrev pub be16 : ℕ → List ℕ
be16 v = v / 256 % 256 ∷ v % 256 ∷ []

abbrev pub be32 : ℕ → List ℕ
be32 v = v / 16777216 % 256 ∷ v / 65536 % 256 ∷ v / 256 % 256 ∷ v % 256 ∷ []

-- the number that stands at an index; bytes past the end count as 0
abbrev pub get16 : List ℕ → ℕ → ℕ
get16 s at = get_or s at 0 * 256 + get_or s (at + 1) 0

abbrev pub get32 : List ℕ → ℕ → ℕ
get32 s at = get_or s at 0 * 16777216 + get_or s (at + 1) 0 * 65536 + get_or s (at + 2) 0 * 256 + get_or s (at + 3) 0

-- a list with a number's bytes stored from an index on; bytes past the end are left alone
abbrev pub put16 : List ℕ → ℕ → ℕ → List ℕ
put16 s at v = set (set s at (v / 256 % 256)) (at + 1) (v % 256)

abbrev pub put32 : List ℕ → ℕ → ℕ → List ℕ
put32 s at v = set (set (set (set s at (v / 16777216 % 256)) (at + 1) (v / 65536 % 256)) (at + 2) (v / 256 % 256)) (at + 3) (v % 256)

-- two lists are the same
unfoldable pub agree : List ℕ → List ℕ → Bool
agree [] [] = true
agree [] (y ∷ ys) = false
agree (x ∷ xs) [] = false
agree (x ∷ xs) (y ∷ ys) = eqb x y && agree xs ys

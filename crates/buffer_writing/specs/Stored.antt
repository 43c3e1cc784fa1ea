-- A list with the first of so many bytes stored from an index on; places past its end are left alone.
use Rattle.std.specs.Prelude.{ℕ, zero, suc, ◌+◌, List, get_or, set}

abbrev pub stored_upto : ℕ → List ℕ → ℕ → List ℕ → List ℕ
stored_upto zero s at bytes = s
stored_upto (suc n) s at bytes = set (stored_upto n s at bytes) (at + n) (get_or bytes n 0)

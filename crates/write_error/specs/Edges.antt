-- 01, "Edges": the cases marked P, each with what it must give.
use Rattle.std.specs.Prelude.{ℕ, ◌+◌, List, [], ◌∷◌}
use Rattle.geometry.specs.declared.cartridge.LoadPoint.{LoadPoint}
use Rattle.geometry.specs.declared.cartridge.LoadPoint.TheVariants.{Beginning, Centre}
use Rattle.geometry.specs.Place.{as_address, PlaceSaid, address, refused}
use Rattle.geometry.specs.Cartridge.{last_of}
use Rattle.write_error.specs.WriteError.{target_of}

-- a question to the definitions
pub data Question : Type 0 where
  -- LAST of SEGTRK × TRKS, by load point
  last_for : ℕ → ℕ → LoadPoint → Question
  -- the target of an error at p with a skip, where END is given
  target_for : ℕ → ℕ → ℕ → Question

-- a question with what it must give
pub record Case : Type 0 where
  pub question : Question
  pub expected : PlaceSaid

-- what the definitions give
abbrev pub answer : Question → PlaceSaid
answer (last_for segtrk trks load) = last_of (record { segtrk = segtrk; trks = trks; load = load })
answer (target_for p skip end) = target_of (as_address p) skip (as_address (end + 1))

abbrev case : Question → PlaceSaid → Case
case q e = record { question = q; expected = e }

-- the table
abbrev pub cases : List Case
cases =
    case (last_for 1000 12 Beginning) (address 11999)
    ∷ case (last_for 1000 12 Centre) (address 10811)
    ∷ case (last_for 3001 1 Beginning) (address 3000)
    ∷ case (last_for 3000 1 Beginning) (refused 2)
    ∷ case (target_for 100 10 11999) (address 110)
    ∷ case (target_for 100 0 11999) (address 101)
    ∷ case (target_for 2985 4 11999) (address 2989)
    ∷ case (target_for 2985 5 11999) (address 3000)
    ∷ case (target_for 2985 14 11999) (address 3000)
    ∷ case (target_for 2985 16 11999) (address 3001)
    ∷ case (target_for 11990 9 11999) (address 11999)
    ∷ case (target_for 11990 10 11999) (refused 9)
    ∷ []

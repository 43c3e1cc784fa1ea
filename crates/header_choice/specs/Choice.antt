-- 01, "AUX bytes": which of two lent header frames is handed back.
use Rattle.std.specs.Prelude.{ℕ, List, [], ◌≡◌, eqb, ltb, take, Result, Ok, Err}
use Rattle.std.specs.Borrow.{Bor}
use Rattle.geometry.specs.Pick.{pick}
use Rattle.geometry.specs.Refusal.{refusal_number}
use Rattle.geometry.specs.declared.refusal.Refusal.{Refusal}
use Rattle.geometry.specs.declared.cartridge.Geometry.{Geometry}
use Rattle.frame.specs.Lengths.{data_length}
use Rattle.frame.specs.declared.header.Header.{Header}
use Rattle.buffer.specs.Bytes.{agree}
use Rattle.header_choice.specs.declared.Choice.{Choice}
use Rattle.header_choice.specs.declared.Choice.TheVariants.{First, Second}
use Rattle.header.specs.Read.{CheckedSaid, valid, refused, read_header}

-- the first, the second, or neither, with the number of the refusal
pub data ChoiceSaid : Type 0 where
  first : ChoiceSaid
  second : ChoiceSaid
  neither : ℕ → ChoiceSaid

-- the code's answer, a refusal by its number
abbrev pub choice_said : Result Choice Refusal → ChoiceSaid
choice_said (Ok First) = first
choice_said (Ok Second) = second
choice_said (Err r) = neither (refusal_number r)

-- of two valid ones, by their update counts; where these are equal the first, if both hold the same data bytes, else refusal 3
unfoldable pub newer_of : Header → Header → List ℕ → List ℕ → ChoiceSaid
newer_of h k a b =
    pick (ltb k.update h.update) first
    (pick (ltb h.update k.update) second
    (pick (agree (take data_length a) (take data_length b)) first (neither 3)))

-- beside a valid one refusal 3 is passed over, and any other refusal is the choice's
abbrev pub gives_way : ℕ → ChoiceSaid → ChoiceSaid
gives_way n other = pick (eqb n 3) other (neither n)

-- of two refusals the lower, which is checked first
abbrev pub lower_of : ℕ → ℕ → ℕ
lower_of m n = pick (ltb n m) n m

-- by what each of the two is by itself
abbrev pub choice_by : CheckedSaid → CheckedSaid → List ℕ → List ℕ → ChoiceSaid
choice_by (valid h) (valid k) a b = newer_of h k a b
choice_by (valid h) (refused n) a b = gives_way n first
choice_by (refused m) (valid k) a b = gives_way m second
choice_by (refused m) (refused n) a b = neither (lower_of m n)

-- of two lent frames
unfoldable pub choice_of : Geometry → List ℕ → List ℕ → ChoiceSaid
choice_of g a b = choice_by (read_header g a) (read_header g b) a b

-- r is the caller's first or second part itself, or an empty part where the choice is refused
abbrev pub Returned : ChoiceSaid → Bor (List ℕ) → Bor (List ℕ) → Bor (List ℕ) → Type 0
Returned first a b r = r ≡ a
Returned second a b r = r ≡ b
Returned (neither n) a b r = r.now ≡ []

-- the refusal's number, 0 where the choice is not refused
abbrev pub choice_number : ChoiceSaid → ℕ
choice_number first = 0
choice_number second = 0
choice_number (neither n) = n

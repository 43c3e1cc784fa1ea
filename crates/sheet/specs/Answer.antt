-- 02, Card 9: what a call returns, and the line that it leaves.
use Rattle.std.specs.Prelude.{ℕ, List, Result, Ok, Err}
use Rattle.geometry.specs.declared.refusal.Refusal.{Refusal}
use Rattle.geometry.specs.Refusal.{refusal_number}
use Rattle.sheet.specs.declared.sheet.Sheet.{Sheet}
use Rattle.sheet.specs.declared.sheet.Answer.{Answer}
use Rattle.sheet.specs.declared.sheet.Answer.TheVariants.{Nothing, Line}

-- what a call answers: nothing is to be printed, or the lent line is, or it is refused with a number
pub data AnswerSaid : Type 0 where
  nothing : AnswerSaid
  whole_line : AnswerSaid
  refused : ℕ → AnswerSaid

abbrev pub answer_said : Result Answer Refusal → AnswerSaid
answer_said (Ok Nothing) = nothing
answer_said (Ok Line) = whole_line
answer_said (Err r) = refused (refusal_number r)

-- the sheet and the answer, and the bytes of the lent line
pub record EnteredSaid : Type 0 where
  pub sheet : Sheet
  pub said : AnswerSaid
  pub line : List ℕ

abbrev pub entered_said : Sheet × Result Answer Refusal → List ℕ → EnteredSaid
entered_said r l = record { sheet = r.0; said = answer_said r.1; line = l }

-- nothing is printed, and the lent line is left alone
abbrev pub silent : Sheet → List ℕ → EnteredSaid
silent s l = record { sheet = s; said = nothing; line = l }

-- a line is printed: it stands in the lent line
abbrev pub printing : Sheet → List ℕ → EnteredSaid
printing s text = record { sheet = s; said = whole_line; line = text }

-- 01's refusal 1: the lent line is left alone
abbrev pub refusing : Sheet → List ℕ → EnteredSaid
refusing s l = record { sheet = s; said = refused 1; line = l }

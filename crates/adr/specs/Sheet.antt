-- The calls of a shelf sheet, from numbers to numbers: each is the call on the sheet that they are, and numbers that are none come back with 7.
use Rattle.std.specs.Prelude.{ℕ, List}
use Rattle.geometry.specs.Pick.{pick}
use Rattle.sheet.specs.declared.sheet.Sheet.{Sheet}
use Rattle.sheet.specs.Answer.{EnteredSaid}
use Rattle.sheet_twins.specs.declared.sheet_numbers.AdrSheet.{AdrSheet}
use Rattle.sheet_twins.specs.declared.sheet_answers.AdrSheetEntered.{AdrSheetEntered}
use Rattle.sheet_twins.specs.Sheet.{is_sheet, sheet_of, sheet_twin}
use Rattle.sheet_twins.specs.Answers.{entered_twin, unknown}

-- a call's answer, and the line that it leaves
pub record Entered : Type 0 where
  pub result : AdrSheetEntered
  pub line : List ℕ

-- both together
abbrev pub entered : AdrSheetEntered → List ℕ → Entered
entered r line = record { result = r; line = line }

-- the numbers of what a call returns
abbrev pub lent_twin : EnteredSaid → Entered
lent_twin e = entered (entered_twin e.said (sheet_twin e.sheet)) e.line

-- a call on a sheet, with the line that it is lent: a field, or the end of the dump
unfoldable pub through : (Sheet → List ℕ → EnteredSaid) → AdrSheet → List ℕ → Entered
through call s line = pick (is_sheet s) (lent_twin (call (sheet_of s) line)) (entered (unknown s) line)

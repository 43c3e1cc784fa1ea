-- What the calls of a sheet return, as numbers. Numbers that are no sheet's come back as they are, with 7.
use Rattle.std.specs.Prelude.{ℕ}
use Rattle.sheet.specs.Answer.{AnswerSaid, nothing, whole_line, refused}
use Rattle.sheet_twins.specs.declared.sheet_numbers.AdrSheet.{AdrSheet}
use Rattle.sheet_twins.specs.declared.sheet_answers.AdrSheetEntered.{AdrSheetEntered}

-- what a call answers, by number: 0 refused, 5 nothing, 8 the lent line
abbrev pub with_answer : AdrSheet → ℕ → ℕ → AdrSheetEntered
with_answer s answer number = record { sheet = s; answer = answer; number = number }

-- the numbers of an answer, beside the sheet
abbrev pub entered_twin : AnswerSaid → AdrSheet → AdrSheetEntered
entered_twin nothing s = with_answer s 5 0
entered_twin whole_line s = with_answer s 8 0
entered_twin (refused n) s = with_answer s 0 n

-- numbers that are no sheet's
abbrev pub unknown : AdrSheet → AdrSheetEntered
unknown s = with_answer s 0 7

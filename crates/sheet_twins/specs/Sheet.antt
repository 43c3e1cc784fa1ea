-- A shelf sheet as numbers.
use Rattle.std.specs.Prelude.{Bool, Result, Ok, Err}
use Rattle.geometry.specs.Pick.{pick}
use Rattle.geometry.specs.declared.refusal.Refusal.{Refusal}
use Rattle.geometry.specs.declared.refusal.Refusal.TheVariants.{Phase}
use Rattle.sheet.specs.declared.sheet.Sheet.{Sheet}
use Rattle.exchange_twins.specs.Numbers.{is_flag, flag_of, flag_number}
use Rattle.sheet_twins.specs.declared.sheet_numbers.AdrSheet.{AdrSheet}

-- whether the numbers are a sheet's
abbrev pub is_sheet : AdrSheet → Bool
is_sheet t = is_flag t.ended

-- the sheet that has these numbers
abbrev pub sheet_of : AdrSheet → Sheet
sheet_of t = record { job = t.job; first = t.first; next = t.next; ended = flag_of t.ended }

-- its numbers
abbrev pub sheet_twin : Sheet → AdrSheet
sheet_twin s = record { first = s.first; next = s.next; job = s.job; ended = flag_number s.ended }

-- numbers that are no sheet's are refused with 7
abbrev pub checked_sheet : AdrSheet → Result Sheet Refusal
checked_sheet t = pick (is_sheet t) (Ok (sheet_of t)) (Err Phase)

-- A sheet as numbers and back. Assumes nothing.
use mathlib.Core.Path.{◌≡◌}
use mathlib.Core.Bool.{true}
use Rattle.sheet.specs.declared.sheet.Sheet.{Sheet}
use Rattle.exchange_twins.specs.ComesBack.{ComesBack}
use Rattle.exchange_twins.proofs.FlagLaws.{flag_back, flag_known, flag_number_lem}
use Rattle.sheet_twins.specs.declared.sheet_numbers.AdrSheet.{AdrSheet}
use Rattle.sheet_twins.specs.Sheet.{is_sheet, sheet_of, sheet_twin}

-- every sheet comes back from its numbers
sheet_back : (s : Sheet) → sheet_of (sheet_twin s) ≡ s
sheet_back s = rw (flag_back s.ended)

-- and its numbers are a sheet's
sheet_known : (s : Sheet) → is_sheet (sheet_twin s) ≡ true
sheet_known s = cc (flag_known s.ended)

-- numbers that are a sheet's come back from their sheet
sheet_numbers_lem : (t : AdrSheet) → is_sheet t ≡ true → sheet_twin (sheet_of t) ≡ t
sheet_numbers_lem t h = rw (flag_number_lem t.ended h)

pub sheet_comes_back : ComesBack is_sheet sheet_of sheet_twin
sheet_comes_back = record { back = sheet_back; known = sheet_known; numbers = sheet_numbers_lem }

-- 02, Card 9: the statements over whole dumps and over all numbers.
use Rattle.sheet.specs.Prints.{PrintsSheet}
use Rattle.sheet.specs.Cases.{Cases}
use Rattle.sheet.specs.Columns.{ColumnsTell}

-- all of them, each by its name
pub record Promises : Type 0 where
  -- the calls print the sheet of every dump
  pub prints_sheet : PrintsSheet
  -- worked cases, 02's own example among them
  pub cases : Cases
  -- a column is as wide as it should be and tells its number
  pub columns_tell : ColumnsTell

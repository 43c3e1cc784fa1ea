-- What is stated over whole dumps and over all numbers. Assumes nothing.
use Rattle.sheet.specs.Promises.{Promises}
use Rattle.sheet.proofs.Prints.{prints_sheet}
use Rattle.sheet.proofs.Cases.{cases}
use Rattle.sheet.proofs.ColumnValues.{columns_tell}

pub promises : Promises
promises = record { prints_sheet = prints_sheet; cases = cases; columns_tell = columns_tell }

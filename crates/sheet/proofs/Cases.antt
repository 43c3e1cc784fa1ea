-- The worked cases hold, by computation. Assumes nothing.
use Rattle.std.proofs.Common.{refl}
use Rattle.sheet.specs.Line.{decimal, number_column, line_of, heading, asterisks}
use Rattle.sheet.specs.Step.{step_of}
use Rattle.sheet.specs.Calls.{open_of, enter_of, finish_of}
use Rattle.sheet.specs.Dump.{fields_of, entries_from, is_whole, jobs_from, lines_from, sheet_of}
use Rattle.sheet.specs.Prints.{enter_all}
use Rattle.sheet.specs.Cases.{Cases}

pub cases : Cases
unfolding decimal number_column line_of heading asterisks step_of open_of enter_of finish_of fields_of entries_from is_whole jobs_from lines_from sheet_of enter_all
cases = record { example_printed = refl; sheets = refl; late = refl; at_highest_number = refl; most_blocks = refl }

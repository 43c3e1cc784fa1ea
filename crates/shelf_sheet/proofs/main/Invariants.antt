-- The loop ends: what is left of the numbers falls.
use Rattle.shelf_sheet.proofs.Onward.{left}
use Rattle.shelf_sheet.proofs.main.Given as goal

abbrev pub decreases-loop-s : goal.decreases-loop-s
decreases-loop-s l = left l.s

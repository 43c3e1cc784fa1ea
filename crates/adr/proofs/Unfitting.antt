-- D, W and T that do not fit are refused with 4 at an addition too, where the reading is at its end. Assumes nothing.
use Prim.Native.Nat.{ℕ}
use mathlib.Core.Path.{◌≡◌, ap, ◌∙◌}
use mathlib.Core.Bool.{true}
use Rattle.geometry.proofs.PickLaws.{pick_t}
use Rattle.recording_state.specs.Open.{open_refused}
use Rattle.reading_state.specs.State.{is_at_end}
use Rattle.reading_twins.specs.declared.reading_numbers.AdrReading.{AdrReading}
use Rattle.reading_twins.specs.Reading.{is_reading, reading_state_of}
use Rattle.adding_opening.specs.AtEnd.{open_at_end_of}
use Rattle.numbers.specs.Arguments.{fitting_of, fitting_depth}
use Rattle.numbers.proofs.Unfitting.{Unfitting, misfit}
use Rattle.recording_answers.specs.Recording.{outcome_twin}
use Rattle.adr.specs.Add.{at_end_through}

pub at_end_4 : (r : AdrReading) (depth blocks tail : ℕ) → is_reading r ≡ true → is_at_end (reading_state_of r) ≡ true → Unfitting depth blocks tail → at_end_through r (fitting_depth depth tail) (fitting_of blocks) (fitting_of tail) ≡ outcome_twin (open_refused 4)
unfolding at_end_through open_at_end_of
at_end_4 r depth blocks tail h k l = ap outcome_twin (pick_t _ h ∙ pick_t _ k ∙ pick_t _ (misfit depth blocks tail l))

-- Opening a recording at the end of a reading, from numbers to numbers: numbers that are no reading's are refused with 7.
use Rattle.std.specs.Prelude.{ℕ}
use Rattle.geometry.specs.Pick.{pick}
use Rattle.recording_state.specs.Open.{open_refused}
use Rattle.adding_opening.specs.AtEnd.{open_at_end_of}
use Rattle.reading_twins.specs.declared.reading_numbers.AdrReading.{AdrReading}
use Rattle.reading_twins.specs.Reading.{is_reading, reading_state_of}
use Rattle.recording_answers.specs.declared.recording_answers.AdrRecordOutcome.{AdrRecordOutcome}
use Rattle.recording_answers.specs.Recording.{outcome_twin}

-- the opening at the end of the reading that these numbers are
unfoldable pub at_end_through : AdrReading → ℕ → ℕ → ℕ → AdrRecordOutcome
at_end_through r depth blocks tail = outcome_twin (pick (is_reading r) (open_at_end_of (reading_state_of r) depth blocks tail) (open_refused 7))

-- Stages as numbers. What stands for none has some value all the same; the test keeps it from being used.
use Rattle.std.specs.Prelude.{ℕ, Bool, eqb, leb}
use Rattle.geometry.specs.Pick.{pick}
use Rattle.recording_state.specs.declared.state.Stage.{Stage}
use Rattle.recording_state.specs.declared.state.Stage.TheVariants as S

-- a stage is 0 to 3, in their order
abbrev pub is_stage : ℕ → Bool
is_stage n = leb n 3

-- the stage that a number is
abbrev pub stage_of : ℕ → Stage
stage_of n = pick (eqb n 0) S.OpeningHeaders (pick (eqb n 1) S.Elements (pick (eqb n 2) S.ClosingHeaders S.Done))

-- a stage's number
abbrev pub stage_number : Stage → ℕ
stage_number S.OpeningHeaders = 0
stage_number S.Elements = 1
stage_number S.ClosingHeaders = 2
stage_number S.Done = 3

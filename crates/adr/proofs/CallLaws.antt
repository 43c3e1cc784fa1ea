-- A call on numbers that a session comes from. Assumes nothing.
use mathlib.Core.Path.{◌≡◌}
use mathlib.Core.Bool.{Bool, true, false}
use Rattle.std.specs.Prelude.{Ok, Err}
use Rattle.std.proofs.Common.{rules}
use Rattle.geometry.specs.Pick.{pick}
use Rattle.geometry.specs.declared.refusal.Refusal.TheVariants.{Phase}
use Rattle.recording_state.specs.declared.state.State.{State}
use Rattle.recording_state.specs.State.{OutcomeSaid}
use Rattle.recording_twins.specs.declared.recording_numbers.AdrRecording.{AdrRecording}
use Rattle.recording_twins.specs.Recording.{is_recording, recording_state_of, checked_recording}
use Rattle.recording_answers.specs.declared.recording_answers.AdrRecordOutcome.{AdrRecordOutcome}
use Rattle.recording_answers.specs.Recording.{outcome_twin, unknown}
use Rattle.adr.specs.Record.{through}

pub through_session : (call : State → OutcomeSaid) (s : AdrRecording) (t : State) (said : OutcomeSaid) (r : AdrRecordOutcome) → Ok t ≡ checked_recording s → r ≡ outcome_twin said → said ≡ call t → r ≡ through call s
unfolding through
through_session call s t said r h k l = go (is_recording s) h
  where
    go : (b : Bool) → Ok t ≡ pick b (Ok (recording_state_of s)) (Err Phase) → r ≡ pick b (outcome_twin (call (recording_state_of s))) (unknown s)
    go true e = search rules
    go false e = search rules

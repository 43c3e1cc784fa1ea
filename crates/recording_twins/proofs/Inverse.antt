-- A recording session as numbers and back. Assumes nothing.
use Prim.Native.Nat.{ℕ}
use mathlib.Core.Path.{◌≡◌, refl}
use mathlib.Core.Bool.{true}
use Rattle.std.proofs.Common.{rules}
use Rattle.geometry.proofs.TestLaws.{and_true}
use Rattle.copies.specs.declared.copies.Copies.{Copies}
use Rattle.elements.specs.declared.elements.Elements.{Elements}
use Rattle.recording_state.specs.declared.state.State.{State}
use Rattle.recording_state.specs.declared.state.Stage.{Stage}
use Rattle.recording_state.specs.declared.state.Stage.TheVariants as S
use Rattle.exchange_twins.specs.ComesBack.{ComesBack}
use Rattle.exchange_twins.specs.Numbers.{is_flag, is_exchange}
use Rattle.exchange_twins.proofs.FlagLaws.{flag_back, flag_known, flag_number_lem}
use Rattle.exchange_twins.proofs.Inverse.{exchange_back, exchange_known, exchange_number}
use Rattle.recording_twins.specs.declared.recording_numbers.AdrRecording.{AdrRecording}
use Rattle.recording_twins.specs.Stages.{is_stage, stage_of, stage_number}
use Rattle.recording_twins.specs.Marks.{all_flags}
use Rattle.recording_twins.specs.Recording.{copies_of, copies_twin, elements_of, elements_twin, is_recording, recording_state_of, recording_state_twin}
use Rattle.recording_twins.proofs.MarkLaws.{flags_back, flags_known, flag_numbers}

-- ---- the parts

stage_back : (s : Stage) → stage_of (stage_number s) ≡ s
stage_back S.OpeningHeaders = refl
stage_back S.Elements = refl
stage_back S.ClosingHeaders = refl
stage_back S.Done = refl

stage_known : (s : Stage) → is_stage (stage_number s) ≡ true
stage_known S.OpeningHeaders = refl
stage_known S.Elements = refl
stage_known S.ClosingHeaders = refl
stage_known S.Done = refl

stage_number_lem : (n : ℕ) → is_stage n ≡ true → stage_number (stage_of n) ≡ n
stage_number_lem n h = search rules

copies_back : (c : Copies) → copies_of (copies_twin c) ≡ c
copies_back c = rw (flag_back c.locate)

elements_back : (e : Elements) → elements_of (elements_twin e) ≡ e
elements_back e = rw (flag_back e.course.locate, flag_back e.eod, flags_back e.queue.marks)

-- ---- the session

-- every session comes back from its numbers
pub recording_back : (s : State) → recording_state_of (recording_state_twin s) ≡ s
unfolding recording_state_of recording_state_twin
recording_back s = rw (stage_back s.stage, exchange_back s.exchange, flag_back s.closed, flag_back s.ended, flag_back s.spent, copies_back s.copies, elements_back s.elements)

-- and its numbers are a session's
pub recording_known : (s : State) → is_recording (recording_state_twin s) ≡ true
unfolding is_recording recording_state_twin
recording_known s = rw (stage_known s.stage, exchange_known s.exchange, flag_known s.closed, flag_known s.ended, flag_known s.spent, flag_known s.copies.locate, flag_known s.elements.course.locate, flag_known s.elements.eod, flags_known s.elements.queue.marks)

-- numbers that are a session's come back from their session: so a refusal that leaves the session leaves its numbers
pub recording_numbers_lem : (t : AdrRecording) → is_recording t ≡ true → recording_state_twin (recording_state_of t) ≡ t
unfolding is_recording recording_state_of recording_state_twin
recording_numbers_lem t h =
    let h8 = and_true _ (all_flags t.elements.marks) h in
    let h7 = and_true _ (is_flag t.elements.eod) h8.0 in
    let h6 = and_true _ (is_flag t.elements.locate) h7.0 in
    let h5 = and_true _ (is_flag t.copies.locate) h6.0 in
    let h4 = and_true _ (is_flag t.spent) h5.0 in
    let h3 = and_true _ (is_flag t.ended) h4.0 in
    let h2 = and_true _ (is_flag t.closed) h3.0 in
    let h1 = and_true (is_exchange t.exchange) (is_stage t.stage) h2.0 in
    rw (exchange_number t.exchange h1.0, stage_number_lem t.stage h1.1, flag_number_lem t.closed h2.1, flag_number_lem t.ended h3.1, flag_number_lem t.spent h4.1, flag_number_lem t.copies.locate h5.1, flag_number_lem t.elements.locate h6.1, flag_number_lem t.elements.eod h7.1, flag_numbers t.elements.marks h8.1)

pub recording_comes_back : ComesBack is_recording recording_state_of recording_state_twin
recording_comes_back = record { back = recording_back; known = recording_known; numbers = recording_numbers_lem }

-- What is counted over a list of calls, as one record. Assumes nothing.
use Prim.Native.Nat.{ℕ, ◌+◌}
use mathlib.Core.Path.{◌≡◌, refl, ap, ◌∙◌}
use mathlib.Core.Bool.{Bool}
use mathlib.Core.List.{List}
use native.Mathlib.Omega.{arith}
use Rattle.geometry.specs.Pick.{pick}
use Rattle.drive.specs.Cases.{case_of}
use Rattle.drive.specs.declared.command.Command.{Command}
use Rattle.drive.specs.declared.reply.Reply.{Reply}
use Rattle.recording_state.specs.Written.{among_elements}
use Rattle.recording_state.specs.declared.state.Stage.{Stage}
use Rattle.recording_state.specs.declared.state.Stage.TheVariants as S
use Rattle.archive_lists.specs.Recordings.{World, Call, Runs}
use Rattle.archive_counts.specs.Counts.{is_taken, is_failed, among_headers, one_of, frames_taken, errors_met, header_frames_taken, header_errors_met}

pub record Tally : Type 0 where
  pub taken : ℕ
  pub errors : ℕ
  pub headers : ℕ
  pub header_errors : ℕ

abbrev tally : ℕ → ℕ → ℕ → ℕ → Tally
tally taken errors headers header_errors = record { taken = taken; errors = errors; headers = headers; header_errors = header_errors }

pub tally_same : {t u : Tally} → t.taken ≡ u.taken → t.errors ≡ u.errors → t.headers ≡ u.headers → t.header_errors ≡ u.header_errors → t ≡ u
tally_same {t} {u} a b c d =
    ap (λ (k : ℕ). tally k t.errors t.headers t.header_errors) a
    ∙ ap (λ (k : ℕ). tally u.taken k t.headers t.header_errors) b
    ∙ ap (λ (k : ℕ). tally u.taken u.errors k t.header_errors) c
    ∙ ap (λ (k : ℕ). tally u.taken u.errors u.headers k) d

-- what is counted over a list
abbrev pub tally_of : {w v : World} {calls : List Call} → Runs w calls v → Tally
tally_of runs = record { taken = frames_taken runs; errors = errors_met runs; headers = header_frames_taken runs; header_errors = header_errors_met runs }

-- ---- so many frames and so many write errors more

abbrev pub elements_more : ℕ → ℕ → Tally → Tally
elements_more k e t = record { taken = k + t.taken; errors = e + t.errors; headers = t.headers; header_errors = t.header_errors }

abbrev pub headers_more : ℕ → ℕ → Tally → Tally
headers_more k e t = record { taken = t.taken; errors = t.errors; headers = k + t.headers; header_errors = e + t.header_errors }

-- of the kind that a stage writes
abbrev pub adding : Stage → ℕ → ℕ → Tally → Tally
adding S.OpeningHeaders k e t = headers_more k e t
adding S.Elements k e t = elements_more k e t
adding S.ClosingHeaders k e t = headers_more k e t
adding S.Done k e t = t

pub adding_none : (stage : Stage) (t : Tally) → adding stage 0 0 t ≡ t
adding_none S.OpeningHeaders t = tally_same refl refl (omega arith) (omega arith)
adding_none S.Elements t = tally_same (omega arith) (omega arith) refl refl
adding_none S.ClosingHeaders t = tally_same refl refl (omega arith) (omega arith)
adding_none S.Done t = refl

-- ---- an answer, by its case

abbrev pub one : Bool → ℕ
one b = pick b 1 0

abbrev pub answered_in : Stage → ℕ → Tally → Tally
answered_in stage case t = adding stage (one (is_taken case)) (one (is_failed case)) t

-- as it is counted
abbrev answer_counted : Stage → Command → Reply → Tally → Tally
answer_counted stage c r t = record {
  taken = one_of among_elements is_taken stage c r + t.taken;
  errors = one_of among_elements is_failed stage c r + t.errors;
  headers = one_of among_headers is_taken stage c r + t.headers;
  header_errors = one_of among_headers is_failed stage c r + t.header_errors;
}

pub answer_counted_lem : (stage : Stage) (c : Command) (r : Reply) (t : Tally) → answer_counted stage c r t ≡ answered_in stage (case_of c r) t
answer_counted_lem S.OpeningHeaders c r t = tally_same (omega arith) (omega arith) refl refl
answer_counted_lem S.Elements c r t = tally_same refl refl (omega arith) (omega arith)
answer_counted_lem S.ClosingHeaders c r t = tally_same (omega arith) (omega arith) refl refl
answer_counted_lem S.Done c r t = tally_same (omega arith) (omega arith) (omega arith) (omega arith)

-- Over every list of calls the drive takes no more frames than its bound. Assumes nothing.
use Prim.Native.Nat.{ℕ, ◌+◌, ◌≤◌}
use mathlib.Core.Path.{refl, sym, ap, subst, ◌∙◌}
use mathlib.Core.Bool.{true≢false}
use mathlib.Core.List.{List}
use native.Mathlib.Omega.{arith}
use lib.ListN.{length}
use Rattle.frame_bounds.specs.Bounds.{frames_at_most, header_frames_at_most}
use Rattle.drive.specs.Cases.{case_of}
use Rattle.drive.specs.declared.command.Command.{Command}
use Rattle.copies.proofs.Counts.{start_counts}
use Rattle.recording_state.specs.Open.{started_at, setup_of}
use Rattle.recording_state.specs.Written.{among_elements}
use Rattle.recording_state.specs.declared.state.State.{State}
use Rattle.archive_lists.specs.Conduct.{Drive}
use Rattle.archive_lists.specs.Recordings as recordings
use Rattle.archive_lists.specs.Recordings.{World, Call, Moves, Runs, stop, call, drive, started}
use Rattle.archive_lists.proofs.recording.Start.{Starts}
use Rattle.archive_counts.specs.Counts.{is_taken, is_failed, among_headers, count_of, count_in, frames_taken, errors_met, header_frames_taken, header_errors_met}
use Rattle.archive_counts.proofs.Tallies.{Tally, tally_same, tally_of, answered_in, answer_counted_lem}
use Rattle.archive_counts.proofs.bound.Session.{Fit, quiet_fit}
use Rattle.archive_counts.proofs.bound.Calls.{Under, free, sent, answered, Tallied, call_tallied, under_bound}

-- what is counted behind a move of the drive, and behind a list
abbrev moved : {w v : World} → Moves w v → Tally → Tally
moved m t = record {
  taken = count_of among_elements is_taken m + t.taken;
  errors = count_of among_elements is_failed m + t.errors;
  headers = count_of among_headers is_taken m + t.headers;
  header_errors = count_of among_headers is_failed m + t.header_errors;
}

abbrev behind : {w v : World} {cs : List Call} → Runs w cs v → Tally → Tally
behind runs t = record {
  taken = frames_taken runs + t.taken;
  errors = errors_met runs + t.errors;
  headers = header_frames_taken runs + t.headers;
  header_errors = header_errors_met runs + t.header_errors;
}

move_tallied : {D W : ℕ} {u : Tally} {w v : World} → Tallied D W u w → (m : Moves w v) → Tallied D W (moved m u) v
move_tallied {D} {W} {u} {w} y (recordings.acts d a) =
    subst (λ (t : Tally). Under D W (length w.notes.accepted) t w.session w.flight) (tally_same (omega arith) (omega arith) (omega arith) (omega arith)) y
move_tallied {D} {W} {u} {w} y (recordings.answers c frame r d q a) = go (subst (Under D W (length w.notes.accepted) u w.session) q y)
  where
    go : Under D W (length w.notes.accepted) u w.session (recordings.sent c frame)
        → Under D W (length w.notes.accepted) (moved {w = w} (recordings.answers c frame r d q a) u) w.session (recordings.answered r)
    go (sent _ _ aw is f) =
        answered r u aw (answer_counted_lem w.session.stage c r u ∙ sym (ap (λ (k : Command). answered_in w.session.stage (case_of k r) u) is)) f

runs_tallied : {D W : ℕ} {u : Tally} {w v : World} {cs : List Call} → Tallied D W u w → (runs : Runs w cs v) → Tallied D W (behind runs u) v
unfolding count_in
runs_tallied {D} {W} {u} {w} y stop =
    subst (λ (t : Tally). Under D W (length w.notes.accepted) t w.session w.flight) (tally_same (omega arith) (omega arith) (omega arith) (omega arith)) y
runs_tallied {u = u} y (call c rest) = runs_tallied {u = u} (call_tallied y c) rest
runs_tallied {D} {W} {u} {w} {v} y (drive m rest) =
    subst (λ (t : Tally). Under D W (length v.notes.accepted) t v.session v.flight) (tally_same (omega arith) (omega arith) (omega arith) (omega arith))
    (runs_tallied {u = moved m u} (move_tallied y m) rest)

-- ---- from the opening on

abbrev none : Tally
none = record { taken = 0; errors = 0; headers = 0; header_errors = 0 }

starts_fit : (depth blocks tail : ℕ) (s : State) → Starts depth blocks tail s → Fit depth blocks 0 none s
starts_fit depth blocks tail s y =
    let some = y.sizes.some in
    subst (Fit depth blocks 0 none) y.is
    (quiet_fit (started_at (setup_of depth blocks tail) y.header y.at y.number y.trail)
    (record { depth_is = refl; width_is = omega arith; deep = y.sizes.deep; narrow = y.sizes.few })
    (record { held = omega arith; deep = omega arith; windowed = omega arith; tally = omega arith })
    (record { counts = start_counts y.header; deep = omega arith; tally = omega arith })
    (λ e. absurd (true≢false (sym e))) (record { going = refl; free = refl; told = refl }))

pub taken_at_most : {depth blocks tail : ℕ} {s : State} → Starts depth blocks tail s → {d : Drive} {window : List ℕ} {calls : List Call} {w : World} (runs : Runs (started s window d) calls w)
    → (frames_taken runs ≤ frames_at_most (length w.notes.accepted) (errors_met runs) depth blocks) × (header_frames_taken runs ≤ header_frames_at_most (header_errors_met runs) depth)
taken_at_most {depth} {blocks} {tail} {s} y {w = w} runs =
    under_bound w.session
    (subst (λ (t : Tally). Tallied depth blocks t w) (tally_same {u = tally_of runs} (omega arith) (omega arith) (omega arith) (omega arith))
    (runs_tallied (free (starts_fit depth blocks tail s y)) runs))

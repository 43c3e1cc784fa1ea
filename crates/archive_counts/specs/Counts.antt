-- 02, Card 12: frames taken and write errors met, counted over a list of a recording's calls.
-- They are counted at the drive, as it answers, whether the reply is brought or not.
use Rattle.std.specs.Prelude.{ℕ, ◌+◌, Bool, true, false, ◌&&◌, ◌||◌, List, eqb}
use Rattle.geometry.specs.Pick.{pick}
use Rattle.drive.specs.Cases.{case_of, write_good, write_failed, position_failed}
use Rattle.drive.specs.declared.command.Command.{Command}
use Rattle.drive.specs.declared.reply.Reply.{Reply}
use Rattle.recording_state.specs.Written.{among_elements}
use Rattle.recording_state.specs.declared.state.Stage.{Stage}
use Rattle.recording_state.specs.declared.state.Stage.TheVariants as S
use Rattle.archive_lists.specs.Recordings.{World, Call, Moves, acts, answers, Runs, stop, call, drive}

-- by the case of an answer, which is its command with the meaning of the reply:
-- a WRITE answered good: the drive has taken its frame
abbrev pub is_taken : ℕ → Bool
is_taken case = eqb case write_good

-- a WRITE or a READ POSITION answered 03/0C/00: a frame that the drive had taken met a write error. One that is never answered so is not counted
abbrev pub is_failed : ℕ → Bool
is_failed case = eqb case write_failed || eqb case position_failed

-- the stages in which headers are written; Written.among_elements is that of elements and EOD
abbrev pub among_headers : Stage → Bool
among_headers S.OpeningHeaders = true
among_headers S.Elements = false
among_headers S.ClosingHeaders = true
among_headers S.Done = false

-- an answer of such a kind, to a session in such a stage
abbrev pub one_of : (Stage → Bool) → (ℕ → Bool) → Stage → Command → Reply → ℕ
one_of among counts stage c r = pick (among stage && counts (case_of c r)) 1 0

-- the drive's answers, by the stage of the session that awaits them; what it does by itself counts for nothing
abbrev pub count_of : (Stage → Bool) → (ℕ → Bool) → {w v : World} → Moves w v → ℕ
count_of among counts (acts d a) = 0
count_of among counts {w} (answers c frame r d q a) = one_of among counts w.session.stage c r

-- those of a whole list
unfoldable pub count_in : (Stage → Bool) → (ℕ → Bool) → {w v : World} {cs : List Call} → Runs w cs v → ℕ
count_in among counts stop = 0
count_in among counts (call c rest) = count_in among counts rest
count_in among counts (drive m rest) = count_of among counts m + count_in among counts rest

-- the frames of elements and EOD that were taken
abbrev pub frames_taken : {w v : World} {cs : List Call} → Runs w cs v → ℕ
frames_taken runs = count_in among_elements is_taken runs

-- the write errors that these met
abbrev pub errors_met : {w v : World} {cs : List Call} → Runs w cs v → ℕ
errors_met runs = count_in among_elements is_failed runs

-- the frames of headers that were taken
abbrev pub header_frames_taken : {w v : World} {cs : List Call} → Runs w cs v → ℕ
header_frames_taken runs = count_in among_headers is_taken runs

-- and the write errors that these met
abbrev pub header_errors_met : {w v : World} {cs : List Call} → Runs w cs v → ℕ
header_errors_met runs = count_in among_headers is_failed runs

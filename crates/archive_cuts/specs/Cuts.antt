-- 02, Card 14: what a reading gives of a cartridge on which a session was cut, and a time in a list of calls.
use Rattle.std.specs.Prelude.{ℕ, ◌≤◌, ◌≡◌, true, false, List, ◌++◌, ◌⊎◌, length, take}
use Rattle.std.proofs.Math.Option.{Option, some}
use Rattle.frame.specs.Lengths.{frame_length}
use Rattle.drive.specs.declared.reply.Reply.{Reply}
use Rattle.reading_state.specs.State.{end_of}
use Rattle.reading_state.specs.Fetch as fetch
use Rattle.archive_lists.specs.Tape.{Tape}
use Rattle.archive_lists.specs.Recordings as recordings
use Rattle.archive_lists.specs.Recordings.{Element}
use Rattle.archive_lists.specs.Readings as readings
use Rattle.archive_lists.specs.Faithful.{GivesCommand, reply_bound}

-- what holds after every list of a reading's calls on a cartridge that held earlier elements when the cut session was opened; at which addresses it
-- may end is handed over
pub record FaithfulInPart (last : ℕ) (earlier accepted : List Element) (may_end : ℕ → Type 0) (w : readings.World) : Type 0 where
  -- the deliveries are the first so many of the earlier elements and, behind them, of those that the cut session accepted
  pub count : ℕ
  pub in_order : w.notes.deliveries ≡ take count (earlier ++ accepted)
  -- of refusals with 8 or more only 12 comes
  pub only_12 : (w.notes.refused ≡ 0) ⊎ (w.notes.refused ≡ 12)
  -- at its end, and at 12, everything earlier is delivered
  pub whole : (w.notes.end ≡ true) ⊎ (w.notes.refused ≡ 12) → length earlier ≤ length w.notes.deliveries
  -- it ends at one of those addresses
  pub ends_where : w.notes.end ≡ true → may_end (end_of w.session).0
  -- before that a fetch that awaits no reply gives a command, or 12
  pub goes_on : w.notes.end ≡ false → w.notes.refused ≡ 0 → w.flight ≡ readings.no_command
      → GivesCommand (fetch.fetch_of w.session).said ⊎ ((fetch.fetch_of w.session).said ≡ fetch.refused 12)
  -- and the drive's answer, once given, is taken in with a lent frame of 33,280 bytes, or 12 comes with it
  pub taken_in : (r : Reply) (given : Option (List ℕ)) (lent : List ℕ) → w.flight ≡ readings.answered r given → readings.LentWith given lent
      → length lent ≡ frame_length
      → (readings.refusal w.session (readings.replying r lent) ≡ 0) ⊎ (readings.refusal w.session (readings.replying r lent) ≡ 12)
  -- as every frame is that the drive gave
  pub full : (r : Reply) (frame : List ℕ) → w.flight ≡ readings.answered r (some frame) → length frame ≡ frame_length
  -- no second command before the reply
  pub alone : (w.flight ≡ readings.no_command → ⊥) → readings.refusal w.session readings.fetching ≡ 7
  -- the replies taken in are bounded as every reading's, busy ones aside
  pub bounded : w.notes.replies ≤ reply_bound last
  -- after the end a fetch says so again
  pub says_again : w.notes.end ≡ true → (fetch.fetch_of w.session).said ≡ fetch.end

-- a property of every tape from the start of a list on. The last tape alone would not tell of a time in it
abbrev pub Throughout : (Tape → Type 0) → {w v : recordings.World} {calls : List recordings.Call} → recordings.Runs w calls v → Type 0
Throughout holds (recordings.stop {w}) = holds w.drive.tape
Throughout holds (recordings.call {w} c rest) = holds w.drive.tape × Throughout holds rest
Throughout holds (recordings.drive {w} m rest) = holds w.drive.tape × Throughout holds rest

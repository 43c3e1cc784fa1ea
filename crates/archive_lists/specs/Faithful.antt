-- 00, demand 3, and 01, "The lists of demand 3": what holds of a reading, and how many replies it takes in at most.
use Rattle.std.specs.Prelude.{ℕ, ◌-◌, ◌≤◌, ◌≡◌, true, false, List, ◌⊎◌, length, take}
use Rattle.std.proofs.Math.Option.{Option, some}
use Rattle.frame.specs.Lengths.{frame_length}
use Rattle.drive.specs.Command.{read_code, locate_code}
use Rattle.drive.specs.declared.reply.Reply.{Reply}
use Rattle.reading_state.specs.Fetch as fetch
use Rattle.archive_lists.specs.Recordings.{Element}
use Rattle.archive_lists.specs.Readings as readings

-- how many replies a reading takes in before its end, at most, busy ones aside: one for each of the LAST - 19 user frames, one for LOCATE 10 and one for
-- LOCATE 3,000; a jump after 08/00/05 costs one LOCATE and passes 22 of them at least
abbrev pub reply_bound : ℕ → ℕ
reply_bound last = last - 17

-- a command of a reading's: READ or LOCATE
abbrev pub GivesCommand : fetch.AnswerSaid → Type 0
GivesCommand (fetch.command n a) = (n ≡ read_code) ⊎ (n ≡ locate_code)
GivesCommand fetch.end = ⊥
GivesCommand (fetch.refused n) = ⊥

-- what holds after every list of a reading's calls
pub record Faithful (last : ℕ) (accepted : List Element) (w : readings.World) : Type 0 where
  -- the deliveries are the first so many of what was accepted
  pub count : ℕ
  pub in_order : w.notes.deliveries ≡ take count accepted
  -- no call was refused with 8 or more
  pub never_refused : w.notes.refused ≡ 0
  -- before the end a fetch that awaits no reply gives a command
  pub goes_on : w.notes.end ≡ false → w.flight ≡ readings.no_command → GivesCommand (fetch.fetch_of w.session).said
  -- and the drive's answer, once given, is taken in with a lent frame of 33,280 bytes
  pub taken_in : (r : Reply) (given : Option (List ℕ)) (lent : List ℕ) → w.flight ≡ readings.answered r given → readings.LentWith given lent
      → length lent ≡ frame_length → readings.refusal w.session (readings.replying r lent) ≡ 0
  -- as every frame is that the drive gave
  pub full : (r : Reply) (frame : List ℕ) → w.flight ≡ readings.answered r (some frame) → length frame ≡ frame_length
  -- no second command before the reply
  pub alone : (w.flight ≡ readings.no_command → ⊥) → readings.refusal w.session readings.fetching ≡ 7
  -- the replies taken in are bounded, busy ones aside
  pub bounded : w.notes.replies ≤ reply_bound last
  -- at the end all of them are delivered, and a fetch says so again
  pub complete : w.notes.end ≡ true → w.notes.deliveries ≡ accepted
  pub says_again : w.notes.end ≡ true → (fetch.fetch_of w.session).said ≡ fetch.end

-- 01, "The lists of demand 3" and "Replies": each exchange of a command and its reply, of a recording and of a reading.
use Rattle.std.specs.Prelude.{ℕ, ◌≡◌, List, length}
use Rattle.geometry.specs.declared.cartridge.Geometry.{Geometry}
use Rattle.frame.specs.Lengths.{frame_length}
use Rattle.drive.specs.Command.{command_code, command_address}
use Rattle.drive.specs.Listed.{Listed}
use Rattle.drive.specs.Senses.{meaning_of}
use Rattle.drive.specs.declared.command.Command.{Command}
use Rattle.drive.specs.declared.reply.Reply.{Reply}
use Rattle.recording_state.specs.Answer as answer
use Rattle.recording_state.specs.Fetch.{fetch_of}
use Rattle.recording_state.specs.Lawful.{Lawful}
use Rattle.recording_state.specs.declared.state.State.{State}
use Rattle.reading_state.specs.Fetch as reading
use Rattle.reading_state.specs.declared.state.State.{State as Reading}
use Rattle.archive_lists.specs.Tape.{Tape, HasLast}
use Rattle.archive_lists.specs.Conduct.{Drive}
use Rattle.archive_lists.specs.Recordings as recordings
use Rattle.archive_lists.specs.Readings as readings
use Rattle.archive.specs.Recorded.{HasRecorded}
use Rattle.archive.specs.Chain.{HasRead, Start}

-- ---- the command that a fetch answers is the one that goes to the drive

-- a number and an address name a command
pub record NamesCommand (number address : ℕ) (c : Command) : Type 0 where
  pub number_is : number ≡ command_code c
  pub address_is : address ≡ (command_address c).0

-- after a fetch: its session holds the command that it answered, and that is with the drive, with the frame as the fetch left it
pub record RecordingSent (number address : ℕ) (frame : List ℕ) (w : recordings.World) : Type 0 where
  pub held : NamesCommand number address w.session.exchange.command
  pub goes : w.flight ≡ recordings.sent w.session.exchange.command frame

-- the same of a reading
pub record ReadingSent (number address : ℕ) (w : readings.World) : Type 0 where
  pub held : NamesCommand number address w.session.exchange.command
  pub goes : w.flight ≡ readings.sent w.session.exchange.command

-- of both sessions, at every fetch that answers a command
pub record CommandsSent : Type 0 where
  pub recording : (w : recordings.World) (lent frame : List ℕ) (number address : ℕ)
      → (fetch_of w.session lent frame).said ≡ answer.command number address
      → RecordingSent number address (fetch_of w.session lent frame).frame (recordings.after_fetch w lent frame)
  pub reading : (w : readings.World) (number address : ℕ) → (reading.fetch_of w.session).said ≡ reading.command number address
      → ReadingSent number address (readings.after_fetch w)

-- ---- which replies are refused with 8

-- the reply is one of those that 01 lists for the command
abbrev pub ListedFor : Command → Reply → Type 0
ListedFor c r = Listed c (meaning_of r.key r.asc r.ascq)

-- a reply to a recording's command: one that is not listed, or brings an f or a p that can't be, and no other
pub record RecordingRefuses (s : State) (c : Command) (r : Reply) : Type 0 where
  pub unlisted : (ListedFor c r → ⊥) → recordings.refusal s (recordings.reply r) ≡ 8
  pub unlawful : (Lawful s c r → ⊥) → recordings.refusal s (recordings.reply r) ≡ 8
  pub no_other : ListedFor c r → Lawful s c r → recordings.refusal s (recordings.reply r) ≡ 8 → ⊥

-- a reply to a reading's, with the frame that it lends: one that is not listed, and no other
pub record ReadingRefuses (s : Reading) (c : Command) (r : Reply) (lent : List ℕ) : Type 0 where
  pub unlisted : (ListedFor c r → ⊥) → readings.refusal s (readings.replying r lent) ≡ 8
  pub no_other : ListedFor c r → readings.refusal s (readings.replying r lent) ≡ 8 → ⊥

-- at every point of a list, however the session was opened, where a command is with the drive. The drive's answer alters no session, and an
-- accept or a close behind it could as well have come before it: so this is also what a reply meets when it is brought
pub record RepliesRefused : Type 0 where
  pub recording : (g : Geometry) (last : ℕ) (d : Drive) (s : State) → Start g last s → (w : recordings.World)
      → HasRecorded g last d s w
      → (c : Command) (frame : List ℕ) (r : Reply) → w.flight ≡ recordings.sent c frame → RecordingRefuses w.session c r
  pub reading : (g : Geometry) (last : ℕ) (t : Tape) (h : List ℕ) (w : readings.World)
      → HasLast g last → HasRead g last t h w
      → (c : Command) (r : Reply) (lent : List ℕ) → w.flight ≡ readings.sent c → length lent ≡ frame_length → ReadingRefuses w.session c r lent

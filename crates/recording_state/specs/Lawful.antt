-- 01, "Replies": the numbers that a reply to a recording's command may bring.
use Rattle.std.specs.Prelude.{ℕ, ◌≤◌, ◌<◌, ◌≡◌, ◌⊎◌}
use Rattle.geometry.specs.Cartridge.{copy_at}
use Rattle.drive.specs.Listed.{Means}
use Rattle.drive.specs.Senses.{good, write_error}
use Rattle.drive.specs.declared.command.Command.{Command}
use Rattle.drive.specs.declared.command.Command.TheVariants.{ReadPosition}
use Rattle.drive.specs.declared.reply.Reply.{Reply}
use Rattle.copies.specs.Copies.{oldest_copy}
use Rattle.elements.specs.Elements.{base_of}
use Rattle.recording_state.specs.declared.state.State.{State}
use Rattle.recording_state.specs.declared.state.Stage.TheVariants as S

-- by how many frames are outstanding, the place of the oldest, the place behind the newest, and that of the frame at p
pub record Possible (outstanding oldest next failed : ℕ) (c : Command) (r : Reply) : Type 0 where
  -- good: READ POSITION brings f, at most outstanding
  pub counted : c ≡ ReadPosition → Means r good → r.buffered ≤ outstanding
  -- 03/0C/00: p is outstanding
  pub from : Means r write_error → oldest ≤ failed
  pub below : Means r write_error → failed < next

-- by stage: header copies are outstanding, which have their place in the group, or elements and EOD, which have their addresses
pub record Lawful (s : State) (c : Command) (r : Reply) : Type 0 where
  pub in_headers : (s.stage ≡ S.OpeningHeaders) ⊎ (s.stage ≡ S.ClosingHeaders)
      → Possible s.copies.outstanding (oldest_copy s.copies) s.copies.copy (copy_at s.copies.group r.position.0) c r
  pub in_elements : s.stage ≡ S.Elements
      → Possible s.elements.queue.outstanding (base_of s.elements).0 s.elements.course.next.0 r.position.0 c r

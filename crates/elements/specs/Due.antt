-- 01, "A recording session": the six rules for elements and EOD, tried in their order.
use Rattle.std.specs.Prelude.{ℕ, Bool, ◌&&◌, ◌||◌, ◌==◌, nat_le, nat_lt, Option, None, Some, Result, Ok, Err}
use Rattle.geometry.specs.Pick.{pick}
use Rattle.geometry.specs.Refusal.{refusal_number}
use Rattle.geometry.specs.declared.refusal.Refusal.{Refusal}
use Rattle.geometry.specs.Cartridge.{second_group, second_user}
use Rattle.drive.specs.Command.{CommandSaid, command_said, write, locate, read_position}
use Rattle.drive.specs.declared.command.Command.{Command}
use Rattle.elements.specs.declared.elements.Elements.{Elements}
use Rattle.elements.specs.Elements.{limit_of}

-- a command, nothing, or a refusal by its number
pub data DueSaid : Type 0 where
  send : CommandSaid → DueSaid
  idle : DueSaid
  refused : ℕ → DueSaid

-- what the code answers, in these terms
abbrev pub due_said : Result (Option Command) Refusal → DueSaid
due_said (Ok (Some c)) = send (command_said c)
due_said (Ok None) = idle
due_said (Err r) = refused (refusal_number r)

-- the next address is above the highest that what is due may have
abbrev pub above_limit : ℕ → Elements → Bool
above_limit tail e = nat_le (limit_of tail e).0 e.course.next.0

-- rule 3: the drive holds D frames, or it holds some and the next one would not go behind them
abbrev pub must_confirm : ℕ → ℕ → Elements → Bool
must_confirm depth tail e = nat_le depth e.queue.outstanding || (nat_lt 0 e.queue.outstanding && (e.course.next.0 == second_group || above_limit tail e))

-- what is due where the drive buffers so many frames and the tail has so many
unfoldable pub due_of : ℕ → ℕ → Elements → DueSaid
due_of depth tail e =
    -- 1: the target of a write error. It is above END only once elements are given up: then refusal 9
    pick e.course.locate (pick (nat_le e.course.limit.0 e.course.target.0) (refused 9) (send (locate e.course.target.0)))
    -- 2: the drive has taken all: they are confirmed, if there are any
    (pick (nat_le e.queue.pending e.queue.outstanding) (pick (e.queue.outstanding == 0) idle (send read_position))
    -- 3: the drive is full, or what it holds comes first
    (pick (must_confirm depth tail e) (send read_position)
    -- 4: no room for what is due: refusal 9
    (pick (above_limit tail e) (refused 9)
    -- 5: the way past the second header group
    (pick (e.course.next.0 == second_group) (send (locate second_user))
    -- 6: the next frame goes out
    (send (write e.course.next.0))))))

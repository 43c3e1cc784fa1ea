-- How the elements and the drive agree, by the command in flight. Assumes nothing.
use Prim.Native.Nat.{ℕ, ◌+◌, ◌≤◌, ◌<◌}
use mathlib.Core.Path.{◌≡◌}
use mathlib.Core.Bool.{Bool, true, false}
use mathlib.Core.List.{List, []}
use mathlib.Core.Logic.{◌⊎◌}
use lib.ListN.{length}
use Rattle.geometry.specs.declared.address.Address.{Address}
use Rattle.drive.specs.Listed.{Means}
use Rattle.archive_lists.specs.Conduct.{Drive, AtRest}
use Rattle.drive.specs.Senses.{good, busy, write_error, volume_overflow}
use Rattle.drive.specs.declared.command.Command.{Command}
use Rattle.drive.specs.declared.command.Command.TheVariants.{Write, Locate, ReadPosition}
use Rattle.drive.specs.declared.reply.Reply.{Reply}
use Rattle.recording_state.specs.declared.state.State.{State}
use Rattle.recording_state.proofs.Kept.{Held, held_of}
use Rattle.archive_lists.specs.Recordings as recordings
use Rattle.archive_lists.specs.Recordings.{Flight}

-- the first address that the drive has not tried
abbrev pub edge_of : Bool → ℕ → ℕ
edge_of true a = a + 1
edge_of false a = a

-- the drive is where the session writes: k elements are on tape, and it has taken so many more than the session knows of
pub record Linked (last : ℕ) (h : Held) (d : Drive) (k edge extra : ℕ) : Type 0 where
  pub placed : h.course.locate ≡ false
  pub taken_is : h.first.0 + h.outstanding + extra ≡ k + length d.buffer
  pub next_is : h.course.next.0 + extra ≡ d.at + length d.buffer
  pub known : length d.buffer ≤ h.outstanding + extra
  pub roof : h.course.next.0 + extra ≤ last + 1
  -- the outstanding ones lie below 2,990, or from 3,000 on
  pub zone : (h.course.next.0 + extra ≤ 2990) ⊎ (3000 + h.outstanding ≤ h.course.next.0)
  -- numbers stay below addresses, so that none wraps
  pub spread : k + 10 ≤ d.at
  pub edge_is : edge ≡ edge_of d.failed d.at

-- a LOCATE is due or under way: LOCATE 10, after a write error, or LOCATE 3,000. Once elements are given up the target may be above END
pub record Moving (last : ℕ) (h : Held) (d : Drive) (k edge target : ℕ) : Type 0 where
  pub none_out : h.outstanding ≡ 0
  pub first_is : h.first.0 ≡ k
  pub rests : AtRest d
  pub low : k + 10 ≤ last + 1
  pub zone : (target ≤ 2990) ⊎ (3000 ≤ target)
  pub spread : k + 10 ≤ target
  pub edge_is : edge ≡ target

-- what is known while a command is with the drive, or is to be given again
pub data Asks (last : ℕ) (h : Held) (pending : ℕ) (d : Drive) (k edge : ℕ) : Command → Type 0 where
  writes : (a : Address) → a ≡ h.course.next → h.outstanding < pending → (h.course.next.0 ≡ 2990 → ⊥) → h.course.next.0 ≤ last → Linked last h d k edge 0 → Asks last h pending d k edge (Write a)
  asks : Linked last h d k edge 0 → Asks last h pending d k edge ReadPosition
  moves : (a : Address) → a.0 ≤ last → Moving last h d k edge a.0 → Asks last h pending d k edge (Locate a)

-- and while its reply is on the way. A reply that ends the session is in Rejecting.
pub data Answered (last : ℕ) (h : Held) (pending : ℕ) (d : Drive) (k edge : ℕ) (r : Reply) : Command → Type 0 where
  taken : (a : Address) → Means r good → h.outstanding < pending → Linked last h d k edge 1 → Answered last h pending d k edge r (Write a)
  counted : Means r good → length d.buffer ≤ r.buffered → Linked last h d k edge 0 → Answered last h pending d k edge r ReadPosition
  failed_write : (a : Address) → Means r write_error → d.failed ≡ true → r.position.0 ≡ d.at → Linked last h d k edge 0 → Answered last h pending d k edge r (Write a)
  failed_position : Means r write_error → d.failed ≡ true → r.position.0 ≡ d.at → Linked last h d k edge 0 → Answered last h pending d k edge r ReadPosition
  filled : (a : Address) → Means r volume_overflow → a.0 ≤ last → Linked last h d k edge 0 → Answered last h pending d k edge r (Write a)
  moved : (a : Address) → Means r good → d.buffer ≡ [] → d.failed ≡ false → d.at ≡ a.0 → a.0 ≤ last → Moving last h d k edge a.0 → Answered last h pending d k edge r (Locate a)
  waits : (c : Command) → Means r busy → Asks last h pending d k edge c → Answered last h pending d k edge r c

pub data Writing (last : ℕ) (s : State) (d : Drive) (k edge : ℕ) : Flight → Type 0 where
  at_place : s.exchange.awaiting ≡ false → s.exchange.again ≡ false → Linked last (held_of s) d k edge 0 → Writing last s d k edge recordings.no_command
  to_locate : s.exchange.awaiting ≡ false → s.exchange.again ≡ false → s.elements.course.locate ≡ true → Moving last (held_of s) d k edge s.elements.course.target.0 → Writing last s d k edge recordings.no_command
  again : s.exchange.awaiting ≡ false → s.exchange.again ≡ true → Asks last (held_of s) s.elements.queue.pending d k edge s.exchange.command → Writing last s d k edge recordings.no_command
  under_way : (c : Command) (f : List ℕ) → s.exchange.awaiting ≡ true → s.exchange.again ≡ false → s.exchange.command ≡ c → Asks last (held_of s) s.elements.queue.pending d k edge c → Writing last s d k edge (recordings.sent c f)
  replied : (r : Reply) → s.exchange.awaiting ≡ true → s.exchange.again ≡ false → Answered last (held_of s) s.elements.queue.pending d k edge r s.exchange.command → Writing last s d k edge (recordings.answered r)

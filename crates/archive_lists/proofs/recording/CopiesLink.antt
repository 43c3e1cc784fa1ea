-- How the header copies and the drive agree, by the command in flight. Assumes nothing.
use Prim.Native.Nat.{ℕ, ◌+◌, ◌≤◌, ◌<◌}
use mathlib.Core.Path.{◌≡◌}
use mathlib.Core.Bool.{true, false}
use mathlib.Core.List.{List, []}
use mathlib.Core.Logic.{◌⊎◌}
use lib.ListN.{length, replicate}
use Rattle.geometry.specs.Cartridge.{header_address}
use Rattle.geometry.specs.declared.address.Address.{Address}
use Rattle.frame.specs.Header.{header_frame}
use Rattle.drive.specs.Listed.{Means}
use Rattle.archive_lists.specs.Conduct.{Drive, AtRest}
use Rattle.drive.specs.Senses.{good, busy, write_error}
use Rattle.drive.specs.declared.command.Command.{Command}
use Rattle.drive.specs.declared.command.Command.TheVariants.{Read, Write, Locate, ReadPosition}
use Rattle.drive.specs.declared.reply.Reply.{Reply}
use Rattle.copies.specs.declared.copies.Copies.{Copies}
use Rattle.copies.proofs.Counts.{CountsOf}
use Rattle.copies.proofs.Placed.{PlacedOf}
use Rattle.recording_state.specs.declared.state.State.{State}
use Rattle.archive_lists.specs.Recordings as recordings
use Rattle.archive_lists.specs.Recordings.{Flight}
use Rattle.archive_lists.proofs.recording.HeaderCopies.{Copy}

-- where a group starts, and where the drive goes on behind the copies that it has taken of it
abbrev pub first_address : Copies → ℕ
first_address c = header_address c.group 0

abbrev pub next_address : Copies → ℕ
next_address c = first_address c + c.copy

-- the drive is at the copies' place; it has taken so many more than the session knows of
pub record CopyLink (c : Copies) (d : Drive) (extra : ℕ) : Type 0 where
  pub placed : c.locate ≡ false
  pub next_is : d.at + length d.buffer ≡ next_address c + extra
  pub known : length d.buffer ≤ c.outstanding + extra
  pub roof : c.copy + extra ≤ 5
  pub alike : d.buffer ≡ replicate (length d.buffer) (header_frame c.header)
  -- one that is on tape and not yet confirmed counts
  pub kept : (c.confirmed + c.outstanding + extra ≤ length d.buffer) ⊎ Copy c.header d.tape d.at

-- a LOCATE is due
pub record CopySeek (c : Copies) (d : Drive) : Type 0 where
  pub due : c.locate ≡ true
  pub rests : AtRest d
  pub kept : (c.confirmed ≡ 0) ⊎ Copy c.header d.tape (next_address c)

-- what is known while a command is with the drive, or is to be given again
pub data CopyAsks (c : Copies) (d : Drive) : Command → Type 0 where
  writes : (a : Address) → a.0 ≡ next_address c → c.copy < 5 → CopyLink c d 0 → CopyAsks c d (Write a)
  asks : CopyLink c d 0 → CopyAsks c d ReadPosition
  seeks : (a : Address) → a.0 ≡ next_address c → CopySeek c d → CopyAsks c d (Locate a)

-- and while its reply is on the way. A reply that ends the session is in Rejecting.
pub data CopyAnswered (c : Copies) (d : Drive) (r : Reply) : Command → Type 0 where
  taken : (a : Address) → Means r good → CopyLink c d 1 → CopyAnswered c d r (Write a)
  counted : Means r good → length d.buffer ≤ r.buffered → CopyLink c d 0 → CopyAnswered c d r ReadPosition
  failed_write : (a : Address) → Means r write_error → d.failed ≡ true → r.position.0 ≡ d.at → CopyLink c d 0 → CopyAnswered c d r (Write a)
  failed_position : Means r write_error → d.failed ≡ true → r.position.0 ≡ d.at → CopyLink c d 0 → CopyAnswered c d r ReadPosition
  moved : (a : Address) → Means r good → a.0 ≡ next_address c → d.buffer ≡ [] → d.failed ≡ false → d.at ≡ a.0 → CopySeek c d → CopyAnswered c d r (Locate a)
  waits : (k : Command) → Means r busy → CopyAsks c d k → CopyAnswered c d r k

-- the frame of a WRITE in flight
abbrev pub HeaderSent : Copies → Command → List ℕ → Type 0
HeaderSent c (Write a) f = f ≡ header_frame c.header
HeaderSent c (Locate a) f = Unit {0}
HeaderSent c ReadPosition f = Unit {0}
HeaderSent c (Read a) f = Unit {0}

pub data Copying (s : State) (d : Drive) : Flight → Type 0 where
  at_place : s.exchange.awaiting ≡ false → s.exchange.again ≡ false → CopyLink s.copies d 0 → Copying s d recordings.no_command
  to_seek : s.exchange.awaiting ≡ false → s.exchange.again ≡ false → CopySeek s.copies d → Copying s d recordings.no_command
  again : s.exchange.awaiting ≡ false → s.exchange.again ≡ true → CopyAsks s.copies d s.exchange.command → Copying s d recordings.no_command
  under_way : (c : Command) (f : List ℕ) → s.exchange.awaiting ≡ true → s.exchange.again ≡ false → s.exchange.command ≡ c → HeaderSent s.copies c f → CopyAsks s.copies d c → Copying s d (recordings.sent c f)
  replied : (r : Reply) → s.exchange.awaiting ≡ true → s.exchange.again ≡ false → CopyAnswered s.copies d r s.exchange.command → Copying s d (recordings.answered r)

pub record CopiesAgree (s : State) (d : Drive) (f : Flight) : Type 0 where
  pub counts : CountsOf s.copies
  pub placed : PlacedOf s.copies
  pub copying : Copying s d f

-- What holds at every point of a reading's list, on any cartridge. Assumes nothing.
use Prim.Native.Nat.{ℕ, ◌+◌, ◌≤◌, ◌<◌}
use mathlib.Core.Path.{◌≡◌}
use mathlib.Core.Bool.{true, false}
use mathlib.Core.List.{List}
use mathlib.Core.Logic.{◌⊎◌}
use mathlib.Core.Option.{Option, none, some}
use Rattle.geometry.specs.Cartridge.{is_user}
use Rattle.geometry.specs.declared.address.Address.{Address}
use Rattle.geometry.proofs.UserFrames.{Stand}
use Rattle.drive.specs.Listed.{Means}
use Rattle.drive.specs.Senses.{good, busy, recovered, unreadable, end_of_data, end_of_medium}
use Rattle.drive.specs.declared.command.Command.{Command}
use Rattle.drive.specs.declared.command.Command.TheVariants.{Read, Write, Locate, ReadPosition}
use Rattle.drive.specs.declared.reply.Reply.{Reply}
use Rattle.frame.specs.declared.header.Header.{Header}
use Rattle.reading_state.specs.State.{end_of}
use Rattle.reading_state.specs.declared.state.State.{State as Reading}
use Rattle.archive_lists.specs.Tape.{Tape}
use Rattle.archive_lists.specs.Recordings.{Element}
use Rattle.archive_lists.specs.Readings as readings
use Rattle.archive_lists.specs.Readings.{Notes, World, Flight}
use Rattle.archive_lists.specs.Faithful.{reply_bound}
use Rattle.archive_lists.specs.Fold.{going, finished, stopped, fold_of, whole_of}
use Rattle.archive_lists.proofs.reading.Bound.{Spent}

-- what was delivered is what the fold has at the next address
pub record Under (told : Header) (t : Tape) (s : Reading) (got : List Element) : Type 0 where
  pub told_is : s.told ≡ told
  pub going_on : s.ended ≡ false
  pub unfinished : s.finished ≡ false
  pub so_far : fold_of told t s.position.next.0 ≡ going s.expected.0 got s.trail

-- the replies taken in, while a LOCATE of the next address is due and while a READ is
abbrev pub Few : Reading → ℕ → Type 0
Few s replies = Spent s.position.next.0 (replies + 1)

abbrev pub FewRead : Reading → ℕ → Type 0
FewRead s replies = Spent s.position.next.0 replies

-- the next address: a user frame or the first of the gap, or above LAST
abbrev pub Here : ℕ → Reading → Type 0
Here last s = Stand last s.position.next.0 ⊎ (last < s.position.next.0)

-- what is known of the session while a command is with the drive, or is to be given again
pub data Ordered (last : ℕ) (s : Reading) (replies : ℕ) : Command → Type 0 where
  locates : (a : Address) → a.0 ≡ s.position.next.0 → Stand last s.position.next.0 → s.position.locate ≡ true → Few s replies → Ordered last s replies (Locate a)
  crosses : (a : Address) → a.0 ≡ 3000 → s.position.next.0 ≡ 2990 → s.position.locate ≡ false → FewRead s replies → Ordered last s replies (Locate a)
  reads : (a : Address) → a.0 ≡ s.position.next.0 → is_user last s.position.next.0 ≡ true → s.position.locate ≡ false → FewRead s replies → Ordered last s replies (Read a)

-- and where the drive stands; a LOCATE may be asked for from anywhere
abbrev pub Stood : Reading → ℕ → Command → Type 0
Stood s at (Read a) = at ≡ s.position.next.0
Stood s at (Write a) = Unit {0}
Stood s at (Locate a) = Unit {0}
Stood s at ReadPosition = Unit {0}

-- what the drive answered, with a frame or none
pub data Served (last : ℕ) (t : Tape) (s : Reading) (at replies : ℕ) (r : Reply) : Option (List ℕ) → Command → Type 0 where
  located : (a : Address) → Means r good → at ≡ a.0 → Ordered last s replies (Locate a) → Served last t s at replies r none (Locate a)
  brought : (a : Address) (frame : List ℕ) → Means r good ⊎ Means r recovered → t s.position.next.0 ≡ some frame → at ≡ s.position.next.0 + 1 → Ordered last s replies (Read a) → Served last t s at replies r (some frame) (Read a)
  missed : (a : Address) → Means r unreadable → t s.position.next.0 ≡ none → at ≡ s.position.next.0 + 1 → Ordered last s replies (Read a) → Served last t s at replies r none (Read a)
  blank : (a : Address) → Means r end_of_data → ((b : ℕ) → s.position.next.0 ≤ b → b < s.position.next.0 + 32 → t b ≡ none) → Ordered last s replies (Read a) → Served last t s at replies r none (Read a)
  no_more : (a : Address) → Means r end_of_medium → ((b : ℕ) → s.position.next.0 ≤ b → t b ≡ none) → Ordered last s replies (Read a) → Served last t s at replies r none (Read a)
  waits : (c : Command) → Means r busy → Ordered last s replies c → Stood s at c → Served last t s at replies r none c

pub data Agreed (last : ℕ) (t : Tape) (s : Reading) (at replies : ℕ) : Flight → Type 0 where
  to_seek : s.exchange.awaiting ≡ false → s.exchange.again ≡ false → Here last s → s.position.locate ≡ true → Few s replies → Agreed last t s at replies readings.no_command
  to_read : s.exchange.awaiting ≡ false → s.exchange.again ≡ false → Here last s → s.position.locate ≡ false → at ≡ s.position.next.0 → FewRead s replies → Agreed last t s at replies readings.no_command
  again : s.exchange.awaiting ≡ false → s.exchange.again ≡ true → Ordered last s replies s.exchange.command → Stood s at s.exchange.command → Agreed last t s at replies readings.no_command
  under_way : (c : Command) → s.exchange.awaiting ≡ true → s.exchange.again ≡ false → s.exchange.command ≡ c → Ordered last s replies c → Stood s at c → Agreed last t s at replies (readings.sent c)
  served : (r : Reply) (given : Option (List ℕ)) → s.exchange.awaiting ≡ true → s.exchange.again ≡ false → Served last t s at replies r given s.exchange.command → Agreed last t s at replies (readings.answered r given)

-- a reading that was refused: what the fold over the whole tape is
pub data Halted (told : Header) (t : Tape) (s : Reading) (n : Notes) : Type 0 where
  stops : (n.refused ≡ 10) ⊎ (n.refused ≡ 11) → whole_of told t ≡ stopped n.refused → Halted told t s n
  finds_no_end : n.refused ≡ 12 → whole_of told t ≡ going s.expected.0 n.deliveries s.trail → Halted told t s n

-- a reading at its end: the fold has what was delivered at EOD's address, and ends there
pub record Ended (told : Header) (t : Tape) (s : Reading) (got : List Element) : Type 0 where
  pub told_is : s.told ≡ told
  pub so_far : fold_of told t (end_of s).0 ≡ going s.expected.0 got s.trail
  pub whole : whole_of told t ≡ finished got (end_of s).0

pub data ReadInv (told : Header) (t : Tape) (w : World) : Type 0 where
  under : w.notes.refused ≡ 0 → w.notes.end ≡ false → Under told t w.session w.notes.deliveries
      → Agreed told.last.0 t w.session w.at w.notes.replies w.flight → ReadInv told t w
  over : w.notes.refused ≡ 0 → w.notes.end ≡ true → w.session.finished ≡ true → w.session.ended ≡ false → w.session.exchange.awaiting ≡ false → w.session.exchange.again ≡ false
      → w.flight ≡ readings.no_command → Ended told t w.session w.notes.deliveries → w.notes.replies ≤ reply_bound told.last.0 → ReadInv told t w
  halted : w.notes.end ≡ false → w.session.ended ≡ true → w.flight ≡ readings.no_command → Halted told t w.session w.notes → ReadInv told t w

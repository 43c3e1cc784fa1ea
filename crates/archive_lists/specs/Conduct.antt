-- 01, "The drive's conduct". Nothing here says when the drive acts, or that it ever does.
use Rattle.std.specs.Prelude.{ℕ, ◌+◌, ◌≤◌, ◌<◌, ◌≡◌, Bool, true, false, ◌||◌, List, [], ◌∷◌, ◌++◌, ◌⊎◌, length}
use Rattle.std.proofs.Math.Option.{Option, none, some}
use Rattle.geometry.specs.Cartridge.{is_user, is_header}
use Rattle.geometry.specs.declared.address.Address.{Address}
use Rattle.frame.specs.Sent.{ReadsAs}
use Rattle.drive.specs.declared.command.Command.{Command}
use Rattle.drive.specs.declared.command.Command.TheVariants.{Read, Write, Locate, ReadPosition}
use Rattle.drive.specs.declared.reply.Reply.{Reply}
use Rattle.drive.specs.Listed.{Means, Listed}
use Rattle.drive.specs.Senses.{meaning_of, good, busy, write_error, volume_overflow, recovered, unreadable, end_of_data, end_of_medium}
use Rattle.archive_lists.specs.Tape.{Tape, put}

-- ---- a drive that records

-- the drive with the tape that is in it
pub record Drive : Type 0 where
  pub tape : Tape
  -- the address of the oldest buffered frame, or of the next to come
  pub at : ℕ
  -- the buffered frames, oldest first, and whether the oldest has failed
  pub buffer : List (List ℕ)
  pub failed : Bool
  -- the addresses written so far, failed ones too
  pub written : List ℕ

-- a drive that writes nothing until a LOCATE: it has nothing buffered, or has stopped at a failure. Every list of a recording starts with
-- such a drive. Any other might still write an earlier session's frames, anywhere, while 01 has nobody else alter the tape; and the LOCATEs by which the
-- host read the header copies have emptied the buffer. Stopped at a failure is said too, for a session may have ended there with 9 or 12
pub data AtRest (d : Drive) : Type 0 where
  empty : d.buffer ≡ [] → AtRest d
  stopped : d.failed ≡ true → AtRest d

-- what a written frame reads as: as it was sent, the drive's own AUX bytes aside
pub data Written (sent : List ℕ) : Option (List ℕ) → Type 0 where
  reads : (read : List ℕ) → ReadsAs sent read → Written sent (some read)

-- what a failed address reads as: what it did, the frame that failed, or nothing
pub data Left (before : Option (List ℕ)) (sent : List ℕ) : Option (List ℕ) → Type 0 where
  as_before : Left before sent before
  as_new : (v : Option (List ℕ)) → Written sent v → Left before sent v
  not_at_all : Left before sent none

-- the oldest frame is on tape, and reads as v
abbrev pub wrote : Drive → List (List ℕ) → Option (List ℕ) → Drive
wrote d rest v = record { tape = put d.tape d.at v; at = d.at + 1; buffer = rest; failed = false; written = d.at ∷ d.written }

-- its write has failed, and the address reads as v
abbrev pub failing : Drive → Option (List ℕ) → Drive
failing d v = record { tape = put d.tape d.at v; at = d.at; buffer = d.buffer; failed = true; written = d.at ∷ d.written }

-- what the drive does by itself: the oldest buffered frame is written to the next address, or fails there, which stops it
pub data Acts (d : Drive) : Drive → Type 0 where
  writes : (f : List ℕ) (rest : List (List ℕ)) (v : Option (List ℕ)) → d.buffer ≡ f ∷ rest → d.failed ≡ false → Written f v → Acts d (wrote d rest v)
  fails : (f : List ℕ) (rest : List (List ℕ)) (v : Option (List ℕ)) → d.buffer ≡ f ∷ rest → d.failed ≡ false
      → Left (d.tape d.at) f v → Acts d (failing d v)

-- one more frame is buffered
abbrev pub taking : Drive → List ℕ → Drive
taking d f = record { tape = d.tape; at = d.at; buffer = d.buffer ++ f ∷ []; failed = d.failed; written = d.written }

-- LOCATE empties the buffer
abbrev pub moved : Drive → ℕ → Drive
moved d a = record { tape = d.tape; at = a; buffer = []; failed = false; written = d.written }

-- what the drive answers to a recording's command, for a WRITE with this frame, and what it does then
pub data Answers (d : Drive) (frame : List ℕ) : Command → Reply → Drive → Type 0 where
  -- a WRITE that it takes
  takes : (a : Address) (r : Reply) → Means r good → Answers d frame (Write a) r (taking d frame)
  -- 0D/00/02: a WRITE that it does not take, of an element or EOD
  overflows : (a : Address) (r : Reply) → is_header a.0 ≡ false → Means r volume_overflow → Answers d frame (Write a) r d
  -- f is how many frames are buffered, the failed one and those behind it among them
  counts : (r : Reply) → Means r good → r.buffered ≡ length d.buffer → Answers d frame ReadPosition r d
  -- a write error is told for a failed frame alone, with its address
  write_fails : (a : Address) (r : Reply) → Means r write_error → d.failed ≡ true → r.position.0 ≡ d.at → Answers d frame (Write a) r d
  position_fails : (r : Reply) → Means r write_error → d.failed ≡ true → r.position.0 ≡ d.at → Answers d frame ReadPosition r d
  locates : (a : Address) (r : Reply) → Means r good → Answers d frame (Locate a) r (moved d a.0)
  -- a READ alters nothing
  reads : (a : Address) (r : Reply) → Listed (Read a) (meaning_of r.key r.asc r.ascq) → Answers d frame (Read a) r d
  -- busy, or a reply that is not listed for the command: nothing is done, but that a LOCATE may have been
  waits : (c : Command) (r : Reply) → Means r busy → Answers d frame c r d
  waits_located : (a : Address) (r : Reply) → Means r busy → Answers d frame (Locate a) r (moved d a.0)
  rejects : (c : Command) (r : Reply) → (Listed c (meaning_of r.key r.asc r.ascq) → ⊥) → Answers d frame c r d
  rejects_located : (a : Address) (r : Reply) → (Listed (Locate a) (meaning_of r.key r.asc r.ascq) → ⊥)
      → Answers d frame (Locate a) r (moved d a.0)

-- ---- a drive that reads: its tape doesn't change, and at is where it stands

-- what it answers to LOCATE and READ, a reading's commands, the frame that it brings with it or none, and where it stands then. Every reply is listed
-- for its command
pub data Serves (t : Tape) (at : ℕ) : Command → Reply → Option (List ℕ) → ℕ → Type 0 where
  locates : (a : Address) (r : Reply) → Means r good → Serves t at (Locate a) r none a.0
  -- the frame that reads there
  brings : (a : Address) (r : Reply) (frame : List ℕ) → Means r good ⊎ Means r recovered → t at ≡ some frame
      → Serves t at (Read a) r (some frame) (at + 1)
  -- 03/11/00: nothing reads there
  misses : (a : Address) (r : Reply) → Means r unreadable → t at ≡ none → Serves t at (Read a) r none (at + 1)
  -- 08/00/05: nothing reads there nor at any of the 31 addresses behind it, those that are no user frames among them
  blanks : (a : Address) (r : Reply) (next : ℕ) → Means r end_of_data → ((b : ℕ) → at ≤ b → b < at + 32 → t b ≡ none)
      → Serves t at (Read a) r none next
  -- 00/00/02: nothing reads there nor at any address behind it
  ends : (a : Address) (r : Reply) (next : ℕ) → Means r end_of_medium → ((b : ℕ) → at ≤ b → t b ≡ none) → Serves t at (Read a) r none next
  -- busy: a READ was not carried out; a LOCATE may have been
  waits : (c : Command) (r : Reply) → Means r busy → Serves t at c r none at
  waits_located : (a : Address) (r : Reply) → Means r busy → Serves t at (Locate a) r none a.0

-- 00, demand 3: every address written is that of a header copy or of a user frame
pub data Within (last : ℕ) : List ℕ → Type 0 where
  nothing_written : Within last []
  one_more : (a : ℕ) (rest : List ℕ) → (is_header a || is_user last a) ≡ true → Within last rest → Within last (a ∷ rest)

-- 01, "Replies": which meanings are listed for a command.
use Rattle.std.specs.Prelude.{ℕ, ◌≡◌, false}
use Rattle.geometry.specs.Cartridge.{is_header}
use Rattle.geometry.specs.declared.address.Address.{Address}
use Rattle.drive.specs.Senses.{meaning_of, good, busy, write_error, volume_overflow, recovered, unreadable, end_of_data, end_of_medium}
use Rattle.drive.specs.declared.command.Command.{Command}
use Rattle.drive.specs.declared.command.Command.TheVariants.{Read, Write, Locate, ReadPosition}
use Rattle.drive.specs.declared.reply.Reply.{Reply}

-- the meaning of a reply's sense triple
abbrev pub Means : Reply → ℕ → Type 0
Means r m = meaning_of r.key r.asc r.ascq ≡ m

-- the meanings listed for a command; anything else is refused with 8
pub data Listed : Command → ℕ → Type 0 where
  locate_good : {a : Address} → Listed (Locate a) good
  locate_busy : {a : Address} → Listed (Locate a) busy
  write_good : {a : Address} → Listed (Write a) good
  write_busy : {a : Address} → Listed (Write a) busy
  write_with_error : {a : Address} → Listed (Write a) write_error
  -- not in answer to the WRITE of a header copy
  write_overflow : {a : Address} → is_header a.0 ≡ false → Listed (Write a) volume_overflow
  position_good : Listed ReadPosition good
  position_busy : Listed ReadPosition busy
  position_error : Listed ReadPosition write_error
  read_good : {a : Address} → Listed (Read a) good
  read_busy : {a : Address} → Listed (Read a) busy
  read_recovered : {a : Address} → Listed (Read a) recovered
  read_unreadable : {a : Address} → Listed (Read a) unreadable
  read_end_of_data : {a : Address} → Listed (Read a) end_of_data
  read_end_of_medium : {a : Address} → Listed (Read a) end_of_medium

-- 01, "Replies": a command with the meaning of its reply, as one number by which a session tells replies apart.
use Rattle.std.specs.Prelude.{ℕ, ◌+◌, ◌*◌}
use Rattle.drive.specs.Command.{read_code, write_code, locate_code, read_position_code, command_code}
use Rattle.drive.specs.Senses.{meaning_of, good, busy, write_error, volume_overflow, recovered, unreadable, end_of_data, end_of_medium}
use Rattle.drive.specs.declared.command.Command.{Command}
use Rattle.drive.specs.declared.reply.Reply.{Reply}

-- the operation code and, as the low byte, the code of the meaning
abbrev pub case_number : ℕ → ℕ → ℕ
case_number code meaning = code * 256 + meaning

-- that of a command and its reply
abbrev pub case_of : Command → Reply → ℕ
case_of c r = case_number (command_code c) (meaning_of r.key r.asc r.ascq)

-- LOCATE
abbrev pub locate_good : ℕ
locate_good = case_number locate_code good

abbrev pub locate_busy : ℕ
locate_busy = case_number locate_code busy

-- WRITE
abbrev pub write_good : ℕ
write_good = case_number write_code good

abbrev pub write_busy : ℕ
write_busy = case_number write_code busy

abbrev pub write_failed : ℕ
write_failed = case_number write_code write_error

abbrev pub write_overflow : ℕ
write_overflow = case_number write_code volume_overflow

-- READ POSITION
abbrev pub position_good : ℕ
position_good = case_number read_position_code good

abbrev pub position_busy : ℕ
position_busy = case_number read_position_code busy

abbrev pub position_failed : ℕ
position_failed = case_number read_position_code write_error

-- READ
abbrev pub read_good : ℕ
read_good = case_number read_code good

abbrev pub read_busy : ℕ
read_busy = case_number read_code busy

abbrev pub read_recovered : ℕ
read_recovered = case_number read_code recovered

abbrev pub read_unreadable : ℕ
read_unreadable = case_number read_code unreadable

abbrev pub read_end_of_data : ℕ
read_end_of_data = case_number read_code end_of_data

abbrev pub read_end_of_medium : ℕ
read_end_of_medium = case_number read_code end_of_medium

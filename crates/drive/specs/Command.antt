-- The commands by their operation codes (table 4-1 of the standard) and addresses.
use Rattle.std.specs.Prelude.{ℕ, eqb}
use Rattle.geometry.specs.Place.{as_address}
use Rattle.geometry.specs.Pick.{pick}
use Rattle.geometry.specs.declared.address.Address.{Address}
use Rattle.drive.specs.declared.command.Command.{Command}
use Rattle.drive.specs.declared.command.Command.TheVariants.{Read, Write, Locate, ReadPosition}

-- the operation codes
abbrev pub read_code : ℕ
read_code = 0x08

abbrev pub write_code : ℕ
write_code = 0x0A

abbrev pub locate_code : ℕ
locate_code = 0x2B

abbrev pub read_position_code : ℕ
read_position_code = 0x34

-- the code of a command
abbrev pub command_code : Command → ℕ
command_code (Read a) = read_code
command_code (Write a) = write_code
command_code (Locate a) = locate_code
command_code ReadPosition = read_position_code

-- READ POSITION has no address
abbrev pub command_address : Command → Address
command_address (Read a) = a
command_address (Write a) = a
command_address (Locate a) = a
command_address ReadPosition = as_address 0

-- the command of a code and an address, which the host sends; no other code is answered
abbrev pub command_by : ℕ → ℕ → Command
command_by code a =
    pick (eqb code read_code) (Read (as_address a))
    (pick (eqb code write_code) (Write (as_address a))
    (pick (eqb code locate_code) (Locate (as_address a)) ReadPosition))

-- a command as it is sent: operation code and address
pub record CommandSaid : Type 0 where
  pub code : ℕ
  pub address : ℕ

-- what the code sends
abbrev pub command_said : Command → CommandSaid
command_said c = record { code = command_code c; address = (command_address c).0 }

-- the command that it stands for
abbrev pub command_for : CommandSaid → Command
command_for x = command_by x.code x.address

-- the commands as they are sent, each for an address
abbrev pub read : ℕ → CommandSaid
read a = record { code = read_code; address = a }

abbrev pub write : ℕ → CommandSaid
write a = record { code = write_code; address = a }

abbrev pub locate : ℕ → CommandSaid
locate a = record { code = locate_code; address = a }

abbrev pub read_position : CommandSaid
read_position = record { code = read_position_code; address = 0 }

-- Flags, commands and exchanges as numbers. A struct's twin is the struct of numbers that stands for it at C's side: `.._twin` gives it, `.._of` what it
-- stands for, and `is_..` tells whether it stands for anything. Numbers that stand for nothing have some value all the same; the tests keep it from use.
use Rattle.std.specs.Prelude.{ℕ, Bool, ◌&&◌, ◌||◌, eqb, leb}
use Rattle.geometry.specs.Pick.{pick}
use Rattle.drive.specs.Command.{read_code, write_code, locate_code, read_position_code, command_code, command_address, command_by}
use Rattle.drive.specs.declared.command.Command.{Command}
use Rattle.drive.specs.declared.exchange.Exchange.{Exchange}
use Rattle.exchange_twins.specs.declared.numbers.AdrCommand.{AdrCommand}
use Rattle.exchange_twins.specs.declared.numbers.AdrExchange.{AdrExchange}

-- a flag is 0 or 1
abbrev pub is_flag : ℕ → Bool
is_flag n = leb n 1

-- the flag that a number is
abbrev pub flag_of : ℕ → Bool
flag_of n = eqb n 1

-- a flag's number
abbrev pub flag_number : Bool → ℕ
flag_number b = pick b 1 0

-- a command is an operation code and its address, 0 for READ POSITION
abbrev pub is_command : AdrCommand → Bool
is_command c =
    ((eqb c.code read_code || eqb c.code write_code) || eqb c.code locate_code)
    || (eqb c.code read_position_code && eqb c.address 0)

-- its numbers
abbrev pub command_twin : Command → AdrCommand
command_twin c = record { code = command_code c; address = (command_address c).0 }

-- an exchange: its command, and two flags
abbrev pub is_exchange : AdrExchange → Bool
is_exchange x = (is_command x.command && is_flag x.awaiting) && is_flag x.again

-- the exchange that has these numbers
abbrev pub exchange_of : AdrExchange → Exchange
exchange_of x = record { command = command_by x.command.code x.command.address; awaiting = flag_of x.awaiting; again = flag_of x.again }

-- its numbers
abbrev pub exchange_twin : Exchange → AdrExchange
exchange_twin x = record { command = command_twin x.command; awaiting = flag_number x.awaiting; again = flag_number x.again }

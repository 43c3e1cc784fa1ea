-- 01, "A recording session": the host alternates, a command fetched and its reply brought.
use Rattle.std.specs.Prelude.{true, false}
use Rattle.drive.specs.declared.command.Command.{Command}
use Rattle.drive.specs.declared.command.Command.TheVariants.{ReadPosition}
use Rattle.drive.specs.declared.exchange.Exchange.{Exchange}

-- before the first command
abbrev pub unsent : Exchange
unsent = record { command = ReadPosition; awaiting = false; again = false }

-- a command goes out, and its reply is awaited
abbrev pub sent_of : Command → Exchange
sent_of c = record { command = c; awaiting = true; again = false }

-- the reply is taken in
abbrev pub replied_of : Exchange → Exchange
replied_of x = record x { awaiting = false }

-- answered busy: no reply is awaited any more, and the command is to be given once more
abbrev pub repeated_of : Exchange → Exchange
repeated_of x = record x { awaiting = false; again = true }

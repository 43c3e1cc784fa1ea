-- 01, "Reading a cartridge": the session with one thing changed; and 02, Card 1: whether it is at its end, and where that is.
use Rattle.std.specs.Prelude.{Bool, true, not, ◌&&◌, ◌||◌}
use Rattle.geometry.specs.Place.{preceding}
use Rattle.geometry.specs.declared.address.Address.{Address}
use Rattle.geometry.specs.declared.address.Seq.{Seq}
use Rattle.frame.specs.declared.trail.Trail.{Trail}
use Rattle.drive.specs.declared.exchange.Exchange.{Exchange}
use Rattle.reading_state.specs.declared.state.State.{State}

-- the exchange: the last command, and how it stands with its reply
abbrev pub with_exchange : State → Exchange → State
with_exchange s x = record s { exchange = x }

-- the next address, and whether a LOCATE of it comes first
abbrev pub with_position : State → Address → Bool → State
with_position s next locate = record s { position = record { next = next; locate = locate } }

-- the number that is expected, and the filemarks before it
abbrev pub with_expected : State → Seq → Trail → State
with_expected s expected trail = record s { expected = expected; trail = trail }

-- EOD was read
abbrev pub with_end : State → State
with_end s = record s { finished = true }

-- refusals from 8 on: session ended
abbrev pub ended_of : State → State
ended_of s = record s { ended = true }

-- the reading is at its end: a fetch says so
abbrev pub is_at_end : State → Bool
is_at_end s = s.finished && not (s.ended || s.exchange.awaiting || s.exchange.again)

-- where it ended: the address of its EOD, which is the one before the next
abbrev pub end_of : State → Address
end_of s = preceding s.position.next

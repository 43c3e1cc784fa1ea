-- 01, "A recording session": which header the copies carry.
use Rattle.std.specs.Prelude.{ℕ, ◌+◌, Bool, ◌||◌, nat_le, nat_lt}
use Rattle.geometry.specs.Place.{as_address, preceding}
use Rattle.geometry.specs.Wrap.{wrap16, wrap32}
use Rattle.geometry.specs.declared.address.Address.{Address}
use Rattle.frame.specs.Header.{highest_pass}
use Rattle.frame.specs.declared.header.Header.{Header}

-- opening headers: EOD address 0, and no old end. On no header, pass 1 and update count 0
abbrev pub opening_header : Address → ℕ → ℕ → Header
opening_header last pass update = record { last = last; pass = pass; eod = as_address 0; old = as_address 0; update = update }

-- the highest update count that can be raised twice
abbrev highest_update : ℕ
highest_update = 4294967293

-- the count is above it
abbrev pub is_counted_out : ℕ → Bool
is_counted_out update = nat_lt highest_update update

-- refusal 5: the pass is at its highest, or the update count above its own
abbrev pub is_exhausted : Header → Bool
is_exhausted h = nat_le highest_pass h.pass || is_counted_out h.update

-- both counts are raised; they wrap only where the opening is refused
abbrev pub renewed : Header → Header
renewed h = opening_header h.last (wrap16 (h.pass + 1)) (wrap32 (h.update + 1))

-- 02, Card 1: of a recording that adds to a cartridge, in the same pass and with its old end named
abbrev pub added_to : Address → ℕ → ℕ → Address → Header
added_to last pass update end = record { last = last; pass = pass; eod = as_address 0; old = end; update = wrap32 (update + 1) }

-- closing headers: the count is raised again, and EOD is named, which stands before the next address; the old end is not named any more
abbrev pub closing_of : Header → Address → Header
closing_of h next = record h { eod = preceding next; old = as_address 0; update = wrap32 (h.update + 1) }

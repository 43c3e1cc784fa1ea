-- 01, "Reading a cartridge": opening, with the geometry and a header that the host has read.
use Rattle.std.specs.Prelude.{ℕ, true, false, List, Result}
use Rattle.geometry.specs.Refusal.{verdict_number}
use Rattle.geometry.specs.declared.refusal.Refusal.{Refusal}
use Rattle.geometry.specs.Place.{as_address, as_seq}
use Rattle.geometry.specs.Cartridge.{first_user}
use Rattle.geometry.specs.declared.cartridge.Geometry.{Geometry}
use Rattle.frame.specs.Trail.{no_trail}
use Rattle.frame.specs.declared.header.Header.{Header}
use Rattle.header.specs.Read.{CheckedSaid, valid, refused, read_header}
use Rattle.drive.specs.Exchange.{unsent}
use Rattle.reading_state.specs.declared.state.State.{State}
use Rattle.reading_state.specs.State.{ended_of}

-- the session and the number of the refusal, 0 for none
pub record OpenedSaid : Type 0 where
  pub session : State
  pub number : ℕ

-- what an opening returned, with its refusal by number
abbrev pub opened_said : State × Result Unit Refusal → OpenedSaid
opened_said r = record { session = r.0; number = verdict_number r.1 }

-- a session whose LOCATE 10 is due and that expects number 0
abbrev pub fresh : Header → State
fresh told = record {
  told = told;
  position = record { next = as_address first_user; locate = true };
  expected = as_seq 0;
  trail = no_trail;
  exchange = unsent;
  finished = false;
  ended = false;
}

-- where no header tells anything
abbrev pub told_nothing : Header
told_nothing = record { last = as_address 0; pass = 0; eod = as_address 0; old = as_address 0; update = 0 }

-- a refused opening returns a session that has ended
abbrev pub open_refused : ℕ → OpenedSaid
open_refused n = record { session = ended_of (fresh told_nothing); number = n }

-- a header that is valid gives its fields; any other is refused with 1, 2 or 3
abbrev pub open_for : CheckedSaid → OpenedSaid
open_for (valid header) = record { session = fresh header; number = 0 }
open_for (refused n) = open_refused n

-- the opening of a reading
unfoldable pub open_of : Geometry → List ℕ → OpenedSaid
open_of g h = open_for (read_header g h)

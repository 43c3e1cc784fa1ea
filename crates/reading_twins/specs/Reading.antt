-- A reading session as numbers.
use Rattle.std.specs.Prelude.{Bool, ◌&&◌, Result, Ok, Err}
use Rattle.geometry.specs.Pick.{pick}
use Rattle.geometry.specs.Place.{as_address, as_seq}
use Rattle.geometry.specs.declared.refusal.Refusal.{Refusal}
use Rattle.geometry.specs.declared.refusal.Refusal.TheVariants.{Phase}
use Rattle.frame.specs.declared.header.Header.{Header}
use Rattle.reading_state.specs.declared.state.State.{State}
use Rattle.exchange_twins.specs.Numbers.{is_flag, flag_of, flag_number, is_exchange, exchange_of, exchange_twin}
use Rattle.exchange_twins.specs.Trails.{trail_of, trail_twin}
use Rattle.reading_twins.specs.declared.reading_numbers.AdrTold.{AdrTold}
use Rattle.reading_twins.specs.declared.reading_numbers.AdrReading.{AdrReading}

-- what the header tells that has these numbers
abbrev pub told_of : AdrTold → Header
told_of t = record { last = as_address t.last; pass = t.pass; eod = as_address t.eod; old = as_address t.old; update = t.update }

-- its numbers
abbrev pub told_twin : Header → AdrTold
told_twin t = record { last = t.last.0; eod = t.eod.0; old = t.old.0; update = t.update; pass = t.pass }

-- whether the numbers are a session's
unfoldable pub is_reading : AdrReading → Bool
is_reading s = ((is_exchange s.exchange && is_flag s.position.locate) && is_flag s.finished) && is_flag s.ended

-- the session that has these numbers
unfoldable pub reading_state_of : AdrReading → State
reading_state_of s = record {
  told = told_of s.told;
  position = record { next = as_address s.position.next; locate = flag_of s.position.locate };
  expected = as_seq s.expected;
  trail = trail_of s.trail;
  exchange = exchange_of s.exchange;
  finished = flag_of s.finished;
  ended = flag_of s.ended;
}

-- its numbers
unfoldable pub reading_state_twin : State → AdrReading
reading_state_twin s = record {
  told = told_twin s.told;
  position = record { next = s.position.next.0; locate = flag_number s.position.locate };
  expected = s.expected.0;
  trail = trail_twin s.trail;
  exchange = exchange_twin s.exchange;
  finished = flag_number s.finished;
  ended = flag_number s.ended;
}

-- numbers that are no session's are refused with 7
abbrev pub checked_reading : AdrReading → Result State Refusal
checked_reading s = pick (is_reading s) (Ok (reading_state_of s)) (Err Phase)

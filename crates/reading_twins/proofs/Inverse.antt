-- A reading session as numbers and back. Assumes nothing.
use mathlib.Core.Path.{◌≡◌}
use mathlib.Core.Bool.{true}
use Rattle.geometry.proofs.TestLaws.{and_true}
use Rattle.reading_state.specs.declared.state.State.{State}
use Rattle.exchange_twins.specs.ComesBack.{ComesBack}
use Rattle.exchange_twins.specs.Numbers.{is_flag, is_exchange}
use Rattle.exchange_twins.proofs.FlagLaws.{flag_back, flag_known, flag_number_lem}
use Rattle.exchange_twins.proofs.Inverse.{exchange_back, exchange_known, exchange_number}
use Rattle.reading_twins.specs.declared.reading_numbers.AdrReading.{AdrReading}
use Rattle.reading_twins.specs.Reading.{is_reading, reading_state_of, reading_state_twin}

-- every session comes back from its numbers
pub reading_back : (s : State) → reading_state_of (reading_state_twin s) ≡ s
unfolding reading_state_of reading_state_twin
reading_back s = rw (exchange_back s.exchange, flag_back s.position.locate, flag_back s.finished, flag_back s.ended)

-- and its numbers are a session's
pub reading_known : (s : State) → is_reading (reading_state_twin s) ≡ true
unfolding is_reading reading_state_twin
reading_known s = rw (exchange_known s.exchange, flag_known s.position.locate, flag_known s.finished, flag_known s.ended)

-- numbers that are a session's come back from their session
pub reading_numbers_lem : (t : AdrReading) → is_reading t ≡ true → reading_state_twin (reading_state_of t) ≡ t
unfolding is_reading reading_state_of reading_state_twin
reading_numbers_lem t h =
    let h3 = and_true _ (is_flag t.ended) h in
    let h2 = and_true _ (is_flag t.finished) h3.0 in
    let h1 = and_true (is_exchange t.exchange) (is_flag t.position.locate) h2.0 in
    rw (exchange_number t.exchange h1.0, flag_number_lem t.position.locate h1.1, flag_number_lem t.finished h2.1, flag_number_lem t.ended h3.1)

pub reading_comes_back : ComesBack is_reading reading_state_of reading_state_twin
reading_comes_back = record { back = reading_back; known = reading_known; numbers = reading_numbers_lem }

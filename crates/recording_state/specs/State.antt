-- 01, "A recording session": the session's terms, and what a call's outcome is in 01's numbers.
use Rattle.std.specs.Prelude.{ℕ, ◌+◌, ◌*◌, Bool, true, false, ◌&&◌, not, eqb, ltb, Result}
use Rattle.geometry.specs.Pick.{pick}
use Rattle.geometry.specs.Refusal.{verdict_number}
use Rattle.geometry.specs.declared.refusal.Refusal.{Refusal}
use Rattle.frame.specs.Lengths.{data_length}
use Rattle.frame.specs.declared.header.Header.{Header}
use Rattle.drive.specs.Exchange.{unsent}
use Rattle.drive.specs.declared.exchange.Exchange.{Exchange}
use Rattle.carried_headers.specs.Carried.{closing_of}
use Rattle.copies.specs.Copies as copies
use Rattle.copies.specs.declared.copies.Copies.{Copies}
use Rattle.elements.specs.Elements as elements
use Rattle.elements.specs.declared.elements.Elements.{Elements}
use Rattle.recording_state.specs.declared.state.State.{State}
use Rattle.recording_state.specs.declared.state.Stage.{Stage}
use Rattle.recording_state.specs.declared.state.Stage.TheVariants as S

-- W, the number of blocks of the window, of which a session holds W − 1
abbrev pub blocks_of : State → ℕ
blocks_of s = s.setup.highest + 1

-- the window's length in bytes
abbrev pub window_length : State → ℕ
window_length s = blocks_of s * data_length

-- the session and the number of the refusal, 0 for none
pub record OutcomeSaid : Type 0 where
  pub session : State
  pub number : ℕ

-- what the code returns, in these terms
abbrev pub outcome_said : State × Result Unit Refusal → OutcomeSaid
outcome_said r = record { session = r.0; number = verdict_number r.1 }

-- not refused
abbrev pub accepting : State → OutcomeSaid
accepting s = record { session = s; number = 0 }

-- refused, and the session as it was: 1 to 7
abbrev pub refusing : State → ℕ → OutcomeSaid
refusing s n = record { session = s; number = n }

-- the stages in their order
abbrev pub following_of : Stage → Stage
following_of S.OpeningHeaders = S.Elements
following_of S.Elements = S.ClosingHeaders
following_of S.ClosingHeaders = S.Done
following_of S.Done = S.Done

-- the session in another stage
abbrev pub with_stage : State → Stage → State
with_stage s stage = record s { stage = stage }

-- with another exchange
abbrev pub with_exchange : State → Exchange → State
with_exchange s x = record s { exchange = x }

-- with other header copies
abbrev pub with_copies : State → Copies → State
with_copies s c = record s { copies = c }

-- with other elements
abbrev pub with_elements : State → Elements → State
with_elements s e = record s { elements = e }

-- close was called
abbrev pub closed_of : State → State
closed_of s = record s { closed = true }

-- 02, Card 6: the session is spent by a 9 for an element, if T is above 0. It has no room for elements, and close can be called once more
abbrev pub is_spending : State → ℕ → Bool
is_spending s n = eqb n 9 && (ltb 0 s.setup.tail && not s.elements.eod)

-- refusals from 8 on: session ended, for good unless it is spent
abbrev pub ended_of : State → ℕ → State
ended_of s n = record s { ended = true; spent = is_spending s n }

-- refused, and the session ended: from 8 on
abbrev pub ending : State → ℕ → OutcomeSaid
ending s n = record { session = ended_of s n; number = n }

-- its close: what is not on tape is dropped, EOD becomes due, and the exchange with the drive starts anew
abbrev pub given_up_of : State → State
given_up_of s = record s {
  exchange = unsent;
  closed = true;
  ended = false;
  spent = false;
  elements = elements.given_up_of s.elements;
}

-- EOD becomes due
abbrev pub eod_due : State → State
eod_due s = with_elements s (elements.eod_due s.elements)

-- closing headers, behind EOD, which was the last frame taken: its address is the one before the next
abbrev pub closing_header : State → Header
closing_header s = closing_of s.copies.header s.elements.course.next

-- they are due
abbrev pub closing_started : State → State
closing_started s = with_stage (with_copies s (copies.start_of (closing_header s))) S.ClosingHeaders

-- every element that was due is on tape: behind EOD the closing headers, after close EOD
abbrev pub settled_by : Stage → State → State
settled_by S.OpeningHeaders s = s
settled_by S.Elements s = pick s.elements.eod (closing_started s) (pick s.closed (eod_due s) s)
settled_by S.ClosingHeaders s = s
settled_by S.Done s = s

-- the session goes on where nothing is left to confirm
unfoldable pub settled_of : State → State
settled_of s = pick (ltb 0 s.elements.queue.pending) s (settled_by s.stage s)

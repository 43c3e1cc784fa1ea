-- A recording session as numbers.
use Rattle.std.specs.Prelude.{Bool, ◌&&◌, map, Result, Ok, Err}
use Rattle.geometry.specs.Pick.{pick}
use Rattle.geometry.specs.Place.{as_address, as_seq}
use Rattle.geometry.specs.declared.refusal.Refusal.{Refusal}
use Rattle.geometry.specs.declared.refusal.Refusal.TheVariants.{Phase}
use Rattle.frame.specs.declared.header.Header.{Header}
use Rattle.copies.specs.declared.copies.Copies.{Copies}
use Rattle.elements.specs.declared.elements.Elements.{Elements}
use Rattle.recording_state.specs.declared.state.Setup.{Setup}
use Rattle.recording_state.specs.declared.state.State.{State}
use Rattle.exchange_twins.specs.Numbers.{is_flag, flag_of, flag_number, is_exchange, exchange_of, exchange_twin}
use Rattle.exchange_twins.specs.Trails.{trail_of, trail_twin}
use Rattle.recording_twins.specs.declared.recording_numbers.AdrSetup.{AdrSetup}
use Rattle.recording_twins.specs.declared.recording_numbers.AdrHeader.{AdrHeader}
use Rattle.recording_twins.specs.declared.recording_numbers.AdrCopies.{AdrCopies}
use Rattle.recording_twins.specs.declared.recording_numbers.AdrElements.{AdrElements}
use Rattle.recording_twins.specs.declared.recording_numbers.AdrRecording.{AdrRecording}
use Rattle.recording_twins.specs.Stages.{is_stage, stage_of, stage_number}
use Rattle.recording_twins.specs.Marks.{all_flags}

abbrev pub setup_of : AdrSetup → Setup
setup_of n = record { depth = n.depth; highest = n.highest; tail = n.tail }

abbrev pub setup_twin : Setup → AdrSetup
setup_twin s = record { depth = s.depth; highest = s.highest; tail = s.tail }

-- the fields of a header that have these numbers
abbrev pub header_of : AdrHeader → Header
header_of h = record { last = as_address h.last; pass = h.pass; eod = as_address h.eod; old = as_address h.old; update = h.update }

-- their numbers
abbrev pub header_twin : Header → AdrHeader
header_twin h = record { last = h.last.0; eod = h.eod.0; old = h.old.0; update = h.update; pass = h.pass }

-- the header copies that have these numbers
abbrev pub copies_of : AdrCopies → Copies
copies_of c = record {
  header = header_of c.header;
  group = c.group;
  copy = c.copy;
  outstanding = c.outstanding;
  confirmed = c.confirmed;
  locate = flag_of c.locate;
}

-- their numbers
abbrev pub copies_twin : Copies → AdrCopies
copies_twin c = record {
  header = header_twin c.header;
  group = c.group;
  copy = c.copy;
  outstanding = c.outstanding;
  confirmed = c.confirmed;
  locate = flag_number c.locate;
}

-- the elements and EOD that have these numbers
abbrev pub elements_of : AdrElements → Elements
elements_of e = record {
  queue = record { first = as_seq e.first; pending = e.pending; outstanding = e.outstanding; marks = map flag_of e.marks };
  course = record { next = as_address e.next; limit = as_address e.limit; locate = flag_of e.locate; target = as_address e.target };
  eod = flag_of e.eod;
  trail = trail_of e.trail;
}

-- their numbers
abbrev pub elements_twin : Elements → AdrElements
elements_twin e = record {
  first = e.queue.first.0;
  next = e.course.next.0;
  limit = e.course.limit.0;
  target = e.course.target.0;
  trail = trail_twin e.trail;
  pending = e.queue.pending;
  outstanding = e.queue.outstanding;
  locate = flag_number e.course.locate;
  eod = flag_number e.eod;
  marks = map flag_number e.queue.marks;
}

-- whether the numbers are a session's
unfoldable pub is_recording : AdrRecording → Bool
is_recording s =
    (((((((is_exchange s.exchange && is_stage s.stage)
    && is_flag s.closed) && is_flag s.ended) && is_flag s.spent)
    && is_flag s.copies.locate) && is_flag s.elements.locate) && is_flag s.elements.eod)
    && all_flags s.elements.marks

-- the session that has these numbers
unfoldable pub recording_state_of : AdrRecording → State
recording_state_of s = record {
  setup = setup_of s.setup;
  stage = stage_of s.stage;
  exchange = exchange_of s.exchange;
  closed = flag_of s.closed;
  ended = flag_of s.ended;
  spent = flag_of s.spent;
  copies = copies_of s.copies;
  elements = elements_of s.elements;
}

-- its numbers
unfoldable pub recording_state_twin : State → AdrRecording
recording_state_twin s = record {
  setup = setup_twin s.setup;
  stage = stage_number s.stage;
  closed = flag_number s.closed;
  ended = flag_number s.ended;
  spent = flag_number s.spent;
  exchange = exchange_twin s.exchange;
  copies = copies_twin s.copies;
  elements = elements_twin s.elements;
}

-- numbers that are no session's are refused with 7
abbrev pub checked_recording : AdrRecording → Result State Refusal
checked_recording s = pick (is_recording s) (Ok (recording_state_of s)) (Err Phase)

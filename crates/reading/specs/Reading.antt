-- What the public calls return, in the terms of the definitions over the session's state.
use Rattle.std.specs.Prelude.{Option, Result}
use Rattle.geometry.specs.Refusal.{verdict_number}
use Rattle.geometry.specs.declared.refusal.Refusal.{Refusal}
use Rattle.frame.specs.declared.element.Kind.{Kind}
use Rattle.drive.specs.declared.command.Command.{Command}
use Rattle.reading_state.specs.Open.{OpenedSaid}
use Rattle.reading_state.specs.Fetch.{FetchedSaid, answer_said}
use Rattle.reading_state.specs.Reply.{RepliedSaid, delivery_said}
use Rattle.reading.specs.declared.reading.Reading.{Reading}

-- the session and the number of the refusal, 0 for none
abbrev pub opened_said : Reading × Result Unit Refusal → OpenedSaid
opened_said r = record { session = r.0.state; number = verdict_number r.1 }

-- the session and what a fetch answers
abbrev pub fetched_said : Reading × Result (Option Command) Refusal → FetchedSaid
fetched_said r = record { session = r.0.state; said = answer_said r.1 }

-- the session and what a reply is answered
abbrev pub replied_said : Reading × Result (Option Kind) Refusal → RepliedSaid
replied_said t = record { session = t.0.state; said = delivery_said t.1 }

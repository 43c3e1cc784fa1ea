-- What the calls of a reading session return, as numbers. Numbers that are no session's come back as they are, with 7.
use Rattle.std.specs.Prelude.{ℕ}
use Rattle.reading_state.specs.Open.{OpenedSaid}
use Rattle.reading_state.specs.Fetch as fetch
use Rattle.reading_state.specs.Fetch.{AnswerSaid, FetchedSaid}
use Rattle.reading_state.specs.Reply as reply
use Rattle.reading_state.specs.Reply.{DeliverySaid, RepliedSaid}
use Rattle.reading_twins.specs.declared.reading_numbers.AdrReading.{AdrReading}
use Rattle.reading_twins.specs.Reading.{reading_state_twin}
use Rattle.reading_answers.specs.declared.reading_answers.AdrReadOpened.{AdrReadOpened}
use Rattle.reading_answers.specs.declared.reading_answers.AdrReadFetched.{AdrReadFetched}
use Rattle.reading_answers.specs.declared.reading_answers.AdrReadReplied.{AdrReadReplied}

-- the session and the number of the refusal, 0 for none
abbrev pub opened_twin : OpenedSaid → AdrReadOpened
opened_twin r = record { session = reading_state_twin r.session; number = r.number }

-- what a fetch answers, by number: 0 refused, 1 a command, 4 the end; without a command its code and address are 0
abbrev pub without_command : AdrReading → ℕ → ℕ → AdrReadFetched
without_command s answer number = record { session = s; command = record { code = 0; address = 0 }; answer = answer; number = number }

-- the numbers of an answer, beside the session
abbrev pub answer_twin : AnswerSaid → AdrReading → AdrReadFetched
answer_twin (fetch.command code at) s = record { session = s; command = record { code = code; address = at }; answer = 1; number = 0 }
answer_twin fetch.end s = without_command s 4 0
answer_twin (fetch.refused n) s = without_command s 0 n

-- the numbers of what a fetch returns
abbrev pub fetched_twin : FetchedSaid → AdrReadFetched
fetched_twin f = answer_twin f.said (reading_state_twin f.session)

-- numbers that are no session's
abbrev pub unknown_fetch : AdrReading → AdrReadFetched
unknown_fetch s = without_command s 0 7

-- what a reply is answered, by number: 0 refused, 4 the end, 5 nothing, 6 a block, 7 a filemark
abbrev pub with_answer : AdrReading → ℕ → ℕ → AdrReadReplied
with_answer s answer number = record { session = s; answer = answer; number = number }

-- the numbers of a delivery, beside the session
abbrev pub delivery_twin : DeliverySaid → AdrReading → AdrReadReplied
delivery_twin reply.nothing s = with_answer s 5 0
delivery_twin reply.block s = with_answer s 6 0
delivery_twin reply.filemark s = with_answer s 7 0
delivery_twin reply.end s = with_answer s 4 0
delivery_twin (reply.refused n) s = with_answer s 0 n

-- the numbers of what a reply returns
abbrev pub replied_twin : RepliedSaid → AdrReadReplied
replied_twin t = delivery_twin t.said (reading_state_twin t.session)

-- numbers that are no session's
abbrev pub unknown_reply : AdrReading → AdrReadReplied
unknown_reply s = with_answer s 0 7

-- The calls of a reading session, from numbers to numbers: each is the call on the session that they are, and numbers that are none come back with 7.
use Rattle.std.specs.Prelude.{ℕ, List}
use Rattle.geometry.specs.Pick.{pick}
use Rattle.drive.specs.declared.reply.Reply.{Reply}
use Rattle.reading_state.specs.Fetch.{fetch_of}
use Rattle.reading_state.specs.Reply.{reply_of}
use Rattle.reading_twins.specs.declared.reading_numbers.AdrReading.{AdrReading}
use Rattle.reading_twins.specs.Reading.{is_reading, reading_state_of}
use Rattle.reading_answers.specs.declared.reading_answers.AdrReadFetched.{AdrReadFetched}
use Rattle.reading_answers.specs.declared.reading_answers.AdrReadReplied.{AdrReadReplied}
use Rattle.reading_answers.specs.Reading.{fetched_twin, unknown_fetch, replied_twin, unknown_reply}

-- a fetch
unfoldable pub fetch_through : AdrReading → AdrReadFetched
fetch_through s = pick (is_reading s) (fetched_twin (fetch_of (reading_state_of s))) (unknown_fetch s)

-- a reply
unfoldable pub reply_through : AdrReading → Reply → List ℕ → AdrReadReplied
reply_through s r frame = pick (is_reading s) (replied_twin (reply_of (reading_state_of s) r frame)) (unknown_reply s)

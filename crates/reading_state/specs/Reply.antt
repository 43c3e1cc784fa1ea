-- 01, "Reading a cartridge" and "Replies", on READ: what a reply with a lent frame answers and leaves.
use Rattle.std.specs.Prelude.{ℕ, ◌+◌, Bool, true, false, not, ◌||◌, List, length, ◌==◌, Option, None, Some, Result, Ok, Err}
use Rattle.geometry.specs.Place.{as_address, as_seq}
use Rattle.geometry.specs.Pick.{pick}
use Rattle.geometry.specs.Refusal.{refusal_number}
use Rattle.geometry.specs.declared.refusal.Refusal.{Refusal}
use Rattle.geometry.specs.Cartridge.{past_reserved}
use Rattle.geometry.specs.Wrap.{wrap32}
use Rattle.geometry.specs.declared.address.Address.{Address}
use Rattle.frame.specs.Lengths.{frame_length}
use Rattle.frame.specs.Trail.{marked}
use Rattle.frame.specs.declared.element.Kind.{Kind}
use Rattle.frame.specs.declared.element.Kind.TheVariants.{Data, Marker, Eod}
use Rattle.frame.specs.declared.trail.Trail.{Trail}
use Rattle.drive.specs.Command.{command_address}
use Rattle.drive.specs.Cases as cases
use Rattle.drive.specs.Cases.{locate_good, locate_busy, read_good, read_busy, read_recovered, read_unreadable, read_end_of_data, read_end_of_medium}
use Rattle.drive.specs.Exchange as exchange
use Rattle.drive.specs.declared.reply.Reply.{Reply}
use Rattle.judgement.specs.Judgement as judgement
use Rattle.reading_state.specs.declared.state.State.{State}
use Rattle.reading_state.specs.State.{with_exchange, with_position, with_expected, with_end, ended_of}

-- what a reply is answered: nothing delivered, a block (the first 32,768 bytes of the lent frame), a filemark, the end, or a refusal by its number
pub data DeliverySaid : Type 0 where
  nothing : DeliverySaid
  block : DeliverySaid
  filemark : DeliverySaid
  end : DeliverySaid
  refused : ℕ → DeliverySaid

-- the code's delivery, in 01's numbers
abbrev pub delivery_said : Result (Option Kind) Refusal → DeliverySaid
delivery_said (Ok None) = nothing
delivery_said (Ok (Some Data)) = block
delivery_said (Ok (Some Marker)) = filemark
delivery_said (Ok (Some Eod)) = end
delivery_said (Err r) = refused (refusal_number r)

-- what a reply returns: the session and the delivery
pub record RepliedSaid : Type 0 where
  pub session : State
  pub said : DeliverySaid

-- the same of the code's reply
abbrev pub replied_said : State × Result (Option Kind) Refusal → RepliedSaid
replied_said t = record { session = t.0; said = delivery_said t.1 }

-- a session beside what it answers
abbrev pub delivering : State → DeliverySaid → RepliedSaid
delivering s said = record { session = s; said = said }

-- 01, "Refused calls": 1 to 7 leave the session as it is
abbrev pub refusing : State → ℕ → RepliedSaid
refusing s n = delivering s (refused n)

-- and those from 8 on end it
abbrev pub ending : State → ℕ → RepliedSaid
ending s n = delivering (ended_of s) (refused n)

-- the address of the command
abbrev pub address_of : State → Address
address_of s = command_address s.exchange.command

-- a number as an address; it wraps only in a session that no call returned
abbrev pub wrapped : ℕ → Address
wrapped n = as_address (wrap32 n)

-- busy: the command is given once more, and all else stays
abbrev pub repeated_of : State → State
repeated_of s = with_exchange s (exchange.repeated_of s.exchange)

-- the reply is taken in, and reading goes on at an address, with a LOCATE of it or without
abbrev pub moved_of : State → Address → Bool → State
moved_of s next locate = with_position (with_exchange s (exchange.replied_of s.exchange)) next locate

-- one address further
abbrev pub advanced_of : State → State
advanced_of s = moved_of s (wrapped ((address_of s).0 + 1)) s.position.locate

-- a LOCATE answered good
abbrev pub located_of : State → RepliedSaid
located_of s = delivering (moved_of s (address_of s) false) nothing

-- passed over, or unreadable
abbrev pub passed_over_of : State → RepliedSaid
passed_over_of s = delivering (advanced_of s) nothing

-- an element delivered: the next number is expected, behind a trail
abbrev pub delivered_of : State → Trail → DeliverySaid → RepliedSaid
delivered_of s trail said = delivering (with_expected (advanced_of s) (as_seq (wrap32 (s.expected.0 + 1))) trail) said

-- a filemark counts in the trail, at the address that was read
abbrev pub marked_of : State → Trail
marked_of s = marked s.trail (address_of s)

-- EOD ends reading
abbrev pub finished_of : State → RepliedSaid
finished_of s = delivering (with_end (advanced_of s)) end

-- a frame that was read, by its judgement
abbrev pub judged_by : judgement.JudgementSaid → State → RepliedSaid
judged_by judgement.passed_over s = passed_over_of s
judged_by (judgement.refused n) s = ending s n
judged_by judgement.block s = delivered_of s s.trail block
judged_by judgement.filemark s = delivered_of s (marked_of s) filemark
judged_by judgement.end s = finished_of s

-- as the header and the expected number judge it at the address that was read
unfoldable pub judged_of : State → List ℕ → RepliedSaid
judged_of s frame = judged_by (judgement.judge_frame s.told (address_of s) s.expected frame) s

-- 08/00/05: a LOCATE 32 addresses further, past the second header group and its defect map
abbrev pub jumped_of : State → RepliedSaid
jumped_of s = delivering (moved_of s (wrapped (past_reserved ((address_of s).0 + 32))) true) nothing

-- the number of a reply's case: the session's command and what the sense triple means (drive specs/Cases)
abbrev pub case_of : State → Reply → ℕ
case_of s r = cases.case_of s.exchange.command r

-- by that number; 8 for a reply that is not listed for the command
unfoldable pub reply_by : State → ℕ → List ℕ → RepliedSaid
reply_by s n frame =
    -- LOCATE and READ, busy
    pick (n == locate_busy || n == read_busy) (delivering (repeated_of s) nothing)
    -- LOCATE, good
    (pick (n == locate_good) (located_of s)
    -- READ, good or recovered, with a frame
    (pick (n == read_good || n == read_recovered) (judged_of s frame)
    -- READ, 03/11/00: this address has nothing
    (pick (n == read_unreadable) (passed_over_of s)
    -- READ, 08/00/05
    (pick (n == read_end_of_data) (jumped_of s)
    -- READ, 00/00/02
    (pick (n == read_end_of_medium) (ending s 12)
    (ending s 8))))))

-- refusal 7 without a command; 1 where the frame's length is wrong
unfoldable pub reply_of : State → Reply → List ℕ → RepliedSaid
reply_of s r frame =
    pick (s.ended || not s.exchange.awaiting) (refusing s 7)
    (pick (length frame == frame_length) (reply_by s (case_of s r) frame) (refusing s 1))

-- 01, "The lists of demand 3": a reading's list of calls on a cartridge that nobody alters.
use Rattle.std.specs.Prelude.{ℕ, ◌+◌, ◌≤◌, ◌≡◌, Bool, true, false, List, [], ◌∷◌, ◌++◌, ◌⊎◌, eqb, leb, take}
use Rattle.std.proofs.Math.Option as option
use Rattle.std.proofs.Math.Option.{Option}
use Rattle.geometry.specs.Pick.{pick}
use Rattle.frame.specs.Lengths.{data_length}
use Rattle.archive_lists.specs.Conduct.{Serves}
use Rattle.drive.specs.Senses.{meaning_of, busy}
use Rattle.archive_lists.specs.Tape.{Tape}
use Rattle.drive.specs.Command.{command_by}
use Rattle.drive.specs.declared.command.Command.{Command}
use Rattle.drive.specs.declared.reply.Reply.{Reply}
use Rattle.reading_state.specs.Fetch as fetch
use Rattle.reading_state.specs.Reply as reply
use Rattle.reading_state.specs.declared.state.State.{State as Reading}
use Rattle.archive_lists.specs.Recordings.{Element, block, filemark, TakesEffect}

-- the command that the last fetch gave: none is in flight, it is with the drive, or the drive has answered it, with a frame or none
pub data Flight : Type 0 where
  no_command : Flight
  sent : Command → Flight
  answered : Reply → Option (List ℕ) → Flight

-- what is only noted
pub record Notes : Type 0 where
  pub deliveries : List Element
  -- replies taken in, busy ones aside
  pub replies : ℕ
  -- the refusal of 8 or more that a call met, 0 for none
  pub refused : ℕ
  -- a reply was answered with the end
  pub end : Bool

-- everything between two calls of a reading
pub record World : Type 0 where
  pub session : Reading
  -- where the drive stands
  pub at : ℕ
  pub flight : Flight
  pub notes : Notes

-- a call with what it brings, a reply with a lent frame
pub data Call : Type 0 where
  fetching : Call
  replying : Reply → List ℕ → Call

-- the frame that the drive gave is lent with its reply; where it gave none, any is
abbrev pub LentWith : Option (List ℕ) → List ℕ → Type 0
LentWith given lent = (given ≡ option.none) ⊎ (given ≡ option.some lent)

-- the refusal in a fetch's answer, 0 for none
abbrev pub fetch_number : fetch.AnswerSaid → ℕ
fetch_number (fetch.command c a) = 0
fetch_number fetch.end = 0
fetch_number (fetch.refused n) = n

-- and in a reply's
abbrev pub reply_number : reply.DeliverySaid → ℕ
reply_number reply.nothing = 0
reply_number reply.block = 0
reply_number reply.filemark = 0
reply_number reply.end = 0
reply_number (reply.refused n) = n

-- the refusal that a call meets, 0 for none
abbrev pub refusal : Reading → Call → ℕ
refusal s fetching = fetch_number (fetch.fetch_of s).said
refusal s (replying r frame) = reply_number (reply.reply_of s r frame).said

-- the session that a call returns
abbrev pub returned : Reading → Call → Reading
returned s fetching = (fetch.fetch_of s).session
returned s (replying r frame) = (reply.reply_of s r frame).session

-- the session alone is another
abbrev pub with_session : World → Reading → World
with_session w s = record { session = s; at = w.at; flight = w.flight; notes = w.notes }

-- the command that a fetch answers goes to the drive
abbrev pub flight_after : fetch.AnswerSaid → Flight → Flight
flight_after (fetch.command n a) f = sent (command_by n a)
flight_after fetch.end f = f
flight_after (fetch.refused n) f = f

-- a refusal of 8 or more
abbrev pub refused_after : ℕ → ℕ → ℕ
refused_after n before = pick (leb 8 n) n before

-- what a fetch adds to the notes
abbrev pub noted_fetch : fetch.AnswerSaid → Notes → Notes
noted_fetch said n = record { deliveries = n.deliveries; replies = n.replies; refused = refused_after (fetch_number said) n.refused; end = n.end }

-- by what the fetch gives
abbrev pub after_fetching : World → fetch.FetchedSaid → World
after_fetching w x = record { session = x.session; at = w.at; flight = flight_after x.said w.flight; notes = noted_fetch x.said w.notes }

-- after a fetch
abbrev pub after_fetch : World → World
after_fetch w = after_fetching w (fetch.fetch_of w.session)

-- what a reply adds to the deliveries: for a block the data of the frame that was lent
abbrev pub delivered : reply.DeliverySaid → List ℕ → List Element
delivered reply.nothing frame = []
delivered reply.block frame = block (take data_length frame) ∷ []
delivered reply.filemark frame = filemark ∷ []
delivered reply.end frame = []
delivered (reply.refused n) frame = []

-- EOD is the end
abbrev pub end_after : reply.DeliverySaid → Bool → Bool
end_after reply.nothing b = b
end_after reply.block b = b
end_after reply.filemark b = b
end_after reply.end b = true
end_after (reply.refused n) b = b

-- a reply counts unless it is busy
abbrev pub replies_after : Reply → ℕ → ℕ
replies_after r n = pick (eqb (meaning_of r.key r.asc r.ascq) busy) n (n + 1)

-- what a reply adds to the notes
abbrev pub noted_reply : Reply → List ℕ → reply.DeliverySaid → Notes → Notes
noted_reply r frame said n = record {
  deliveries = n.deliveries ++ delivered said frame;
  replies = replies_after r n.replies;
  refused = refused_after (reply_number said) n.refused;
  end = end_after said n.end;
}

-- by what the reply is answered
abbrev pub after_replying : World → Reply → List ℕ → reply.RepliedSaid → World
after_replying w r frame x = record { session = x.session; at = w.at; flight = no_command; notes = noted_reply r frame x.said w.notes }

-- after a reply
abbrev pub after_reply : World → Reply → List ℕ → World
after_reply w r frame = after_replying w r frame (reply.reply_of w.session r frame)

-- one call, on the session that the one before it returned; a reply is the drive's own
pub data Calls (w : World) : Call → World → Type 0 where
  -- refused with 1 to 7: only the session is kept, and after 1 the same reply may be brought again
  refuses : (c : Call) → 1 ≤ refusal w.session c → refusal w.session c ≤ 7 → Calls w c (with_session w (returned w.session c))
  fetches : TakesEffect (refusal w.session fetching) → Calls w fetching (after_fetch w)
  replies : (r : Reply) (given : Option (List ℕ)) (lent : List ℕ) → w.flight ≡ answered r given → LentWith given lent
      → TakesEffect (refusal w.session (replying r lent)) → Calls w (replying r lent) (after_reply w r lent)

-- the drive answers the command that it was sent, once
pub data Moves (t : Tape) (w : World) : World → Type 0 where
  serves : (c : Command) (r : Reply) (given : Option (List ℕ)) (at : ℕ) → w.flight ≡ sent c → Serves t w.at c r given at
      → Moves t w (record { session = w.session; at = at; flight = answered r given; notes = w.notes })

-- a list of calls, with the drive's answers between them
pub data Runs (t : Tape) : World → List Call → World → Type 0 where
  stop : {w : World} → Runs t w [] w
  call : {w v u : World} {c : Call} {cs : List Call} → Calls w c v → Runs t v cs u → Runs t w (c ∷ cs) u
  drive : {w v u : World} {cs : List Call} → Moves t w v → Runs t v cs u → Runs t w cs u

-- a reading just opened, the drive standing anywhere
abbrev pub started : Reading → ℕ → World
started s at = record { session = s; at = at; flight = no_command; notes = record { deliveries = []; replies = 0; refused = 0; end = false } }

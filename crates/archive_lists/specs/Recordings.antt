-- 01, "The lists of demand 3": a recording's list of calls, with the drive acting between them.
use Rattle.std.specs.Prelude.{ℕ, ◌-◌, ◌≤◌, ◌≡◌, Bool, true, false, ◌&&◌, List, [], ◌∷◌, ◌++◌, ◌⊎◌, eqb, length, take}
use Rattle.geometry.specs.Pick.{pick}
use Rattle.buffer.specs.Bytes.{agree}
use Rattle.archive_lists.specs.Conduct.{Drive, Acts, Answers}
use Rattle.drive.specs.Command.{command_by}
use Rattle.drive.specs.declared.command.Command.{Command}
use Rattle.drive.specs.declared.reply.Reply.{Reply}
use Rattle.recording_state.specs.Accept.{filemark_of, block_of, is_spent, close_of}
use Rattle.recording_state.specs.Answer.{AnswerSaid, command, idle, done, refused}
use Rattle.recording_state.specs.Fetch.{fetch_of}
use Rattle.recording_state.specs.Reply.{reply_of}
use Rattle.recording_state.specs.declared.state.State.{State}

-- what is accepted: a block's 32,768 bytes, or a filemark
pub data Element : Type 0 where
  block : List ℕ → Element
  filemark : Element

-- the command that the last fetch gave: none is in flight, it is with the drive with its frame, or the drive has answered it
pub data Flight : Type 0 where
  no_command : Flight
  sent : Command → List ℕ → Flight
  answered : Reply → Flight

-- what is only noted
pub record Notes : Type 0 where
  pub accepted : List Element
  -- whether each call so far that lent the window got it as last left
  pub unaltered : Bool
  -- a fetch has answered done
  pub reported : Bool
  -- 02, Card 6: how many of them close has given up
  pub given_up : ℕ

-- everything between two calls of a recording
pub record World : Type 0 where
  pub session : State
  -- the window as last left
  pub window : List ℕ
  pub drive : Drive
  pub flight : Flight
  pub notes : Notes

-- how many elements a done close promises: all that were accepted but for those given up, which are the last
abbrev pub kept_of : Notes → ℕ
kept_of n = length n.accepted - n.given_up

-- these elements
abbrev pub promised : Notes → List Element
promised n = take (kept_of n) n.accepted

-- a call with what it brings
pub data Call : Type 0 where
  accept_block : (block window : List ℕ) → Call
  accept_filemark : Call
  close : Call
  fetch : (window frame : List ℕ) → Call
  reply : Reply → Call

-- the refusal in a fetch's answer, 0 for none
abbrev pub fetch_number : AnswerSaid → ℕ
fetch_number (command c a) = 0
fetch_number idle = 0
fetch_number done = 0
fetch_number (refused n) = n

-- the refusal that a call meets, 0 for none
abbrev pub refusal : State → Call → ℕ
refusal s (accept_block b window) = (block_of s b window).result.number
refusal s accept_filemark = (filemark_of s).number
refusal s close = (close_of s).number
refusal s (fetch window frame) = fetch_number (fetch_of s window frame).said
refusal s (reply r) = (reply_of s r).number

-- the call is accepted, or its refusal ends the session
abbrev pub TakesEffect : ℕ → Type 0
TakesEffect n = (n ≡ 0) ⊎ (8 ≤ n)

-- the session that a call returns
abbrev pub returned : State → Call → State
returned s (accept_block b window) = (block_of s b window).result.session
returned s accept_filemark = (filemark_of s).session
returned s close = (close_of s).session
returned s (fetch window frame) = (fetch_of s window frame).session
returned s (reply r) = (reply_of s r).session

-- the window as a refused call leaves it, where it was lent as last left; no call but an accept of a block may write to it
abbrev pub window_after : World → Call → List ℕ
window_after w (accept_block b lent) = pick (agree lent w.window) (block_of w.session b lent).window w.window
window_after w accept_filemark = w.window
window_after w close = w.window
window_after w (fetch lent frame) = w.window
window_after w (reply r) = w.window

-- the world after a refused call: what it returned, and nothing else
abbrev pub after_refusal : World → Call → World
after_refusal w c = record {
  session = returned w.session c;
  window = window_after w c;
  drive = w.drive;
  flight = w.flight;
  notes = w.notes;
}

-- the session alone is another
abbrev pub with_session : World → State → World
with_session w s = record { session = s; window = w.window; drive = w.drive; flight = w.flight; notes = w.notes }

-- an accept that is not refused adds its element
abbrev pub accepted_after : ℕ → List Element → Element → List Element
accepted_after n xs x = pick (eqb n 0) (xs ++ x ∷ []) xs

-- after an accept of a block
abbrev pub after_block : World → List ℕ → List ℕ → World
after_block w b lent = record {
  session = (block_of w.session b lent).result.session;
  window = (block_of w.session b lent).window;
  drive = w.drive;
  flight = w.flight;
  notes = record {
    accepted = accepted_after (block_of w.session b lent).result.number w.notes.accepted (block b);
    unaltered = w.notes.unaltered && agree lent w.window;
    reported = w.notes.reported;
    given_up = w.notes.given_up;
  };
}

-- after an accept of a filemark
abbrev pub after_filemark : World → World
after_filemark w = record {
  session = (filemark_of w.session).session;
  window = w.window;
  drive = w.drive;
  flight = w.flight;
  notes = record {
    accepted = accepted_after (filemark_of w.session).number w.notes.accepted filemark;
    unaltered = w.notes.unaltered;
    reported = w.notes.reported;
    given_up = w.notes.given_up;
  };
}

-- the command that a fetch answers goes to the drive, with the frame as the fetch left it
abbrev pub flight_after : AnswerSaid → Flight → List ℕ → Flight
flight_after (command n a) f frame = sent (command_by n a) frame
flight_after idle f frame = f
flight_after done f frame = f
flight_after (refused n) f frame = f

-- whether done was answered
abbrev pub reported_after : AnswerSaid → Bool → Bool
reported_after (command n a) b = b
reported_after idle b = b
reported_after done b = true
reported_after (refused n) b = b

-- after a fetch
abbrev pub after_fetch : World → List ℕ → List ℕ → World
after_fetch w lent frame = record {
  session = (fetch_of w.session lent frame).session;
  window = lent;
  drive = w.drive;
  flight = flight_after (fetch_of w.session lent frame).said w.flight (fetch_of w.session lent frame).frame;
  notes = record {
    accepted = w.notes.accepted;
    unaltered = w.notes.unaltered && agree lent w.window;
    reported = reported_after (fetch_of w.session lent frame).said w.notes.reported;
    given_up = w.notes.given_up;
  };
}

-- 02, Card 6: the close of a spent session gives up what is not known to be on tape
abbrev pub given_up_after : State → ℕ → ℕ
given_up_after s n = pick (is_spent s) s.elements.queue.pending n

-- after a close
abbrev pub after_close : World → World
after_close w = record {
  session = (close_of w.session).session;
  window = w.window;
  drive = w.drive;
  flight = w.flight;
  notes = record {
    accepted = w.notes.accepted;
    unaltered = w.notes.unaltered;
    reported = w.notes.reported;
    given_up = given_up_after w.session w.notes.given_up;
  };
}

-- after a reply
abbrev pub after_reply : World → Reply → World
after_reply w r = record {
  session = (reply_of w.session r).session;
  window = w.window;
  drive = w.drive;
  flight = no_command;
  notes = w.notes;
}

-- one call, on the session that the one before it returned; a reply is the drive's own
pub data Calls (w : World) : Call → World → Type 0 where
  -- refused with 1 to 7: only what it returned is kept
  refuses : (c : Call) → 1 ≤ refusal w.session c → refusal w.session c ≤ 7 → Calls w c (after_refusal w c)
  accepts_block : (b lent : List ℕ) → TakesEffect (refusal w.session (accept_block b lent)) → Calls w (accept_block b lent) (after_block w b lent)
  accepts_filemark : TakesEffect (refusal w.session accept_filemark) → Calls w accept_filemark (after_filemark w)
  closes : TakesEffect (refusal w.session close) → Calls w close (after_close w)
  fetches : (lent frame : List ℕ) → TakesEffect (refusal w.session (fetch lent frame)) → Calls w (fetch lent frame) (after_fetch w lent frame)
  replies : (r : Reply) → w.flight ≡ answered r → TakesEffect (refusal w.session (reply r)) → Calls w (reply r) (after_reply w r)

-- the drive, and the command that is with it, alone are others
abbrev pub with_drive : World → Drive → Flight → World
with_drive w d f = record { session = w.session; window = w.window; drive = d; flight = f; notes = w.notes }

-- what the drive does between calls: it acts by itself, or answers the command that it was sent, once
pub data Moves (w : World) : World → Type 0 where
  acts : (d : Drive) → Acts w.drive d → Moves w (with_drive w d w.flight)
  answers : (c : Command) (frame : List ℕ) (r : Reply) (d : Drive) → w.flight ≡ sent c frame → Answers w.drive frame c r d
      → Moves w (with_drive w d (answered r))

-- a list of calls, with whatever the drive does before, between and after them
pub data Runs : World → List Call → World → Type 0 where
  stop : {w : World} → Runs w [] w
  call : {w v u : World} {c : Call} {cs : List Call} → Calls w c v → Runs v cs u → Runs w (c ∷ cs) u
  drive : {w v u : World} {cs : List Call} → Moves w v → Runs v cs u → Runs w cs u

-- a session just opened, any window, and a drive that has written nothing for it yet
abbrev pub started : State → List ℕ → Drive → World
started s window d = record {
  session = s;
  window = window;
  drive = d;
  flight = no_command;
  notes = record { accepted = []; unaltered = true; reported = false; given_up = 0 };
}

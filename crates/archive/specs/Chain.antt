-- 02, Card 1: a recording that adds to a cartridge, and sessions that add one after another. 02, Card 6: the same where elements were given up.
use Rattle.std.specs.Prelude.{ℕ, ◌+◌, ◌≤◌, ◌<◌, ◌≡◌, true, false, List, [], ◌∷◌, ◌++◌, length, take}
use Rattle.std.proofs.Math.Option.{some}
use Rattle.drive.specs.Command.{write_code}
use Rattle.geometry.specs.Cartridge.{is_user}
use Rattle.geometry.specs.declared.cartridge.Geometry.{Geometry}
use Rattle.header.specs.Valid.{header_of}
use Rattle.elements.specs.Due.{due_of}
use Rattle.elements.specs.Former.{former_due}
use Rattle.recording_state.specs.State.{accepting}
use Rattle.recording_state.specs.Answer.{command}
use Rattle.recording_state.specs.Accept.{unspent_close, is_spent, close_of}
use Rattle.recording_state.specs.Fetch.{fetch_of}
use Rattle.recording_state.specs.declared.state.Stage.TheVariants as S
use Rattle.recording_state.specs.declared.state.State.{State}
use Rattle.reading_state.specs.State.{is_at_end, end_of}
use Rattle.reading_state.specs.Open as reading
use Rattle.adding_opening.specs.AtEnd.{ends_elsewhere, open_at_end_of}
use Rattle.archive_lists.specs.Tape.{Tape, HasLast, Cartridge, SameFrames, Bears}
use Rattle.archive_lists.specs.Conduct.{Drive, AtRest, Within}
use Rattle.archive_lists.specs.Headers.{Newest}
use Rattle.archive_lists.specs.Recordings as recordings
use Rattle.archive_lists.specs.Recordings.{Element, kept_of, promised}
use Rattle.archive_lists.specs.Readings as readings
use Rattle.archive_lists.specs.Openings.{Opening, opened, OnNewest, new_pass, NoneBears}
use Rattle.archive.specs.Recorded.{HasRecorded}
use Rattle.archive.specs.Demand.{Readable}
use Rattle.archive.specs.EndNamed.{EndsAt}

-- where a list of a reading's calls on a cartridge of the geometry has come, from its opening on a header
pub record HasRead (g : Geometry) (last : ℕ) (t : Tape) (h : List ℕ) (w : readings.World) : Type 0 where
  pub cartridge : Cartridge last t
  pub opens : (reading.open_of g h).number ≡ 0
  -- where the drive stood
  pub at : ℕ
  pub calls : List readings.Call
  pub runs : readings.Runs t (readings.started (reading.open_of g h).session at) calls w

-- how a session was opened: afresh, as demand 3 has it, or at the end of a reading
pub data Start (g : Geometry) (last : ℕ) (s : State) : Type 0 where
  fresh : (depth blocks tail : ℕ) (o : Opening) → opened g depth blocks tail o ≡ accepting s → Start g last s
  added : (depth blocks tail : ℕ) (u : Tape) (h : List ℕ) (r : readings.World) → HasRead g last u h r
      → open_at_end_of r.session depth blocks tail ≡ accepting s → Start g last s

-- the elements before its own: none, or what the reading delivered
abbrev pub earlier_of : {g : Geometry} {last : ℕ} {s : State} → Start g last s → List Element
earlier_of (fresh depth blocks tail o q) = []
earlier_of (added depth blocks tail u h r read q) = r.notes.deliveries

-- the pass that its elements' frames bear
abbrev pub pass_of : {g : Geometry} {last : ℕ} {s : State} → Start g last s → ℕ
pass_of (fresh depth blocks tail o q) = new_pass o
pass_of (added depth blocks tail u h r read q) = (header_of h).pass

-- opened on the cartridge's newest header, or afresh on none if there is none
abbrev pub OnItsNewest : {g : Geometry} {last : ℕ} {s : State} → Start g last s → Tape → Type 0
OnItsNewest {last = last} (fresh depth blocks tail o q) t = OnNewest last t o
OnItsNewest {last = last} (added depth blocks tail u h r read q) t = Newest last t h

-- where it adds: the user frames that were read are those that the cartridge holds at the opening
abbrev pub AsItStands : {g : Geometry} {last : ℕ} {s : State} → Start g last s → Tape → Type 0
AsItStands (fresh depth blocks tail o q) t = Unit {0}
AsItStands {last = last} (added depth blocks tail u h r read q) t = SameFrames last u t

-- beyond the old end no user frame has the pass
abbrev pub NoneAbove : ℕ → Tape → ℕ → ℕ → Type 0
NoneAbove last t end pass = (a : ℕ) (f : List ℕ) → is_user last a ≡ true → end < a → t a ≡ some f → Bears pass f → ⊥

-- no user frame bears the pass that is to be written or, where it adds, none above the old end does
abbrev pub NoneInTheWay : {g : Geometry} {last : ℕ} {s : State} → Start g last s → Tape → Type 0
NoneInTheWay {last = last} (fresh depth blocks tail o q) t = NoneBears last t (new_pass o)
NoneInTheWay {last = last} (added depth blocks tail u h r read q) t = NoneAbove last t (end_of r.session).0 (header_of h).pass

-- ---- what a session promises

-- 02, Card 6: so many of a session's elements are read: those that are promised, and at most one more, the first that was given up, which may
-- read at its bad spot. Each is in its place among those accepted. Where nothing was given up it is all of them
pub record Read (n : recordings.Notes) (m : ℕ) : Type 0 where
  pub least : kept_of n ≤ m
  pub most : m ≤ kept_of n + 1
  pub within : m ≤ length n.accepted

-- reading gives what was there before, and then so many of what was accepted
pub record ReadsBack (g : Geometry) (last : ℕ) (earlier : List Element) (w : recordings.World) : Type 0 where
  pub count : ℕ
  pub read : Read w.notes count
  pub readable : Readable g last w.drive.tape (earlier ++ take count w.notes.accepted)

-- with T = 0: what was promised before there was a tail
pub record Untailed (g : Geometry) (last : ℕ) (t : Tape) (s : State) (b : Start g last s) (w : recordings.World) : Type 0 where
  -- nothing is given up, the session is never spent, and so close does what it did
  pub ungiven : w.notes.given_up ≡ 0
  pub unspent : w.session.spent ≡ false
  pub close : close_of w.session ≡ unspent_close w.session
  -- wherever a fetch asks, what is due is what was due then
  pub due : w.session.ended ≡ false → w.flight ≡ recordings.no_command
      → due_of w.session.setup.depth w.session.setup.tail w.session.elements ≡ former_due w.session.setup.depth w.session.elements
  -- where the session was opened as it should be, the window was lent each time as last left, and done was answered:
  -- reading gives what was there before, and then what was accepted; and the tape is a cartridge's as before
  pub readable : OnItsNewest b t → AsItStands b t → NoneInTheWay b t → w.notes.unaltered ≡ true → w.notes.reported ≡ true
      → Readable g last w.drive.tape (earlier_of b ++ w.notes.accepted) × Cartridge last w.drive.tape
  -- at the EOD address of each closing header that a fetch gives the tape reads as EOD, numbered by how many elements there are then
  pub given : (lent frame : List ℕ) (a : ℕ) → w.session.stage ≡ S.ClosingHeaders → (fetch_of w.session lent frame).said ≡ command write_code a
      → EndsAt (header_of (fetch_of w.session lent frame).frame) (length (earlier_of b ++ w.notes.accepted)) w.drive.tape
  -- where it was opened on the newest header, or on none for want of one, and done was answered, so it does at that of each newest header
  pub newest : OnItsNewest b t → w.notes.reported ≡ true → (h : List ℕ) → Newest last w.drive.tape h
      → EndsAt (header_of h) (length (earlier_of b ++ w.notes.accepted)) w.drive.tape

-- what holds after any calls of a recording, however the session was opened
pub record Continued (g : Geometry) (last : ℕ) (t : Tape) (s : State) (b : Start g last s) (w : recordings.World) : Type 0 where
  -- under the conduct alone, closed or not
  pub written : Within last w.drive.written
  -- no second command before the reply
  pub alone : (lent frame : List ℕ) → (w.flight ≡ recordings.no_command → ⊥) → recordings.refusal w.session (recordings.fetch lent frame) ≡ 7
  -- where the session was opened as it should be, the window was lent each time as last left, and done was answered:
  -- reading gives what was there before, and then what is promised and at most one more; and the tape is a cartridge's as before
  pub reads_back : OnItsNewest b t → AsItStands b t → NoneInTheWay b t → w.notes.unaltered ≡ true → w.notes.reported ≡ true
      → ReadsBack g last (earlier_of b) w × Cartridge last w.drive.tape
  -- so where nothing was given up: all that was accepted
  pub readable : w.notes.given_up ≡ 0
      → OnItsNewest b t → AsItStands b t → NoneInTheWay b t → w.notes.unaltered ≡ true → w.notes.reported ≡ true
      → Readable g last w.drive.tape (earlier_of b ++ w.notes.accepted) × Cartridge last w.drive.tape
  -- after a close that reported done the drive rests
  pub rests : w.notes.reported ≡ true → AtRest w.drive
  -- at the EOD address of each closing header that a fetch gives the tape reads as EOD, numbered by how many elements there are then, those
  -- aside that were given up
  pub given : (lent frame : List ℕ) (a : ℕ) → w.session.stage ≡ S.ClosingHeaders → (fetch_of w.session lent frame).said ≡ command write_code a
      → EndsAt (header_of (fetch_of w.session lent frame).frame) (length (earlier_of b ++ promised w.notes)) w.drive.tape
  -- where it was opened on the newest header, or on none for want of one, and done was answered, so it does at that of each newest header
  pub newest : OnItsNewest b t → w.notes.reported ≡ true → (h : List ℕ) → Newest last w.drive.tape h
      → EndsAt (header_of h) (length (earlier_of b ++ promised w.notes)) w.drive.tape
  -- where moreover none was in the way, no user frame above that EOD bears the pass: whoever adds next finds none in the way
  pub clear : OnItsNewest b t → NoneInTheWay b t → w.notes.reported ≡ true → (h : List ℕ) → Newest last w.drive.tape h
      → NoneAbove last w.drive.tape (header_of h).eod.0 (header_of h).pass
  -- and an addition behind a reading of the tape as left, on a newest header, is not refused with 13
  pub addable : OnItsNewest b t → NoneInTheWay b t → w.notes.reported ≡ true → (h : List ℕ) (r : readings.World) → Newest last w.drive.tape h
      → HasRead g last w.drive.tape h r → is_at_end r.session ≡ true → ends_elsewhere r.session ≡ false
  -- 02, Card 6: the session that the close of a spent one returns has the number of the first element given up: so many, with those that there
  -- were before, are on tape
  pub tells : is_spent w.session ≡ true
      → (close_of w.session).session.elements.queue.first.0 ≡ length (earlier_of b ++ promised (recordings.after_close w).notes)
  -- with T = 0 all is as it was before there was a tail
  pub untailed : s.setup.tail ≡ 0 → Untailed g last t s b w

-- of every cartridge, whoever wrote it, and of every tail. Demand 3 is the case of a fresh session without one
unfoldable pub Adds : Type 0
Adds =
    (g : Geometry) (last : ℕ) (d : Drive) (s : State) (b : Start g last s) (w : recordings.World)
    → HasRecorded g last d s w → Continued g last d.tape s b w

-- ---- a chain of closed sessions

-- a session that was opened as it should be and whose close reported done, with the window lent back unaltered
pub record Closed (g : Geometry) (last : ℕ) (d : Drive) (s : State) (b : Start g last s) (w : recordings.World) : Type 0 where
  pub unwritten : d.written ≡ []
  pub rests : AtRest d
  pub on_newest : OnItsNewest b d.tape
  pub as_it_stands : AsItStands b d.tape
  pub none_in_the_way : NoneInTheWay b d.tape
  pub window : List ℕ
  pub calls : List recordings.Call
  pub runs : recordings.Runs (recordings.started s window d) calls w
  pub unaltered : w.notes.unaltered ≡ true
  pub reported : w.notes.reported ≡ true

-- whether a session was opened afresh or adds
pub data Way : Type 0 where
  afresh : Way
  adding : Way

-- which of the two a session is
abbrev pub way_of : {g : Geometry} {last : ℕ} {s : State} → Start g last s → Way
way_of (fresh depth blocks tail o q) = afresh
way_of (added depth blocks tail u h r read q) = adding

-- a first session on any cartridge, and then sessions that add: the tape in the end, what the first one found, and what was noted in each. A first
-- session that adds finds what others wrote, of which only what its reading delivered is known; so the two are told apart. Each later session
-- finds the user frames as the one before left them, and its header was newest when that one had closed and is newest at its own opening; other
-- copies may have changed in between
pub data Chain (g : Geometry) (last : ℕ) (begun : Way) : Tape → List Element → List recordings.Notes → Type 0 where
  first : (d : Drive) (s : State) (b : Start g last s) (w : recordings.World) → Cartridge last d.tape → way_of b ≡ begun
      → Closed g last d s b w → Chain g last begun w.drive.tape (earlier_of b) (w.notes ∷ [])
  more : (t : Tape) (xs : List Element) (ns : List recordings.Notes) → Chain g last begun t xs ns
      → (d : Drive) (s : State) (b : Start g last s) (w : recordings.World) → Cartridge last d.tape → way_of b ≡ adding
      → SameFrames last t d.tape → OnItsNewest b t
      → Closed g last d s b w → Chain g last begun w.drive.tape xs (ns ++ w.notes ∷ [])

-- behind what there was, all their elements in order: of each session those that are promised, and at most one more
pub data Together (xs : List Element) : List recordings.Notes → List Element → Type 0 where
  none : Together xs [] xs
  one_more : (ns : List recordings.Notes) (ys : List Element) (n : recordings.Notes) (m : ℕ) → Together xs ns ys → Read n m
      → Together xs (ns ++ n ∷ []) (ys ++ take m n.accepted)

-- all that was accepted in them
unfoldable pub accepted_in : List recordings.Notes → List Element
accepted_in [] = []
accepted_in (n ∷ ns) = n.accepted ++ accepted_in ns

-- nothing was given up in any of them
unfoldable pub NoneGiven : List recordings.Notes → Type 0
NoneGiven [] = Unit {0}
NoneGiven (n ∷ ns) = (n.given_up ≡ 0) × NoneGiven ns

-- what is read of a chain
pub record ReadTogether (g : Geometry) (last : ℕ) (t : Tape) (xs : List Element) (ns : List recordings.Notes) : Type 0 where
  pub elements : List Element
  pub together : Together xs ns elements
  -- where nothing was given up: all that was accepted
  pub whole : NoneGiven ns → elements ≡ xs ++ accepted_in ns
  pub readable : Readable g last t elements

-- no session of the chain kept a tail
unfoldable pub WithoutTails : {g : Geometry} {last : ℕ} {begun : Way} {t : Tape} {xs : List Element} {ns : List recordings.Notes}
    → Chain g last begun t xs ns → Type 0
WithoutTails (first d s b w cartridge way closed) = s.setup.tail ≡ 0
WithoutTails (more t xs ns before d s b w cartridge way same newest closed) = WithoutTails before × (s.setup.tail ≡ 0)

-- 00, demand 3, over a chain: the elements of all sessions are read in turn. Where no session kept a tail nothing was given up, so these are all
-- that were accepted
unfoldable pub Chains : Type 0
Chains =
    (g : Geometry) (last : ℕ) (begun : Way) (t : Tape) (xs : List Element) (ns : List recordings.Notes)
    → HasLast g last → (c : Chain g last begun t xs ns) → ReadTogether g last t xs ns × (WithoutTails c → NoneGiven ns)

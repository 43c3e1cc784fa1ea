-- What holds at every point of a recording's list. Assumes nothing.
use Prim.Native.Nat.{ℕ, ◌+◌, ◌-◌, ◌≤◌, ◌<◌}
use mathlib.Core.Path.{◌≡◌}
use mathlib.Core.Bool.{Bool, true, false, ◌||◌}
use mathlib.Core.List.{List}
use mathlib.Core.Logic.{◌⊎◌}
use lib.ListN.{length}
use Rattle.geometry.specs.Cartridge.{is_user, is_header}
use Rattle.geometry.specs.declared.address.Address.{Address}
use Rattle.drive.specs.Listed.{Listed}
use Rattle.archive_lists.specs.Conduct.{Drive, AtRest, Within}
use Rattle.drive.specs.Senses.{meaning_of}
use Rattle.archive_lists.specs.Tape.{Cartridge}
use Rattle.drive.specs.declared.command.Command.TheVariants.{Write}
use Rattle.drive.specs.declared.reply.Reply.{Reply}
use Rattle.elements.specs.declared.elements.Elements.{Elements}
use Rattle.recording_state.specs.State.{blocks_of, given_up_of}
use Rattle.recording_state.specs.declared.state.State.{State}
use Rattle.recording_state.specs.declared.state.Stage.{Stage}
use Rattle.recording_state.specs.declared.state.Stage.TheVariants as S
use Rattle.recording_state.proofs.ListedReplies.{OffHeaders}
use Rattle.recording_state.proofs.Stages.{ElementStage}
use Rattle.archive_lists.specs.Recordings as recordings
use Rattle.archive_lists.specs.Recordings.{World, Element, promised}
use Rattle.archive_lists.specs.Filemarks.{item_at}
use Rattle.archive_lists.proofs.tape.Seen.{Seen, Clean}
use Rattle.archive_lists.proofs.tape.Stands.{Stands, Queue, StoredAs}
use Rattle.archive_lists.proofs.recording.Trailing.{Prior, Trailing}
use Rattle.archive_lists.proofs.recording.HeaderCopies.{Carried, Copy, Below}
use Rattle.archive_lists.proofs.recording.CopiesLink.{CopiesAgree}
use Rattle.archive_lists.proofs.recording.ElementsLink.{Writing}
use Rattle.archive_lists.proofs.recording.Setting.{EodAt}

-- what there is to write: the elements, and EOD once it is due
abbrev pub total_of : Bool → ℕ → ℕ
total_of false n = n
total_of true n = n + 1

-- the closing headers count one higher
abbrev pub spare_of : Stage → ℕ
spare_of S.OpeningHeaders = 1
spare_of S.Elements = 1
spare_of S.ClosingHeaders = 0
spare_of S.Done = 0

-- ---- the session alone

pub record Counted (last n : ℕ) (s : State) : Type 0 where
  pub wide : s.setup.highest ≤ 63
  pub held : s.elements.queue.outstanding ≤ s.elements.queue.pending
  pub windowed : s.elements.queue.pending ≤ s.setup.highest + 1
  pub numbered : s.elements.queue.first.0 + s.elements.queue.pending ≡ total_of s.elements.eod n
  pub marks : length s.elements.queue.marks ≡ 64
  pub room : s.elements.course.limit.0 ≤ last + 1

-- before the first LOCATE of the elements, which are to start from a number and an address: 0 and 10 in a fresh recording, the next number and the old end in one that adds
pub record StartsFrom (last : ℕ) (first outstanding : ℕ) (locate : Bool) (target : ℕ) (k edge : ℕ) : Type 0 where
  pub first_is : first ≡ k
  pub none_out : outstanding ≡ 0
  pub relocates : locate ≡ true
  pub target_is : target ≡ edge
  pub roof : edge ≤ last
  pub zone : (edge ≤ 2990) ⊎ (3000 ≤ edge)
  pub spread : k + 10 ≤ edge

abbrev pub Unstarted : ℕ → Elements → ℕ → ℕ → Type 0
Unstarted last e k edge = StartsFrom last e.queue.first.0 e.queue.outstanding e.course.locate e.course.target.0 k edge

-- EOD is not due yet, or it is due alone
pub data EodDue (e : Elements) (closed : Bool) : Type 0 where
  not_yet : e.eod ≡ false → EodDue e closed
  alone : e.eod ≡ true → closed ≡ true → e.queue.pending ≡ 1 → EodDue e closed

-- ---- the session and the drive, by stage

-- n elements are promised
pub data Course (last n : ℕ) (w : World) (k edge : ℕ) : Type 0 where
  opening : w.session.stage ≡ S.OpeningHeaders → w.session.elements.eod ≡ false → Unstarted last w.session.elements k edge
      → CopiesAgree w.session w.drive w.flight → Course last n w k edge
  writing : w.session.stage ≡ S.Elements → EodDue w.session.elements w.session.closed → Writing last w.session w.drive k edge w.flight → Course last n w k edge
  closing : w.session.stage ≡ S.ClosingHeaders → w.session.elements.eod ≡ true → w.session.closed ≡ true → k ≡ n + 1 → edge ≡ last + 1
      → CopiesAgree w.session w.drive w.flight → Course last n w k edge
  finished : w.session.stage ≡ S.Done → w.session.elements.eod ≡ true → w.session.closed ≡ true → k ≡ n + 1 → edge ≡ last + 1
      → w.flight ≡ recordings.no_command → w.session.exchange.awaiting ≡ false → w.session.exchange.again ≡ false → AtRest w.drive
      → Copy w.session.copies.header w.drive.tape (last + 1) → Course last n w k edge

-- ---- the frames of elements and EOD

-- on their way to the tape: those that the drive holds, and one that goes to it. They stand for the promised elements, and EOD behind them
pub record Outgoing (last pass : ℕ) (ps : List Element) (w : World) (k : ℕ) : Type 0 where
  -- behind a failed one none is ever written
  pub queue : ElementStage w.session → w.drive.failed ≡ false → Queue last pass ps k w.drive.buffer
  pub sent : (a : Address) (f : List ℕ) → ElementStage w.session → w.flight ≡ recordings.sent (Write a) f
      → Stands last pass (item_at ps (w.session.elements.queue.first.0 + w.session.elements.queue.outstanding)) (w.session.elements.queue.first.0 + w.session.elements.queue.outstanding) f

-- when they are known: while the window is unaltered, and once EOD alone is due, since its frame has nothing from the window
abbrev pub Known : Type 0 → World → Type 0
Known none_bears w = (none_bears × (w.notes.unaltered ≡ true)) ⊎ (w.session.elements.eod ≡ true)

-- EOD, once it is on tape, stands behind the drive's place, and then where the closing headers say
pub record EodPlace (last pass : ℕ) (none_bears : Type 0) (start n : ℕ) (w : World) (k : ℕ) : Type 0 where
  pub written : ElementStage w.session → w.session.elements.eod ≡ true → k ≡ n + 1
      → EodAt last pass none_bears n w.drive.tape (w.drive.at - 1) × (start ≤ w.drive.at - 1)
  pub named : (w.session.stage ≡ S.ClosingHeaders) ⊎ (w.session.stage ≡ S.Done) → EodAt last pass none_bears n w.drive.tape w.session.copies.header.eod.0

-- ---- tape and window, where the tape was quiet at the opening and the window is unaltered

pub record Content (last pass : ℕ) (ps : List Element) (w : World) (k edge : ℕ) : Type 0 where
  pub tape : Cartridge last w.drive.tape
  pub seen : Seen last pass ps w.notes.accepted k edge w.drive.tape
  pub stored : (i : ℕ) → i < w.session.elements.queue.pending
      → StoredAs (item_at ps (w.session.elements.queue.first.0 + i)) w.window w.session.elements.queue.marks (blocks_of w.session) (w.session.elements.queue.first.0 + i)

-- ---- what is promised

pub record Promises (list : List Element) (w : World) : Type 0 where
  pub is : list ≡ promised w.notes
  -- until EOD is due nothing is given up
  pub ungiven : w.session.elements.eod ≡ false → w.notes.given_up ≡ 0
  -- without a tail a noted target is not above END
  pub aimed : w.session.setup.tail ≡ 0 → w.session.elements.course.locate ≡ true → w.session.elements.course.target.0 < w.session.elements.course.limit.0

-- ---- the whole, with what may be assumed of the opening: that it was on the newest header or rightly on none, and that no user frame bore the pass,
-- or none above the old end

pub record Live (last pass : ℕ) (on_newest none_bears : Type 0) (prior : Prior) (w : World) : Type 0 where
  pub k : ℕ
  pub edge : ℕ
  pub list : List Element
  -- so many were on tape at the opening, and nothing below its start is tried
  pub floor : (prior.base ≤ k) × (prior.base ≤ length list) × (prior.start ≤ edge)
  pub promises : Promises list w
  pub going : w.session.ended ≡ false
  pub counted : Counted last (length list) w.session
  pub carried : Carried last pass prior (spare_of w.session.stage) w.session.copies.header
  pub course : Course last (length list) w k edge
  pub reported : w.notes.reported ≡ true → w.session.stage ≡ S.Done
  pub outgoing : Known none_bears w → Outgoing last pass list w k
  pub eod_place : EodPlace last pass none_bears prior.start (length list) w k
  -- no element goes out before a header copy is on tape
  pub copied : ElementStage w.session → Copy w.session.copies.header w.drive.tape (last + 1)
  pub below : on_newest → Below last w.session.copies.header w.drive.tape
  pub clean : none_bears → Clean last pass edge w.drive.tape
  pub content : none_bears → w.notes.unaltered ≡ true → Content last pass list w k edge
  pub trailing : Trailing last pass prior list w.notes.accepted w.session.stage w.session.elements w.drive w.flight k edge

-- all that the drive may still write goes to addresses that are allowed
pub data Safe (last : ℕ) (d : Drive) : Type 0 where
  halted : d.failed ≡ true → Safe last d
  allowed : ((i : ℕ) → i < length d.buffer → (is_header (d.at + i) || is_user last (d.at + i)) ≡ true) → Safe last d

-- a reply that is not listed is on the way, at which the session will end
pub record Rejecting (last : ℕ) (w : World) : Type 0 where
  pub reply : Reply
  pub going : w.session.ended ≡ false
  pub awaits : w.session.exchange.awaiting ≡ true
  pub replied : w.flight ≡ recordings.answered reply
  pub unlisted : Listed w.session.exchange.command (meaning_of reply.key reply.asc reply.ascq) → ⊥
  pub off_headers : OffHeaders w.session
  pub safe : Safe last w.drive
  pub unreported : w.notes.reported ≡ false

-- the session has ended for good
pub record Over (last : ℕ) (w : World) : Type 0 where
  pub ended : w.session.ended ≡ true
  pub final : w.session.spent ≡ false
  pub none : w.flight ≡ recordings.no_command
  pub safe : Safe last w.drive
  pub unreported : w.notes.reported ≡ false

-- 02, Card 6: what is not on tape is given up
abbrev pub gave_up : World → World
gave_up w = record {
  session = given_up_of w.session;
  window = w.window;
  drive = w.drive;
  flight = w.flight;
  notes = record { accepted = w.notes.accepted; unaltered = w.notes.unaltered; reported = w.notes.reported; given_up = w.session.elements.queue.pending };
}

-- the session is spent: nothing is under way, and close makes it live again
pub record Spent (last pass : ℕ) (on_newest none_bears : Type 0) (prior : Prior) (w : World) : Type 0 where
  pub ended : w.session.ended ≡ true
  pub left_spent : w.session.spent ≡ true
  pub none : w.flight ≡ recordings.no_command
  pub rests : AtRest w.drive
  pub unreported : w.notes.reported ≡ false
  pub revives : Live last pass on_newest none_bears prior (gave_up w)

pub data Inv (last pass : ℕ) (on_newest none_bears : Type 0) (prior : Prior) (w : World) : Type 0 where
  live : Within last w.drive.written → Live last pass on_newest none_bears prior w → Inv last pass on_newest none_bears prior w
  rejecting : Within last w.drive.written → Rejecting last w → Inv last pass on_newest none_bears prior w
  spent : Within last w.drive.written → Spent last pass on_newest none_bears prior w → Inv last pass on_newest none_bears prior w
  over : Within last w.drive.written → Over last w → Inv last pass on_newest none_bears prior w

-- 01, "Reading a cartridge", as a whole: the fold of a tape, which is what its user frames give, judged one after another from the first on, and that
-- every list of a reading's calls gives that.
use Rattle.std.specs.Prelude.{ℕ, zero, suc, ◌+◌, ◌≡◌, true, false, List, [], ◌∷◌, ◌++◌, ◌⊎◌, take}
use Rattle.std.proofs.Math.Option.{Option, none, some}
use Rattle.geometry.specs.Pick.{pick}
use Rattle.geometry.specs.Place.{as_address, as_seq}
use Rattle.geometry.specs.Cartridge.{is_user}
use Rattle.geometry.specs.declared.cartridge.Geometry.{Geometry}
use Rattle.frame.specs.Lengths.{data_length}
use Rattle.frame.specs.Trail.{no_trail, marked}
use Rattle.frame.specs.declared.trail.Trail.{Trail}
use Rattle.header.specs.Valid.{header_of}
use Rattle.judgement.specs.Judgement as judgement
use Rattle.judgement.specs.Judgement.{JudgementSaid, judge_frame}
use Rattle.frame.specs.declared.header.Header.{Header}
use Rattle.reading_state.specs.State.{end_of}
use Rattle.reading_state.specs.Open.{open_of}
use Rattle.archive_lists.specs.Tape.{Tape, HasLast, Cartridge, SameFrames}
use Rattle.archive_lists.specs.Recordings.{Element, block, filemark}
use Rattle.archive_lists.specs.Readings.{World, Call, Runs, started}
use Rattle.archive_lists.specs.Faithful.{Faithful}

-- how far the fold has come
pub data Reader : Type 0 where
  -- it goes on, with the number that it expects, what it has delivered, and the filemarks among that
  going : ℕ → List Element → Trail → Reader
  -- EOD was read, at this address
  finished : List Element → ℕ → Reader
  -- it was refused, with this number
  stopped : ℕ → Reader

-- a frame at an address, by its judgement
abbrev pub advance : JudgementSaid → List ℕ → ℕ → ℕ → List Element → Trail → Reader
advance judgement.passed_over f a n got trail = going n got trail
advance (judgement.refused m) f a n got trail = stopped m
advance judgement.block f a n got trail = going (n + 1) (got ++ block (take data_length f) ∷ []) trail
advance judgement.filemark f a n got trail = going (n + 1) (got ++ filemark ∷ []) (marked trail (as_address a))
advance judgement.end f a n got trail = finished got a

-- what an address reads as
unfoldable pub look : Header → ℕ → Option (List ℕ) → Reader → Reader
look told a none r = r
look told a (some f) (going n got trail) = advance (judge_frame told (as_address a) (as_seq n) f) f a n got trail
look told a (some f) (finished got e) = finished got e
look told a (some f) (stopped m) = stopped m

-- after the user frames below an address
unfoldable pub fold_of : Header → Tape → ℕ → Reader
fold_of told t zero = going 0 [] no_trail
fold_of told t (suc a) = pick (is_user told.last.0 a) (look told a (t a) (fold_of told t a)) (fold_of told t a)

-- and over the whole tape
abbrev pub whole_of : Header → Tape → Reader
whole_of told t = fold_of told t (told.last.0 + 1)

-- where a reading stands after a list of its calls
pub data Standing (told : Header) (t : Tape) (w : World) : Type 0 where
  -- it goes on: it has delivered what the fold has at the next address
  goes_on : w.notes.refused ≡ 0 → w.notes.end ≡ false
      → fold_of told t w.session.position.next.0 ≡ going w.session.expected.0 w.notes.deliveries w.session.trail → Standing told t w
  -- the end was answered: there the fold has what was delivered, and ends
  at_end : w.notes.refused ≡ 0 → w.notes.end ≡ true
      → fold_of told t (end_of w.session).0 ≡ going w.session.expected.0 w.notes.deliveries w.session.trail
      → whole_of told t ≡ finished w.notes.deliveries (end_of w.session).0 → Standing told t w
  -- refused with 10 or 11
  stops : (w.notes.refused ≡ 10) ⊎ (w.notes.refused ≡ 11) → w.notes.end ≡ false → whole_of told t ≡ stopped w.notes.refused → Standing told t w
  -- refused with 12: the whole tape has no end
  finds_no_end : w.notes.refused ≡ 12 → w.notes.end ≡ false
      → whole_of told t ≡ going w.session.expected.0 w.notes.deliveries w.session.trail → Standing told t w

-- what every list of a reading's calls gives of a tape: the fold
pub record IsFold (told : Header) (t : Tape) (w : World) : Type 0 where
  pub standing : Standing told t w
  -- where the fold over the whole tape ends, every list goes on to that end
  pub faithful : (xs : List Element) (e : ℕ) → whole_of told t ≡ finished xs e → Faithful told.last.0 xs w

-- every list of a reading's calls, on any cartridge and any header that the opening accepts, whoever wrote them
unfoldable pub ReadingIsFold : Type 0
ReadingIsFold =
    (g : Geometry) (last : ℕ) (t : Tape) (h : List ℕ) (at : ℕ) (calls : List Call) (w : World)
    → HasLast g last → Cartridge last t → (open_of g h).number ≡ 0
    → Runs t (started (open_of g h).session at) calls w
    → IsFold (header_of h) t w

-- under one header the fold rests on the user frames alone: a session that wrote nothing else changes nothing for whoever reads on that header
unfoldable pub FoldOfUserFrames : Type 0
FoldOfUserFrames = (told : Header) (t u : Tape) → SameFrames told.last.0 t u → (a : ℕ) → fold_of told t a ≡ fold_of told u a

-- What a recording has brought of its elements, as a reading sees it: the bridge between a recording and the readings after it. Assumes nothing.
use Prim.Native.Nat.{ℕ, ◌+◌, ◌≤◌, ◌<◌}
use mathlib.Core.Path.{◌≡◌}
use mathlib.Core.Bool.{true}
use mathlib.Core.List.{List}
use mathlib.Core.Logic.{◌⊎◌}
use mathlib.Core.Option.{some}
use lib.ListN.{length, take}
use Rattle.geometry.specs.Cartridge.{is_user}
use Rattle.frame.specs.declared.trail.Trail.{Trail}
use Rattle.judgement.specs.Judgement.{passed_over, judge_frame}
use Rattle.frame.specs.declared.header.Header.{Header}
use Rattle.archive_lists.specs.Tape.{Tape, Bears}
use Rattle.archive_lists.specs.Fold.{Reader, going, finished, fold_of, whole_of}
use Rattle.archive_lists.specs.Recordings.{Element}
use Rattle.archive_lists.specs.Filemarks.{item_at}
use Rattle.archive_lists.proofs.tape.Stands.{unending}

-- a reading that goes on and has delivered the first m of xs
pub data Has (xs : List Element) (m : ℕ) (r : Reader) : Type 0 where
  has : (trail : Trail) → r ≡ going m (take m xs) trail → Has xs m r

-- from an address on, whatever reads is passed over in the open view by a reading that expects base or more
abbrev pub Quiet : ℕ → ℕ → ℕ → ℕ → Tape → Type 0
Quiet last pass base edge t = (a : ℕ) (f : List ℕ) → edge ≤ a → is_user last a ≡ true → t a ≡ some f → (i : ℕ) → base ≤ i → judge_frame (unending last pass) (record { 0 = a }) (record { 0 = i }) f ≡ passed_over

-- from an address on no user frame bears the pass
abbrev pub NoneFrom : ℕ → ℕ → Tape → ℕ → Type 0
NoneFrom last pass t from = (a : ℕ) (f : List ℕ) → from ≤ a → is_user last a ≡ true → t a ≡ some f → Bears pass f → ⊥

-- from an edge on, and behind the old end, where EOD may still read, no user frame bears the pass
pub record Clean (last pass edge : ℕ) (t : Tape) : Type 0 where
  pub old : ℕ
  pub old_low : old ≤ edge
  pub none : (a : ℕ) (f : List ℕ) → old < a → edge ≤ a → is_user last a ≡ true → t a ≡ some f → Bears pass f → ⊥

-- of the elements xs the first, ps, are promised: all that were accepted, or those on tape when the others were given up.
-- k of ps are on tape, EOD counted as one more, and the tape was tried below edge: in the open view a reading of that has the first m of xs,
-- m being k, or k + 1 where a failed write reads as new, and at least ps where EOD is on tape; from edge on all is quiet
pub record Seen (last pass : ℕ) (ps xs : List Element) (k edge : ℕ) (t : Tape) : Type 0 where
  pub base : ℕ
  pub m : ℕ
  pub floor : base ≤ m
  pub low : (k ≤ m) ⊎ (length ps ≤ m)
  pub high : m ≤ k + 1
  pub most : m ≤ length ps + 1
  pub top : m ≤ length xs
  pub few : length ps ≤ length xs
  pub prefix : (i : ℕ) → i < length ps → item_at ps i ≡ item_at xs i
  pub seen : Has xs m (fold_of (unending last pass) t edge)
  pub quiet : Quiet last pass base edge t

-- what a done recording leaves and a reading needs, on a header that names e
abbrev pub Recorded : ℕ → ℕ → Tape → List Element → ℕ → Type 0
Recorded last pass t xs e = (told : Header) → told.last.0 ≡ last → told.pass ≡ pass → told.eod.0 ≡ e → whole_of told t ≡ finished xs e

-- What a recording's opening fixes, and what one that reported done leaves. Assumes nothing.
use Prim.Native.Nat.{ℕ, ◌+◌, ◌^◌, ◌≤◌, ◌<◌}
use mathlib.Core.Path.{◌≡◌}
use mathlib.Core.Bool.{true}
use mathlib.Core.List.{List}
use mathlib.Core.Option.{some}
use lib.ListN.{length}
use Rattle.geometry.specs.Cartridge.{is_user}
use Rattle.header.specs.Valid.{header_of}
use Rattle.archive_lists.specs.Tape.{Tape, Cartridge}
use Rattle.archive_lists.specs.Headers.{Newest}
use Rattle.archive_lists.specs.Recordings.{Element}
use Rattle.archive_lists.specs.Filemarks.{eod}
use Rattle.archive_lists.proofs.tape.Seen.{NoneFrom}
use Rattle.archive_lists.proofs.tape.Closed.{ReadsAll}
use Rattle.archive_lists.proofs.tape.Stands.{Stands}

-- the numbers that the geometry and the opening fix
pub record Setting (last pass : ℕ) : Type 0 where
  pub large : 3000 ≤ last
  pub small : last + 65 < 2 ^ 32
  pub low : pass ≤ 65534

-- an address at which the tape reads as EOD with this number; above it no user frame bears the pass, where so much may be assumed
pub record EodAt (last pass : ℕ) (none_bears : Type 0) (n : ℕ) (t : Tape) (a : ℕ) : Type 0 where
  pub frame : List ℕ
  pub user : is_user last a ≡ true
  pub reads : t a ≡ some frame
  pub stands : Stands last pass eod n frame
  pub above : none_bears → NoneFrom last pass t (a + 1)

-- the newest headers that a recording leaves which reported done
pub record HeadersLeft (last pass : ℕ) (none_bears : Type 0) (n : ℕ) (t : Tape) : Type 0 where
  pub header : List ℕ
  pub newest : Newest last t header
  pub passes : (h : List ℕ) → Newest last t h → (header_of h).pass ≡ pass
  -- where they say, and they name no old end
  pub end_at : ℕ
  pub names : (h : List ℕ) → Newest last t h → (header_of h).eod.0 ≡ end_at
  pub ends : EodAt last pass none_bears n t end_at

-- and all that it leaves: of the elements xs those that are promised, ps, are read, and at most one more
pub record Leaves (last pass base : ℕ) (none_bears : Type 0) (t : Tape) (ps xs : List Element) : Type 0 where
  pub cartridge : Cartridge last t
  pub headers : HeadersLeft last pass none_bears (length ps) t
  pub reads : ReadsAll last pass ps xs headers.end_at t
  pub floor : base ≤ length ps

-- Which headers a cartridge holds. Assumes nothing.
use Prim.Native.Nat.{ℕ, ◌+◌, ◌^◌, ◌≤◌, ◌<◌}
use mathlib.Core.Path.{◌≡◌}
use mathlib.Core.Bool.{true, ◌||◌}
use mathlib.Core.List.{List}
use mathlib.Core.Logic.{◌⊎◌}
use mathlib.Core.Option.{some}
use lib.Dec.{eqb}
use Rattle.geometry.specs.Cartridge.{is_user, is_header}
use Rattle.frame.specs.Header.{header_frame}
use Rattle.frame.specs.Sent.{ReadsAs}
use Rattle.frame.specs.declared.header.Header.{Header}
use Rattle.header.specs.Valid.{update_of}
use Rattle.judgement.specs.Judgement.{ends_from}
use Rattle.archive_lists.specs.Tape.{Tape}
use Rattle.archive_lists.specs.Headers.{HeaderAt}
use Rattle.archive_lists.proofs.recording.Trailing.{Prior}

-- under this header no EOD below that address ends reading
abbrev pub Late : ℕ → Header → Type 0
Late start h = (start ≤ 10) ⊎ (start ≤ ends_from h)

-- what a session's header carries; so many counts are spare
pub record Carried (last pass : ℕ) (prior : Prior) (spare : ℕ) (h : Header) : Type 0 where
  pub last_is : h.last.0 ≡ last
  pub pass_is : h.pass ≡ pass
  pub eod_fits : (eqb h.eod.0 0 || is_user last h.eod.0) ≡ true
  pub old_low : h.old.0 ≤ last
  pub count_fits : h.update + spare < 2 ^ 32
  pub late : Late prior.start h
  pub newer : prior.least ≤ h.update
  -- an opening header has one count to spare, and names no EOD
  pub counts : h.update + spare ≡ prior.least + 1
  pub unnamed : spare ≡ 1 → h.eod.0 ≡ 0

-- a copy of the header reads at a header's address below a bound
pub record Copy (h : Header) (t : Tape) (bound : ℕ) : Type 0 where
  pub address : ℕ
  pub frame : List ℕ
  pub group : is_header address ≡ true
  pub low : address < bound
  pub reads : t address ≡ some frame
  pub as_sent : ReadsAs (header_frame h) frame

-- every valid header has a lower update count, or is a copy of this one
abbrev pub Below : ℕ → Header → Tape → Type 0
Below last h t = (a : ℕ) (f : List ℕ) → HeaderAt last t a f → (update_of f < h.update) ⊎ ReadsAs (header_frame h) f

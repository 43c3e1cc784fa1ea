-- 00, demand 3, and 01, "The lists of demand 3": how a recording is opened, and over what.
use Rattle.std.specs.Prelude.{ℕ, ◌+◌, ◌≡◌, true, List}
use Rattle.std.proofs.Math.Option.{some}
use Rattle.geometry.specs.Cartridge.{is_user}
use Rattle.geometry.specs.declared.cartridge.Geometry.{Geometry}
use Rattle.header.specs.Valid.{header_of}
use Rattle.recording_state.specs.State.{OutcomeSaid}
use Rattle.recording_state.specs.Open.{open_of, open_blank_of}
use Rattle.archive_lists.specs.Tape.{Tape, Bears}
use Rattle.archive_lists.specs.Headers.{Newest, NoHeader}

-- an opening: on a header, or on none
pub data Opening : Type 0 where
  on_header : List ℕ → Opening
  on_none : Opening

-- what it returns
abbrev pub opened : Geometry → ℕ → ℕ → ℕ → Opening → OutcomeSaid
opened g depth window tail (on_header h) = open_of g depth window tail h
opened g depth window tail on_none = open_blank_of g depth window tail

-- on the cartridge's newest header; on none if there is none
abbrev pub OnNewest : ℕ → Tape → Opening → Type 0
OnNewest last t (on_header h) = Newest last t h
OnNewest last t on_none = NoHeader last t

-- the new write pass: old + 1; with no header, 1
abbrev pub new_pass : Opening → ℕ
new_pass (on_header h) = (header_of h).pass + 1
new_pass on_none = 1

-- no user frame has this pass
abbrev pub NoneBears : ℕ → Tape → ℕ → Type 0
NoneBears last t pass = (a : ℕ) (f : List ℕ) → is_user last a ≡ true → t a ≡ some f → Bears pass f → ⊥

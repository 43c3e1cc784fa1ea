-- 01, "The lists of demand 3": a cartridge's newest header.
use Rattle.std.specs.Prelude.{ℕ, ◌≤◌, ◌≡◌, true, List}
use Rattle.std.proofs.Math.Option.{some}
use Rattle.geometry.specs.Place.{as_address}
use Rattle.geometry.specs.Cartridge.{is_header}
use Rattle.header.specs.Valid.{valid_header, update_of}
use Rattle.archive_lists.specs.Tape.{Tape}

-- a valid header that reads at an address of the header groups
pub record HeaderAt (last : ℕ) (t : Tape) (a : ℕ) (h : List ℕ) : Type 0 where
  pub group : is_header a ≡ true
  pub reads : t a ≡ some h
  pub valid : valid_header (as_address last) h ≡ true

-- one with the highest update count
pub record Newest (last : ℕ) (t : Tape) (h : List ℕ) : Type 0 where
  pub address : ℕ
  pub here : HeaderAt last t address h
  pub highest : (a : ℕ) (other : List ℕ) → HeaderAt last t a other → update_of other ≤ update_of h

-- none at all
abbrev pub NoHeader : ℕ → Tape → Type 0
NoHeader last t = (a : ℕ) (h : List ℕ) → HeaderAt last t a h → ⊥

-- 01, "The lists of demand 3": what a cartridge is. At every address a frame can be read, or nothing can.
use Rattle.std.specs.Prelude.{ℕ, ◌^◌, ◌<◌, ◌≡◌, true, List, eqb, length, drop}
use Rattle.std.proofs.Math.Option.{Option, none, some}
use Rattle.geometry.specs.Pick.{pick}
use Rattle.geometry.specs.Place.{address}
use Rattle.geometry.specs.Cartridge.{last_of, is_user}
use Rattle.geometry.specs.declared.cartridge.Geometry.{Geometry}
use Rattle.frame.specs.Lengths.{frame_length, data_length}
use Rattle.buffer.specs.Bytes.{get16}

-- what each address reads as
abbrev pub Tape : Type 0
Tape = ℕ → Option (List ℕ)

-- a tape on which one address reads as something else
unfoldable pub put : Tape → ℕ → Option (List ℕ) → Tape
put t a v b = pick (eqb b a) v (t b)

-- 01, "The cartridge": a geometry that is not refused, and its LAST
pub record HasLast (g : Geometry) (last : ℕ) : Type 0 where
  -- SEGTRK and TRKS have 16 bits
  pub segtrk : g.segtrk < 2 ^ 16
  pub trks : g.trks < 2 ^ 16
  -- there are enough frames, and this is the highest address
  pub is_last : last_of g ≡ address last

-- a cartridge with this LAST: frames are 33,280 bytes long, and nothing is above LAST
pub record Cartridge (last : ℕ) (t : Tape) : Type 0 where
  pub long : (a : ℕ) (f : List ℕ) → t a ≡ some f → length f ≡ frame_length
  pub bounded : (a : ℕ) → last < a → t a ≡ none

-- the user frames of both read alike
abbrev pub SameFrames : ℕ → Tape → Tape → Type 0
SameFrames last t u = (a : ℕ) → is_user last a ≡ true → t a ≡ u a

-- a frame that bears a pass: its AUX has it at 22
abbrev pub Bears : ℕ → List ℕ → Type 0
Bears pass f = get16 (drop data_length f) 22 ≡ pass

-- 00, demand 2, of headers: the frame built for a header, and each frame that reads as it, is read as the header's fields.
use Rattle.std.specs.Prelude.{ℕ, ◌≤◌, ◌≡◌, true, List, ◌⊎◌}
use Rattle.geometry.specs.Place.{address}
use Rattle.geometry.specs.Cartridge.{last_of, is_user}
use Rattle.geometry.specs.declared.cartridge.Geometry.{Geometry}
use Rattle.frame.specs.Header.{highest_pass, header_frame}
use Rattle.frame.specs.Sent.{ReadsAs}
use Rattle.frame.specs.ReadBack.{HeaderFit}
use Rattle.frame.specs.declared.header.Header.{Header}
use Rattle.header.specs.Valid.{valid_header, header_of}
use Rattle.header.specs.Read.{valid, read_header}

-- what 01, "AUX bytes", asks of the pass and the EOD address of a valid header
pub record Allowed (h : Header) : Type 0 where
  pub pass : h.pass ≤ highest_pass
  pub eod : (h.eod.0 ≡ 0) ⊎ (is_user h.last.0 h.eod.0 ≡ true)

-- of every header whose numbers fit their fields
pub record HeaderReadBack : Type 0 where
  -- it tells the fields that it was built from
  pub fields : (h : Header) (read : List ℕ) → HeaderFit h → ReadsAs (header_frame h) read → header_of read ≡ h
  -- it is valid on a cartridge with its LAST
  pub is_valid : (h : Header) (read : List ℕ) → HeaderFit h → Allowed h → ReadsAs (header_frame h) read → valid_header h.last read ≡ true
  -- so where the geometry has that LAST, reading it gives the header
  pub taken : (g : Geometry) (h : Header) (read : List ℕ) → last_of g ≡ address h.last.0 → HeaderFit h → Allowed h → ReadsAs (header_frame h) read
      → read_header g read ≡ valid h

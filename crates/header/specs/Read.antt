-- 01, "AUX bytes" and "Refused calls": a lent header is taken for valid, or refused with 1, 2 or 3.
use Rattle.std.specs.Prelude.{ℕ, List, eqb, length, Result, Ok, Err}
use Rattle.geometry.specs.Pick.{pick}
use Rattle.geometry.specs.Refusal.{refusal_number}
use Rattle.geometry.specs.declared.refusal.Refusal.{Refusal}
use Rattle.geometry.specs.Place as place
use Rattle.geometry.specs.Place.{PlaceSaid}
use Rattle.geometry.specs.Cartridge.{last_of}
use Rattle.geometry.specs.declared.address.Address.{Address}
use Rattle.geometry.specs.declared.cartridge.Geometry.{Geometry}
use Rattle.frame.specs.Lengths.{frame_length}
use Rattle.frame.specs.declared.header.Header.{Header}
use Rattle.header.specs.Valid.{valid_header, header_of}

-- its fields, or the refusal's number
pub data CheckedSaid : Type 0 where
  valid : Header → CheckedSaid
  refused : ℕ → CheckedSaid

-- what the code answers, in these terms
abbrev pub checked_said : Result Header Refusal → CheckedSaid
checked_said (Ok h) = valid h
checked_said (Err r) = refused (refusal_number r)

-- 3: invalid on a cartridge with this LAST
unfoldable pub header_on : Address → List ℕ → CheckedSaid
header_on last h = pick (valid_header last h) (valid (header_of h)) (refused 3)

-- 2: the geometry's
abbrev pub header_for : PlaceSaid → List ℕ → CheckedSaid
header_for (place.address last) h = header_on (place.as_address last) h
header_for (place.refused n) h = refused n

-- 1: its length
unfoldable pub read_header : Geometry → List ℕ → CheckedSaid
read_header g h = pick (eqb (length h) frame_length) (header_for (last_of g) h) (refused 1)

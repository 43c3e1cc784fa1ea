-- 01, "AUX bytes": when a header that was read is valid. Bytes not named here are ignored.
use Rattle.std.specs.Prelude.{ℕ, ◌+◌, Bool, ◌&&◌, ◌||◌, List, eqb, leb, length, take, get_or}
use Rattle.geometry.specs.Place.{as_address}
use Rattle.geometry.specs.Cartridge.{first_user, is_user}
use Rattle.geometry.specs.declared.address.Address.{Address}
use Rattle.buffer.specs.Bytes.{get16, get32, agree}
use Rattle.frame.specs.Lengths.{data_length}
use Rattle.frame.specs.Aux.{header_type}
use Rattle.frame.specs.Header.{header_name, highest_pass}
use Rattle.frame.specs.declared.header.Header.{Header}

-- the name; the major revision 1 with either of two minor ones; a single partition
abbrev pub is_named : List ℕ → Bool
is_named h =
    agree (take (length header_name) h) header_name
    && eqb (get_or h 8 0) 1 && (eqb (get_or h 9 0) 2 || eqb (get_or h 9 0) 3)
    && eqb (get_or h 16 0) 1

-- partition 0, version 1, a pass of at most 65,534, first address 10, LAST, and an EOD address that is 0 or a user frame
abbrev pub is_partition : Address → List ℕ → Bool
is_partition last h =
    eqb (get_or h 20 0) 0 && eqb (get_or h 21 0) 1 && leb (get16 h 22) highest_pass && eqb (get32 h 24) first_user && eqb (get32 h 28) last.0
    && (eqb (get32 h 32) 0 || is_user last.0 (get32 h 32))

-- AUX 0-3 are 0, the type is 08 00, the partition FF
abbrev pub is_header_aux : List ℕ → Bool
is_header_aux h = eqb (get32 h data_length) 0 && eqb (get16 h (data_length + 16)) header_type && eqb (get_or h (data_length + 20) 0) 0xFF

-- valid on a cartridge with this LAST
unfoldable pub valid_header : Address → List ℕ → Bool
valid_header last h = is_named h && is_partition last h && is_header_aux h

-- AUX 12-15
unfoldable pub update_of : List ℕ → ℕ
update_of h = get32 h (data_length + 12)

-- 02, Card 1: AUX 224-227, the old end that the opening headers of a recording name that adds to a cartridge; 0 in every other header
unfoldable pub old_of : List ℕ → ℕ
old_of h = get32 h (data_length + 224)

-- what the header tells
abbrev pub header_of : List ℕ → Header
header_of h = record {
  last = as_address (get32 h 28);
  pass = get16 h 22;
  eod = as_address (get32 h 32);
  old = as_address (old_of h);
  update = update_of h;
}

-- 01, "A recording session": where frames go. The limit is one past END: first one past LAST, then each address at which 0D/00/02 comes.
-- Numbers of 32 bits wrap in a session that no call returned.
use Rattle.std.specs.Prelude.{◌+◌, true, false}
use Rattle.geometry.specs.Place.{as_address}
use Rattle.geometry.specs.Wrap.{wrap32}
use Rattle.geometry.specs.declared.address.Address.{Address}
use Rattle.elements.specs.declared.course.Course.{Course}

-- from an address on. The LOCATE of it comes first, as rule 1's of a target
abbrev pub start_of : Address → Address → Course
start_of last a = record { next = a; limit = as_address (wrap32 (last.0 + 1)); locate = true; target = a }

-- a LOCATE is answered good: writing goes on at its address
abbrev pub located_of : Course → Address → Course
located_of c a = record c { next = a; locate = false }

-- a frame is taken: the next one goes behind it
abbrev pub taken_of : Course → Course
taken_of c = record c { next = as_address (wrap32 (c.next.0 + 1)) }

-- a LOCATE of this target comes first
abbrev pub relocated_of : Course → Address → Course
relocated_of c t = record c { locate = true; target = t }

-- 0D/00/02 at an address: it and all behind it are beyond END
abbrev pub overflowed_of : Course → Address → Course
overflowed_of c a = record c { limit = a }

-- 01, "A recording session", the paragraph on headers: how the copies of one header are written, one group after the other.
use Rattle.std.specs.Prelude.{ℕ, ◌+◌, ◌-◌, true, false, ◌&&◌, ◌||◌, eqb, ltb, leb, Option, None, Some, Result, Ok, Err}
use Rattle.geometry.specs.Place.{as_address}
use Rattle.geometry.specs.Pick.{pick}
use Rattle.geometry.specs.Refusal.{refusal_number}
use Rattle.geometry.specs.Wrap.{wrap8}
use Rattle.geometry.specs.Cartridge.{group_copies, header_address, copy_at}
use Rattle.geometry.specs.declared.address.Address.{Address}
use Rattle.geometry.specs.declared.refusal.Refusal.{Refusal}
use Rattle.frame.specs.declared.header.Header.{Header}
use Rattle.drive.specs.Command.{CommandSaid, write, locate, read_position}
use Rattle.copies.specs.declared.copies.Copies.{Copies}

-- before the first copy
abbrev pub start_of : Header → Copies
start_of h = record { header = h; group = 0; copy = 0; outstanding = 0; confirmed = 0; locate = true }

-- the address of the next copy
abbrev pub header_at : Copies → Address
header_at c = as_address (header_address c.group c.copy)

-- the command that is due
unfoldable pub command_of : ℕ → Copies → CommandSaid
command_of depth c =
    pick c.locate (locate (header_at c).0)
    (pick (ltb c.copy group_copies && ltb c.outstanding depth) (write (header_at c).0) read_position)

-- how far the copies are after a reply
pub data ProgressSaid : Type 0 where
  more : Copies → ProgressSaid
  complete : ProgressSaid
  refused : ℕ → ProgressSaid

-- what the code answers, in these terms
abbrev pub progress_said : Result (Option Copies) Refusal → ProgressSaid
progress_said (Ok (Some c)) = more c
progress_said (Ok None) = complete
progress_said (Err r) = refused (refusal_number r)

-- a LOCATE answered good
abbrev pub located_of : Copies → Copies
located_of c = record c { locate = false }

-- a WRITE answered good: the copy is outstanding. The counts stay below 11; `wrap8` only says what a wrapped number is.
abbrev pub taken_of : Copies → Copies
taken_of c = record c { copy = wrap8 (c.copy + 1); outstanding = wrap8 (c.outstanding + 1) }

-- the oldest n are on tape
abbrev pub confirmed_of : Copies → ℕ → Copies
confirmed_of c n = record c { outstanding = c.outstanding - n; confirmed = wrap8 (c.confirmed + n) }

-- the next group starts with a LOCATE of its first copy
abbrev pub next_group : Copies → Copies
next_group c = record c { group = 1; copy = 0; locate = true }

-- a group whose copies are all through gives way to the next; behind the last one a copy must be on tape, else refusal 12
unfoldable pub onward_of : Copies → ProgressSaid
onward_of c =
    pick (ltb c.copy group_copies || ltb 0 c.outstanding) (more c)
    (pick (eqb c.group 0) (more (next_group c))
    (pick (eqb c.confirmed 0) (refused 12) complete))

-- READ POSITION answered good, with f frames still buffered
unfoldable pub counted_of : Copies → ℕ → ProgressSaid
counted_of c f = pick (ltb c.outstanding f) (refused 8) (onward_of (confirmed_of c (c.outstanding - f)))

-- the copy of index i failed: it is spoiled, the n before it are on tape, and a LOCATE of the address behind it follows
abbrev pub failed_at : Copies → ℕ → ℕ → Copies
failed_at c n i = record c { copy = i + 1; outstanding = 0; confirmed = wrap8 (c.confirmed + n); locate = true }

-- the oldest outstanding copy, by its number in the group; the outstanding ones go up to the copy before the next
abbrev pub oldest_copy : Copies → ℕ
oldest_copy c = c.copy - c.outstanding

-- a write error of copy i, which must be outstanding
unfoldable pub failed_copy : Copies → ℕ → ProgressSaid
failed_copy c i =
    pick (ltb i (oldest_copy c)) (refused 8)
    (pick (leb c.copy i) (refused 8)
    (onward_of (failed_at c (i - oldest_copy c) i)))

-- a write error at p; an address that is no copy's of the group counts as one past the last, which is not outstanding
abbrev pub failed_of : Copies → Address → ProgressSaid
failed_of c p = failed_copy c (copy_at c.group p.0)

-- 02, Card 9: the calls.
use Rattle.std.specs.Prelude.{ℕ, Bool, false, ◌&&◌, List, length, ◌==◌}
use Rattle.geometry.specs.Pick.{pick}
use Rattle.frame.specs.Lengths.{aux_length}
use Rattle.sheet.specs.declared.sheet.Sheet.{Sheet}
use Rattle.sheet.specs.Line.{line_length, heading}
use Rattle.sheet.specs.Answer.{EnteredSaid, silent, printing, refusing}
use Rattle.sheet.specs.Step.{field_entry, ended_of, broken_off, step_of}

-- a lent line has room for a line, and no more
abbrev pub fits : List ℕ → Bool
fits l = length l == line_length

-- a sheet before its first field: job 1 is open, and number 0 comes next
abbrev pub new_sheet : Sheet
new_sheet = record { job = 1; first = 0; next = 0; ended = false }

-- the header line; an opening that is refused gives a sheet that has ended
unfoldable pub open_of : List ℕ → EnteredSaid
open_of l = pick (fits l) (printing new_sheet heading) (refusing (ended_of new_sheet) l)

-- a field; once the sheet has ended, fields are ignored
unfoldable pub enter_of : Sheet → List ℕ → List ℕ → EnteredSaid
enter_of s aux l =
    pick (length aux == aux_length && fits l)
    (pick s.ended (silent s l) (step_of s (field_entry s.next aux) l))
    (refusing s l)

-- the end of the dump: where the sheet has not ended by then, the dump is cut short
unfoldable pub finish_of : Sheet → List ℕ → EnteredSaid
finish_of s l = pick (fits l) (pick s.ended (silent s l) (broken_off s)) (refusing s l)

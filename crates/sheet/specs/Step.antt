-- 02, Card 9: what one field does to the sheet.
use Rattle.std.specs.Prelude.{ℕ, ◌+◌, ◌-◌, true, ◌&&◌, ◌||◌, List, ◌==◌, nat_le, nat_lt, Option, Some, None}
use Rattle.geometry.specs.Pick.{pick}
use Rattle.buffer.specs.Bytes.{get16, get32}
use Rattle.frame.specs.Aux.{data_type, marker_type, eod_type}
use Rattle.sheet.specs.declared.sheet.Sheet.{Sheet}
use Rattle.frame.specs.declared.element.Kind.{Kind}
use Rattle.frame.specs.declared.element.Kind.TheVariants.{Data, Marker, Eod}
use Rattle.sheet.specs.Line.{line_of, asterisks}
use Rattle.sheet.specs.Answer.{EnteredSaid, silent, printing}

-- the highest job that has a line
abbrev pub last_job : ℕ
last_job = 99999

-- the highest number that a field can have, in 32 bits: behind it none is next
abbrev pub highest_number : ℕ
highest_number = 4294967295

-- what a field of this type and number is: data or marker of the next number, EOD of that or of the one below it, or `None` where it is none of these
abbrev pub entry_of : ℕ → ℕ → ℕ → Option Kind
entry_of next type number =
    pick (type == data_type && number == next) (Some Data)
    (pick (type == marker_type && number == next) (Some Marker)
    (pick (type == eod_type && (number == next || number + 1 == next)) (Some Eod) None))

-- what a field of 512 bytes is: 01, "AUX bytes", has the type at 16-17 and the sequence number at 44-47; no other byte is looked at
abbrev pub field_entry : ℕ → List ℕ → Option Kind
field_entry next aux = entry_of next (get16 aux 16) (get32 aux 44)

-- the elements of an open job are its blocks
abbrev pub blocks_of : Sheet → ℕ
blocks_of s = s.next - s.first

-- a sheet that has ended
abbrev pub ended_of : Sheet → Sheet
ended_of s = record s { ended = true }

-- the sheet ends with asterisks
abbrev pub broken_off : Sheet → EnteredSaid
broken_off s = printing (ended_of s) asterisks

-- the open job's line
abbrev pub job_line : Sheet → List ℕ
job_line s = line_of s.job s.first (blocks_of s)

-- the open job is closed: its line, and the sheet as it then is; a job above 99,999 ends the sheet
abbrev pub closing : Sheet → Sheet → EnteredSaid
closing s after = pick (nat_le s.job last_job) (printing after (job_line s)) (broken_off s)

-- a field, while the sheet is not ended: a block adds to the open job, a filemark closes it and opens the next, EOD closes it if it has blocks
unfoldable pub step_of : Sheet → Option Kind → List ℕ → EnteredSaid
step_of s (Some Data) l = silent (record s { next = s.next + 1 }) l
step_of s (Some Marker) l = closing s (record s { job = s.job + 1; first = s.next + 1; next = s.next + 1 })
step_of s (Some Eod) l = pick (nat_lt s.first s.next) (closing s (ended_of s)) (silent (ended_of s) l)
step_of s None l = broken_off s

-- 02, Card 9: the sheet of a whole dump.
use Rattle.std.specs.Prelude.{ℕ, zero, suc, ◌+◌, ◌/◌, Bool, true, false, ◌&&◌, List, [], ◌∷◌, ◌++◌, length, take, drop, nat_le, nat_lt, Option, Some, None}
use Rattle.geometry.specs.Pick.{pick}
use Rattle.frame.specs.Lengths.{aux_length}
use Rattle.frame.specs.declared.element.Kind.{Kind}
use Rattle.frame.specs.declared.element.Kind.TheVariants.{Data, Marker, Eod}
use Rattle.sheet.specs.Line.{line_of, heading, asterisks}
use Rattle.sheet.specs.Step.{last_job, field_entry}

-- the first n fields of 512 bytes
abbrev pub pieces : ℕ → List ℕ → List (List ℕ)
pieces zero bytes = []
pieces (suc n) bytes = take aux_length bytes ∷ pieces n (drop aux_length bytes)

-- the whole fields of a dump; bytes left over are no field
unfoldable pub fields_of : List ℕ → List (List ℕ)
fields_of dump = pieces (length dump / aux_length) dump

-- what each field is: the numbers go up by one from field to field
unfoldable pub entries_from : ℕ → List (List ℕ) → List (Option Kind)
entries_from next [] = []
entries_from next (f ∷ fs) = field_entry next f ∷ entries_from (next + 1) fs

-- EOD comes before anything that is wrong, and before the dump ends
unfoldable pub is_whole : List (Option Kind) → Bool
is_whole [] = false
is_whole (Some Data ∷ es) = is_whole es
is_whole (Some Marker ∷ es) = is_whole es
is_whole (Some Eod ∷ es) = true
is_whole (None ∷ es) = false

-- a job: the number of its first element, and its count of blocks
pub record Job : Type 0 where
  pub first : ℕ
  pub blocks : ℕ

-- the jobs, as Card 3 has them: a filemark closes the open one, and EOD does if it has blocks; behind EOD or a wrong field there are none.
-- The open one has begun at a number and has so many blocks
unfoldable pub jobs_from : ℕ → ℕ → List (Option Kind) → List Job
jobs_from first blocks [] = []
jobs_from first blocks (Some Data ∷ es) = jobs_from first (blocks + 1) es
jobs_from first blocks (Some Marker ∷ es) = record { first = first; blocks = blocks } ∷ jobs_from (first + blocks + 1) 0 es
jobs_from first blocks (Some Eod ∷ es) = pick (nat_lt 0 blocks) (record { first = first; blocks = blocks } ∷ []) []
jobs_from first blocks (None ∷ es) = []

-- a line for each job, from this job's number on
unfoldable pub lines_from : ℕ → List Job → List ℕ
lines_from k [] = []
lines_from k (j ∷ js) = line_of k j.first j.blocks ++ lines_from (k + 1) js

-- the header line, a line for each job up to 99,999, and asterisks where there are more jobs or the dump is not whole
unfoldable pub sheet_of : List ℕ → List ℕ
sheet_of dump = heading ++ lines_from 1 (take last_job jobs) ++ pick (is_whole entries && nat_le (length jobs) last_job) [] asterisks
  where
    -- the first field has number 0
    entries : List (Option Kind)
    entries = entries_from 0 (fields_of dump)

    jobs : List Job
    jobs = jobs_from 0 0 entries

-- 02, Card 9: worked cases, 02's own example first.
use Rattle.std.specs.Prelude.{◌≡◌, ℕ, ◌+◌, ◌-◌, false, List, [], ◌∷◌, ◌++◌, map, take, replicate}
use Rattle.buffer.specs.Bytes.{zeros, be16, be32}
use Rattle.frame.specs.Aux.{data_type, marker_type, eod_type, header_type}
use Rattle.sheet.specs.declared.sheet.Sheet.{Sheet}
use Rattle.sheet.specs.Line.{line_length, blank, line_feed, line_of, heading, asterisks}
use Rattle.sheet.specs.Step.{highest_number}
use Rattle.sheet.specs.Dump.{sheet_of}
use Rattle.sheet.specs.Prints.{enter_all, print_all}

-- a field of a type and a number; the other bytes are not looked at, and are not 0 here
abbrev field : ℕ → ℕ → List ℕ
field type number = replicate 16 0x5A ++ be16 type ++ replicate 26 0x5A ++ be32 number ++ replicate 464 0x5A

abbrev block : ℕ → List ℕ
block n = field data_type n

abbrev filemark : ℕ → List ℕ
filemark n = field marker_type n

abbrev eod : ℕ → List ℕ
eod n = field eod_type n

-- 02's example: a job of two blocks, one of none, and EOD
abbrev pub example : List ℕ
example = block 0 ++ block 1 ++ filemark 2 ++ filemark 3 ++ eod 4

-- the text that 02 prints for it
abbrev pub printed : List ℕ
printed =
    -- "  JOB      FIRST     BLOCKS"
    0x20 ∷ 0x20 ∷ 0x4A ∷ 0x4F ∷ 0x42 ∷ replicate 6 0x20 ++ 0x46 ∷ 0x49 ∷ 0x52 ∷ 0x53 ∷ 0x54
    ∷ replicate 5 0x20 ++ 0x42 ∷ 0x4C ∷ 0x4F ∷ 0x43 ∷ 0x4B ∷ 0x53 ∷ 0x0A
    -- "    1          0          2"
    ∷ replicate 4 0x20 ++ 0x31 ∷ replicate 10 0x20 ++ 0x30 ∷ replicate 10 0x20 ++ 0x32 ∷ 0x0A
    -- "    2          3          0"
    ∷ replicate 4 0x20 ++ 0x32 ∷ replicate 10 0x20 ++ 0x33 ∷ replicate 10 0x20 ++ 0x30 ∷ 0x0A ∷ []

-- a dump and its sheet
pub record Case : Type 0 where
  pub dump : List ℕ
  pub sheet : List ℕ

-- each row with a wrong field goes on as if that were right, to EOD
abbrev pub dumps : List Case
dumps =
    record { dump = example; sheet = printed }
    -- bytes after EOD: a field, and less than one
    ∷ record { dump = example ++ block 9; sheet = printed }
    ∷ record { dump = example ++ zeros 5; sheet = printed }
    -- nothing, and EOD alone
    ∷ record { dump = []; sheet = heading ++ asterisks }
    ∷ record { dump = eod 0; sheet = heading }
    -- a job that no filemark closes, by itself and behind another
    ∷ record { dump = block 0 ++ eod 1; sheet = heading ++ line_of 1 0 1 }
    ∷ record { dump = filemark 0 ++ block 1 ++ eod 2; sheet = heading ++ line_of 1 0 0 ++ line_of 2 1 1 }
    -- EOD one below the next number, two below, and one above; nothing is one below 0
    ∷ record { dump = block 0 ++ block 1 ++ eod 1; sheet = heading ++ line_of 1 0 2 }
    ∷ record { dump = filemark 0 ++ eod 0; sheet = heading ++ line_of 1 0 0 }
    ∷ record { dump = block 0 ++ block 1 ++ eod 0; sheet = heading ++ asterisks }
    ∷ record { dump = block 0 ++ eod 2; sheet = heading ++ asterisks }
    ∷ record { dump = eod 0xFFFFFFFF; sheet = heading ++ asterisks }
    -- cut short: without EOD, and within a field
    ∷ record { dump = block 0 ++ filemark 1 ++ block 2; sheet = heading ++ line_of 1 0 1 ++ asterisks }
    ∷ record { dump = filemark 0 ++ take 511 (eod 1); sheet = heading ++ line_of 1 0 0 ++ asterisks }
    -- a number that is not the next: one too high, and the last one again
    ∷ record { dump = filemark 0 ++ block 2 ++ eod 2; sheet = heading ++ line_of 1 0 0 ++ asterisks }
    ∷ record { dump = filemark 0 ++ block 0 ++ eod 1; sheet = heading ++ line_of 1 0 0 ++ asterisks }
    ∷ record { dump = filemark 0 ++ filemark 2 ++ eod 2; sheet = heading ++ line_of 1 0 0 ++ asterisks }
    ∷ record { dump = filemark 0 ++ filemark 0 ++ eod 1; sheet = heading ++ line_of 1 0 0 ++ asterisks }
    -- a type that is none of the three: two of them at once, data's with another low byte, a header's, none
    ∷ record { dump = filemark 0 ++ field 0x8200 1 ++ eod 2; sheet = heading ++ line_of 1 0 0 ++ asterisks }
    ∷ record { dump = filemark 0 ++ field 0x8001 1 ++ eod 2; sheet = heading ++ line_of 1 0 0 ++ asterisks }
    ∷ record { dump = field header_type 0 ++ eod 0; sheet = heading ++ asterisks }
    ∷ record { dump = field 0 0 ++ filemark 1 ++ eod 2; sheet = heading ++ asterisks }
    ∷ []

-- a sheet far on, the fields that come then and what they print
pub record LateCase : Type 0 where
  pub from : Sheet
  pub fields : List (List ℕ)
  pub printed : List ℕ

-- behind 99,998 filemarks job 99,999 is open
abbrev highest_job : Sheet
highest_job = record { job = 99999; first = 99998; next = 99998; ended = false }

-- behind a job of blocks and one block more the highest number comes next
abbrev near_end : Sheet
near_end = record { job = 2; first = highest_number - 1; next = highest_number; ended = false }

abbrev pub late_cases : List LateCase
late_cases =
    -- a job above 99,999: none, one of no blocks, one that EOD closes, and one that is cut short
    record { from = highest_job; fields = filemark 99998 ∷ eod 99999 ∷ []; printed = line_of 99999 99998 0 }
    ∷ record { from = highest_job; fields = block 99998 ∷ eod 99999 ∷ []; printed = line_of 99999 99998 1 }
    ∷ record { from = highest_job; fields = filemark 99998 ∷ filemark 99999 ∷ eod 100000 ∷ []; printed = line_of 99999 99998 0 ++ asterisks }
    ∷ record { from = highest_job; fields = filemark 99998 ∷ block 99999 ∷ eod 100000 ∷ []; printed = line_of 99999 99998 0 ++ asterisks }
    ∷ record { from = highest_job; fields = filemark 99998 ∷ block 99999 ∷ []; printed = line_of 99999 99998 0 ++ asterisks }
    -- behind the highest number none is next, 0 neither, and EOD has the one below
    ∷ record { from = near_end; fields = block highest_number ∷ eod highest_number ∷ []; printed = line_of 2 (highest_number - 1) 2 }
    ∷ record { from = near_end; fields = block highest_number ∷ eod 0 ∷ []; printed = asterisks }
    ∷ record { from = near_end; fields = block highest_number ∷ filemark 0 ∷ eod 1 ∷ []; printed = asterisks }
    ∷ record { from = near_end; fields = block highest_number ∷ filemark highest_number ∷ eod highest_number ∷ []; printed = asterisks }
    ∷ []

-- "4294967295" and "4294967296"
abbrev highest : ℕ → List ℕ
highest last = 0x34 ∷ 0x32 ∷ 0x39 ∷ 0x34 ∷ 0x39 ∷ 0x36 ∷ 0x37 ∷ 0x32 ∷ 0x39 ∷ last ∷ []

-- any line that a call may be lent
abbrev lent : ℕ → List ℕ
lent k = replicate line_length 0x5A

pub record Cases : Type 0 where
  -- by the calls, and by the definition of a dump's sheet
  pub example_printed : print_all lent example ≡ printed
  pub sheets : map (λ (c : Case). sheet_of c.dump) dumps ≡ map (λ (c : Case). c.sheet) dumps
  pub late : map (λ (c : LateCase). enter_all lent 0 c.from c.fields) late_cases ≡ map (λ (c : LateCase). c.printed) late_cases
  -- the highest job and the highest number, as of a filemark that has it; the most blocks, where all numbers are blocks'
  pub at_highest_number : line_of 99999 highest_number 0 ≡ replicate 5 0x39 ++ blank ∷ highest 0x35 ++ replicate 10 blank ++ 0x30 ∷ line_feed ∷ []
  pub most_blocks : line_of 1 0 (highest_number + 1) ≡ replicate 4 blank ++ 0x31 ∷ replicate 10 blank ++ 0x30 ∷ blank ∷ highest 0x36 ++ line_feed ∷ []

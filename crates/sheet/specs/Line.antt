-- 02, Card 9: the lines of the sheet, in ASCII.
use Rattle.std.specs.Prelude.{ℕ, zero, suc, ◌+◌, ◌-◌, ◌/◌, ◌%◌, List, [], ◌∷◌, ◌++◌, length, replicate, nat_lt}
use Rattle.geometry.specs.Pick.{pick}

-- 27 characters and a line feed
abbrev pub line_length : ℕ
line_length = 28

abbrev pub blank : ℕ
blank = 0x20

abbrev pub line_feed : ℕ
line_feed = 0x0A

-- the digit of a number below 10
abbrev pub digit : ℕ → ℕ
digit n = 0x30 + n

-- the decimal digits of a number; of a number of more than w digits, the last w
unfoldable pub decimal : ℕ → ℕ → List ℕ
decimal zero n = []
decimal (suc w) n = pick (nat_lt n 10) (digit n ∷ []) (decimal w (n / 10) ++ (digit (n % 10) ∷ []))

-- a text in a column of width w, right-aligned
abbrev pub right_aligned : ℕ → List ℕ → List ℕ
right_aligned w text = replicate (w - length text) blank ++ text

-- a number in such a column
unfoldable pub number_column : ℕ → ℕ → List ℕ
number_column w n = right_aligned w (decimal w n)

-- three columns with a blank between, and a line feed
abbrev pub columns : List ℕ → List ℕ → List ℕ → List ℕ
columns a b c = a ++ blank ∷ b ++ blank ∷ c ++ line_feed ∷ []

-- a job's line: its number, the number at which it begins, and how many blocks it has
unfoldable pub line_of : ℕ → ℕ → ℕ → List ℕ
line_of job first blocks = columns (number_column 5 job) (number_column 10 first) (number_column 10 blocks)

-- JOB, FIRST and BLOCKS
abbrev job_name : List ℕ
job_name = 0x4A ∷ 0x4F ∷ 0x42 ∷ []

abbrev first_name : List ℕ
first_name = 0x46 ∷ 0x49 ∷ 0x52 ∷ 0x53 ∷ 0x54 ∷ []

abbrev blocks_name : List ℕ
blocks_name = 0x42 ∷ 0x4C ∷ 0x4F ∷ 0x43 ∷ 0x4B ∷ 0x53 ∷ []

-- the header line
unfoldable pub heading : List ℕ
heading = columns (right_aligned 5 job_name) (right_aligned 10 first_name) (right_aligned 10 blocks_name)

-- the line of 27 asterisks
unfoldable pub asterisks : List ℕ
asterisks = replicate 27 0x2A ++ line_feed ∷ []

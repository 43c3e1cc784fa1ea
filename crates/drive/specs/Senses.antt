-- 01, "Replies": which sense triples are known, and what each means.
use Rattle.std.specs.Prelude.{ℕ, Bool, ◌&&◌, List, [], ◌∷◌, eqb}
use Rattle.geometry.specs.Pick.{pick}
use Rattle.drive.specs.declared.senses.Sense.{Sense}

-- the meanings, after table 4-20 of the standard; other is that of every triple that is not listed
abbrev pub other : ℕ
other = 0

abbrev pub good : ℕ
good = 1

abbrev pub busy : ℕ
busy = 2

abbrev pub write_error : ℕ
write_error = 3

abbrev pub volume_overflow : ℕ
volume_overflow = 4

abbrev pub recovered : ℕ
recovered = 5

abbrev pub unreadable : ℕ
unreadable = 6

abbrev pub end_of_data : ℕ
end_of_data = 7

abbrev pub end_of_medium : ℕ
end_of_medium = 8

abbrev sense : ℕ → ℕ → ℕ → ℕ → Sense
sense key asc ascq meaning = record { key = key; asc = asc; ascq = ascq; meaning = meaning }

-- the table
abbrev pub senses : List Sense
senses =
    sense 0x00 0x00 0x00 good
    ∷ sense 0x02 0x04 0x01 busy
    ∷ sense 0x02 0x04 0x08 busy
    ∷ sense 0x03 0x0C 0x00 write_error
    ∷ sense 0x0D 0x00 0x02 volume_overflow
    ∷ sense 0x01 0x17 0x01 recovered
    ∷ sense 0x03 0x11 0x00 unreadable
    ∷ sense 0x08 0x00 0x05 end_of_data
    ∷ sense 0x00 0x00 0x02 end_of_medium
    ∷ []

-- an entry of the table is of this triple
abbrev pub matches : Sense → ℕ → ℕ → ℕ → Bool
matches s key asc ascq = eqb s.key key && eqb s.asc asc && eqb s.ascq ascq

-- the meaning of the first triple of a list that matches; other, where none does
unfoldable pub meaning_in : List Sense → ℕ → ℕ → ℕ → ℕ
meaning_in [] key asc ascq = other
meaning_in (s ∷ rest) key asc ascq = pick (matches s key asc ascq) s.meaning (meaning_in rest key asc ascq)

-- the meaning of a triple, by the table
abbrev pub meaning_of : ℕ → ℕ → ℕ → ℕ
meaning_of key asc ascq = meaning_in senses key asc ascq

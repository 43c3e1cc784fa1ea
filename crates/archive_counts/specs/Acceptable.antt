-- 01, "A recording session": what an accept takes.
use Rattle.std.specs.Prelude.{◌≡◌, List, [], ◌∷◌, length}
use Rattle.frame.specs.Lengths.{data_length}
use Rattle.archive_lists.specs.Recordings.{Element, block, filemark}

-- filemarks, and blocks of 32,768 bytes
unfoldable pub Acceptable : List Element → Type 0
Acceptable [] = Unit {0}
Acceptable (block b ∷ xs) = (length b ≡ data_length) × Acceptable xs
Acceptable (filemark ∷ xs) = Acceptable xs

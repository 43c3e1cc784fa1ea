-- 02, Card 12: the most frames that the drive takes in one session.
use Rattle.std.specs.Prelude.{ℕ, ◌+◌, ◌-◌, ◌*◌, leb}
use Rattle.geometry.specs.Pick.{pick}
use Rattle.geometry.specs.Cartridge.{header_groups, group_copies}

-- the smaller of two
abbrev pub smaller : ℕ → ℕ → ℕ
smaller a b = pick (leb a b) a b

-- elements and EOD: each goes out once, and at each write error as many again as the drive can hold of them, at most the smaller of D and W
abbrev pub frames_at_most : ℕ → ℕ → ℕ → ℕ → ℕ
frames_at_most elements errors depth blocks = elements + 1 + errors * smaller depth blocks

-- headers, which are counted separately: the copies of both groups at the opening, and again at the close
abbrev pub session_copies : ℕ
session_copies = 2 * (header_groups * group_copies)

-- of the copies that the drive holds at a write error, at most the smaller of D and five, all are written again but the one that it spoils
abbrev pub copies_again : ℕ → ℕ
copies_again depth = smaller depth group_copies - 1

-- so many frames of headers at most
abbrev pub header_frames_at_most : ℕ → ℕ → ℕ
header_frames_at_most errors depth = session_copies + errors * copies_again depth

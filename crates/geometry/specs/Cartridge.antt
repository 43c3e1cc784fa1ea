-- 01, "The cartridge".
use Rattle.std.specs.Prelude.{ℕ, zero, suc, ◌+◌, ◌-◌, ◌*◌, ◌%◌, Bool, ◌&&◌, ◌||◌, eqb, ltb, leb}
use Rattle.geometry.specs.declared.cartridge.Geometry.{Geometry}
use Rattle.geometry.specs.declared.cartridge.LoadPoint.{LoadPoint}
use Rattle.geometry.specs.declared.cartridge.LoadPoint.TheVariants.{Beginning, Centre}
use Rattle.geometry.specs.Pick.{pick}
use Rattle.geometry.specs.Place.{PlaceSaid, address, refused}

-- where the header groups and the user frames behind each of them start
abbrev pub first_group : ℕ
first_group = 5

abbrev pub first_user : ℕ
first_user = 10

abbrev pub second_group : ℕ
second_group = 2990

abbrev pub second_user : ℕ
second_user = 3000

-- how many header groups there are, and how many copies each has
abbrev pub header_groups : ℕ
header_groups = 2

abbrev pub group_copies : ℕ
group_copies = 5

-- the frames that are needed
abbrev least_frames : ℕ
least_frames = 3001

-- the frames of each track that a cartridge loaded at its centre can't use
abbrev centre_frames : ℕ
centre_frames = 99

-- the frames of a track. The subtraction stops at 0, so a track that is no longer than what the centre loses has none
abbrev pub track_frames : LoadPoint → ℕ → ℕ
track_frames Beginning segtrk = segtrk
track_frames Centre segtrk = segtrk - centre_frames

-- frames on tape
abbrev pub frames_of : Geometry → ℕ
frames_of g = track_frames g.load g.segtrk * g.trks

-- LAST; refusal 2 under 3,001 frames
abbrev pub last_of : Geometry → PlaceSaid
last_of g = pick (ltb (frames_of g) least_frames) (refused 2) (address (frames_of g - 1))

-- the definitions from here on are over numbers: those of a tape's addresses or, `past_reserved`, a sum that need not be an address

-- whether an address is a user frame's: between the two header groups, or behind the second one and its defect map up to LAST
abbrev pub is_user : ℕ → ℕ → Bool
is_user last a = (leb first_user a && leb a (second_group - 1)) || (leb second_user a && leb a last)

-- whether it is a header copy's
abbrev pub is_header : ℕ → Bool
is_header a = (leb first_group a && leb a (first_group + (group_copies - 1))) || (leb second_group a && leb a (second_group + (group_copies - 1)))

-- the address of a copy of a group, both counted from 0, groups modulo 2 and copies modulo 5
abbrev pub header_address : ℕ → ℕ → ℕ
header_address group copy = pick (eqb (group % header_groups) 0) first_group second_group + copy % group_copies

-- of n copies of a group, from one on, the first that stands at an address; the number behind them where none does
unfoldable pub copy_from : ℕ → ℕ → ℕ → ℕ → ℕ
copy_from zero group copy a = copy
copy_from (suc n) group copy a = pick (eqb (header_address group copy) a) copy (copy_from n group (copy + 1) a)

-- which copy of a group stands at an address; 5 where none does
abbrev pub copy_at : ℕ → ℕ → ℕ
copy_at group a = copy_from group_copies group 0 a

-- what follows 2,989 for user data: 2,990 to 2,999 become 3,000
abbrev pub past_reserved : ℕ → ℕ
past_reserved a = pick (ltb a second_group) a (pick (ltb a second_user) second_user a)

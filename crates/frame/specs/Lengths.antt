-- 01, "The cartridge" and "A recording session": lengths in bytes, and the window's in blocks.
use Rattle.std.specs.Prelude.{ℕ}

abbrev pub frame_length : ℕ
frame_length = 33280

-- also a block's length
abbrev pub data_length : ℕ
data_length = 32768

abbrev pub aux_length : ℕ
aux_length = 512

-- the most blocks of a window
abbrev pub most_blocks : ℕ
most_blocks = 64

-- 01, "A recording session": the blocks of the window.
use Rattle.std.specs.Prelude.{ℕ, ◌*◌, List, ◌++◌, take, drop}
use Rattle.frame.specs.Lengths.{data_length}

-- block i of a window
unfoldable pub block_at : List ℕ → ℕ → List ℕ
block_at w i = take data_length (drop (i * data_length) w)

-- a window with a block in the place of block i
unfoldable pub put_block : List ℕ → ℕ → List ℕ → List ℕ
put_block w i b = take (i * data_length) w ++ (b ++ drop data_length (drop (i * data_length) w))

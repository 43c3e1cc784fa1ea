-- 01, "The lists of demand 3": what a frame that was written reads as. The drive fills in eight bytes of its AUX, 4 to 11; all others are as sent.
use Rattle.std.specs.Prelude.{◌≡◌, ℕ, ◌+◌, ◌<◌, ◌≤◌, List, length, slice_index}
use Rattle.frame.specs.Lengths.{data_length}

-- what was read is what was sent, the bytes aside that the drive fills in
pub record ReadsAs (sent read : List ℕ) : Type 0 where
  pub long : length read ≡ length sent
  pub before : (k : ℕ) → k < data_length + 4 → slice_index read k ≡ slice_index sent k
  pub behind : (k : ℕ) → data_length + 12 ≤ k → slice_index read k ≡ slice_index sent k

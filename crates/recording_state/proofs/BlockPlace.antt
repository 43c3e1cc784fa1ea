-- The window block of an element lies in the window and has a block's length. Assumes nothing.
use Prim.Native.Nat.{ℕ, ◌+◌, ◌-◌, ◌*◌, ◌%◌, ◌≤◌, ◌<◌}
use mathlib.Core.Path.{◌≡◌}
use mathlib.Core.List.{List}
use native.Mathlib.Nat.{mod-lt}
use Rattle.std.proofs.Math.Nat.{add-sub_cancel_left}
use native.Mathlib.Omega.{arith}
use lib.ListN.{length, take, drop, length-take, length-drop}
use Rattle.recording_state.specs.Window.{block_at}

pub place_low : (number highest : ℕ) → number % (highest + 1) ≤ highest
place_low number highest = let positive : 0 < highest + 1 = omega arith in omega (arith, mod-lt number positive)

pub place_inside : (number highest : ℕ) → number % (highest + 1) * 32768 + 32768 ≤ (highest + 1) * 32768
place_inside number highest = omega (arith, place_low number highest)

pub block_length : (window : List ℕ) (place : ℕ) → place * 32768 + 32768 ≤ length window → length (block_at window place) ≡ 32768
unfolding block_at
block_length window place h = simp (length-take, length-drop) (omega arith)

-- it is the part of the window from its first byte to the one behind its last
pub part_is_block : (window : List ℕ) (place : ℕ) → take (place * 32768 + 32768 - place * 32768) (drop (place * 32768) window) ≡ block_at window place
unfolding block_at
part_is_block window place = rw (add-sub_cancel_left (place * 32768) 32768)

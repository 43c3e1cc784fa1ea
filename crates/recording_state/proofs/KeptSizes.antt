-- What is not refused with 4: a depth from 1 on and a window of 1 to 64 blocks. Assumes nothing.
use Prim.Native.Nat.{ℕ, ◌≤◌}
use mathlib.Core.Bool.{false, ◌||◌}
use mathlib.Core.Path.{◌≡◌}
use native.Mathlib.Omega.{arith}
use borrow.Author.Tests.{eqb-false, ltb-false}
use lib.Dec.{eqb, ltb}
use Rattle.geometry.proofs.TestLaws.{or_false}
use Rattle.recording_state.specs.Open.{is_misfit}

pub record Fitting (depth blocks : ℕ) : Type 0 where
  pub deep : 1 ≤ depth
  pub some : 1 ≤ blocks
  pub few : blocks ≤ 64

pub sizes_fit : (depth blocks : ℕ) → is_misfit depth blocks ≡ false → Fitting depth blocks
sizes_fit depth blocks h =
    let sizes = or_false (eqb depth 0) (eqb blocks 0 || ltb 64 blocks) h in
    let window = or_false (eqb blocks 0) (ltb 64 blocks) sizes.1 in
    record { deep = omega (arith, eqb-false depth 0 sizes.0); some = omega (arith, eqb-false blocks 0 window.0); few = ltb-false 64 blocks window.1 }

-- The drive takes no more frames than the bound says. Assumes nothing.
use Prim.Native.Nat.{ℕ}
use mathlib.Core.Path.{◌≡◌}
use native.Mathlib.Omega.{arith}
use Rattle.geometry.specs.Place.{address}
use Rattle.geometry.specs.Cartridge.{last_of}
use Rattle.geometry.specs.declared.cartridge.Geometry.{Geometry}
use Rattle.recording_state.specs.declared.state.State.{State}
use Rattle.archive_lists.proofs.recording.Start.{Starts, opened_starts}
use Rattle.archive_counts.proofs.bound.Lists.{taken_at_most}
use Rattle.archive.specs.Chain.{Start, fresh, added}
use Rattle.archive.specs.WorstCase.{depth_of, blocks_of, tail_of, WorstCase}
use Rattle.archive.proofs.recording.Added.{added_view, added_starts}

pub start_starts : {g : Geometry} {last : ℕ} {s : State} → last_of g ≡ address last → (b : Start g last s) → Starts (depth_of b) (blocks_of b) (tail_of b) s
start_starts {g} {last} {s} e (fresh depth blocks tail o q) = opened_starts g last depth blocks tail s e o q
start_starts {s = s} e (added depth blocks tail u h r read q) = added_starts r.session depth blocks tail s (added_view r.session depth blocks tail s q)

pub worst_case : WorstCase
unfolding WorstCase
worst_case g last d s b window calls w e runs = let most = taken_at_most (start_starts e b) runs in record { elements = omega (arith, most.0); headers = omega (arith, most.1) }

-- The window's length is found by a law, since counting it goes too deep.
use Rattle.std.proofs.Common.{ℕ, sym}
use Rattle.std.proofs.lemmas.List.{length-replicate}
use Rattle.edge_frames.proofs.widest.Goals as goal

pub slice_bounds-play_widest-end : goal.slice_bounds-play_widest-end
slice_bounds-play_widest-end g c = sym (length-replicate {A = ℕ} 2097152 0)

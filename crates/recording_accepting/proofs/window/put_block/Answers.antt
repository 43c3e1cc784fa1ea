-- The part that is lent is the block's place, and as long as the block.
use Rattle.std.proofs.Common.{◌≡◌, ◌*◌, ◌∙◌, sym, ap, length, eq-eqb}
use Rattle.std.proofs.Math.Nat.{add-sub_cancel_left}
use Rattle.geometry.proofs.PickLaws.{pick_t}
use Rattle.recording_state.specs.Window.{put_block}
use Rattle.recording_state.proofs.BlockPlace.{block_length, part_is_block}
use Rattle.recording_accepting.proofs.window.put_block.Goals as goal

pub returns : goal.returns
unfolding put_block
returns c =
    let s = c.args in
    let lent = ap length (part_is_block s.window.now s.i) ∙ block_length s.window.now s.i c.requires.data_length_in_bounds in
    let copied : c.copy_all.new.dst ≡ s.block.now = c.copy_all.ensures ∙ pick_t _ (eq-eqb _ _ (c.requires.block_len ∙ sym lent)) in
    rw (add-sub_cancel_left (s.i * 32768) 32768, copied)

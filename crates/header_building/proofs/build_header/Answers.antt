-- The two parts are filled one after the other.
use Rattle.std.proofs.Common.{List, ℕ, ◌++◌, drop, ap, sym, ◌∙◌}
use borrow.Author.Tests.{eq-eqb}
use Rattle.geometry.proofs.PickLaws.{pick_t}
use Rattle.frame.specs.Aux.{aux_bytes}
use Rattle.frame.specs.Header.{header_frame}
use Rattle.aux_building.proofs.Lent.{front_length, filled_length, rest_length, tail_filled}
use Rattle.header_building.proofs.build_header.Goals as goal

pub slice_bounds-fill_header_data-end-2 : goal.slice_bounds-fill_header_data-end-2
slice_bounds-fill_header_data-end-2 c = sym (front_length c.args.frame.now c.if-frame-ne-FRAME_LENGTH.false)

pub fill_header_data-requires : goal.fill_header_data-requires
fill_header_data-requires c = front_length c.args.frame.now c.if-frame-ne-FRAME_LENGTH.false

pub returns-clause-bytes : goal.returns-clause-bytes
unfolding header_frame
returns-clause-bytes c =
    let frame = c.args.frame.now in
    let long = c.if-frame-ne-FRAME_LENGTH.false in
    let filled : List ℕ = c.fill_header_data.new.front ++ drop 32768 frame in
    let enough = eq-eqb _ 512 (rest_length filled (filled_length frame c.fill_header_data.new.front long c.fill_header_data.auto.front)) in
    tail_filled 32768 (drop 32768 frame) (c.fill_header_data.auto.front ∙ front_length frame long) c.fill_header_data.ensures
    (c.build_aux.ensures.bytes ∙ pick_t _ enough ∙ ap aux_bytes c.header_aux.ensures)
    ∙ sym (pick_t _ (eq-eqb _ _ long))

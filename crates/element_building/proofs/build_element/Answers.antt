-- The two parts are filled one after the other.
use Rattle.std.proofs.Common.{List, ℕ, ◌++◌, length, drop, ap, sym, ◌∙◌}
use borrow.Author.Tests.{eq-eqb}
use Rattle.geometry.proofs.PickLaws.{pick_t}
use Rattle.frame.specs.Aux.{aux_bytes}
use Rattle.frame.specs.Frame.{element_frame}
use Rattle.frame.proofs.Frames.{fits_length}
use Rattle.aux_building.proofs.Lent.{front_length, filled_length, rest_length, tail_filled}
use Rattle.element_building.proofs.build_element.Goals as goal

pub slice_bounds-fill_data-end-2 : goal.slice_bounds-fill_data-end-2
slice_bounds-fill_data-end-2 c =
    let a = c.args in
    sym (front_length a.frame.now (fits_length a.e.kind (length a.frame.now) (length a.block.now) (sym c.fits.ensures ∙ c.if-not-fits.false)))

pub fill_data-requires-clause-front_len : goal.fill_data-requires-clause-front_len
fill_data-requires-clause-front_len c =
    let a = c.args in
    front_length a.frame.now (fits_length a.e.kind (length a.frame.now) (length a.block.now) (sym c.fits.ensures ∙ c.if-not-fits.false))

pub returns-clause-bytes : goal.returns-clause-bytes
unfolding element_frame
returns-clause-bytes c =
    let a = c.args in
    let fit = sym c.fits.ensures ∙ c.if-not-fits.false in
    let long = fits_length a.e.kind (length a.frame.now) (length a.block.now) fit in
    let filled : List ℕ = c.fill_data.new.front ++ drop 32768 a.frame.now in
    let enough = eq-eqb _ 512 (rest_length filled (filled_length a.frame.now c.fill_data.new.front long c.fill_data.auto.front)) in
    tail_filled 32768 (drop 32768 a.frame.now) (c.fill_data.auto.front ∙ front_length a.frame.now long) c.fill_data.ensures
    (c.build_aux.ensures.bytes ∙ pick_t _ enough ∙ ap aux_bytes c.element_aux.ensures)
    ∙ sym (pick_t _ fit)

-- The block lies in the window, and block and frame have the lengths that any kind asks for.
use Rattle.std.proofs.Common.{◌≡◌, ℕ, ◌%◌, ◌∙◌, ap, true, List, length, arith}
use Rattle.geometry.proofs.PickLaws.{pick_t}
use Rattle.frame.specs.declared.element.Kind.TheVariants.{Data, Marker, Eod}
use Rattle.frame.specs.declared.element.Kind.{Kind}
use Rattle.frame.specs.Frame.{element_frame, element_fits}
use Rattle.recording_state.specs.State.{blocks_of, window_length}
use Rattle.recording_state.specs.Written.{element_of, written_element}
use Rattle.recording_state.specs.Window.{block_at}
use Rattle.recording_state.specs.declared.state.State.{State}
use Rattle.recording_state.proofs.BlockPlace.{place_inside, block_length}
use Rattle.recording_filling.proofs.fill_element.Goals as goal

fits : (kind : Kind) {frame block : ℕ} → frame ≡ 33280 → block ≡ 32768 → element_fits kind frame block ≡ true
fits Data p q = rw (p, q)
fits Marker p q = rw p
fits Eod p q = rw p

suits : (s : State) (kind : Kind) (window frame block : List ℕ) (place number : ℕ) → length window ≡ window_length s → length frame ≡ 33280 → place ≡ number % blocks_of s → block ≡ block_at window place → element_fits kind (length frame) (length block) ≡ true
suits s kind window frame block place number w f p b =
    fits kind f (ap length b ∙ block_length window place (omega (arith, place_inside number s.setup.highest, p, w)))

pub returns-clause-answer : goal.returns-clause-answer
returns-clause-answer c =
    c.build_element.ensures.answer
    ∙ pick_t 1 (suits c.args.s _ c.args.window.now c.args.frame.now _ _ _ c.requires (omega arith) c.place.ensures c.block_at-block.ensures)

pub returns-clause-bytes : goal.returns-clause-bytes
unfolding written_element
returns-clause-bytes c =
    let a = c.args in
    c.build_element.ensures.bytes
    ∙ pick_t _ (suits a.s _ a.window.now c.args.frame.now _ _ _ c.requires (omega arith) c.place.ensures c.block_at-block.ensures)
    ∙ ap (λ e. element_frame e c.block_at-block.result.now) c.element.ensures
    ∙ ap (element_frame (element_of a.s)) (c.block_at-block.ensures ∙ ap (block_at a.window.now) c.place.ensures)

-- The frame that a fetch builds for an element or EOD is judged as that, whatever AUX 4 to 11 hold. Assumes nothing.
use Prim.Native.Nat.{ℕ, ◌+◌, ◌*◌, ◌^◌, ◌<◌, ◌≤◌}
use mathlib.Core.Path.{◌≡◌, refl, sym, ap, subst, ◌∙◌}
use mathlib.Core.Bool.{true}
use mathlib.Core.List.{List}
use native.Mathlib.Nat.{mod-lt}
use borrow.Author.Tests.{eq-eqb}
use lib.Dec.{lit<}
use lib.ListN.{length, take}
use Rattle.frame.specs.Frame.{data_bytes, element_fits}
use Rattle.frame.specs.Sent.{ReadsAs}
use Rattle.frame.specs.declared.element.Kind.{Kind}
use Rattle.frame.specs.declared.element.Kind.TheVariants.{Data, Marker, Eod}
use Rattle.buffer.specs.Bytes.{get32}
use Rattle.frame.specs.Aux.{element_aux}
use Rattle.frame.proofs.AuxFields.{aux_filemarks, aux_marker}
use Rattle.frame.proofs.Frames.{element_data, element_aux_lem}
use Rattle.judgement.proofs.Facts.{FoundAs}
use Rattle.judgement.proofs.Written.{found_written}
use Rattle.elements.specs.Elements.{kind_of}
use Rattle.elements.specs.Queue.{number_of}
use Rattle.elements.specs.Trail.{trail_before}
use Rattle.recording_state.specs.State.{window_length}
use Rattle.recording_state.specs.Window.{block_at}
use Rattle.recording_state.specs.Written.{element_of, element_place, written_element}
use Rattle.recording_state.proofs.BlockPlace.{place_inside, block_length}
use Rattle.recording_state.specs.declared.state.State.{State}
use Rattle.archive_lists.specs.Filemarks.{filemarks_before, marker_named}
use Rattle.archive_lists.proofs.tape.Stands.{telling}

pub block_fits : (k : Kind) (b : List ℕ) → length b ≡ 32768 → element_fits k 33280 (length b) ≡ true
block_fits Data b h = eq-eqb (length b) 32768 h
block_fits Marker b h = refl
block_fits Eod b h = refl

module _ (s : State) (window : List ℕ) (long : length window ≡ window_length s) where
  inside : element_place s * 32768 + 32768 ≤ length window
  inside = subst (λ (n : ℕ). element_place s * 32768 + 32768 ≤ n) (sym long) (place_inside (number_of s.elements.queue s.elements.queue.outstanding).0 s.setup.highest)

  fitting : element_fits (kind_of s.elements) 33280 (length (block_at window (element_place s))) ≡ true
  fitting = block_fits (kind_of s.elements) (block_at window (element_place s)) (block_length window (element_place s) inside)

  pub written_found : {r : List ℕ} → s.copies.header.pass < 2 ^ 16 → ReadsAs (written_element s window) r
      → FoundAs (telling s.copies.header.last.0 s.copies.header.pass 0) (number_of s.elements.queue s.elements.queue.outstanding) (kind_of s.elements) r
  unfolding written_element element_of
  written_found small reads =
      found_written (element_of s) small (mod-lt (s.elements.queue.first.0 + s.elements.queue.outstanding) (lit< tt)) (block_at window (element_place s)) fitting reads

  -- the data bytes are the element's own
  pub written_data : take 32768 (written_element s window) ≡ data_bytes (kind_of s.elements) (block_at window (element_place s))
  unfolding written_element element_of
  written_data = element_data (element_of s) (block_at window (element_place s)) fitting

  -- AUX 192-195 and 200-203 are the trail's
  pub written_filemarks : (trail_before s.elements).filemarks < 2 ^ 32 → filemarks_before (written_element s window) ≡ (trail_before s.elements).filemarks
  unfolding written_element element_of
  written_filemarks fits = ap (λ (x : List ℕ). get32 x 192) (element_aux_lem (element_of s) (block_at window (element_place s)) fitting) ∙ aux_filemarks (element_aux (element_of s)) fits

  pub written_marker : (trail_before s.elements).marker.0 < 2 ^ 32 → marker_named (written_element s window) ≡ (trail_before s.elements).marker.0
  unfolding written_element element_of
  written_marker fits = ap (λ (x : List ℕ). get32 x 200) (element_aux_lem (element_of s) (block_at window (element_place s)) fitting) ∙ aux_marker (element_aux (element_of s)) fits

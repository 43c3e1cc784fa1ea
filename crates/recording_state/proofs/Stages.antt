-- The stages in which headers are written, and those of elements and EOD. Assumes nothing.
use mathlib.Core.Path.{◌≡◌, refl}
use mathlib.Core.Logic.{◌⊎◌, inl, inr}
use Rattle.geometry.proofs.Impossible.{never}
use Rattle.recording_state.specs.declared.state.State.{State}
use Rattle.recording_state.specs.declared.state.Stage.{Stage}
use Rattle.recording_state.specs.declared.state.Stage.TheVariants as S

abbrev pub HeaderStage : State → Type 0
HeaderStage s = (s.stage ≡ S.OpeningHeaders) ⊎ (s.stage ≡ S.ClosingHeaders)

abbrev pub ElementStage : State → Type 0
ElementStage s = s.stage ≡ S.Elements

pub header_not_element : {X : Type 0} (s : State) → HeaderStage s → ElementStage s → X
header_not_element s (inl a) b = never (cc)
header_not_element s (inr a) b = never (cc)

pub header_not_done : {X : Type 0} (s : State) → HeaderStage s → s.stage ≡ S.Done → X
header_not_done s (inl a) b = never (cc)
header_not_done s (inr a) b = never (cc)

pub element_not_done : {X : Type 0} (s : State) → ElementStage s → s.stage ≡ S.Done → X
element_not_done s a b = never (cc)

-- all but the elements'
pub outside : (P : Stage → Type 0) (k : Stage) → (k ≡ S.Elements → ⊥) → P S.OpeningHeaders → P S.ClosingHeaders → P S.Done → P k
outside P S.OpeningHeaders n o c d = o
outside P S.Elements n o c d = absurd (n refl)
outside P S.ClosingHeaders n o c d = c
outside P S.Done n o c d = d

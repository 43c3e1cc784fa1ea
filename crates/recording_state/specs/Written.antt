-- 01, "A recording session": which frame a WRITE writes.
use Rattle.std.specs.Prelude.{ℕ, ◌%◌, Bool, true, false, List}
use Rattle.geometry.specs.Pick.{pick}
use Rattle.frame.specs.Frame.{element_frame}
use Rattle.frame.specs.Header.{header_frame}
use Rattle.frame.specs.declared.element.Element.{Element}
use Rattle.elements.specs.Elements as elements
use Rattle.elements.specs.Queue as queue
use Rattle.elements.specs.Trail.{trail_before}
use Rattle.recording_state.specs.declared.state.State.{State}
use Rattle.recording_state.specs.declared.state.Stage.{Stage}
use Rattle.recording_state.specs.declared.state.Stage.TheVariants as S
use Rattle.recording_state.specs.State.{blocks_of}
use Rattle.recording_state.specs.Window.{block_at}

-- the next element to be written, or EOD, with the filemarks before it where they now stand
unfoldable pub element_of : State → Element
element_of s = record {
  kind = elements.kind_of s.elements;
  pass = s.copies.header.pass;
  last = s.copies.header.last;
  seq = queue.number_of s.elements.queue s.elements.queue.outstanding;
  filemarks = (trail_before s.elements).filemarks;
  marker = (trail_before s.elements).marker;
}

-- the window block of the next element to be written: its number mod W
abbrev pub element_place : State → ℕ
element_place s = (queue.number_of s.elements.queue s.elements.queue.outstanding).0 % blocks_of s

-- its frame, with that block for its data
unfoldable pub written_element : State → List ℕ → List ℕ
written_element s window = element_frame (element_of s) (block_at window (element_place s))

-- the frame of a header copy
abbrev pub written_header : State → List ℕ
written_header s = header_frame s.copies.header

-- the stage in which elements and EOD are written, and not headers
abbrev pub among_elements : Stage → Bool
among_elements S.OpeningHeaders = false
among_elements S.Elements = true
among_elements S.ClosingHeaders = false
among_elements S.Done = false

-- the frame of a WRITE: the element that is due, or the header that the copies carry
unfoldable pub written_frame : State → List ℕ → List ℕ
written_frame s window = pick (among_elements s.stage) (written_element s window) (written_header s)

-- 01, "The cartridge" and "AUX bytes": the frames of elements and of EOD, data and then AUX.
use Rattle.std.specs.Prelude.{ℕ, Bool, ◌&&◌, List, ◌++◌, length, ◌==◌}
use Rattle.buffer.specs.Bytes.{zeros}
use Rattle.frame.specs.Lengths.{frame_length, data_length}
use Rattle.frame.specs.Aux.{aux_bytes, element_aux}
use Rattle.frame.specs.declared.element.Kind.{Kind}
use Rattle.frame.specs.declared.element.Kind.TheVariants.{Data, Marker, Eod}
use Rattle.frame.specs.declared.element.Element.{Element}

-- the data bytes of a marker and of EOD are 0
unfoldable pub blank : List ℕ
blank = zeros data_length

-- the data bytes of a frame
abbrev pub data_bytes : Kind → List ℕ → List ℕ
data_bytes Data block = block
data_bytes Marker block = blank
data_bytes Eod block = blank

-- the frame of an element, given its block, or of EOD
unfoldable pub element_frame : Element → List ℕ → List ℕ
element_frame e block = data_bytes e.kind block ++ aux_bytes (element_aux e)

-- whether buffers of these lengths serve for it; only a data frame takes a block
abbrev pub element_fits : Kind → ℕ → ℕ → Bool
element_fits Data frame block = frame == frame_length && block == data_length
element_fits Marker frame block = frame == frame_length
element_fits Eod frame block = frame == frame_length

-- whether the buffers lent for an element do
abbrev pub lent_fits : Element → List ℕ → List ℕ → Bool
lent_fits e frame block = element_fits e.kind (length frame) (length block)

-- A frame type tells its kind. Assumes nothing.
use Rattle.std.proofs.Common.{◌≡◌, refl, arith}
use Rattle.frame.specs.Aux.{type_of}
use Rattle.frame.specs.declared.element.Kind.{Kind}
use Rattle.frame.specs.declared.element.Kind.TheVariants.{Data, Marker, Eod}

pub type_tells : (j k : Kind) → type_of j ≡ type_of k → j ≡ k
type_tells Data Data e = refl
type_tells Data Marker e = absurd (omega arith)
type_tells Data Eod e = absurd (omega arith)
type_tells Marker Data e = absurd (omega arith)
type_tells Marker Marker e = refl
type_tells Marker Eod e = absurd (omega arith)
type_tells Eod Data e = absurd (omega arith)
type_tells Eod Marker e = absurd (omega arith)
type_tells Eod Eod e = refl

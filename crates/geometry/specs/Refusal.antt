-- 01, "Refused calls", and 02 from 13 on: each refusal's number, and 0 for a call that is accepted.
use Rattle.std.specs.Prelude.{ℕ, Result, Ok, Err}
use Rattle.geometry.specs.declared.refusal.Refusal.{Refusal}
use Rattle.geometry.specs.declared.refusal.Refusal.TheVariants.{Length, Geometry, Header, Capacity, Exhausted, WindowFull, Phase}
use Rattle.geometry.specs.declared.refusal.Refusal.TheVariants.{Reply, TapeFull, Missing, Foreign, NotFound, EndElsewhere}

-- the number of a refusal
abbrev pub refusal_number : Refusal → ℕ
refusal_number Length = 1
refusal_number Geometry = 2
refusal_number Header = 3
refusal_number Capacity = 4
refusal_number Exhausted = 5
refusal_number WindowFull = 6
refusal_number Phase = 7
refusal_number Reply = 8
refusal_number TapeFull = 9
refusal_number Missing = 10
refusal_number Foreign = 11
refusal_number NotFound = 12
refusal_number EndElsewhere = 13

-- the number of a verdict
abbrev pub verdict_number : Result Unit Refusal → ℕ
verdict_number (Ok _) = 0
verdict_number (Err r) = refusal_number r

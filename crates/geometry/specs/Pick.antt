-- A choice by a test: the first value where the test holds, else the second.
use Rattle.std.specs.Prelude.{Bool, true, false}

abbrev pub pick : {X : Type 0} → Bool → X → X → X
pick true a b = a
pick false a b = b

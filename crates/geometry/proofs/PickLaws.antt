-- A choice whose test is known. Assumes nothing.
use mathlib.Core.Path.{◌≡◌, refl}
use mathlib.Core.Bool.{Bool, true, false}
use Rattle.geometry.specs.Pick.{pick}

pub pick_t : {X : Type 0} {b : Bool} {x : X} (y : X) → b ≡ true → pick b x y ≡ x
pick_t {X} {b} {x} y h = rw h

pub pick_f : {X : Type 0} {b : Bool} (x : X) {y : X} → b ≡ false → pick b x y ≡ y
pick_f {X} {b} x {y} h = rw h

-- what holds of both values, each where its test holds, holds of the choice
pub pick_by : {X : Type 0} (P : X → Type 0) (b : Bool) {x y : X} → (b ≡ true → P x) → (b ≡ false → P y) → P (pick b x y)
pick_by P true t f = t refl
pick_by P false t f = f refl

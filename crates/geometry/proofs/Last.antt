-- What a geometry that is not refused tells of LAST. Assumes nothing.
use Prim.Native.Nat.{ℕ, ◌+◌, ◌-◌, ◌*◌, ◌^◌, ◌≤◌, ◌<◌}
use mathlib.Core.Path.{◌≡◌}
use native.Mathlib.Nat.{le_refl, mul-le-mul}
use native.Mathlib.Omega.{arith}
use borrow.Author.Tests.{ltb-false}
use lib.Dec.{ltb}
use Rattle.geometry.specs.Place.{PlaceSaid, address, refused}
use Rattle.geometry.specs.Cartridge.{track_frames, frames_of, last_of}
use Rattle.geometry.specs.declared.cartridge.Geometry.{Geometry}
use Rattle.geometry.specs.declared.cartridge.LoadPoint.{LoadPoint}
use Rattle.geometry.specs.declared.cartridge.LoadPoint.TheVariants.{Beginning, Centre}
use Rattle.geometry.proofs.PickLaws.{pick_by}
use Rattle.geometry.proofs.Impossible.{never}

pub record Frames (g : Geometry) (last : ℕ) : Type 0 where
  pub large : 3000 ≤ last
  pub most : last + 1 ≡ frames_of g

address_same : {a b : ℕ} → ◌≡◌ {A = PlaceSaid} (address a) (address b) → a ≡ b
address_same e = cc

refused_address : {X : Type 0} {a b : ℕ} → ◌≡◌ {A = PlaceSaid} (refused a) (address b) → X
refused_address e = never (cc)

pub frames_of_lem : (g : Geometry) (last : ℕ) → last_of g ≡ address last → Frames g last
frames_of_lem g last =
    pick_by (λ (s : PlaceSaid). s ≡ address last → Frames g last) (ltb (frames_of g) 3001) (λ _ e. refused_address e)
    (λ few e. let n = ltb-false (frames_of g) 3001 few in let same : frames_of g - 1 ≡ last = address_same e in record { large = omega arith; most = omega arith })

track_low : (l : LoadPoint) (n : ℕ) → track_frames l n ≤ n
track_low Beginning n = le_refl n
track_low Centre n = omega arith

-- with SEGTRK and TRKS of 16 bits an address leaves room for a jump and a skip
pub last_small : (g : Geometry) (last : ℕ) → g.segtrk < 2 ^ 16 → g.trks < 2 ^ 16 → Frames g last → last + 65 < 2 ^ 32
last_small g last seg trk f =
    let tracks : track_frames g.load g.segtrk ≤ 65535 = omega (arith, track_low g.load g.segtrk) in
    let rows : g.trks ≤ 65535 = omega arith in
    let all : frames_of g ≤ 65535 * 65535 = mul-le-mul tracks rows in
    omega (arith, f.most, all)

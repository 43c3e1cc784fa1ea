-- What a drive holds that is at one with the session, and what it does with it. Assumes nothing.
use Prim.Native.Nat.{ℕ, ◌+◌, ◌≤◌}
use mathlib.Core.Path.{◌≡◌, refl, ap, ◌∙◌}
use mathlib.Core.Bool.{false}
use mathlib.Core.List.{List, [], ◌∷◌}
use mathlib.Core.Option.{some}
use native.Mathlib.Omega.{arith}
use lib.ListN.{length, length-append}
use Rattle.archive_lists.specs.Conduct as conduct
use Rattle.archive_lists.specs.Conduct.{Drive, wrote, failing, taking, moved}
use Rattle.archive_lists.specs.Recordings.{World, with_drive}
use Rattle.archive_lists.proofs.tape.Basics.{reads_itself}
use Rattle.archive_counts.proofs.run.Goes.{Account, Goes, goes_act}

-- so many frames, none of them failed, and the next goes to address a
pub record Holds (o a : ℕ) (d : Drive) : Type 0 where
  pub buffered : length d.buffer ≡ o
  pub sound : d.failed ≡ false
  pub at_is : d.at + o ≡ a

pub holds_taking : {o a : ℕ} (d : Drive) (f : List ℕ) → Holds o a d → Holds (o + 1) (a + 1) (taking d f)
holds_taking d f h = record {
  buffered = let q = h.buffered in omega (arith, length-append d.buffer (f ∷ []));
  sound = h.sound;
  at_is = let q = h.at_is in omega arith;
}

pub holds_moved : (d : Drive) (a : ℕ) → Holds 0 a (moved d a)
holds_moved d a = record { buffered = refl; sound = refl; at_is = omega arith }

pub holds_as : {o a b : ℕ} {d : Drive} → a ≡ b → Holds o a d → Holds o b d
holds_as e h = record { buffered = h.buffered; sound = h.sound; at_is = h.at_is ∙ e }

-- it fails at the oldest frame, and the address reads as before
abbrev pub failed : Drive → Drive
failed d = failing d (d.tape d.at)

module _ {P : World → Type 0} {t : Account} where
  -- it writes all that it holds
  pub goes_writes : (frames : List (List ℕ)) (w : World) → w.drive.buffer ≡ frames → w.drive.failed ≡ false
      → ((d : Drive) → Holds 0 (w.drive.at + length frames) d → Goes (with_drive w d w.flight) t P) → Goes w t P
  goes_writes [] w b f g = g w.drive (record { buffered = ap length b; sound = f; at_is = omega arith })
  goes_writes (x ∷ frames) w b f g =
      let d = wrote w.drive frames (some x) in
      goes_act w d (conduct.writes x frames (some x) b f (conduct.reads x (reads_itself x)))
      (goes_writes frames (with_drive w d w.flight) refl refl
      (λ v h. g v (holds_as (omega arith) h)))

  pub goes_fails : (frames : List (List ℕ)) (w : World) → w.drive.buffer ≡ frames → 1 ≤ length frames → w.drive.failed ≡ false
      → Goes (with_drive w (failed w.drive) w.flight) t P → Goes w t P
  goes_fails [] w b l f g = absurd (omega arith)
  goes_fails (x ∷ frames) w b l f g = goes_act w (failed w.drive) (conduct.fails x frames (w.drive.tape w.drive.at) b f conduct.as_before) g

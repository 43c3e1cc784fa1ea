-- Small facts that several proofs use. Assumes nothing.
use Prim.Native.Nat.{ℕ, ◌≤◌}
use mathlib.Core.Path.{◌≡◌, refl, ap, ◌∙◌}
use mathlib.Core.List.{List, [], ◌∷◌}
use mathlib.Core.Logic.{inl, inr}
use mathlib.Core.Option.{Option, none, some}
use native.Mathlib.Omega.{arith}
use lib.ListN.{length, take}
use lib.Seq.{take-length}
use Rattle.geometry.proofs.Impossible.{never}
use Rattle.frame.specs.Sent.{ReadsAs}
use Rattle.drive.specs.declared.command.Command.{Command}
use Rattle.drive.specs.declared.reply.Reply.{Reply}
use Rattle.archive_lists.specs.Recordings as recordings
use Rattle.archive_lists.specs.Recordings.{Flight, TakesEffect}

-- with 1 to 7 it takes none
pub no_effect : {X : Type 0} {n : ℕ} → 1 ≤ n → n ≤ 7 → TakesEffect n → X
no_effect l u (inl e) = absurd (omega arith)
no_effect l u (inr e) = absurd (omega arith)

pub none_some : {X : Type 0} {f : List ℕ} → ◌≡◌ {A = Option (List ℕ)} none (some f) → X
none_some e = never (cc)

pub some_same : {f g : List ℕ} → ◌≡◌ {A = Option (List ℕ)} (some f) (some g) → f ≡ g
some_same e = cc

pub no_frames : (fs : List (List ℕ)) → length fs ≤ 0 → fs ≡ []
no_frames [] h = refl
no_frames (f ∷ fs) h = absurd (omega arith)

-- a frame reads as itself
pub reads_itself : (f : List ℕ) → ReadsAs f f
reads_itself f = record { long = refl; before = λ k h. refl; behind = λ k h. refl }

-- ---- the command of a recording, sent or answered

pub none_sent : {X : Type 0} {c : Command} {f : List ℕ} → ◌≡◌ {A = Flight} recordings.no_command (recordings.sent c f) → X
none_sent e = never (cc)

pub none_answered : {X : Type 0} {r : Reply} → ◌≡◌ {A = Flight} recordings.no_command (recordings.answered r) → X
none_answered e = never (cc)

pub answered_sent : {X : Type 0} {c : Command} {f : List ℕ} {r : Reply} → ◌≡◌ {A = Flight} (recordings.answered r) (recordings.sent c f) → X
answered_sent e = never (cc)

pub answered_same : {a b : Reply} → ◌≡◌ {A = Flight} (recordings.answered a) (recordings.answered b) → a ≡ b
answered_same e = cc

-- ---- what is promised

-- all that was accepted, where nothing is given up
pub promised_all : (n : recordings.Notes) → n.given_up ≡ 0 → recordings.promised n ≡ n.accepted
promised_all n ungiven =
    let all : recordings.kept_of n ≡ length n.accepted = omega (arith, ungiven) in
    ap (λ (i : ℕ). take i n.accepted) all ∙ take-length n.accepted

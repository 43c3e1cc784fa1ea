-- A drive that writes all that it has buffered, each frame as it was sent. Assumes nothing.
use Prim.Native.Nat.{ℕ, ◌+◌}
use mathlib.Core.Path.{refl, subst}
use mathlib.Core.Bool.{false}
use mathlib.Core.List.{List, [], ◌∷◌, ◌++◌, append-nil}
use mathlib.Core.Option.{some}
use Rattle.archive_lists.specs.Conduct.{Drive, reads, writes}
use Rattle.archive_lists.specs.Tape.{Tape, put}
use Rattle.recording_state.specs.declared.state.State.{State}
use Rattle.archive_lists.specs.Recordings.{Element, World, Call, Runs}
use Rattle.archive_lists.proofs.tape.Basics.{reads_itself}
use Rattle.archive_samples.proofs.Exchange.{between, acting}

abbrev pub buffered : Tape → ℕ → List ℕ → List (List ℕ) → Drive
buffered t at written frames = record { tape = t; at = at; buffer = frames; failed = false; written = written }

-- a drive as a session left it, for the next one, for which nothing is written yet
abbrev pub starting_on : Drive → Drive
starting_on d = buffered d.tape d.at [] []

-- the first frames are written, and the rest is not
abbrev pub flushing : Tape → ℕ → List ℕ → List (List ℕ) → List (List ℕ) → Drive
flushing t at written [] rest = buffered t at written rest
flushing t at written (f ∷ frames) rest = flushing (put t at (some f)) (at + 1) (at ∷ written) frames rest

abbrev pub flushed : Tape → ℕ → List ℕ → List (List ℕ) → Drive
flushed t at written frames = flushing t at written frames []

module _ (window : List ℕ) (accepted : List Element) (s : State) {cs : List Call} {u : World} where
  pub flush_first : (frames behind : List (List ℕ)) (t : Tape) (at : ℕ) (written : List ℕ)
      → Runs (between window accepted s (flushing t at written frames behind)) cs u → Runs (between window accepted s (buffered t at written (frames ++ behind))) cs u
  flush_first [] behind t at written rest = rest
  flush_first (f ∷ fs) behind t at written rest =
      acting window accepted s (buffered t at written (f ∷ (fs ++ behind))) (writes f (fs ++ behind) (some f) refl refl (reads f (reads_itself f)))
      (flush_first fs behind (put t at (some f)) (at + 1) (at ∷ written) rest)

  pub flush : (frames : List (List ℕ)) (t : Tape) (at : ℕ) (written : List ℕ)
      → Runs (between window accepted s (flushed t at written frames)) cs u → Runs (between window accepted s (buffered t at written frames)) cs u
  flush frames t at written rest = subst (λ (fs : List (List ℕ)). Runs (between window accepted s (buffered t at written fs)) cs u) (append-nil frames) (flush_first frames [] t at written rest)

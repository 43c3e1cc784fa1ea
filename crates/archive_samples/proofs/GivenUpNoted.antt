-- A close that gives up, in a sample recording. How many are given up is only noted, so what follows goes on as if none were. Assumes nothing.
use Prim.Native.Nat.{ℕ}
use mathlib.Core.Path.{◌≡◌, ap, subst, ◌∙◌}
use mathlib.Core.Bool.{true}
use mathlib.Core.List.{List, [], ◌∷◌}
use mathlib.Core.Logic.{inl}
use Rattle.geometry.proofs.PickLaws.{pick_t}
use Rattle.recording_state.specs.State.{OutcomeSaid, accepting}
use Rattle.recording_state.specs.Accept.{is_spent, close_of}
use Rattle.recording_state.specs.declared.state.State.{State}
use Rattle.archive_lists.specs.Conduct.{Drive}
use Rattle.archive_lists.specs.Recordings as recordings
use Rattle.archive_lists.specs.Recordings.{Element, World, Call, accept_block, accept_filemark, close, fetch, reply, Calls, Moves, Runs, stop, call, drive}
use Rattle.archive_samples.proofs.Exchange.{between}

abbrev pub with_given : ℕ → World → World
with_given n w = record {
  session = w.session;
  window = w.window;
  drive = w.drive;
  flight = w.flight;
  notes = record { accepted = w.notes.accepted; unaltered = w.notes.unaltered; reported = w.notes.reported; given_up = n };
}

abbrev pub NoClose : List Call → Type 0
NoClose [] = Unit {0}
NoClose (accept_block b w ∷ cs) = NoClose cs
NoClose (accept_filemark ∷ cs) = NoClose cs
NoClose (close ∷ cs) = ⊥
NoClose (fetch w f ∷ cs) = NoClose cs
NoClose (reply r ∷ cs) = NoClose cs

module _ (n : ℕ) where
  moves_given : {w v : World} → Moves w v → Moves (with_given n w) (with_given n v)
  moves_given (recordings.acts d a) = recordings.acts d a
  moves_given (recordings.answers c f r d q a) = recordings.answers c f r d q a

  runs_given : {w v : World} {cs : List Call} → NoClose cs → Runs w cs v → Runs (with_given n w) cs (with_given n v)
  runs_given h stop = stop
  runs_given h (drive m rest) = drive (moves_given m) (runs_given h rest)
  runs_given h (call (recordings.refuses (accept_block b w) l u) rest) = call (recordings.refuses (accept_block b w) l u) (runs_given h rest)
  runs_given h (call (recordings.refuses accept_filemark l u) rest) = call (recordings.refuses accept_filemark l u) (runs_given h rest)
  runs_given h (call (recordings.refuses close l u) rest) = absurd h
  runs_given h (call (recordings.refuses (fetch w f) l u) rest) = call (recordings.refuses (fetch w f) l u) (runs_given h rest)
  runs_given h (call (recordings.refuses (reply r) l u) rest) = call (recordings.refuses (reply r) l u) (runs_given h rest)
  runs_given h (call (recordings.accepts_block b lent te) rest) = call (recordings.accepts_block b lent te) (runs_given h rest)
  runs_given h (call (recordings.accepts_filemark te) rest) = call (recordings.accepts_filemark te) (runs_given h rest)
  runs_given h (call (recordings.closes te) rest) = absurd h
  runs_given h (call (recordings.fetches lent f te) rest) = call (recordings.fetches lent f te) (runs_given h rest)
  runs_given h (call (recordings.replies r q te) rest) = call (recordings.replies r q te) (runs_given h rest)

module _ (window : List ℕ) (accepted : List Element) (s : State) (d : Drive) where
  -- all that is pending is given up
  pub close_given_up : {next : State} {cs : List Call} {u : World} → is_spent s ≡ true → close_of s ≡ accepting next → NoClose cs → Runs (between window accepted next d) cs u
      → Runs (between window accepted s d) (close ∷ cs) (with_given s.elements.queue.pending u)
  close_given_up spent e none_called rest =
      let p = ap (λ (n : ℕ). with_given n (between window accepted (close_of s).session d)) (pick_t _ spent) ∙ ap (λ (x : OutcomeSaid). with_given s.elements.queue.pending (between window accepted x.session d)) e in
      call (subst (λ (v : World). Calls (between window accepted s d) close v) p (recordings.closes (inl (ap (λ (x : OutcomeSaid). x.number) e)))) (runs_given s.elements.queue.pending none_called rest)

-- One call of a sample recording, and one exchange: a fetch that gives a command, the drive's answer, and its reply. Assumes nothing.
use Prim.Native.Nat.{ℕ, ◌≤◌}
use mathlib.Core.Path.{◌≡◌, refl, sym, ap, subst, ◌∙◌}
use mathlib.Core.Bool.{Bool, true, false, ◌&&◌, ◌||◌}
use mathlib.Core.List.{List, [], ◌∷◌, ◌++◌}
use mathlib.Core.Logic.{inl, inr}
use native.Mathlib.Omega.{arith}
use lib.ListN.{length}
use Rattle.geometry.proofs.PickLaws.{pick_f}
use Rattle.buffer.proofs.Agreement.{agree_same}
use Rattle.buffer.specs.Bytes.{agree}
use Rattle.frame.proofs.Frames.{header_length}
use Rattle.archive_lists.specs.Conduct.{Drive, Acts, Answers}
use Rattle.drive.specs.Command.{command_said}
use Rattle.drive.specs.declared.command.Command.{Command}
use Rattle.drive.specs.declared.reply.Reply.{Reply}
use Rattle.drive.proofs.CaseLaws.{command_by_lem}
use Rattle.recording_state.specs.State.{OutcomeSaid, window_length, accepting, refusing}
use Rattle.recording_state.specs.Accept.{StoredSaid, block_of, filemark_of, is_spent, close_of}
use Rattle.recording_state.specs.Answer as answer
use Rattle.recording_state.specs.Answer.{giving}
use Rattle.recording_state.specs.Due.{decision_of}
use Rattle.recording_state.specs.Fetch.{FetchedSaid, awaits, frame_for, sending, fetch_of}
use Rattle.recording_state.specs.Reply.{reply_of}
use Rattle.recording_state.specs.declared.state.State.{State}
use Rattle.recording_state.proofs.FetchView.{fetch_decided, fetch_sends}
use Rattle.archive_lists.specs.Recordings.{Element, block, filemark, Flight, no_command, answered, World, Call, accept_block, accept_filemark, close, fetch, reply, refusal, returned, fetch_number, flight_after, reported_after, TakesEffect, Calls, refuses, accepts_block, accepts_filemark, closes, fetches, replies, acts, answers, Runs, stop, call, drive, window_after, sent, accepted_after}
use Rattle.archive_samples.specs.Sample.{first_opening, frame}

pub framed : length frame ≡ 33280
framed = header_length first_opening

-- a command that is due in a session with W 1, and the session after its reply
pub record Step (s : State) (c : Command) (r : Reply) (next : State) : Type 0 where
  pub free : s.ended || s.exchange.awaiting ≡ false
  pub sized : window_length s ≡ 32768
  pub decided : decision_of s ≡ giving (command_said c)
  pub replied : reply_of (awaits s c) r ≡ accepting next

module _ (window : List ℕ) (accepted : List Element) where
  abbrev pub world : State → Drive → Flight → World
  world s d f = record { session = s; window = window; drive = d; flight = f; notes = record { accepted = accepted; unaltered = true; reported = false; given_up = 0 } }

  -- between two commands
  abbrev pub between : State → Drive → World
  between s d = world s d no_command

  -- the close has reported done
  abbrev pub reported : State → Drive → World
  reported s d = record { session = s; window = window; drive = d; flight = no_command; notes = record { accepted = accepted; unaltered = true; reported = true; given_up = 0 } }

  abbrev fetched_world : Drive → Bool → FetchedSaid → World
  fetched_world d same x = record {
    session = x.session;
    window = window;
    drive = d;
    flight = flight_after x.said no_command x.frame;
    notes = record { accepted = accepted; unaltered = same; reported = reported_after x.said false; given_up = 0 };
  }

module _ (window : List ℕ) (accepted : List Element) (s : State) (d : Drive) where
  fetched : (x : FetchedSaid) → fetch_of s window frame ≡ x → fetch_number x.said ≡ 0 → Calls (between window accepted s d) (fetch window frame) (fetched_world window accepted d true x)
  fetched x e small =
      let p : fetched_world window accepted d (true && agree window window) (fetch_of s window frame) ≡ fetched_world window accepted d true x = ap (λ b. fetched_world window accepted d b (fetch_of s window frame)) (agree_same window) ∙ ap (λ y. fetched_world window accepted d true y) e in
      subst (λ v. Calls (between window accepted s d) (fetch window frame) v) p (fetches window frame (inl (ap (λ y. fetch_number y.said) e ∙ small)))

  -- a last fetch answers done
  pub done : length window ≡ window_length s → s.ended || s.exchange.awaiting ≡ false → decision_of s ≡ answer.done
      → Runs (between window accepted s d) (fetch window frame ∷ []) (reported window accepted s d)
  done long free decided = call (fetched _ (fetch_decided s window frame free long framed decided) refl) stop

  -- a fetch that gives a command
  pub asks : {c : Command} → length window ≡ 32768 → s.ended || s.exchange.awaiting ≡ false → window_length s ≡ 32768 → decision_of s ≡ giving (command_said c)
      → Calls (between window accepted s d) (fetch window frame) (world window accepted (awaits s c) d (sent c (frame_for c s window frame)))
  unfolding sending
  asks {c} long free sized decided =
      let p = ap (λ (x : Command). world window accepted (awaits s c) d (sent x (frame_for c s window frame))) (command_by_lem c) in
      subst (λ v. Calls (between window accepted s d) (fetch window frame) v) p (fetched _ (fetch_sends s window frame free (long ∙ sym sized) framed c decided) refl)

  -- a reply that takes effect
  pub brings : {next : State} {c : Command} {r : Reply} (n : ℕ) → TakesEffect n → reply_of (awaits s c) r ≡ record { session = next; number = n }
      → Calls (world window accepted (awaits s c) d (answered r)) (reply r) (between window accepted next d)
  brings {next} {c} {r} n effect replied =
      let p : between window accepted (reply_of (awaits s c) r).session d ≡ between window accepted next d = ap (λ (x : OutcomeSaid). between window accepted x.session d) replied in
      let number : n ≡ (reply_of (awaits s c) r).number = sym (ap (λ (x : OutcomeSaid). x.number) replied) in
      subst (λ v. Calls (world window accepted (awaits s c) d (answered r)) (reply r) v) p (replies r refl (subst TakesEffect number effect))

  -- the world after a block is stored
  abbrev stored_world : List ℕ → Bool → StoredSaid → World
  stored_world b same x = record { session = x.result.session; window = x.window; drive = d; flight = no_command; notes = record { accepted = accepted_after x.result.number accepted (block b); unaltered = same; reported = false; given_up = 0 } }

module _ (window : List ℕ) (accepted : List Element) (s : State) (d : Drive) {cs : List Call} {u : World} where
  -- what the drive does by itself
  pub acting : {e : Drive} → Acts d e → Runs (between window accepted s e) cs u → Runs (between window accepted s d) cs u
  acting a rest = drive (acts _ a) rest

  asked : {c : Command} → length window ≡ 32768 → s.ended || s.exchange.awaiting ≡ false → window_length s ≡ 32768 → decision_of s ≡ giving (command_said c)
      → Runs (world window accepted (awaits s c) d (sent c (frame_for c s window frame))) cs u
      → Runs (between window accepted s d) (fetch window frame ∷ cs) u
  asked long free sized decided rest = call (asks window accepted s d long free sized decided) rest

  pub given : {next : State} {c : Command} {r : Reply} → length window ≡ 32768 → Step s c r next → Runs (world window accepted (awaits s c) d (sent c (frame_for c s window frame))) cs u
      → Runs (between window accepted s d) (fetch window frame ∷ cs) u
  given long step rest = asked long step.free step.sized step.decided rest

  -- the drive's answer to it, and its reply
  taken_in : {next : State} {e : Drive} {c : Command} {r : Reply} (n : ℕ) → TakesEffect n → reply_of (awaits s c) r ≡ record { session = next; number = n } → Answers d (frame_for c s window frame) c r e
      → Runs (between window accepted next e) cs u
      → Runs (world window accepted (awaits s c) d (sent c (frame_for c s window frame))) (reply r ∷ cs) u
  taken_in {e = e} {c} {r} n effect replied answer rest = drive (answers c (frame_for c s window frame) r e refl answer) (call (brings window accepted s e n effect replied) rest)

module _ (window : List ℕ) (accepted : List Element) (s : State) (d : Drive) {cs : List Call} {u : World} where
  pub exchange : {next : State} {e : Drive} {c : Command} {r : Reply} → length window ≡ 32768 → Step s c r next → Answers d (frame_for c s window frame) c r e
      → Runs (between window accepted next e) cs u → Runs (between window accepted s d) (fetch window frame ∷ reply r ∷ cs) u
  exchange long step answer rest = given window accepted s d long step (taken_in window accepted s d 0 (inl refl) step.replied answer rest)

  -- one whose reply ends the session
  pub exchange_ended : {next : State} {e : Drive} {c : Command} {r : Reply} (n : ℕ) → 8 ≤ n → length window ≡ 32768 → s.ended || s.exchange.awaiting ≡ false → window_length s ≡ 32768
      → decision_of s ≡ giving (command_said c) → reply_of (awaits s c) r ≡ record { session = next; number = n } → Answers d (frame_for c s window frame) c r e
      → Runs (between window accepted next e) cs u → Runs (between window accepted s d) (fetch window frame ∷ reply r ∷ cs) u
  exchange_ended n high long free sized decided replied answer rest =
      asked window accepted s d long free sized decided (taken_in window accepted s d n (inr high) replied answer rest)

  pub filemark_accepted_lem : {next : State} → filemark_of s ≡ accepting next → Runs (between window (accepted ++ filemark ∷ []) next d) cs u → Runs (between window accepted s d) (accept_filemark ∷ cs) u
  filemark_accepted_lem {next} e rest =
      call
      (subst (λ v. Calls (between window accepted s d) accept_filemark v) (ap (λ (x : OutcomeSaid). between window (accepted_after x.number accepted filemark) x.session d) e)
      (accepts_filemark (inl (ap (λ (x : OutcomeSaid). x.number) e)))) rest

  pub block_accepted_lem : {next : State} (b after : List ℕ) → block_of s b window ≡ record { result = accepting next; window = after }
      → Runs (between after (accepted ++ block b ∷ []) next d) cs u → Runs (between window accepted s d) (accept_block b window ∷ cs) u
  block_accepted_lem {next} b after e rest =
      let p : stored_world window accepted s d b (true && agree window window) (block_of s b window) ≡ between after (accepted ++ block b ∷ []) next d = ap (λ t. stored_world window accepted s d b t (block_of s b window)) (agree_same window) ∙ ap (λ x. stored_world window accepted s d b true x) e in
      call (subst (λ v. Calls (between window accepted s d) (accept_block b window) v) p (accepts_block b window (inl (ap (λ (x : StoredSaid). x.result.number) e)))) rest

  pub close_accepted : {next : State} → is_spent s ≡ false → close_of s ≡ accepting next → Runs (between window accepted next d) cs u → Runs (between window accepted s d) (close ∷ cs) u
  close_accepted {next} unspent e rest =
      call
      (subst (λ v. Calls (between window accepted s d) close v) (ap (λ (x : OutcomeSaid). between window accepted x.session d) e)
      (subst (λ (n : ℕ). Calls (between window accepted s d) close (record { session = (close_of s).session; window = window; drive = d; flight = no_command; notes = record { accepted = accepted; unaltered = true; reported = false; given_up = n } })) (pick_f _ unspent)
      (closes (inl (ap (λ (x : OutcomeSaid). x.number) e))))) rest

  -- a refusal that leaves the session
  refused : (c : Call) (n : ℕ) → 1 ≤ n → n ≤ 7 → refusal s c ≡ n → returned s c ≡ s → window_after (between window accepted s d) c ≡ window
      → Runs (between window accepted s d) cs u → Runs (between window accepted s d) (c ∷ cs) u
  refused c n low high number same kept rest =
      call
      (subst (λ x. Calls (between window accepted s d) c (between x accepted s d)) kept
      (subst (λ x. Calls (between window accepted s d) c (between (window_after (between window accepted s d) c) accepted x d)) same (refuses c (omega (arith, number)) (omega (arith, number))))) rest

  pub filemark_refused : filemark_of s ≡ refusing s 6 → Runs (between window accepted s d) cs u → Runs (between window accepted s d) (accept_filemark ∷ cs) u
  filemark_refused e rest = refused accept_filemark 6 (omega arith) (omega arith) (ap (λ (x : OutcomeSaid). x.number) e) (ap (λ (x : OutcomeSaid). x.session) e) refl rest

  pub close_refused : close_of s ≡ refusing s 7 → Runs (between window accepted s d) cs u → Runs (between window accepted s d) (close ∷ cs) u
  close_refused e rest = refused close 7 (omega arith) (omega arith) (ap (λ (x : OutcomeSaid). x.number) e) (ap (λ (x : OutcomeSaid). x.session) e) refl rest

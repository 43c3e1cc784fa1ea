-- Every call keeps what a session's counts tell of the frames taken, while no command is in flight, while one is with the drive, and behind its answer. Assumes nothing.
use Prim.Native.Nat.{ℕ, ◌≤◌}
use mathlib.Core.Path.{◌≡◌, refl, sym, ap, subst, ◌∙◌}
use mathlib.Core.Bool.{Bool, true, false, ◌&&◌}
use mathlib.Core.List.{List, [], ◌∷◌}
use mathlib.Core.Logic.{inr}
use native.Mathlib.Omega.{arith}
use borrow.Author.Tests.{ltb-false}
use lib.Dec.{eqb, ltb}
use lib.ListN.{length, length-append}
use Rattle.geometry.proofs.Impossible.{clash}
use Rattle.geometry.proofs.PickLaws.{pick_by}
use Rattle.geometry.proofs.TestLaws.{or_false}
use Rattle.frame.specs.Lengths.{data_length}
use Rattle.frame_bounds.specs.Bounds.{frames_at_most, header_frames_at_most}
use Rattle.drive.specs.Cases as cases
use Rattle.drive.specs.Command.{CommandSaid, command_code, command_address, command_by, command_for}
use Rattle.drive.specs.declared.command.Command.{Command}
use Rattle.drive.specs.declared.exchange.Exchange.{Exchange}
use Rattle.drive.specs.declared.reply.Reply.{Reply}
use Rattle.drive.proofs.CaseLaws.{command_by_lem}
use Rattle.copies.proofs.CommandView as command
use Rattle.elements.specs.Due as due
use Rattle.elements.proofs.DueView as rule
use Rattle.recording_state.specs.State.{OutcomeSaid, accepting, closed_of, ended_of, eod_due, given_up_of, settled_by, settled_of, window_length}
use Rattle.recording_state.specs.Accept.{StoredSaid, accepts_none, is_full, is_spent, with_element, filemark_of, block_of, close_of}
use Rattle.recording_state.specs.Fetch.{FetchedSaid, sending}
use Rattle.recording_state.specs.Reply.{case_of, reply_of}
use Rattle.recording_state.specs.declared.state.State.{State}
use Rattle.recording_state.specs.declared.state.Stage.{Stage}
use Rattle.recording_state.specs.declared.state.Stage.TheVariants as S
use Rattle.recording_state.proofs.Stages.{HeaderStage, ElementStage, header_not_element}
use Rattle.recording_state.proofs.FetchView as view
use Rattle.recording_state.proofs.ReplyView as replying
use Rattle.archive_lists.specs.Recordings as recordings
use Rattle.archive_lists.specs.Recordings.{Element, World, Flight, Call, Calls, accepted_after, flight_after}
use Rattle.archive_lists.proofs.Refusals.{refused_calls}
use Rattle.archive_counts.proofs.Tallies.{Tally, answered_in}
use Rattle.archive_counts.proofs.bound.Session.{Room, Fit, fit_bound, unspent, fit_accepted, fit_closed, fit_ended, fit_given_up, fit_sent, fit_eod}
use Rattle.archive_counts.proofs.bound.Answers.{heard}
use Rattle.archive_counts.proofs.bound.Replies.{Awaits, reply_fit}

pub data Under (D W n : ℕ) (u : Tally) (s : State) : Flight → Type 0 where
  free : Fit D W n u s → Under D W n u s recordings.no_command
  sent : (c : Command) (frame : List ℕ) → Awaits s → s.exchange.command ≡ c → Fit D W n u s → Under D W n u s (recordings.sent c frame)
  answered : (r : Reply) (t : Tally) → Awaits s → u ≡ heard s r t → Fit D W n t s → Under D W n u s (recordings.answered r)

-- a call that leaves the command in flight alone
under_as : {D W n m : ℕ} {u : Tally} {g : Flight} (s v : State) → v.stage ≡ s.stage → v.exchange ≡ s.exchange → v.ended ≡ s.ended
    → ((t : Tally) → Fit D W n t s → Fit D W m t v) → Under D W n u s g → Under D W m u v g
under_as s v k x e fit (free f) = free (fit _ f)
under_as s v k x e fit (sent c frame a is f) =
    sent c frame (record { going = e ∙ a.going; waiting = ap (λ (y : Exchange). y.awaiting) x ∙ a.waiting }) (ap (λ (y : Exchange). y.command) x ∙ is) (fit _ f)
under_as s v k x e fit (answered r t a q f) =
    answered r t (record { going = e ∙ a.going; waiting = ap (λ (y : Exchange). y.awaiting) x ∙ a.waiting })
    (q ∙ sym (ap (λ (y : Stage). answered_in y (case_of v r) t) k ∙ ap (λ (y : Exchange). answered_in s.stage (cases.case_of y.command r) t) x)) (fit _ f)

-- ---- accepting

module _ {D W : ℕ} {u : Tally} (s : State) (g : Flight) (xs : List Element) (x : Element) (y : Under D W (length xs) u s g) where
  abbrev Accepted : OutcomeSaid → Type 0
  Accepted r = Under D W (length (accepted_after r.number xs x)) u r.session g

  accepted : (mark : Bool) → is_full s ≡ false → Accepted (accepting (with_element s mark))
  accepted mark room =
      subst (λ (k : ℕ). Under D W k u (with_element s mark) g) (sym (length-append xs (x ∷ [])))
      (under_as s (with_element s mark) refl refl refl (λ t f. fit_accepted s f mark room) y)

  filemark_under : Accepted (filemark_of s)
  unfolding filemark_of
  filemark_under = pick_by Accepted (accepts_none s) (λ _. y) (λ _. pick_by Accepted (is_full s) (λ _. y) (accepted true))

  abbrev Stored : StoredSaid → Type 0
  Stored r = Accepted r.result

  block_under : (b window : List ℕ) → Stored (block_of s b window)
  unfolding block_of
  block_under b window =
      pick_by Stored (accepts_none s) (λ _. y)
      (λ _. pick_by Stored (eqb (length b) data_length && eqb (length window) (window_length s)) (λ _. pick_by Stored (is_full s) (λ _. y) (accepted false)) (λ _. y))

-- ---- close

eod_closed : {D W n : ℕ} {u : Tally} {s : State} {g : Flight} → Under D W n u s g → s.elements.eod ≡ true → s.closed ≡ true
eod_closed (free f) = f.closed
eod_closed (sent _ _ _ _ f) = f.closed
eod_closed (answered _ _ _ _ f) = f.closed

-- a spent session has no command in flight
under_given_up : {D W n : ℕ} {u : Tally} {g : Flight} (s : State) → is_spent s ≡ true → Under D W n u s g → Under D W n u (given_up_of s) g
under_given_up s is (free f) = free (fit_given_up s f is)
under_given_up s is (sent _ _ a _ _) = unspent s a.going is
under_given_up s is (answered _ _ a _ _) = unspent s a.going is

module _ {D W n : ℕ} {u : Tally} (s : State) (g : Flight) (y : Under D W n u s g) where
  abbrev After : State → Type 0
  After v = Under D W n u v g

  under_closed : After (closed_of s)
  under_closed = under_as s (closed_of s) refl refl refl (λ t f. fit_closed s f) y

  -- EOD is not due before close, so close starts no closing headers
  settled_closed : s.ended ≡ false → s.closed ≡ false → s.elements.queue.pending ≡ 0 → (k : Stage) → s.stage ≡ k → After (settled_by k (closed_of s))
  settled_closed going unclosed none S.OpeningHeaders st = under_closed
  settled_closed going unclosed none S.Elements st =
      pick_by After s.elements.eod (λ is. clash (eod_closed y is) unclosed)
      (λ not. under_as s (eod_due (closed_of s)) refl refl refl (λ t f. fit_eod (closed_of s) (fit_closed s f) st going none not refl) y)
  settled_closed going unclosed none S.ClosingHeaders st = under_closed
  settled_closed going unclosed none S.Done st = under_closed

  under_settled : s.ended ≡ false → s.closed ≡ false → After (settled_of (closed_of s))
  unfolding settled_of
  under_settled going unclosed =
      pick_by After (ltb 0 s.elements.queue.pending) (λ _. under_closed)
      (λ e. settled_closed going unclosed (let z = ltb-false 0 s.elements.queue.pending e in omega arith) s.stage refl)

  abbrev Closed : OutcomeSaid → Type 0
  Closed r = After r.session

  close_under : Closed (close_of s)
  unfolding close_of
  close_under =
      pick_by Closed (is_spent s) (λ is. under_given_up s is y)
      (λ _. pick_by Closed (accepts_none s) (λ _. y) (λ e. let both = or_false s.ended s.closed e in under_settled both.0 both.1))

-- ---- a fetch

free_of : {D W n : ℕ} {u : Tally} {g : Flight} (s : State) → s.exchange.awaiting ≡ false → Under D W n u s g → (g ≡ recordings.no_command) × Fit D W n u s
free_of s idle (free f) = (refl, f)
free_of s idle (sent _ _ a _ _) = clash a.waiting idle
free_of s idle (answered _ _ a _ _) = clash a.waiting idle

copy_room : {D : ℕ} (s : State) {y : CommandSaid} → s.setup.depth ≡ D → HeaderStage s → command.CommandView s.setup.depth s.copies y → command_code (command_for y) ≡ 0x0A → Room D s
copy_room s d st (command.locating _) k = absurd (omega arith)
copy_room s d st (command.writing _ l room) k = record { elements = λ el. header_not_element s st el; headers = λ _. record { due = l; space = omega arith } }
copy_room s d st (command.asking _ _) k = absurd (omega arith)

due_room : {D : ℕ} (s : State) {y : CommandSaid} → s.setup.depth ≡ D → ElementStage s → rule.DueView s.setup.depth s.setup.tail s.elements (due.send y)
    → command_code (command_for y) ≡ 0x0A → Room D s
due_room s d st (rule.relocating _ _) k = absurd (omega arith)
due_room s d st (rule.settling _ _ _) k = absurd (omega arith)
due_room s d st (rule.confirming _ _ _) k = absurd (omega arith)
due_room s d st (rule.jumping _ _ _ _ _) k = absurd (omega arith)
due_room s d st (rule.writing _ p room _ _) k = record { elements = λ _. record { due = p; space = omega arith }; headers = λ h. header_not_element s h st }

module _ {D W n : ℕ} {u : Tally} (s : State) (g : Flight) (window frame : List ℕ) (y : Under D W n u s g) where
  abbrev Fetched : FetchedSaid → Type 0
  Fetched x = Under D W n u x.session (flight_after x.said g x.frame)

  sends : (c : Command) → s.ended ≡ false → Fit D W n u s → (command_code c ≡ 0x0A → Room D s) → Fetched (sending s c window frame)
  unfolding sending
  sends c going f room = sent (command_by (command_code c) (command_address c).0) _ (record { going = going; waiting = refl }) (sym (command_by_lem c)) (fit_sent s f c room)

  fetch_under : {x : FetchedSaid} → view.FetchView s window frame x → Fetched x
  fetch_under (view.wrong_phase _) = y
  fetch_under (view.wrong_length _ _ _) = y
  fetch_under (view.repeating r again) = let f = (free_of s r.free y).1 in sends s.exchange.command r.going f (λ k. f.asked r.going k (inr again))
  fetch_under (view.copying r _ st) =
      let f = (free_of s r.free y).1 in
      sends _ r.going f (copy_room s f.sizes.depth_is st (command.command_view s.setup.depth s.copies))
  fetch_under (view.stepping r _ st c e) =
      let f = (free_of s r.free y).1 in
      sends _ r.going f
      (due_room s f.sizes.depth_is st (subst (rule.DueView s.setup.depth s.setup.tail s.elements) e (rule.due_view s.setup.depth s.setup.tail s.elements)))
  fetch_under (view.resting _ _ _ _) = y
  fetch_under (view.stopping r _ _ k _) = let x = free_of s r.free y in subst (Under D W n u (ended_of s k)) (sym x.0) (free (fit_ended s x.1 k))
  fetch_under (view.finished _ _ _) = y

-- ---- a call

abbrev pub Tallied : ℕ → ℕ → Tally → World → Type 0
Tallied D W u w = Under D W (length w.notes.accepted) u w.session w.flight

pub call_tallied : {D W : ℕ} {u : Tally} {w v : World} {c : Call} → Tallied D W u w → Calls w c v → Tallied D W u v
call_tallied {D} {W} {u} {w} {c = c} y (recordings.refuses _ l h) =
    subst (λ (s : State). Under D W (length w.notes.accepted) u s w.flight) (sym ((refused_calls.recording w.session c).unchanged l h)) y
call_tallied {w = w} y (recordings.accepts_block b lent _) = block_under w.session w.flight w.notes.accepted (recordings.block b) y b lent
call_tallied {w = w} y (recordings.accepts_filemark _) = filemark_under w.session w.flight w.notes.accepted recordings.filemark y
call_tallied {w = w} y (recordings.closes _) = close_under w.session w.flight y
call_tallied {w = w} y (recordings.fetches lent frame _) = fetch_under w.session w.flight lent frame y (view.fetch_view w.session lent frame)
call_tallied {D} {W} {u} {w} y (recordings.replies r q _) = go (subst (Under D W (length w.notes.accepted) u w.session) q y)
  where
    go : Under D W (length w.notes.accepted) u w.session (recordings.answered r) → Under D W (length w.notes.accepted) u (reply_of w.session r).session recordings.no_command
    go (answered _ t a e f) = free (subst (λ (v : Tally). Fit D W (length w.notes.accepted) v (reply_of w.session r).session) (sym e) (reply_fit w.session a f r (replying.reply_view w.session r)))

-- ---- the bound

pub under_bound : {D W n : ℕ} {u : Tally} {g : Flight} (s : State) → Under D W n u s g → (u.taken ≤ frames_at_most n u.errors D W) × (u.headers ≤ header_frames_at_most u.header_errors D)
under_bound s (free f) = fit_bound s f
under_bound s (sent _ _ _ _ f) = fit_bound s f
under_bound {D} {W} {n} s (answered r t a e f) =
    subst (λ (v : Tally). (v.taken ≤ frames_at_most n v.errors D W) × (v.headers ≤ header_frames_at_most v.header_errors D)) (sym e)
    (fit_bound (reply_of s r).session (reply_fit s a f r (replying.reply_view s r)))

-- What a session was opened with stays: its sizes, and that it is not spent where it keeps no tail. So then nothing is given up. Assumes nothing.
use Prim.Native.Nat.{ℕ}
use mathlib.Core.Path.{◌≡◌, refl, ap, ◌∙◌}
use mathlib.Core.Bool.{Bool, true, false, ◌&&◌, not}
use mathlib.Core.List.{List}
use lib.Dec.{eqb, ltb}
use Rattle.geometry.proofs.PickLaws.{pick_f, pick_by}
use Rattle.copies.specs.Copies as copies
use Rattle.drive.specs.declared.command.Command.{Command}
use Rattle.drive.specs.declared.reply.Reply.{Reply}
use Rattle.elements.specs.Reply as reply
use Rattle.recording_state.specs.State.{OutcomeSaid, is_spending, ended_of, closed_of, settled_of, with_elements}
use Rattle.recording_state.specs.Accept.{accepts_none, unspent_close, is_spent, close_of}
use Rattle.recording_state.specs.Fetch.{FetchedSaid, sending}
use Rattle.recording_state.specs.Reply.{replied_of, completed_of, header_reply_by, element_reply_by, stage_reply}
use Rattle.recording_state.specs.declared.report.Report.{Report}
use Rattle.recording_state.specs.declared.state.Setup.{Setup}
use Rattle.recording_state.specs.declared.state.State.{State}
use Rattle.recording_state.proofs.Kept.{Held, held_of, filemark_keeps, block_keeps, settled_held}
use Rattle.recording_state.proofs.FetchView as view
use Rattle.recording_state.proofs.ReplyView as replying
use Rattle.archive_lists.specs.Recordings as recordings
use Rattle.archive_lists.specs.Recordings.{World, Call, returned}

none_of : (b : Bool) → (b && false) ≡ false
none_of true = refl
none_of false = refl

-- without a tail no refusal spends a session
unspent_by : (s : State) (n : ℕ) → s.setup.tail ≡ 0 → is_spending s n ≡ false
unspent_by s n none = ap (λ (t : ℕ). eqb n 9 && (ltb 0 t && not s.elements.eod)) none ∙ none_of (eqb n 9)

module _ (s : State) where
  record Same (t : State) : Type 0 where
    setup : t.setup ≡ s.setup
    unspent : s.setup.tail ≡ 0 → s.spent ≡ false → t.spent ≡ false

  as_held : (t : State) → held_of t ≡ held_of s → Same t
  as_held t e = record { setup = ap (λ (h : Held). h.setup) e; unspent = λ _ u. ap (λ (h : Held). h.spent) e ∙ u }

  left : (t : State) → t.setup ≡ s.setup → t.spent ≡ s.spent → Same t
  left t e f = record { setup = e; unspent = λ _ u. f ∙ u }

  ended : (t : State) (n : ℕ) → t.setup ≡ s.setup → Same (ended_of t n)
  ended t n e = record { setup = e; unspent = λ none _. unspent_by t n (ap (λ (x : Setup). x.tail) e ∙ none) }

  settled : (t : State) → Same t → Same (settled_of t)
  settled t x = record { setup = ap (λ (h : Held). h.setup) (settled_held t) ∙ x.setup; unspent = λ none u. ap (λ (h : Held). h.spent) (settled_held t) ∙ x.unspent none u }

  close_same : Same (close_of s).session
  unfolding close_of
  close_same =
      pick_by (λ (r : OutcomeSaid). Same r.session) (is_spent s) (λ _. record { setup = refl; unspent = λ _ _. refl })
      (λ _. pick_by (λ (r : OutcomeSaid). Same r.session) (accepts_none s) (λ _. left s refl refl) (λ _. settled (closed_of s) (left (closed_of s) refl refl)))

  sending_same : (c : Command) (window frame : List ℕ) → Same (sending s c window frame).session
  unfolding sending
  sending_same c window frame = record { setup = refl; unspent = λ _ u. u }

  fetch_same : (window frame : List ℕ) {x : FetchedSaid} → view.FetchView s window frame x → Same x.session
  fetch_same window frame (view.wrong_phase _) = left s refl refl
  fetch_same window frame (view.wrong_length _ _ _) = left s refl refl
  fetch_same window frame (view.repeating _ _) = sending_same _ window frame
  fetch_same window frame (view.copying _ _ _) = sending_same _ window frame
  fetch_same window frame (view.stepping _ _ _ _ _) = sending_same _ window frame
  fetch_same window frame (view.resting _ _ _ _) = left s refl refl
  fetch_same window frame (view.stopping _ _ _ n _) = ended s n refl
  fetch_same window frame (view.finished _ _ _) = left s refl refl

  header_same : (x : copies.ProgressSaid) → Same (header_reply_by x s).session
  header_same (copies.more c) = record { setup = refl; unspent = λ _ u. u }
  header_same copies.complete = settled (completed_of (replied_of s)) (left (completed_of (replied_of s)) refl refl)
  header_same (copies.refused n) = ended s n refl

  element_same : (x : reply.SteppedSaid) → Same (element_reply_by x s).session
  element_same x =
      pick_by (λ (r : OutcomeSaid). Same r.session) (eqb x.number 0)
      (λ _. settled (with_elements (replied_of s) x.elements) (left (with_elements (replied_of s) x.elements) refl refl))
      (λ _. ended (with_elements s x.elements) x.number refl)

  stage_same : (x : Report) → Same (stage_reply s x).session
  stage_same x = go (replying.stage_view s x)
    where
      go : {y : OutcomeSaid} → replying.StageView s x y → Same y.session
      go (replying.in_headers _) = header_same (replying.on_copies s x)
      go (replying.in_elements _) = element_same (replying.on_elements s x)
      go (replying.in_done _) = ended s 8 refl

  reply_same : (r : Reply) {y : OutcomeSaid} → replying.ReplyView s r y → Same y.session
  reply_same r (replying.unasked _) = left s refl refl
  reply_same r (replying.busy _) = record { setup = refl; unspent = λ _ u. u }
  reply_same r (replying.located _) = stage_same _
  reply_same r (replying.taken _) = stage_same _
  reply_same r (replying.counted _) = stage_same _
  reply_same r (replying.failed _) = stage_same _
  reply_same r (replying.overflowed _) = stage_same _
  reply_same r (replying.unlisted _) = ended s 8 refl

  returned_same : (c : Call) → Same (returned s c)
  returned_same (recordings.accept_block b window) = as_held _ (block_keeps s b window).0
  returned_same recordings.accept_filemark = as_held _ (filemark_keeps s).0
  returned_same recordings.close = close_same
  returned_same (recordings.fetch window frame) = fetch_same window frame (view.fetch_view s window frame)
  returned_same (recordings.reply r) = reply_same r (replying.reply_view s r)

pub close_unspent : (s : State) → s.spent ≡ false → close_of s ≡ unspent_close s
unfolding close_of
close_unspent s u = pick_f _ (ap (λ (b : Bool). s.ended && b) u ∙ none_of s.ended)

-- ---- over a list

-- without a tail
pub record Unspent (w : World) : Type 0 where
  pub untailed : w.session.setup.tail ≡ 0
  pub unspent : w.session.spent ≡ false
  pub ungiven : w.notes.given_up ≡ 0

none_closed : (w : World) → Unspent w → recordings.given_up_after w.session w.notes.given_up ≡ 0
none_closed w x = pick_f _ (ap (λ (b : Bool). w.session.ended && b) x.unspent ∙ none_of w.session.ended) ∙ x.ungiven

-- a world with the session that a call returned
as_returned : (w v : World) (c : Call) → v.session ≡ returned w.session c → v.notes.given_up ≡ 0 → Unspent w → Unspent v
as_returned w v c e ungiven x =
    let y = returned_same w.session c in
    record {
      untailed = ap (λ (s : State). s.setup.tail) e ∙ ap (λ (s : Setup). s.tail) y.setup ∙ x.untailed;
      unspent = ap (λ (s : State). s.spent) e ∙ y.unspent x.untailed x.unspent;
      ungiven = ungiven;
    }

call_unspent : {w v : World} {c : Call} → recordings.Calls w c v → Unspent w → Unspent v
call_unspent {w} {v} (recordings.refuses c l h) x = as_returned w v c refl x.ungiven x
call_unspent {w} {v} (recordings.accepts_block b lent te) x = as_returned w v (recordings.accept_block b lent) refl x.ungiven x
call_unspent {w} {v} (recordings.accepts_filemark te) x = as_returned w v recordings.accept_filemark refl x.ungiven x
call_unspent {w} {v} (recordings.closes te) x = as_returned w v recordings.close refl (none_closed w x) x
call_unspent {w} {v} (recordings.fetches lent frame te) x = as_returned w v (recordings.fetch lent frame) refl x.ungiven x
call_unspent {w} {v} (recordings.replies r q te) x = as_returned w v (recordings.reply r) refl x.ungiven x

move_unspent : {w v : World} → recordings.Moves w v → Unspent w → Unspent v
move_unspent (recordings.acts d a) x = record { untailed = x.untailed; unspent = x.unspent; ungiven = x.ungiven }
move_unspent (recordings.answers c frame r d q a) x = record { untailed = x.untailed; unspent = x.unspent; ungiven = x.ungiven }

pub runs_unspent : {w v : World} {cs : List Call} → recordings.Runs w cs v → Unspent w → Unspent v
runs_unspent recordings.stop x = x
runs_unspent (recordings.call c rest) x = runs_unspent rest (call_unspent c x)
runs_unspent (recordings.drive m rest) x = runs_unspent rest (move_unspent m x)

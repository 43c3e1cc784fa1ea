-- What a refused call leaves. Assumes nothing.
use Prim.Native.Nat.{ℕ, ◌≤◌, ◌<◌}
use mathlib.Core.Path.{◌≡◌, refl, ap}
use mathlib.Core.Bool.{Bool, true, false, ◌&&◌, ◌||◌}
use mathlib.Core.List.{List}
use native.Mathlib.Omega.{arith}
use borrow.Author.Tests.{lt-ltb}
use lib.Dec.{eqb, ltb}
use Rattle.geometry.specs.Place as place
use Rattle.geometry.specs.Place.{as_address, PlaceSaid}
use Rattle.geometry.specs.Cartridge.{last_of}
use Rattle.geometry.proofs.PickLaws.{pick_by}
use Rattle.frame.specs.declared.header.Header.{Header}
use Rattle.header.specs.Read.{CheckedSaid, valid, refused, read_header}
use Rattle.carried_headers.specs.Carried.{opening_header, is_counted_out, is_exhausted, renewed}
use Rattle.drive.specs.declared.reply.Reply.{Reply}
use Rattle.recording_state.specs.Open.{is_misfit, open_with, open_for, open_of, open_blank_for, open_blank_of}
use Rattle.recording_state.specs.State as session
use Rattle.recording_state.specs.Accept.{is_spent, close_of}
use Rattle.geometry.proofs.TestLaws.{and_true}
use Rattle.archive_lists.proofs.recording.GivesUp.{spending_so}
use Rattle.recording_state.specs.Answer as answer
use Rattle.recording_state.specs.Fetch.{FetchedSaid, sending, fetch_of}
use Rattle.recording_state.specs.declared.state.State.{State}
use Rattle.recording_state.proofs.Ended as ended
use Rattle.recording_state.proofs.FetchView as view
use Rattle.recording_state.proofs.Refusals.{Leaves, refused_window, refused_block, refused_filemark, refused_close, refused_fetch, refused_reply}
use Rattle.reading_state.specs.State.{is_at_end}
use Rattle.adding_opening.specs.AtEnd.{ends_elsewhere, open_at_end_of}
use Rattle.reading_state.specs.Open as opening
use Rattle.reading_state.specs.Fetch as reading
use Rattle.reading_state.specs.Reply as reply
use Rattle.reading_state.specs.declared.state.State.{State as Reading}
use Rattle.reading_state.proofs.Ended as reading_ended
use Rattle.reading_state.proofs.Refusals as read
use Rattle.archive_lists.specs.Recordings as recordings
use Rattle.archive_lists.specs.Readings as readings
use Rattle.archive_lists.specs.Refusals.{lent_by, left_by, ended_from_call, OpeningsRefused, RefusedCalls}

-- ---- a recording

frame_left : (s : State) (window frame : List ℕ) {x : FetchedSaid} → view.FetchView s window frame x → 1 ≤ recordings.fetch_number x.said → x.frame ≡ frame
unfolding sending
frame_left s window frame (view.wrong_phase _) h = refl
frame_left s window frame (view.wrong_length _ _ _) h = refl
frame_left s window frame (view.repeating _ _) h = absurd (omega arith)
frame_left s window frame (view.copying _ _ _) h = absurd (omega arith)
frame_left s window frame (view.stepping _ _ _ _ _) h = absurd (omega arith)
frame_left s window frame (view.resting _ _ _ _) h = refl
frame_left s window frame (view.stopping _ _ _ _ _) h = refl
frame_left s window frame (view.finished _ _ _) h = refl

left_as_lent : (s : State) (c : recordings.Call) → 1 ≤ recordings.refusal s c → left_by s c ≡ lent_by c
left_as_lent s (recordings.accept_block b window) h = refused_window s b window h
left_as_lent s recordings.accept_filemark h = refl
left_as_lent s recordings.close h = refl
left_as_lent s (recordings.fetch window frame) h = frame_left s window frame (view.fetch_view s window frame) h
left_as_lent s (recordings.reply r) h = refl

fetch_leaves : (s : State) (window frame : List ℕ) (x : answer.AnswerSaid) → (fetch_of s window frame).said ≡ x → 1 ≤ recordings.fetch_number x → Leaves (recordings.fetch_number x) s s (fetch_of s window frame).session
fetch_leaves s window frame (answer.command _ _) e h = absurd (omega arith)
fetch_leaves s window frame answer.idle e h = absurd (omega arith)
fetch_leaves s window frame answer.done e h = absurd (omega arith)
fetch_leaves s window frame (answer.refused n) e h = refused_fetch s n window frame e

leaves : (s : State) (c : recordings.Call) → 1 ≤ recordings.refusal s c → Leaves (recordings.refusal s c) s (ended_from_call s c) (recordings.returned s c)
leaves s (recordings.accept_block b window) h = refused_block s b window
leaves s recordings.accept_filemark h = refused_filemark s
leaves s recordings.close h = refused_close s
leaves s (recordings.fetch window frame) h = fetch_leaves s window frame (fetch_of s window frame).said refl h
leaves s (recordings.reply r) h = refused_reply s r

refused_7 : (s : State) (c : recordings.Call) → s.ended ≡ true → (s.spent ≡ true → c ≡ recordings.close → ⊥) → recordings.refusal s c ≡ 7
refused_7 s (recordings.accept_block b window) e _ = ap (λ x. x.result.number) (ended.ended_block s e b window)
refused_7 s recordings.accept_filemark e _ = ap (λ (x : session.OutcomeSaid). x.number) (ended.ended_filemark s e)
refused_7 s recordings.close e h = ap (λ (x : session.OutcomeSaid). x.number) (ended.ended_close s e (unspent s.spent refl))
  where
    unspent : (b : Bool) → s.spent ≡ b → s.spent ≡ false
    unspent true q = absurd (h q refl)
    unspent false q = q
refused_7 s (recordings.fetch window frame) e _ = ap (λ (x : FetchedSaid). recordings.fetch_number x.said) (ended.ended_fetch s e window frame)
refused_7 s (recordings.reply r) e _ = ap (λ (x : session.OutcomeSaid). x.number) (ended.ended_reply s e r)

pub close_spent : (s : State) → is_spent s ≡ true → close_of s ≡ session.accepting (session.given_up_of s)
close_spent s e = let both = and_true s.ended s.spent e in ended.spent_close s both.0 both.1

spends_so : (s : State) → 0 < s.setup.tail → s.elements.eod ≡ false → is_spent (session.ended_of s 9) ≡ true
spends_so s tailed unended = rw (lt-ltb 0 s.setup.tail tailed, unended)

-- EOD is due then, and close was called
closed_once : (s : State) → (close_of (session.given_up_of s)).number ≡ 7
unfolding close_of
closed_once s = refl

-- ---- a reading

read_fetch_leaves : (s : Reading) (x : reading.AnswerSaid) → (reading.fetch_of s).said ≡ x → 1 ≤ readings.fetch_number x → read.Leaves (readings.fetch_number x) s (reading.fetch_of s).session
read_fetch_leaves s (reading.command _ _) e h = absurd (omega arith)
read_fetch_leaves s reading.end e h = absurd (omega arith)
read_fetch_leaves s (reading.refused n) e h = read.refused_fetch s n e

read_reply_leaves : (s : Reading) (r : Reply) (frame : List ℕ) (x : reply.DeliverySaid) → (reply.reply_of s r frame).said ≡ x → 1 ≤ readings.reply_number x → read.Leaves (readings.reply_number x) s (reply.reply_of s r frame).session
read_reply_leaves s r frame reply.nothing e h = absurd (omega arith)
read_reply_leaves s r frame reply.block e h = absurd (omega arith)
read_reply_leaves s r frame reply.filemark e h = absurd (omega arith)
read_reply_leaves s r frame reply.end e h = absurd (omega arith)
read_reply_leaves s r frame (reply.refused n) e h = read.refused_reply s n frame r e

read_leaves : (s : Reading) (c : readings.Call) → 1 ≤ readings.refusal s c → read.Leaves (readings.refusal s c) s (readings.returned s c)
read_leaves s readings.fetching h = read_fetch_leaves s (reading.fetch_of s).said refl h
read_leaves s (readings.replying r frame) h = read_reply_leaves s r frame (reply.reply_of s r frame).said refl h

read_refused_7 : (s : Reading) (c : readings.Call) → s.ended ≡ true → readings.refusal s c ≡ 7
read_refused_7 s readings.fetching e = ap (λ (x : reading.FetchedSaid). readings.fetch_number x.said) (reading_ended.ended_fetch s e)
read_refused_7 s (readings.replying r frame) e = ap (λ (x : reply.RepliedSaid). readings.reply_number x.said) (reading_ended.ended_reply s e r frame)

-- ---- openings

abbrev Ended : session.OutcomeSaid → Type 0
Ended r = 1 ≤ r.number → (r.session.ended ≡ true) × (r.session.spent ≡ false)

-- without a tail no session is spent
blank_final : (b : Bool) → (b && false) ≡ false
blank_final true = refl
blank_final false = refl

opened_with : (depth window tail : ℕ) (exhausted : Bool) (h : Header) → Ended (open_with depth window tail exhausted h)
unfolding open_with
opened_with depth window tail exhausted h =
    pick_by Ended (eqb depth 0 || (eqb window 0 || ltb 64 window)) (λ _ _. (refl, refl))
    (λ _. pick_by Ended exhausted (λ _ _. (refl, refl)) (λ _ n. absurd (omega arith)))

opened_for : (c : CheckedSaid) (depth window tail : ℕ) → Ended (open_for c depth window tail)
opened_for (valid old) depth window tail = opened_with depth window tail (is_exhausted old) (renewed old)
opened_for (refused n) depth window tail = λ _. (refl, blank_final (eqb n 9))

blank_for : (p : PlaceSaid) (depth window tail : ℕ) → Ended (open_blank_for p depth window tail)
blank_for (place.address last) depth window tail = opened_with depth window tail false (opening_header (as_address last) 1 0)
blank_for (place.refused n) depth window tail = λ _. (refl, blank_final (eqb n 9))

read_opened : (c : CheckedSaid) → 1 ≤ (opening.open_for c).number → (opening.open_for c).session.ended ≡ true
read_opened (valid h) l = absurd (omega arith)
read_opened (refused n) l = refl

at_end_opened : (r : Reading) (depth window tail : ℕ) → Ended (open_at_end_of r depth window tail)
unfolding open_at_end_of
at_end_opened r depth window tail =
    pick_by Ended (is_at_end r)
    (λ _. pick_by Ended (is_misfit depth window) (λ _ _. (refl, refl))
    (λ _. pick_by Ended (is_counted_out r.told.update) (λ _ _. (refl, refl))
    (λ _. pick_by Ended (ends_elsewhere r) (λ _ _. (refl, refl)) (λ _ n. absurd (omega arith)))))
    (λ _ _. (refl, refl))

openings : OpeningsRefused
unfolding open_of open_blank_of opening.open_of
openings = record {
  recording = λ g depth window tail h. opened_for (read_header g h) depth window tail;
  blank = λ g depth window tail. blank_for (last_of g) depth window tail;
  reading = λ g h. read_opened (read_header g h);
  at_end = at_end_opened;
}

-- ---- both

pub refused_calls : RefusedCalls
refused_calls = record {
  openings = openings;
  recording = λ s c. record {
    untouched = left_as_lent s c;
    unchanged = λ l h. (leaves s c l).unchanged l h;
    ended = λ h. (leaves s c (omega arith)).ended h;
    only_7 = refused_7 s c;
  };
  spent = λ s. record {
    only_9 = λ n e. let x = spending_so s n e in (x.number, x.tailed, x.unended);
    spends = spends_so s;
    allowed = λ e. ap (λ (x : session.OutcomeSaid). x.number) (close_spent s e);
    gives_up = λ e. ap (λ (x : session.OutcomeSaid). x.session) (close_spent s e);
    once = closed_once s;
  };
  reading = λ s c. record {
    unchanged = λ l h. (read_leaves s c l).unchanged h;
    ended = λ h. (read_leaves s c (omega arith)).ended h;
    only_7 = read_refused_7 s c;
  };
}

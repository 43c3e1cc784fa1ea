-- Every call keeps the invariant. Assumes nothing.
use Prim.Native.Nat.{ℕ, ◌≤◌}
use mathlib.Core.List.{List}
use mathlib.Core.Path.{◌≡◌, refl, sym, subst, ◌∙◌, ap}
use mathlib.Core.Bool.{true, false}
use native.Mathlib.Omega.{arith}
use lib.ListN.{length}
use Rattle.drive.specs.declared.reply.Reply.{Reply}
use Rattle.recording_state.specs.State.{is_spending}
use Rattle.recording_state.specs.Reply.{reply_of, ended_from}
use Rattle.recording_state.specs.declared.state.State.{State}
use Rattle.geometry.proofs.PickLaws.{pick_by}
use Rattle.buffer.specs.Bytes.{agree}
use Rattle.buffer.proofs.Agreement.{agree_is}
use Rattle.recording_state.proofs.ListedReplies.{unlisted_refused}
use Rattle.recording_state.proofs.Refusals.{refused_window, refused_reply}
use Rattle.archive_lists.specs.Recordings as recordings
use Rattle.archive_lists.specs.Recordings.{World, TakesEffect, after_reply}
use Rattle.archive_lists.specs.Conduct.{Within}
use Rattle.archive_lists.proofs.tape.Basics.{none_answered, answered_same}
use Rattle.archive_lists.proofs.recording.Trailing.{Prior}
use Rattle.archive_lists.proofs.recording.CopiesLink.{Copying}
use Rattle.archive_lists.proofs.recording.ElementsLink.{Writing}
use Rattle.archive_lists.proofs.recording.Accepts.{keeps_filemark, keeps_block}
use Rattle.archive_lists.proofs.recording.Closes.{keeps_close}
use Rattle.archive_lists.proofs.recording.Fetches.{keeps_fetch}
use Rattle.archive_lists.proofs.recording.HeaderReplies.{opening_replies, closing_replies}
use Rattle.archive_lists.proofs.recording.ElementReplies.{elements_reply}
use Rattle.archive_lists.proofs.recording.Invariant as inv
use Rattle.archive_lists.proofs.recording.Invariant.{Course, Live, Rejecting, Inv, live, rejecting, spent, over}
use Rattle.archive_lists.proofs.recording.Setting.{Setting}
use Rattle.archive_lists.proofs.Refusals.{refused_calls}

-- ---- a reply that is not listed

rejecting_reply : {last pass : ℕ} {on_newest none_bears : Type 0} {prior : Prior} (w : World) (r : Reply) → Within last w.drive.written → (d : Rejecting last w) → d.reply ≡ r → Inv last pass on_newest none_bears prior (after_reply w r)
rejecting_reply w r written d same =
    let s = w.session in
    let refused : (reply_of s d.reply).number ≡ 8 = unlisted_refused s d.reply d.going d.awaits d.off_headers d.unlisted in
    let ended : (reply_of s d.reply).session.ended ≡ true = ap (λ (x : State). x.ended) ((refused_reply s d.reply).ended (omega arith)) in
    let final : (reply_of s d.reply).session.spent ≡ false = ap (λ (x : State). x.spent) ((refused_reply s d.reply).ended (omega arith)) ∙ ap (is_spending (ended_from s d.reply (reply_of s d.reply).number)) refused in
    over written (record { ended = subst (λ (x : Reply). (reply_of s x).session.ended ≡ true) same ended; final = subst (λ (x : Reply). (reply_of s x).session.spent ≡ false) same final; none = refl; safe = d.safe; unreported = d.unreported })

-- ---- a reply

live_reply : {last pass : ℕ} {on_newest none_bears : Type 0} {prior : Prior} (w : World) (r : Reply) → Setting last pass → Within last w.drive.written → (l : Live last pass on_newest none_bears prior w) → w.flight ≡ recordings.answered r → Course last (length l.list) w l.k l.edge → Inv last pass on_newest none_bears prior (after_reply w r)
live_reply w r set wr l q (inv.opening s v t a) = opening_replies w r set wr l s v t a (subst (Copying w.session w.drive) q a.copying)
live_reply {last} w r set wr l q (inv.writing s v a) = elements_reply w r set wr l s v (subst (Writing last w.session w.drive l.k l.edge) q a)
live_reply w r set wr l q (inv.closing s v c k e a) = closing_replies w r set wr l s v c k e a (subst (Copying w.session w.drive) q a.copying)
live_reply w r set wr l q (inv.finished s v c k e f a g rests y) = none_answered (sym f ∙ q)

keeps_reply : {last pass : ℕ} {on_newest none_bears : Type 0} {prior : Prior} (w : World) (r : Reply) → Setting last pass → Inv last pass on_newest none_bears prior w → w.flight ≡ recordings.answered r → TakesEffect (reply_of w.session r).number → Inv last pass on_newest none_bears prior (after_reply w r)
keeps_reply w r set (live wr l) q te = live_reply w r set wr l q l.course
keeps_reply w r set (rejecting wr d) q te = rejecting_reply w r wr d (answered_same (sym d.replied ∙ q))
keeps_reply w r set (spent wr x) q te = none_answered (sym x.none ∙ q)
keeps_reply w r set (over wr o) q te = none_answered (sym o.none ∙ q)

-- ---- a refused call

-- it leaves the window
same_window : (w : World) (c : recordings.Call) → 1 ≤ recordings.refusal w.session c → recordings.window_after w c ≡ w.window
same_window w (recordings.accept_block b lent) l =
    pick_by (λ (x : List ℕ). x ≡ w.window) (agree lent w.window) (λ e. refused_window w.session b lent l ∙ agree_is lent w.window e) (λ _. refl)
same_window w recordings.accept_filemark l = refl
same_window w recordings.close l = refl
same_window w (recordings.fetch lent frame) l = refl
same_window w (recordings.reply r) l = refl

abbrev with_window : World → State → List ℕ → World
with_window w s window = record { session = s; window = window; drive = w.drive; flight = w.flight; notes = w.notes }

pub keeps_call : {last pass : ℕ} {on_newest none_bears : Type 0} {prior : Prior} (w v : World) (c : recordings.Call) → Setting last pass → Inv last pass on_newest none_bears prior w → recordings.Calls w c v → Inv last pass on_newest none_bears prior v
keeps_call {last} {pass} {on_newest} {none_bears} {prior} w v c set i (recordings.refuses _ l h) =
    subst (λ (s : State). Inv last pass on_newest none_bears prior (with_window w s (recordings.window_after w c))) (sym ((refused_calls.recording w.session c).unchanged l h))
    (subst (λ (x : List ℕ). Inv last pass on_newest none_bears prior (with_window w w.session x)) (sym (same_window w c l)) i)
keeps_call w v c set i (recordings.accepts_block b lent te) = keeps_block w b lent set i te
keeps_call w v c set i (recordings.accepts_filemark te) = keeps_filemark w set i te
keeps_call w v c set i (recordings.closes te) = keeps_close w i te
keeps_call w v c set i (recordings.fetches lent frame te) = keeps_fetch w lent frame set i te
keeps_call w v c set i (recordings.replies r q te) = keeps_reply w r set i q te

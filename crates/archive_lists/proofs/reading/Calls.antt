-- Each call of a reading keeps its invariant. Assumes nothing.
use Prim.Native.Nat.{ℕ}
use mathlib.Core.Path.{◌≡◌, refl, sym, ap, subst, ◌∙◌}
use mathlib.Core.Bool.{Bool, true, false, not}
use mathlib.Core.List.{List}
use mathlib.Core.Option.{Option}
use native.Mathlib.Omega.{arith}
use borrow.Author.Tests.{eqb-true}
use lib.Dec.{eqb}
use lib.ListN.{length}
use Rattle.geometry.proofs.PickLaws.{pick_f}
use Rattle.geometry.proofs.TestLaws.{neither}
use Rattle.drive.specs.declared.reply.Reply.{Reply}
use Rattle.frame.specs.declared.header.Header.{Header}
use Rattle.reading_state.specs.Fetch as fetch
use Rattle.reading_state.specs.Reply as reply
use Rattle.reading_state.specs.declared.state.State.{State as Reading}
use Rattle.reading_state.proofs.Ended.{ended_fetch}
use Rattle.archive_lists.specs.Tape.{Tape}
use Rattle.archive_lists.specs.Recordings.{TakesEffect}
use Rattle.archive_lists.specs.Readings as readings
use Rattle.archive_lists.specs.Readings.{World, LentWith, with_session, Calls, Runs, fetch_number, reply_number, after_reply}
use Rattle.archive_lists.proofs.tape.Basics.{no_effect}
use Rattle.archive_lists.proofs.Refusals.{refused_calls}
use Rattle.archive_lists.proofs.reading.Facts.{ReadTape}
use Rattle.archive_lists.proofs.reading.Invariant.{Under, Agreed, served, ReadInv, under, over, halted}
use Rattle.archive_lists.proofs.reading.Serves.{none_answered, read_keeps_move}
use Rattle.archive_lists.proofs.reading.Fetches.{fetch_flight, fetch_end}
use Rattle.archive_lists.proofs.reading.Replies.{serve_so}

-- a lent frame of another length is refused with 1
short : (s : Reading) (r : Reply) (frame : List ℕ) → s.ended ≡ false → s.exchange.awaiting ≡ true → eqb (length frame) 33280 ≡ false → reply.reply_of s r frame ≡ reply.refusing s 1
unfolding reply.reply_of
short s r frame e a h = pick_f _ (neither _ _ e (ap not a)) ∙ pick_f _ h

right_length : (s : Reading) (r : Reply) (frame : List ℕ) → s.ended ≡ false → s.exchange.awaiting ≡ true → TakesEffect (readings.refusal s (readings.replying r frame)) → length frame ≡ 33280
right_length s r frame e a te = go (eqb (length frame) 33280) refl
  where
    go : (b : Bool) → eqb (length frame) 33280 ≡ b → length frame ≡ 33280
    go true h = eqb-true (length frame) 33280 h
    go false h = no_effect (omega arith) (omega arith) (subst (λ (x : reply.RepliedSaid). TakesEffect (reply_number x.said)) (short s r frame e a h) te)

module _ {told : Header} {t : Tape} (k : ReadTape told t) where
  reply_flight : (w : World) (r : Reply) (given : Option (List ℕ)) (frame : List ℕ) → w.notes.refused ≡ 0 → w.notes.end ≡ false → Under told t w.session w.notes.deliveries
      → Agreed told.last.0 t w.session w.at w.notes.replies (readings.answered r given) → LentWith given frame → TakesEffect (readings.refusal w.session (readings.replying r frame)) → ReadInv told t (after_reply w r frame)
  reply_flight w r given frame n m u (served r2 given2 a g v) lent te =
      serve_so k w u r frame a (right_length w.session r frame u.going_on a te) n m g w.session.exchange.command refl lent v

  pub read_keeps_call : (w v : World) (c : readings.Call) → ReadInv told t w → Calls w c v → ReadInv told t v
  read_keeps_call w v c i (readings.refuses _ l h) = subst (λ (s : Reading). ReadInv told t (with_session w s)) (sym ((refused_calls.reading w.session c).unchanged l h)) i
  read_keeps_call w v c (under n m u a) (readings.fetches te) = fetch_flight k w u n m refl a te
  read_keeps_call w v c (over n m f e a g q d b) (readings.fetches te) = fetch_end k w e a g f (over n m f e a g q d b)
  read_keeps_call w v c (halted m e q h) (readings.fetches te) =
      no_effect (omega arith) (omega arith) (subst (λ (x : fetch.FetchedSaid). TakesEffect (fetch_number x.said)) (ended_fetch w.session e) te)
  read_keeps_call w v c (under n m u a) (readings.replies r given frame q lent te) = reply_flight w r given frame n m u (subst (Agreed told.last.0 t w.session w.at w.notes.replies) q a) lent te
  read_keeps_call w v c (over n m f e a g q d b) (readings.replies r given frame q2 lent te) = none_answered (sym q ∙ q2)
  read_keeps_call w v c (halted m e q h) (readings.replies r given frame q2 lent te) = none_answered (sym q ∙ q2)

  -- so it holds after every list
  pub reads_keep : {w v : World} {cs : List readings.Call} → ReadInv told t w → Runs t w cs v → ReadInv told t v
  reads_keep i readings.stop = i
  reads_keep i (readings.call c rest) = reads_keep (read_keeps_call _ _ _ i c) rest
  reads_keep i (readings.drive m rest) = reads_keep (read_keeps_move _ _ i m) rest

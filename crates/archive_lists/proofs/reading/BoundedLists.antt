-- Every list of a reading's calls takes in at most as many replies as the bound says, whether it comes to an end or not. Assumes nothing.
use Prim.Native.Nat.{ℕ, ◌+◌, ◌≤◌}
use mathlib.Core.Path.{◌≡◌, sym, subst, ◌∙◌}
use mathlib.Core.List.{List}
use mathlib.Core.Option.{Option}
use native.Mathlib.Omega.{arith}
use lib.Dec.{eqb}
use Rattle.geometry.proofs.PickLaws.{pick_by}
use Rattle.drive.specs.Senses.{meaning_of, busy}
use Rattle.drive.specs.declared.command.Command.{Command}
use Rattle.drive.specs.declared.reply.Reply.{Reply}
use Rattle.frame.specs.declared.header.Header.{Header}
use Rattle.reading_state.specs.declared.state.State.{State as Reading}
use Rattle.archive_lists.specs.Tape.{Tape}
use Rattle.archive_lists.specs.Readings as readings
use Rattle.archive_lists.specs.Readings.{World}
use Rattle.archive_lists.specs.Faithful.{reply_bound}
use Rattle.archive_lists.proofs.tape.Closed.{user_within}
use Rattle.archive_lists.proofs.reading.Facts.{ReadTape}
use Rattle.archive_lists.proofs.reading.Bound.{few_ended}
use Rattle.archive_lists.proofs.reading.Serves.{none_answered, read_keeps_move}
use Rattle.archive_lists.proofs.reading.Fetches.{stands_within}
use Rattle.archive_lists.proofs.reading.Calls.{read_keeps_call}
use Rattle.archive_lists.proofs.reading.Invariant.{Ordered, locates, crosses, reads, Served, located, brought, missed, blank, no_more, waits, Agreed, served, ReadInv, under, over, halted}

-- a reply is awaited at an address of the tape, where there is room for one more
module _ {last : ℕ} {s : Reading} {replies : ℕ} (large : 3000 ≤ last) where
  pub ordered_low : {c : Command} → Ordered last s replies c → s.position.next.0 ≤ last
  ordered_low (locates _ _ h _ _) = stands_within large h
  ordered_low (crosses _ _ e _ _) = omega (arith, e)
  ordered_low (reads _ _ u _ _) = user_within last s.position.next.0 large u

  ordered_few : {c : Command} → Ordered last s replies c → replies + 1 ≤ reply_bound last
  ordered_few (locates a p h q few) = let x = few_ended large (ordered_low (locates a p h q few)) few in omega arith
  ordered_few (crosses a p h q few) = few_ended large (ordered_low (crosses a p h q few)) few
  ordered_few (reads a p h q few) = few_ended large (ordered_low (reads a p h q few)) few

  served_few : {t : Tape} {at : ℕ} {r : Reply} {given : Option (List ℕ)} {c : Command} → Served last t s at replies r given c → replies + 1 ≤ reply_bound last
  served_few (located b m p o) = ordered_few o
  served_few (brought b read m e p o) = ordered_few o
  served_few (missed b m e p o) = ordered_few o
  served_few (blank b m e o) = ordered_few o
  served_few (no_more b m e o) = ordered_few o
  served_few (waits c m o st) = ordered_few o

  answered_few : {t : Tape} {at : ℕ} {r : Reply} {given : Option (List ℕ)} → Agreed last t s at replies (readings.answered r given) → replies + 1 ≤ reply_bound last
  answered_few (served _ _ _ _ v) = served_few v

module _ {told : Header} {t : Tape} (k : ReadTape told t) where
  abbrev Few : World → Type 0
  Few w = w.notes.replies ≤ reply_bound told.last.0

  one_more : (w : World) (r : Reply) (given : Option (List ℕ)) → w.flight ≡ readings.answered r given → ReadInv told t w → w.notes.replies + 1 ≤ reply_bound told.last.0
  one_more w r given q (under n m u a) = answered_few k.large (subst (Agreed told.last.0 t w.session w.at w.notes.replies) q a)
  one_more w r given q (over _ _ _ _ _ _ z _ _) = none_answered (sym z ∙ q)
  one_more w r given q (halted _ _ z _) = none_answered (sym z ∙ q)

  call_few : {w v : World} {c : readings.Call} → ReadInv told t w → readings.Calls w c v → Few w → Few v
  call_few i (readings.refuses c l h) few = few
  call_few i (readings.fetches te) few = few
  call_few {w} i (readings.replies r given lent q along te) few =
      pick_by (λ (m : ℕ). m ≤ reply_bound told.last.0) (eqb (meaning_of r.key r.asc r.ascq) busy) (λ _. few) (λ _. one_more w r given q i)

  move_few : {w v : World} → readings.Moves t w v → Few w → Few v
  move_few (readings.serves c r given at q x) few = few

  pub runs_few : {w v : World} {cs : List readings.Call} → ReadInv told t w → Few w → readings.Runs t w cs v → Few v
  runs_few i few readings.stop = few
  runs_few i few (readings.call c rest) = runs_few (read_keeps_call k _ _ _ i c) (call_few i c few) rest
  runs_few i few (readings.drive m rest) = runs_few (read_keeps_move _ _ i m) (move_few m few) rest

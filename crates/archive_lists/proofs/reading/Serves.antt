-- A reading starts, and the drive serves its commands. Assumes nothing.
use Prim.Native.Nat.{ℕ, ◌+◌}
use mathlib.Core.Path.{◌≡◌, refl, sym, ap, subst, ◌∙◌}
use mathlib.Core.List.{List}
use mathlib.Core.Logic.{inl}
use mathlib.Core.Option.{Option}
use native.Mathlib.Omega.{arith}
use Rattle.geometry.proofs.Impossible.{never}
use Rattle.geometry.proofs.UserFrames.{ranges_user}
use Rattle.drive.specs.declared.command.Command.{Command}
use Rattle.drive.specs.declared.command.Command.TheVariants.{Locate}
use Rattle.drive.specs.declared.reply.Reply.{Reply}
use Rattle.frame.specs.declared.header.Header.{Header}
use Rattle.reading_state.specs.Open as reading
use Rattle.reading_state.specs.declared.state.State.{State as Reading}
use Rattle.archive_lists.specs.Tape.{Tape}
use Rattle.archive_lists.specs.Conduct as conduct
use Rattle.archive_lists.specs.Conduct.{Serves}
use Rattle.archive_lists.specs.Readings as readings
use Rattle.archive_lists.specs.Readings.{World, Flight, Moves}
use Rattle.archive_lists.proofs.reading.Bound.{front}
use Rattle.archive_lists.proofs.reading.Facts.{ReadTape, fold_begins}
use Rattle.archive_lists.proofs.reading.Invariant.{Ordered, Stood, Served, located, brought, missed, blank, no_more, waits, Agreed, to_seek, under_way, served, ReadInv, under, over, halted}

-- ---- flights that differ

pub none_sent : {X : Type 0} {c : Command} → ◌≡◌ {A = Flight} readings.no_command (readings.sent c) → X
none_sent e = never (cc)

pub none_answered : {X : Type 0} {r : Reply} {f : Option (List ℕ)} → ◌≡◌ {A = Flight} readings.no_command (readings.answered r f) → X
none_answered e = never (cc)

module _ {last : ℕ} {t : Tape} where
  serves_so : {s : Reading} {at next replies : ℕ} {c : Command} {r : Reply} {given : Option (List ℕ)} → Ordered (last) s replies c → Stood s at c → Serves t at c r given next → Served (last) t s next replies r given c
  serves_so o st (conduct.locates a r g) = located a g refl o
  serves_so o st (conduct.brings a r frame g e) = brought a frame g (rw st at e) (ap (λ (n : ℕ). n + 1) st) o
  serves_so o st (conduct.misses a r g e) = missed a g (rw st at e) (ap (λ (n : ℕ). n + 1) st) o
  serves_so o st (conduct.blanks a r next g e) = blank a g (rw st at e) o
  serves_so o st (conduct.ends a r next g e) = no_more a g (rw st at e) o
  serves_so o st (conduct.waits c r g) = waits c g o st
  serves_so o st (conduct.waits_located a r g) = waits (Locate a) g o tt

  agreed_serves : {s : Reading} {at next replies : ℕ} {c : Command} {r : Reply} {given : Option (List ℕ)} → Agreed (last) t s at replies (readings.sent c) → Serves t at c r given next → Agreed (last) t s next replies (readings.answered r given)
  agreed_serves {s} {next = next} {replies} {r = r} {given} (under_way c a g e o st) v =
      served r given a g (subst (λ x. Served (last) t s next replies r given x) (sym e) (serves_so o st v))

module _ {told : Header} {t : Tape} where
  pub read_begins : ReadTape told t → (at : ℕ) → ReadInv told t (readings.started (reading.fresh told) at)
  read_begins k at =
      under refl refl (record { told_is = refl; going_on = refl; unfinished = refl; so_far = fold_begins k })
      (to_seek refl refl (inl (inl (ranges_user told.last.0 10 (inl (omega arith, omega arith))))) refl (front (omega arith) (omega arith)))

  pub read_keeps_move : (w v : World) → ReadInv told t w → Moves t w v → ReadInv told t v
  read_keeps_move w v (under n m u a) (readings.serves c r given at q x) =
      under n m u (agreed_serves (subst (Agreed told.last.0 t w.session w.at w.notes.replies) q a) x)
  read_keeps_move w v (over n m f e a g q d b) (readings.serves c r given at q2 x) = none_sent (sym q ∙ q2)
  read_keeps_move w v (halted m e q h) (readings.serves c r given at q2 x) = none_sent (sym q ∙ q2)

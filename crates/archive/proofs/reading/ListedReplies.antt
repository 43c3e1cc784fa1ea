-- At every point of a reading's list where a command is with the drive, a reply to it is refused with 8 if and only if it is not listed. Assumes nothing.
use Prim.Native.Nat.{ℕ}
use mathlib.Core.Path.{◌≡◌, sym, ap, subst, ◌∙◌}
use mathlib.Core.List.{List}
use native.Mathlib.Omega.{arith}
use lib.ListN.{length}
use Rattle.geometry.proofs.NumberTests.{is_unless}
use Rattle.drive.specs.Command.{command_code}
use Rattle.drive.specs.declared.command.Command.{Command}
use Rattle.drive.specs.declared.reply.Reply.{Reply}
use Rattle.frame.specs.declared.header.Header.{Header}
use Rattle.reading_state.specs.Reply as reply
use Rattle.reading_state.specs.declared.state.State.{State as Reading}
use Rattle.reading_state.proofs.ReplyView.{TakenIn}
use Rattle.reading_state.proofs.ListedReplies.{taken_listed, listed_taken}
use Rattle.archive_lists.specs.Tape.{Tape}
use Rattle.archive_lists.specs.Readings as readings
use Rattle.archive_lists.specs.Readings.{World, refusal, reply_number}
use Rattle.archive.specs.Exchanges.{ListedFor, ReadingRefuses}
use Rattle.archive_lists.proofs.reading.Serves.{none_sent}
use Rattle.archive_lists.proofs.reading.Invariant.{Under, Ordered, locates, crosses, reads, Agreed, under_way, ReadInv, under, over, halted}

-- what a reading has sent, and awaits the reply to
record Issued (s : Reading) (lent : List ℕ) (c : Command) : Type 0 where
  takes : TakenIn s lent
  is : s.exchange.command ≡ c
  no_write : command_code c ≡ 0x0A → ⊥
  no_position : command_code c ≡ 0x34 → ⊥

ordered_code : {last replies : ℕ} {s : Reading} {c : Command} (code : ℕ) → (code ≡ 0x08 → ⊥) → (code ≡ 0x2B → ⊥) → Ordered last s replies c → command_code c ≡ code → ⊥
ordered_code code no_read no_locate (locates a _ _ _ _) e = no_locate (sym e)
ordered_code code no_read no_locate (crosses a _ _ _ _) e = no_locate (sym e)
ordered_code code no_read no_locate (reads a _ _ _ _) e = no_read (sym e)

number_8 : (d : reply.DeliverySaid) → reply_number d ≡ 8 → d ≡ reply.refused 8
number_8 reply.nothing e = absurd (omega arith)
number_8 reply.block e = absurd (omega arith)
number_8 reply.filemark e = absurd (omega arith)
number_8 reply.end e = absurd (omega arith)
number_8 (reply.refused n) e = ap reply.refused e

module _ {told : Header} {t : Tape} (w : World) (c : Command) (lent : List ℕ) (q : w.flight ≡ readings.sent c) (long : length lent ≡ 33280) where
  agreed_issued : Under told t w.session w.notes.deliveries → Agreed told.last.0 t w.session w.at w.notes.replies (readings.sent c) → Issued w.session lent c
  agreed_issued u (under_way _ a g e o st) = record {
    takes = record { phase = record { running = u.going_on; awaited = a }; long = long };
    is = e;
    no_write = ordered_code 0x0A (λ x. omega arith) (λ x. omega arith) o;
    no_position = ordered_code 0x34 (λ x. omega arith) (λ x. omega arith) o;
  }

  issued : ReadInv told t w → Issued w.session lent c
  issued (under n m u a) = agreed_issued u (subst (Agreed told.last.0 t w.session w.at w.notes.replies) q a)
  issued (over _ _ _ _ _ _ none _ _) = none_sent (sym none ∙ q)
  issued (halted _ _ none _) = none_sent (sym none ∙ q)

  pub reading_refuses : ReadInv told t w → (r : Reply) → ReadingRefuses w.session c r lent
  reading_refuses i r =
      let s = w.session in
      let x = issued i in
      record {
        unlisted = is_unless (refusal s (readings.replying r lent)) 8 (λ h. subst (λ (k : Command). ListedFor k r) x.is (taken_listed s r lent x.takes (λ e. h (ap reply_number e))));
        no_other = λ listed e.
            listed_taken s r lent x.takes (λ z. x.no_write (sym (ap command_code x.is) ∙ z)) (λ z. x.no_position (sym (ap command_code x.is) ∙ z))
            (subst (λ (k : Command). ListedFor k r) (sym x.is) listed) (number_8 (reply.reply_of s r lent).said e);
      }

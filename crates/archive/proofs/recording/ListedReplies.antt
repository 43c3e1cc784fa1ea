-- At every point of a recording's list where a command is with the drive, a reply to it is refused with 8 if and only if it is not listed,
-- or brings a number that can't be. Assumes nothing.
use Prim.Native.Nat.{ℕ}
use mathlib.Core.Path.{◌≡◌, sym, subst}
use mathlib.Core.List.{List}
use Rattle.drive.specs.declared.command.Command.{Command}
use Rattle.drive.specs.declared.reply.Reply.{Reply}
use Rattle.recording_state.specs.Lawful.{Lawful}
use Rattle.recording_state.proofs.ListedReplies.{unlisted_refused, listed_taken}
use Rattle.recording_state.proofs.LawfulReplies.{unlawful_refused}
use Rattle.archive_lists.specs.Recordings as recordings
use Rattle.archive_lists.specs.Recordings.{World, refusal}
use Rattle.archive.specs.Exchanges.{ListedFor}
use Rattle.archive_lists.proofs.recording.Trailing.{Prior}
use Rattle.archive_lists.proofs.recording.Invariant.{Inv}
use Rattle.archive_lists.proofs.recording.Issued.{issued}

module _ {last pass : ℕ} {on_newest none_bears : Type 0} {prior : Prior} (w : World) (c : Command) (f : List ℕ) (q : w.flight ≡ recordings.sent c f) (i : Inv last pass on_newest none_bears prior w) (r : Reply) where
  pub unlisted_8 : (ListedFor c r → ⊥) → refusal w.session (recordings.reply r) ≡ 8
  unlisted_8 h =
      let x = issued w c f q i in
      unlisted_refused w.session r x.going x.awaits x.off_headers (λ y. h (subst (λ (k : Command). ListedFor k r) x.is y))

  pub unlawful_8 : (Lawful w.session c r → ⊥) → refusal w.session (recordings.reply r) ≡ 8
  unlawful_8 h = let x = issued w c f q i in unlawful_refused w.session r x.going x.awaits (λ y. h (subst (λ (k : Command). Lawful w.session k r) x.is y))

  pub listed_not_8 : Lawful w.session c r → ListedFor c r → refusal w.session (recordings.reply r) ≡ 8 → ⊥
  listed_not_8 p h =
      let x = issued w c f q i in
      listed_taken w.session r x.stage x.no_read x.on_headers (subst (λ (k : Command). Lawful w.session k r) (sym x.is) p)
      (subst (λ (k : Command). ListedFor k r) (sym x.is) h)

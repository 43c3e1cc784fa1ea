-- What a recording awaits the reply to while a command is with the drive. Assumes nothing.
use Prim.Native.Nat.{ℕ}
use mathlib.Core.Path.{◌≡◌, sym, subst, ◌∙◌}
use mathlib.Core.Bool.{true, false}
use mathlib.Core.List.{List}
use mathlib.Core.Logic.{◌⊎◌, inl, inr}
use lib.ListN.{length}
use Rattle.geometry.specs.Cartridge.{is_header}
use Rattle.geometry.specs.declared.address.Address.{Address}
use Rattle.geometry.proofs.Impossible.{never}
use Rattle.drive.specs.Listed.{Listed}
use Rattle.drive.specs.Senses.{meaning_of}
use Rattle.drive.specs.declared.command.Command.{Command}
use Rattle.drive.specs.declared.command.Command.TheVariants.{Read, Write}
use Rattle.drive.specs.declared.reply.Reply.{Reply}
use Rattle.copies.specs.declared.copies.Copies.{Copies}
use Rattle.recording_state.specs.declared.state.State.{State}
use Rattle.recording_state.proofs.Kept.{Held, held_of}
use Rattle.recording_state.proofs.ListedReplies.{OffHeaders, OnHeaders}
use Rattle.recording_state.proofs.Stages.{HeaderStage, ElementStage, header_not_element}
use Rattle.archive_lists.specs.Conduct.{Drive}
use Rattle.archive_lists.specs.Recordings as recordings
use Rattle.archive_lists.specs.Recordings.{World, with_drive}
use Rattle.archive_lists.proofs.tape.Basics.{none_sent, none_answered, answered_sent, answered_same}
use Rattle.archive_lists.proofs.recording.Trailing.{Prior}
use Rattle.archive_lists.proofs.recording.CopiesLink as copies
use Rattle.archive_lists.proofs.recording.CopiesLink.{CopyAsks, Copying}
use Rattle.archive_lists.proofs.recording.CopiesMoves.{next_header}
use Rattle.archive_lists.proofs.recording.ElementsLink as elements
use Rattle.archive_lists.proofs.recording.ElementsLink.{Asks, Writing}
use Rattle.archive_lists.proofs.recording.ElementsMoves.{asks_off_header}
use Rattle.archive_lists.proofs.recording.Invariant as invariant
use Rattle.archive_lists.proofs.recording.Invariant.{Course, Live, Inv, live, rejecting, spent, over}

-- what a session has sent, and awaits the reply to
pub record Issued (s : State) (c : Command) : Type 0 where
  pub going : s.ended ≡ false
  pub awaits : s.exchange.awaiting ≡ true
  pub is : s.exchange.command ≡ c
  pub stage : HeaderStage s ⊎ ElementStage s
  pub no_read : (a : Address) → s.exchange.command ≡ Read a → ⊥
  pub on_headers : OnHeaders s
  pub off_headers : OffHeaders s

copies_asked : {c : Copies} {d : Drive} {k : Command} → CopyAsks c d k → (a : Address) → k ≡ Write a → is_header a.0 ≡ true
copies_asked {c} (copies.writes b p left l) a e = let same : b ≡ a = cc in subst (λ (x : Address). is_header x.0 ≡ true) same (subst (λ (x : ℕ). is_header x ≡ true) (sym p) (next_header c left))
copies_asked (copies.asks l) a e = never (cc)
copies_asked (copies.seeks b p s) a e = never (cc)

copies_read : {c : Copies} {d : Drive} {k : Command} → CopyAsks c d k → (a : Address) → k ≡ Read a → ⊥
copies_read (copies.writes b p left l) a e = never (cc)
copies_read (copies.asks l) a e = never (cc)
copies_read (copies.seeks b p s) a e = never (cc)

elements_read : {last : ℕ} {h : Held} {pending : ℕ} {d : Drive} {k edge : ℕ} {c : Command} → Asks last h pending d k edge c → (a : Address) → c ≡ Read a → ⊥
elements_read (elements.writes b p due off low l) a e = never (cc)
elements_read (elements.asks l) a e = never (cc)
elements_read (elements.moves b _ m) a e = never (cc)

module _ (w : World) (c : Command) (f : List ℕ) where
  header_issued : w.session.ended ≡ false → HeaderStage w.session → Copying w.session w.drive (recordings.sent c f) → Issued w.session c
  header_issued going st (copies.under_way _ _ awaits _ is _ asked) = record {
    going = going;
    awaits = awaits;
    is = is;
    stage = inl st;
    no_read = λ a e. copies_read asked a (sym is ∙ e);
    on_headers = λ _ a e. copies_asked asked a (sym is ∙ e);
    off_headers = λ el. header_not_element w.session st el;
  }

  element_issued : {last k edge : ℕ} → w.session.ended ≡ false → ElementStage w.session → Writing last w.session w.drive k edge (recordings.sent c f) → Issued w.session c
  element_issued {last} {k} {edge} going st (elements.under_way _ _ awaits _ is asked) = record {
    going = going;
    awaits = awaits;
    is = is;
    stage = inr st;
    no_read = λ a e. elements_read asked a (sym is ∙ e);
    on_headers = λ h. header_not_element w.session h st;
    off_headers = λ _ a e. asks_off_header (subst (λ (x : Command). Asks last (held_of w.session) w.session.elements.queue.pending w.drive k edge x) (sym is ∙ e) asked);
  }

module _ {last pass : ℕ} {on_newest none_bears : Type 0} {prior : Prior} (w : World) (c : Command) (f : List ℕ) (q : w.flight ≡ recordings.sent c f) where
  live_issued : (l : Live last pass on_newest none_bears prior w) → Course last (length l.list) w l.k l.edge → Issued w.session c
  live_issued l (invariant.opening st _ _ agree) = header_issued w c f l.going (inl st) (subst (Copying w.session w.drive) q agree.copying)
  live_issued l (invariant.writing st _ a) = element_issued w c f l.going st (subst (Writing last w.session w.drive l.k l.edge) q a)
  live_issued l (invariant.closing st _ _ _ _ agree) = header_issued w c f l.going (inr st) (subst (Copying w.session w.drive) q agree.copying)
  live_issued l (invariant.finished _ _ _ _ _ none _ _ _ _) = none_sent (sym none ∙ q)

  pub issued : Inv last pass on_newest none_bears prior w → Issued w.session c
  issued (live _ l) = live_issued l l.course
  issued (rejecting _ d) = answered_sent (sym d.replied ∙ q)
  issued (spent _ x) = none_sent (sym x.none ∙ q)
  issued (over _ o) = none_sent (sym o.none ∙ q)

  -- behind a listed reply the session lives
  module _ (i : Inv last pass on_newest none_bears prior w) (r : Reply) (listed : Listed c (meaning_of r.key r.asc r.ascq)) (d : Drive) where
    pub listed_live : Inv last pass on_newest none_bears prior (with_drive w d (recordings.answered r)) → Live last pass on_newest none_bears prior (with_drive w d (recordings.answered r))
    listed_live (live _ l) = l
    listed_live (rejecting _ x) =
        let same : r ≡ x.reply = answered_same x.replied in
        absurd (x.unlisted (subst (λ (y : Reply). Listed w.session.exchange.command (meaning_of y.key y.asc y.ascq)) same (subst (λ (y : Command). Listed y (meaning_of r.key r.asc r.ascq)) (sym (issued i).is) listed)))
    listed_live (spent _ x) = none_answered (sym x.none)
    listed_live (over _ x) = none_answered (sym x.none)

-- What every list of a reading's calls gives on a tape whose fold is on its way to some elements, whether it comes to an end or not. Assumes nothing.
use Prim.Native.Nat.{ℕ, ◌+◌, ◌-◌, ◌≤◌, ◌<◌}
use mathlib.Core.Path.{◌≡◌, refl, sym, ap, subst, ◌∙◌}
use mathlib.Core.Bool.{true, false}
use mathlib.Core.List.{List}
use mathlib.Core.Logic.{◌⊎◌, inl, inr}
use mathlib.Core.Option.{Option, some}
use native.Mathlib.Decide.{dec_le}
use native.Mathlib.Omega.{arith}
use lib.ListN.{length, take}
use lib.Seq.{take-length}
use Rattle.geometry.proofs.Impossible.{clash}
use Rattle.drive.specs.Listed.{Means}
use Rattle.drive.specs.Senses.{busy}
use Rattle.drive.specs.declared.command.Command.{Command}
use Rattle.drive.specs.declared.reply.Reply.{Reply}
use Rattle.judgement.specs.Judgement as judgement
use Rattle.judgement.specs.Judgement.{JudgementSaid, judge_frame}
use Rattle.frame.specs.declared.header.Header.{Header}
use Rattle.reading_state.specs.Fetch as fetch
use Rattle.reading_state.specs.Reply as reply
use Rattle.reading_state.specs.declared.state.State.{State as Reading}
use Rattle.reading_state.proofs.Ended.{end_again}
use Rattle.archive_lists.specs.Tape.{Tape}
use Rattle.archive_lists.specs.Recordings.{Element}
use Rattle.archive_lists.specs.Readings as readings
use Rattle.archive_lists.specs.Readings.{World, Flight, LentWith, fetch_number, reply_number}
use Rattle.archive_lists.specs.Faithful.{GivesCommand}
use Rattle.archive_lists.specs.Fold.{finished, advance, fold_of, whole_of}
use Rattle.archive_lists.proofs.reading.BoundedLists.{ordered_low}
use Rattle.archive_lists.proofs.reading.Facts.{Fits, fold_back, ReadTape, going_finished, fold_above, fold_blank}
use Rattle.archive_lists.proofs.reading.Serves.{none_answered}
use Rattle.archive_lists.proofs.reading.Fetches.{fetch_awaited, command_given, past_last}
use Rattle.archive_lists.proofs.reading.Replies.{lent_same, answers, frame_read, replied_frame}
use Rattle.archive_lists.proofs.reading.Invariant as invariant
use Rattle.archive_lists.proofs.reading.Invariant.{Under, Ordered, locates, crosses, reads, Served, located, brought, missed, blank, no_more, waits, Agreed, to_seek, to_read, again, under_way, served, ReadInv, under, over, halted}

-- the fold does not end
abbrev pub NoEnd : Header → Tape → Type 0
NoEnd told t = (xs : List Element) (e : ℕ) → whole_of told t ≡ finished xs e → ⊥

-- a refusal's number, 0 for none: of 8 and above only 12 comes, and only where there is no end
abbrev pub Only12 : Header → Tape → ℕ → Type 0
Only12 told t n = (n ≡ 0) ⊎ ((n ≡ 12) × NoEnd told t)

pub record Steady (told : Header) (t : Tape) (ys : List Element) (w : World) : Type 0 where
  pub count : ℕ
  pub in_order : w.notes.deliveries ≡ take count ys
  pub only_12 : Only12 told t w.notes.refused
  pub goes_on : w.notes.end ≡ false → w.notes.refused ≡ 0 → w.flight ≡ readings.no_command
      → GivesCommand (fetch.fetch_of w.session).said ⊎ (((fetch.fetch_of w.session).said ≡ fetch.refused 12) × NoEnd told t)
  pub taken_in : (r : Reply) (given : Option (List ℕ)) (lent : List ℕ) → w.flight ≡ readings.answered r given → LentWith given lent → length lent ≡ 33280
      → Only12 told t (readings.refusal w.session (readings.replying r lent))
  pub full : (r : Reply) (frame : List ℕ) → w.flight ≡ readings.answered r (some frame) → length frame ≡ 33280
  pub alone : (w.flight ≡ readings.no_command → ⊥) → readings.refusal w.session readings.fetching ≡ 7
  pub says_again : w.notes.end ≡ true → (fetch.fetch_of w.session).said ≡ fetch.end

module _ {told : Header} {t : Tape} (k : ReadTape told t) (ys : List Element) (all : Fits ys (whole_of told t)) where
  fits_at : (a : ℕ) → Fits ys (fold_of told t a)
  fits_at a = go (dec_le a (told.last.0 + 1))
    where
      go : Dec (a ≤ told.last.0 + 1) → Fits ys (fold_of told t a)
      go (yes l) =
          let d : told.last.0 + 1 ≡ told.last.0 + 1 - a + a = omega arith in
          fold_back told t ys a (told.last.0 + 1 - a) (subst (λ (i : ℕ). Fits ys (fold_of told t i)) d all)
      go (no l) = subst (Fits ys) (sym (fold_above k a (omega arith))) all

  -- ---- a reply is taken in

  module _ (w : World) (u : Under told t w.session w.notes.deliveries) (r : Reply) (frame : List ℕ) (a : w.session.exchange.awaiting ≡ true) (long : length frame ≡ 33280) where
    abbrev Fine : ℕ → Type 0
    Fine n = Only12 told t n

    fine_by : {y : reply.RepliedSaid} → reply.reply_of w.session r frame ≡ y → Fine (reply_number y.said) → Fine (reply_number (reply.reply_of w.session r frame).said)
    fine_by e z = subst (λ (y : reply.RepliedSaid). Fine (reply_number y.said)) (sym e) z

    judged_fine : (j : JudgementSaid) → Fits ys (advance j frame w.session.position.next.0 w.session.expected.0 w.notes.deliveries w.session.trail) → Fine (reply_number (reply.judged_by j w.session).said)
    judged_fine judgement.passed_over h = inl refl
    judged_fine (judgement.refused m) h = absurd h
    judged_fine judgement.block h = inl refl
    judged_fine judgement.filemark h = inl refl
    judged_fine judgement.end h = inl refl

    busy_fine : {c : Command} → w.session.exchange.command ≡ c → Means r busy → Ordered told.last.0 w.session w.notes.replies c → Fine (reply_number (reply.reply_of w.session r frame).said)
    unfolding reply.reply_by
    busy_fine e means (locates b p h l few) = fine_by (answers k w u r frame a long e means) (inl refl)
    busy_fine e means (crosses b p q l few) = fine_by (answers k w u r frame a long e means) (inl refl)
    busy_fine e means (reads b p q l few) = fine_by (answers k w u r frame a long e means) (inl refl)

    served_fine : {given : Option (List ℕ)} (c : Command) → w.session.exchange.command ≡ c → LentWith given frame → Served told.last.0 t w.session w.at w.notes.replies r given c → Fine (reply_number (reply.reply_of w.session r frame).said)
    unfolding reply.reply_by
    served_fine c e lent (located b means at o) = fine_by (answers k w u r frame a long e means) (inl refl)
    served_fine c e lent (brought b read means there at (reads _ p q l few)) =
        lent_same lent (λ same.
        fine_by (replied_frame k w u r frame a long b e p q means)
        (judged_fine (judge_frame told w.session.position.next w.session.expected frame)
        (subst (Fits ys) (frame_read k w u r frame a long b e p q (there ∙ ap some same)) (fits_at (w.session.position.next.0 + 1)))))
    served_fine c e lent (missed b means there at o) = fine_by (answers k w u r frame a long e means) (inl refl)
    served_fine c e lent (blank b means none_there o) = fine_by (answers k w u r frame a long e means) (inl refl)
    served_fine c e lent (no_more b means none_there o) =
        fine_by (answers k w u r frame a long e means) (inr (refl, λ xs at z. going_finished (sym u.so_far ∙ sym (fold_blank k w.session.position.next.0 (ordered_low k.large o) none_there) ∙ z)))
    served_fine c e lent (waits c2 means o st) = busy_fine e means o

  reply_fine : (w : World) (r : Reply) (given : Option (List ℕ)) (frame : List ℕ) → Under told t w.session w.notes.deliveries
      → Agreed told.last.0 t w.session w.at w.notes.replies (readings.answered r given) → LentWith given frame → length frame ≡ 33280 → Only12 told t (readings.refusal w.session (readings.replying r frame))
  reply_fine w r given frame u (served r2 given2 a g v) lent long = served_fine w u r frame a long w.session.exchange.command refl lent v

  -- a frame that the drive gave is the cartridge's
  given_long : {s : Reading} {at replies : ℕ} {r : Reply} {frame : List ℕ} {c : Command} → Served told.last.0 t s at replies r (some frame) c → length frame ≡ 33280
  given_long {s} (brought a frame m e p o) = k.cartridge.long s.position.next.0 frame e

  agreed_long : {s : Reading} {at replies : ℕ} {r : Reply} {frame : List ℕ} → Agreed told.last.0 t s at replies (readings.answered r (some frame)) → length frame ≡ 33280
  agreed_long (served r given a g v) = given_long v

  -- ---- no second command before the reply

  agreed_awaits : {s : Reading} {at replies : ℕ} {g : Flight} → Agreed told.last.0 t s at replies g → (g ≡ readings.no_command → ⊥) → s.exchange.awaiting ≡ true
  agreed_awaits (to_seek _ _ _ _ _) h = absurd (h refl)
  agreed_awaits (to_read _ _ _ _ _ _) h = absurd (h refl)
  agreed_awaits (again _ _ _ _) h = absurd (h refl)
  agreed_awaits (under_way _ a _ _ _ _) h = a
  agreed_awaits (served _ _ a _ _) h = a

  -- ---- and a fetch gives a command, as long as there is tape

  module _ (w : World) (u : Under told t w.session w.notes.deliveries) where
    abbrev Fetched : Type 0
    Fetched = GivesCommand (fetch.fetch_of w.session).said ⊎ (((fetch.fetch_of w.session).said ≡ fetch.refused 12) × NoEnd told t)

    past : told.last.0 < w.session.position.next.0 → w.session.exchange.awaiting ≡ false → w.session.exchange.again ≡ false → Fetched
    past l a g = inr (ap (λ (y : fetch.FetchedSaid). y.said) (past_last k w u a g l), λ xs at z. going_finished (sym u.so_far ∙ fold_above k w.session.position.next.0 l ∙ z))

    past_by : told.last.0 < w.session.position.next.0 → Agreed told.last.0 t w.session w.at w.notes.replies readings.no_command → Fetched
    past_by l (to_seek a g _ _ _) = past l a g
    past_by l (to_read a g _ _ _ _) = past l a g
    past_by l (again a g o st) = let low = ordered_low k.large o in absurd (omega arith)

    fetched : Agreed told.last.0 t w.session w.at w.notes.replies readings.no_command → Dec (w.session.position.next.0 ≤ told.last.0) → Fetched
    fetched ag (yes l) = inl (command_given k w u l ag)
    fetched ag (no l) = past_by (omega arith) ag

  -- ---- the whole

  pub steady : (w : World) → ReadInv told t w → Steady told t ys w
  steady w (under n m u a) = record {
    count = w.session.expected.0;
    in_order = (subst (Fits ys) u.so_far (fits_at w.session.position.next.0)).0;
    only_12 = inl n;
    goes_on = λ _ _ q. fetched w u (subst (Agreed told.last.0 t w.session w.at w.notes.replies) q a) (dec_le w.session.position.next.0 told.last.0);
    taken_in = λ r given lent q along long. reply_fine w r given lent u (subst (Agreed told.last.0 t w.session w.at w.notes.replies) q a) along long;
    full = λ r frame q. agreed_long (subst (Agreed told.last.0 t w.session w.at w.notes.replies) q a);
    alone = λ flying. ap (λ (x : fetch.FetchedSaid). fetch_number x.said) (fetch_awaited w.session (agreed_awaits a flying));
    says_again = λ g. clash g m;
  }
  steady w (over n m f e a g q d b) = record {
    count = length ys;
    in_order = subst (Fits ys) d.whole all ∙ sym (take-length ys);
    only_12 = inl n;
    goes_on = λ g _ _. clash m g;
    taken_in = λ r given lent q2 _ _. none_answered (sym q ∙ q2);
    full = λ r frame q2. none_answered (sym q ∙ q2);
    alone = λ flying. absurd (flying q);
    says_again = λ _. ap (λ (x : fetch.FetchedSaid). x.said) (end_again w.session e a g f);
  }
  steady w (halted m e q (invariant.stops n d)) = absurd (subst (Fits ys) d all)
  steady w (halted m e q (invariant.finds_no_end n d)) = record {
    count = w.session.expected.0;
    in_order = (subst (Fits ys) d all).0;
    only_12 = inr (n, λ xs at z. going_finished (sym d ∙ z));
    goes_on = λ _ z _. let y : ◌≡◌ {A = ℕ} 12 0 = sym n ∙ z in absurd (omega arith);
    taken_in = λ r given lent q2 _ _. none_answered (sym q ∙ q2);
    full = λ r frame q2. none_answered (sym q ∙ q2);
    alone = λ flying. absurd (flying q);
    says_again = λ z. clash z m;
  }

-- A fetch keeps the invariant: it gives a command, or refuses with 12 where the next address is above LAST. Assumes nothing.
use Prim.Native.Nat.{ℕ, ◌≤◌, ◌<◌}
use mathlib.Core.Path.{◌≡◌, refl, sym, ap, subst, ◌∙◌}
use mathlib.Core.Bool.{true, false}
use mathlib.Core.Logic.{◌⊎◌, inl, inr, ⊎_elim}
use native.Mathlib.Decide.{ℕ_discrete}
use native.Mathlib.Omega.{arith}
use borrow.Author.Tests.{lt-ltb, le-ltb, ne_eqb, eq-eqb}
use lib.Dec.{eqb}
use Rattle.geometry.specs.Place.{as_address}
use Rattle.geometry.proofs.PickLaws.{pick_t, pick_f, pick_by}
use Rattle.geometry.proofs.TestLaws.{neither, either_right}
use Rattle.geometry.proofs.UserFrames.{user_ranges, Stand}
use Rattle.drive.specs.Command.{CommandSaid, command_code, command_for, read, locate}
use Rattle.drive.specs.declared.command.Command.{Command}
use Rattle.drive.specs.declared.command.Command.TheVariants.{Read, Write, Locate, ReadPosition}
use Rattle.drive.proofs.CaseLaws.{command_by_lem}
use Rattle.frame.specs.declared.header.Header.{Header}
use Rattle.reading_state.specs.Fetch as fetch
use Rattle.reading_state.specs.declared.state.State.{State as Reading}
use Rattle.reading_state.specs.State.{ended_of}
use Rattle.reading_state.proofs.Ended.{end_again}
use Rattle.archive_lists.specs.Tape.{Tape}
use Rattle.archive_lists.specs.Recordings.{TakesEffect}
use Rattle.archive_lists.specs.Readings as readings
use Rattle.archive_lists.specs.Readings.{World, Flight, fetch_number, after_fetching, after_fetch}
use Rattle.archive_lists.specs.Faithful.{GivesCommand}
use Rattle.archive_lists.proofs.tape.Basics.{no_effect}
use Rattle.archive_lists.proofs.reading.Facts.{ReadTape, fold_above}
use Rattle.archive_lists.proofs.reading.Invariant.{Under, Ordered, locates, crosses, reads, Stood, Agreed, to_seek, to_read, again, under_way, served, finds_no_end, ReadInv, under, halted}

pub stands_within : {last a : ℕ} → 3000 ≤ last → Stand last a → a ≤ last
stands_within {last} {a} large (inl u) = ⊎_elim (λ h. let x = h.1 in omega arith) (λ h. h.1) (user_ranges last a u)
stands_within large (inr e) = omega arith

-- no second command before the reply
pub fetch_awaited : (s : Reading) → s.exchange.awaiting ≡ true → fetch.fetch_of s ≡ record { session = s; said = fetch.refused 7 }
unfolding fetch.fetch_of
fetch_awaited s a = pick_t _ (either_right s.ended _ a)

module _ {told : Header} {t : Tape} (k : ReadTape told t) where
  fetched_as : (w : World) {x : fetch.FetchedSaid} → fetch.fetch_of w.session ≡ x → ReadInv told t (after_fetching w x) → ReadInv told t (after_fetch w)
  fetched_as w e i = subst (λ x. ReadInv told t (after_fetching w x)) (sym e) i

  module _ (w : World) (u : Under told t w.session w.notes.deliveries) where
    last_is : w.session.told.last.0 ≡ told.last.0
    last_is = ap (λ (x : Header). x.last.0) u.told_is

    sends_again : w.session.exchange.awaiting ≡ false → w.session.exchange.again ≡ true → fetch.fetch_of w.session ≡ fetch.sending w.session w.session.exchange.command
    unfolding fetch.fetch_of
    sends_again a g = pick_f _ (neither _ _ u.going_on a) ∙ pick_t _ g

    sends : (x : CommandSaid) → w.session.exchange.awaiting ≡ false → w.session.exchange.again ≡ false → w.session.position.next.0 ≤ told.last.0 → fetch.command_of w.session ≡ x → fetch.fetch_of w.session ≡ fetch.sending w.session (command_for x)
    unfolding fetch.fetch_of
    sends x a g l e =
        pick_f _ (neither _ _ u.going_on a)
        ∙ pick_f _ g
        ∙ pick_f _ u.unfinished
        ∙ pick_f _ (le-ltb w.session.told.last.0 w.session.position.next.0 (omega (arith, last_is)))
        ∙ ap (λ (y : CommandSaid). fetch.sending w.session (command_for y)) e

    pub past_last : w.session.exchange.awaiting ≡ false → w.session.exchange.again ≡ false → told.last.0 < w.session.position.next.0 → fetch.fetch_of w.session ≡ record { session = ended_of w.session; said = fetch.refused 12 }
    unfolding fetch.fetch_of
    past_last a g l =
        pick_f _ (neither _ _ u.going_on a)
        ∙ pick_f _ g
        ∙ pick_f _ u.unfinished
        ∙ pick_t _ (lt-ltb w.session.told.last.0 w.session.position.next.0 (omega (arith, last_is)))

    -- a command is given where the next address is on the tape
    pub command_given : (w.session.position.next.0 ≤ told.last.0) → Agreed told.last.0 t w.session w.at w.notes.replies readings.no_command → GivesCommand (fetch.fetch_of w.session).said
    unfolding fetch.command_of
    command_given within agreed = given agreed
      where
        Reads : Command → Type 0
        Reads c = (command_code c ≡ 0x08) ⊎ (command_code c ≡ 0x2B)

        named : {c : Command} → fetch.fetch_of w.session ≡ fetch.sending w.session c → Reads c → GivesCommand (fetch.fetch_of w.session).said
        named e x = subst (λ (y : fetch.FetchedSaid). GivesCommand y.said) (sym e) x

        due : Reads (command_for (fetch.command_of w.session))
        due = pick_by (λ (x : CommandSaid). Reads (command_for x)) w.session.position.locate (λ _. inr refl) (λ _. pick_by (λ (x : CommandSaid). Reads (command_for x)) (eqb w.session.position.next.0 2990) (λ _. inr refl) (λ _. inl refl))

        ordered : {c : Command} → Ordered told.last.0 w.session w.notes.replies c → Reads c
        ordered (locates _ _ _ _ _) = inr refl
        ordered (crosses _ _ _ _ _) = inr refl
        ordered (reads _ _ _ _ _) = inl refl

        given : Agreed told.last.0 t w.session w.at w.notes.replies readings.no_command → GivesCommand (fetch.fetch_of w.session).said
        given (to_seek a g _ _ _) = named (sends (fetch.command_of w.session) a g within refl) due
        given (to_read a g _ _ _ _) = named (sends (fetch.command_of w.session) a g within refl) due
        given (again a g o st) = named (sends_again a g) (ordered o)

    module _ (n : w.notes.refused ≡ 0) (m : w.notes.end ≡ false) where
      -- the fetched command is under way
      orders : (c : Command) → fetch.fetch_of w.session ≡ fetch.sending w.session c → Ordered told.last.0 w.session w.notes.replies c → Stood w.session w.at c → ReadInv told t (after_fetch w)
      orders c e o st =
          fetched_as w e
          (subst (λ (x : Command). ReadInv told t (record { session = fetch.awaits w.session c; at = w.at; flight = readings.sent x; notes = w.notes })) (sym (command_by_lem c))
          (under n m (record { told_is = u.told_is; going_on = u.going_on; unfinished = u.unfinished; so_far = u.so_far })
          (under_way c refl refl refl (order o) (stood c st))))
        where
          order : {c : Command} → Ordered told.last.0 w.session w.notes.replies c → Ordered told.last.0 (fetch.awaits w.session c) w.notes.replies c
          order (locates a e h l g) = locates a e h l g
          order (crosses a e p l g) = crosses a e p l g
          order (reads a e p l g) = reads a e p l g

          stood : (c : Command) → Stood w.session w.at c → Stood (fetch.awaits w.session c) w.at c
          stood (Read a) h = h
          stood (Write a) h = tt
          stood (Locate a) h = tt
          stood ReadPosition h = tt

      -- no end was found
      ends_without : w.flight ≡ readings.no_command → w.session.exchange.awaiting ≡ false → w.session.exchange.again ≡ false → told.last.0 < w.session.position.next.0 → ReadInv told t (after_fetch w)
      ends_without q a g l = fetched_as w (past_last a g l) (halted m refl q (finds_no_end refl (sym (fold_above k w.session.position.next.0 l) ∙ u.so_far)))

      fetch_none : w.flight ≡ readings.no_command → Agreed told.last.0 t w.session w.at w.notes.replies readings.no_command → ReadInv told t (after_fetch w)
      unfolding fetch.command_of
      fetch_none q (to_seek a g (inr above) l few) = ends_without q a g above
      fetch_none q (to_seek a g (inl h) l few) =
          orders (Locate w.session.position.next) (sends (locate w.session.position.next.0) a g (stands_within k.large h) (pick_t _ l)) (locates w.session.position.next refl h l few) tt
      fetch_none q (to_read a g (inr above) l p few) = ends_without q a g above
      fetch_none q (to_read a g (inl (inr e)) l p few) =
          orders (Locate (as_address 3000)) (sends (locate 3000) a g (stands_within k.large (inr e)) (pick_f _ l ∙ pick_t _ (eq-eqb w.session.position.next.0 2990 e))) (crosses (as_address 3000) refl e l few) tt
      fetch_none q (to_read a g (inl (inl user)) l p few) = go (ℕ_discrete w.session.position.next.0 2990)
        where
          go : Dec (w.session.position.next.0 ≡ 2990) → ReadInv told t (after_fetch w)
          go (yes e) = absurd (⊎_elim (λ h. let x = h.1 in omega arith) (λ h. let x = h.0 in omega arith) (user_ranges told.last.0 w.session.position.next.0 user))
          go (no e) = orders (Read w.session.position.next) (sends (read w.session.position.next.0) a g (stands_within k.large (inl user)) (pick_f _ l ∙ pick_f _ (ne_eqb w.session.position.next.0 2990 e))) (reads w.session.position.next refl user l few) p
      fetch_none q (again a g o st) = orders w.session.exchange.command (sends_again a g) o st

      pub fetch_flight : {g : Flight} → w.flight ≡ g → Agreed told.last.0 t w.session w.at w.notes.replies g → TakesEffect (readings.refusal w.session readings.fetching) → ReadInv told t (after_fetch w)
      fetch_flight q (to_seek a g h l few) te = fetch_none q (to_seek a g h l few)
      fetch_flight q (to_read a g h l p few) te = fetch_none q (to_read a g h l p few)
      fetch_flight q (again a g o st) te = fetch_none q (again a g o st)
      fetch_flight q (under_way c a g e o st) te =
          no_effect (omega arith) (omega arith) (subst (λ x. TakesEffect (fetch_number x.said)) (fetch_awaited w.session a) te)
      fetch_flight q (served r given a g v) te =
          no_effect (omega arith) (omega arith) (subst (λ x. TakesEffect (fetch_number x.said)) (fetch_awaited w.session a) te)

  -- after the end a fetch says so again
  pub fetch_end : (w : World) → w.session.ended ≡ false → w.session.exchange.awaiting ≡ false → w.session.exchange.again ≡ false → w.session.finished ≡ true → ReadInv told t w → ReadInv told t (after_fetch w)
  fetch_end w e a g f i = fetched_as w (end_again w.session e a g f) i

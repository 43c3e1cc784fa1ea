-- The calls of a sample reading: one exchange of each kind, and its opening. Assumes nothing.
use Prim.Native.Nat.{ℕ, zero, suc, ◌+◌, ◌%◌, ◌^◌, ◌<◌, ◌≤◌}
use mathlib.Core.Path.{◌≡◌, refl, ap, sym, subst, ◌∙◌}
use mathlib.Core.Bool.{Bool, true, false}
use mathlib.Core.List.{List, [], ◌∷◌, ◌++◌, append-nil}
use mathlib.Core.Logic.{◌⊎◌, inl, inr}
use mathlib.Core.Option.{Option, none, some}
use native.Mathlib.Nat.{le_refl, mod-eq_of_lt}
use native.Mathlib.Omega.{arith}
use borrow.Author.Tests.{eq-eqb, ne_eqb, le-ltb}
use lib.Dec.{eqb, ltb}
use lib.ListN.{length}
use Rattle.geometry.specs.Place.{as_address, address}
use Rattle.geometry.specs.Cartridge.{last_of}
use Rattle.geometry.specs.declared.cartridge.Geometry.{Geometry}
use Rattle.frame.specs.Header.{header_frame}
use Rattle.frame.specs.declared.header.Header.{Header}
use Rattle.frame.proofs.Frames.{header_length}
use Rattle.header.specs.Valid.{valid_header}
use Rattle.header.proofs.Built.{built_fields}
use Rattle.header.proofs.ReadLaws.{valid_taken}
use Rattle.archive_lists.specs.Conduct.{Serves, locates, brings, misses, blanks}
use Rattle.drive.specs.Command.{command_code, command_address, command_by}
use Rattle.drive.specs.Listed.{Means}
use Rattle.drive.specs.Senses as senses
use Rattle.drive.specs.Senses.{meaning_in}
use Rattle.archive_lists.specs.Tape.{Tape}
use Rattle.drive.specs.declared.command.Command.{Command}
use Rattle.drive.specs.declared.command.Command.TheVariants.{Read, Locate}
use Rattle.drive.specs.declared.reply.Reply.{Reply}
use Rattle.drive.proofs.CaseLaws.{command_by_lem}
use Rattle.frame.specs.declared.trail.Trail.{Trail}
use Rattle.judgement.specs.Judgement as judgement
use Rattle.reading_state.specs.Open.{fresh, open_for, open_of}
use Rattle.reading_state.specs.Fetch as fetch
use Rattle.reading_state.specs.Reply as reply
use Rattle.reading_state.specs.declared.state.State.{State as Reading}
use Rattle.archive_lists.specs.Recordings.{Element}
use Rattle.archive_lists.specs.Readings.{Flight, sent, answered, World, Call, fetching, replying, LentWith, with_session, fetch_number, reply_number, delivered, refused_after, replies_after, after_fetching, after_replying, Calls, refuses, fetches, replies, serves, Runs, stop, call, drive, end_after}
use Rattle.archive_lists.specs.Readings as readings
use Rattle.archive_samples.specs.Sample.{geometry, frame, good, recovered, unreadable, end_of_data, unreadables}
use Rattle.archive_samples.proofs.Exchange.{framed}

-- ---- one call, or one exchange

-- a command that is due, what its reply is answered, and the session after it
pub record Step (s : Reading) (c : Command) (r : Reply) (lent : List ℕ) (said : reply.DeliverySaid) (next : Reading) : Type 0 where
  pub fetched : fetch.fetch_of s ≡ fetch.sending s c
  pub replied : reply.reply_of (fetch.awaits s c) r lent ≡ record { session = next; said = said }
  pub taken : reply_number said ≡ 0
  pub ends : end_after said s.finished ≡ next.finished

module _ (place : ℕ) (deliveries : List Element) (n : ℕ) where
  -- the end was answered where the session has finished
  abbrev world : Reading → Flight → World
  world s f = record { session = s; at = place; flight = f; notes = record { deliveries = deliveries; replies = n; refused = 0; end = s.finished } }

  -- between two commands
  abbrev pub between : Reading → World
  between s = world s readings.no_command

module _ (t : Tape) (deliveries : List Element) (n : ℕ) {cs : List Call} {u : World} where
  command_served : {place to : ℕ} {c : Command} {r : Reply} {given : Option (List ℕ)} (s : Reading) → fetch.fetch_of s ≡ fetch.sending s c → Serves t place c r given to
      → Runs t (world to deliveries n (fetch.awaits s c) (answered r given)) cs u
      → Runs t (between place deliveries n s) (fetching ∷ cs) u
  command_served {place} {to} {c} {r} {given} s fetched serve rest =
      let w : World = between place deliveries n s in
      let p : after_fetching w (fetch.fetch_of s) ≡ world place deliveries n (fetch.awaits s c) (sent (command_by (command_code c) (command_address c).0)) = ap (after_fetching w) fetched in
      call (subst (λ (x : World). Calls w fetching x) p (fetches (inl (ap (λ (x : fetch.FetchedSaid). fetch_number x.said) fetched)))) (drive (serves c r given to (ap sent (command_by_lem c)) serve) rest)

  reply_taken : {place : ℕ} {r : Reply} {given : Option (List ℕ)} {lent : List ℕ} {said : reply.DeliverySaid} {next : Reading} (s : Reading)
      → LentWith given lent → reply.reply_of s r lent ≡ record { session = next; said = said } → reply_number said ≡ 0 → end_after said s.finished ≡ next.finished
      → Runs t (between place (deliveries ++ delivered said lent) (replies_after r n) next) cs u
      → Runs t (world place deliveries n s (answered r given)) (replying r lent ∷ cs) u
  reply_taken {place} {r} {given} {lent} {said} {next} s given_is replied small ends rest =
      let v : World = world place deliveries n s (answered r given) in
      let after : ℕ → Bool → World = λ k end. record { session = next; at = place; flight = readings.no_command; notes = record { deliveries = deliveries ++ delivered said lent; replies = replies_after r n; refused = refused_after k 0; end = end } } in
      let p : after_replying v r lent (reply.reply_of s r lent) ≡ after (reply_number said) (end_after said s.finished) = ap (after_replying v r lent) replied in
      let q : after (reply_number said) (end_after said s.finished) ≡ between place (deliveries ++ delivered said lent) (replies_after r n) next = ap (λ (k : ℕ). after k (end_after said s.finished)) small ∙ ap (λ (end : Bool). after 0 end) ends in
      call (subst (λ (x : World). Calls v (replying r lent) x) (p ∙ q) (replies r given lent refl given_is (inl (ap (λ (x : reply.RepliedSaid). reply_number x.said) replied ∙ small)))) rest

  -- with a frame of another length the reply is refused with 1, and is brought again
  reply_refused : {place : ℕ} {r : Reply} {given : Option (List ℕ)} {lent : List ℕ} (s : Reading) → reply.reply_of s r lent ≡ reply.refusing s 1
      → Runs t (world place deliveries n s (answered r given)) cs u
      → Runs t (world place deliveries n s (answered r given)) (replying r lent ∷ cs) u
  reply_refused {place} {r} {given} {lent} s refused rest =
      let v : World = world place deliveries n s (answered r given) in
      let one : reply_number (reply.reply_of s r lent).said ≡ 1 = ap (λ (x : reply.RepliedSaid). reply_number x.said) refused in
      call (subst (λ (x : Reading). Calls v (replying r lent) (with_session v x)) (ap (λ (x : reply.RepliedSaid). x.session) refused) (refuses (replying r lent) (omega (arith, one)) (omega (arith, one)))) rest

module _ (t : Tape) (deliveries : List Element) (n : ℕ) {cs : List Call} {u : World} where
  exchange : {place to : ℕ} {c : Command} {r : Reply} {given : Option (List ℕ)} {lent : List ℕ} {said : reply.DeliverySaid} {next : Reading} (s : Reading)
      → Step s c r lent said next → Serves t place c r given to → LentWith given lent
      → Runs t (between to (deliveries ++ delivered said lent) (replies_after r n) next) cs u
      → Runs t (between place deliveries n s) (fetching ∷ replying r lent ∷ cs) u
  exchange {c = c} s step serve given_is rest = command_served t deliveries n s step.fetched serve (reply_taken t deliveries n (fetch.awaits s c) given_is step.replied step.taken step.ends rest)

-- ---- the session, and each kind of exchange

-- a reading on what a header tells, behind a trail, before a command
abbrev pub before : Header → Trail → Command → ℕ → Bool → ℕ → Bool → Reading
before told trail c next locate expected finished = record {
  told = told;
  position = record { next = as_address next; locate = locate };
  expected = record { 0 = expected };
  trail = trail;
  exchange = record { command = c; awaiting = false; again = false };
  finished = finished;
  ended = false;
}

-- a frame comes with good, or with 01/17/01
abbrev bringing : Bool → Reply
bringing true = good
bringing false = recovered

module _ (told : Header) (trail : Trail) (c : Command) (a expected : ℕ) (low : ltb told.last.0 a ≡ false) where
  abbrev locating : Reading
  locating = fetch.awaits (before told trail c a true expected false) (Locate (as_address a))

  abbrev reading : Reading
  reading = fetch.awaits (before told trail c a false expected false) (Read (as_address a))

  locate_fetched : fetch.fetch_of (before told trail c a true expected false) ≡ fetch.sending (before told trail c a true expected false) (Locate (as_address a))
  unfolding fetch.fetch_of fetch.command_of
  locate_fetched = rw low

  locate_replied : reply.reply_of locating good frame ≡ reply.located_of locating
  unfolding reply.reply_of reply.reply_by meaning_in
  locate_replied = rw (eq-eqb (length frame) 33280 framed)

  none_lent : reply.reply_of locating good [] ≡ reply.refusing locating 1
  unfolding reply.reply_of
  none_lent = refl

  read_fetched : eqb a 2990 ≡ false → fetch.fetch_of (before told trail c a false expected false) ≡ fetch.sending (before told trail c a false expected false) (Read (as_address a))
  unfolding fetch.fetch_of fetch.command_of
  read_fetched user = rw (low, user)

  frame_replied : (clean : Bool) (f : List ℕ) → length f ≡ 33280 → (j : judgement.JudgementSaid) → judgement.judge_frame told (as_address a) (record { 0 = expected }) f ≡ j → reply.reply_of reading (bringing clean) f ≡ reply.judged_by j reading
  unfolding reply.reply_of reply.reply_by reply.judged_of meaning_in
  frame_replied true f long j judged = rw (eq-eqb (length f) 33280 long, judged)
  frame_replied false f long j judged = rw (eq-eqb (length f) 33280 long, judged)

  unreadable_replied : reply.reply_of reading unreadable frame ≡ reply.passed_over_of reading
  unfolding reply.reply_of reply.reply_by meaning_in
  unreadable_replied = rw (eq-eqb (length frame) 33280 framed)

  blank_replied : reply.reply_of reading end_of_data frame ≡ reply.jumped_of reading
  unfolding reply.reply_of reply.reply_by meaning_in
  blank_replied = rw (eq-eqb (length frame) 33280 framed)

brought : (clean : Bool) → Means (bringing clean) senses.good ⊎ Means (bringing clean) senses.recovered
unfolding meaning_in
brought true = inl refl
brought false = inr refl

judged_ends : (j : judgement.JudgementSaid) (s : Reading) → end_after (reply.judged_by j s).said s.finished ≡ (reply.judged_by j s).session.finished
judged_ends judgement.passed_over s = refl
judged_ends (judgement.refused m) s = refl
judged_ends judgement.block s = refl
judged_ends judgement.filemark s = refl
judged_ends judgement.end s = refl

counted : (clean : Bool) (n : ℕ) → replies_after (bringing clean) n ≡ n + 1
unfolding meaning_in
counted true n = refl
counted false n = refl

module _ (t : Tape) (told : Header) (trail : Trail) (deliveries : List Element) (n : ℕ) (c : Command) (a expected : ℕ) (low : ltb told.last.0 a ≡ false) {cs : List Call} {u : World} where
  pub address_located : (place : ℕ)
      → Runs t (between a (deliveries ++ []) (n + 1) (reply.located_of (locating told trail c a expected low)).session) cs u
      → Runs t (between place deliveries n (before told trail c a true expected false)) (fetching ∷ replying good frame ∷ cs) u
  unfolding meaning_in
  address_located place rest =
      exchange t deliveries n (before told trail c a true expected false) (record { fetched = locate_fetched told trail c a expected low; replied = locate_replied told trail c a expected low; taken = refl; ends = refl })
      (locates (as_address a) good refl) (inl refl) rest

  -- the reply is brought with no frame, which is refused, and again
  pub address_located_again : (place : ℕ)
      → Runs t (between a (deliveries ++ []) (n + 1) (reply.located_of (locating told trail c a expected low)).session) cs u
      → Runs t (between place deliveries n (before told trail c a true expected false)) (fetching ∷ replying good [] ∷ replying good frame ∷ cs) u
  unfolding meaning_in
  address_located_again place rest =
      command_served t deliveries n (before told trail c a true expected false) (locate_fetched told trail c a expected low) (locates (as_address a) good refl)
      (reply_refused t deliveries n (locating told trail c a expected low) (none_lent told trail c a expected low)
      (reply_taken t deliveries n (locating told trail c a expected low) (inl refl) (locate_replied told trail c a expected low) refl refl rest))

  module _ (user : eqb a 2990 ≡ false) where
    -- a frame, by its judgement
    pub frame_read : (clean : Bool) (f : List ℕ) (j : judgement.JudgementSaid) → t a ≡ some f → length f ≡ 33280 → judgement.judge_frame told (as_address a) (record { 0 = expected }) f ≡ j
        → reply_number (reply.judged_by j (reading told trail c a expected low)).said ≡ 0
        → Runs t (between (a + 1) (deliveries ++ delivered (reply.judged_by j (reading told trail c a expected low)).said f) (n + 1) (reply.judged_by j (reading told trail c a expected low)).session) cs u
        → Runs t (between a deliveries n (before told trail c a false expected false)) (fetching ∷ replying (bringing clean) f ∷ cs) u
    frame_read clean f j reads long judged taken rest =
        exchange t deliveries n (before told trail c a false expected false) (record { fetched = read_fetched told trail c a expected low user; replied = frame_replied told trail c a expected low clean f long j judged; taken = taken; ends = judged_ends j (reading told trail c a expected low) })
        (brings (as_address a) (bringing clean) f (brought clean) reads) (inr refl)
        (subst (λ (k : ℕ). Runs t (between (a + 1) (deliveries ++ delivered (reply.judged_by j (reading told trail c a expected low)).said f) k (reply.judged_by j (reading told trail c a expected low)).session) cs u) (sym (counted clean n)) rest)

    -- 03/11/00
    pub unreadable_passed_over : t a ≡ none
        → Runs t (between (a + 1) (deliveries ++ []) (n + 1) (reply.passed_over_of (reading told trail c a expected low)).session) cs u
        → Runs t (between a deliveries n (before told trail c a false expected false)) (fetching ∷ replying unreadable frame ∷ cs) u
    unfolding meaning_in
    unreadable_passed_over reads rest =
        exchange t deliveries n (before told trail c a false expected false) (record { fetched = read_fetched told trail c a expected low user; replied = unreadable_replied told trail c a expected low; taken = refl; ends = refl })
        (misses (as_address a) unreadable refl reads) (inl refl) rest

    -- 08/00/05
    pub blank_jumped : ((b : ℕ) → a ≤ b → b < a + 32 → t b ≡ none)
        → Runs t (between a (deliveries ++ []) (n + 1) (reply.jumped_of (reading told trail c a expected low)).session) cs u
        → Runs t (between a deliveries n (before told trail c a false expected false)) (fetching ∷ replying end_of_data frame ∷ cs) u
    unfolding meaning_in
    blank_jumped nothing rest =
        exchange t deliveries n (before told trail c a false expected false) (record { fetched = read_fetched told trail c a expected low user; replied = blank_replied told trail c a expected low; taken = refl; ends = refl })
        (blanks (as_address a) end_of_data a refl nothing) (inl refl) rest

-- k addresses at which nothing reads, one after another
module _ (t : Tape) (told : Header) (trail : Trail) (deliveries : List Element) (expected end replies : ℕ) (low : end ≤ 2990) (large : 2990 ≤ told.last.0) {cs : List Call} {u : World}
    (rest : (c : Command) → Runs t (between end deliveries replies (before told trail c end false expected false)) cs u) where
  pub addresses_missed : (k a n : ℕ) (c : Command) → a + k ≡ end → n + k ≡ replies → ((b : ℕ) → a ≤ b → b < end → t b ≡ none)
      → Runs t (between a deliveries n (before told trail c a false expected false)) (unreadables k cs) u
  unfolding unreadables
  addresses_missed zero a n c there counted nothing = let e : a ≡ end = omega arith in let m : n ≡ replies = omega arith in rw (e, m) (rest c)
  addresses_missed (suc k) a n c there counted nothing =
      let missed : Reading → List Element → Type 0 = λ s got. Runs t (between (a + 1) got (n + 1) s) (unreadables k cs) u in
      let advanced : ℕ → Reading = λ next. before told trail (Read (as_address a)) next false expected false in
      unreadable_passed_over t told trail deliveries n c a expected (le-ltb told.last.0 a (omega arith)) (ne_eqb a 2990 (λ e. omega arith)) (nothing a (le_refl a) (omega arith))
      (subst (missed (advanced ((a + 1) % 2 ^ 32))) (sym (append-nil deliveries))
      (subst (λ (next : ℕ). missed (advanced next) deliveries) (sym (mod-eq_of_lt (omega arith)))
      (addresses_missed k (a + 1) (n + 1) (Read (as_address a)) (omega arith) (omega arith) (λ b high. nothing b (omega arith)))))

-- the end, said again at each fetch
module _ (t : Tape) (place : ℕ) (deliveries : List Element) (n : ℕ) (told : Header) (trail : Trail) (c : Command) (next expected : ℕ) where
  abbrev ended : Reading
  ended = before told trail c next false expected true

  end_fetched : fetch.fetch_of ended ≡ record { session = ended; said = fetch.end }
  unfolding fetch.fetch_of
  end_fetched = refl

  pub end_said : Runs t (between place deliveries n ended) (fetching ∷ []) (between place deliveries n ended)
  end_said =
      call
      (subst (λ (x : World). Calls (between place deliveries n ended) fetching x) (ap (after_fetching (between place deliveries n ended)) end_fetched)
      (fetches (inl (ap (λ (x : fetch.FetchedSaid). fetch_number x.said) end_fetched)))) stop

-- ---- the opening

-- what the header of a closed recording of pass 1 tells
abbrev pub told_on : ℕ → ℕ → ℕ → Header
told_on last eod update = record { last = as_address last; pass = 1; eod = as_address eod; old = as_address 0; update = update }

pub reading_opened_on : (g : Geometry) (last : ℕ) → last_of g ≡ address last → (h : Header)
    → h.last.0 < 2 ^ 32 → h.pass < 2 ^ 16 → h.eod.0 < 2 ^ 32 → h.old.0 < 2 ^ 32 → h.update < 2 ^ 32 → valid_header (as_address last) (header_frame h) ≡ true
    → open_of g (header_frame h) ≡ record { session = fresh h; number = 0 }
unfolding open_of
reading_opened_on g last size h small_last pass eod old update valid =
    ap open_for (valid_taken g (header_frame h) size (header_length h) valid)
    ∙ ap (λ (x : Header). record { session = fresh x; number = 0 }) (built_fields h small_last pass eod old update)

pub reading_opened : (h : Header) → h.last.0 < 2 ^ 32 → h.pass < 2 ^ 16 → h.eod.0 < 2 ^ 32 → h.old.0 < 2 ^ 32 → h.update < 2 ^ 32 → valid_header (as_address 11999) (header_frame h) ≡ true
    → open_of geometry (header_frame h) ≡ record { session = fresh h; number = 0 }
reading_opened = reading_opened_on geometry 11999 refl

-- A reply keeps the invariant, whatever the drive answered. Assumes nothing.
use Prim.Native.Nat.{ℕ, ◌+◌, ◌*◌, ◌%◌, ◌^◌, ◌≤◌, ◌<◌}
use mathlib.Core.Path.{◌≡◌, refl, sym, ap, subst, ◌∙◌}
use mathlib.Core.Bool.{Bool, true, false}
use mathlib.Core.List.{List, [], ◌++◌, append-nil}
use mathlib.Core.Logic.{◌⊎◌, inl, inr, ⊎_elim}
use mathlib.Core.Option.{Option, none, some}
use native.Mathlib.Decide.{dec_le}
use native.Mathlib.Nat.{mod-eq_of_lt}
use native.Mathlib.Omega.{arith}
use borrow.Author.Tests.{ne_eqb, eq-eqb}
use lib.ListN.{length}
use Rattle.geometry.specs.Cartridge.{is_user, past_reserved}
use Rattle.geometry.specs.declared.address.Address.{Address}
use Rattle.geometry.proofs.PickLaws.{pick_t, pick_f}
use Rattle.geometry.proofs.Impossible.{never}
use Rattle.drive.specs.Command.{command_code, command_address}
use Rattle.drive.specs.Listed.{Means}
use Rattle.drive.specs.Senses.{meaning_of, good, busy, recovered, unreadable, end_of_data, end_of_medium}
use Rattle.drive.specs.declared.command.Command.{Command}
use Rattle.drive.specs.declared.command.Command.TheVariants.{Read, Write, Locate, ReadPosition}
use Rattle.drive.specs.declared.reply.Reply.{Reply}
use Rattle.judgement.specs.Judgement as judgement
use Rattle.judgement.specs.Judgement.{JudgementSaid, judge_frame}
use Rattle.frame.specs.declared.header.Header.{Header}
use Rattle.judgement.proofs.JudgeView.{JudgeView, judge_view, refused_known}
use Rattle.reading_state.specs.Reply as reply
use Rattle.frame.specs.Trail.{marked}
use Rattle.frame.specs.declared.trail.Trail.{Trail}
use Rattle.reading_state.specs.State.{with_expected, end_of}
use Rattle.reading_state.specs.declared.state.State.{State as Reading}
use Rattle.reading_state.proofs.ReplyView.{TakenIn, taken_in_so}
use Rattle.geometry.proofs.PastReserved.{past_reserved_least}
use Rattle.geometry.proofs.UserFrames.{User, user_ranges, ranges_user, Stand, user_next}
use Rattle.geometry.proofs.Landing.{Landing, before, across, behind, landing, past_user}
use Rattle.archive_lists.specs.Tape.{Tape}
use Rattle.archive_lists.specs.Readings as readings
use Rattle.archive_lists.specs.Readings.{World, LentWith, reply_number, delivered, end_after, refused_after, replies_after, after_replying, after_reply}
use Rattle.archive_lists.specs.Fold.{Reader, going, finished, stopped, advance, look, fold_of, whole_of}
use Rattle.archive_lists.proofs.tape.FoldLaws.{fold_user, Final, fold_final}
use Rattle.archive_lists.proofs.reading.Bound.{Spent, few_further, few_crossed, few_jumped, few_ended}
use Rattle.archive_lists.proofs.reading.Facts.{Counts, fold_counts, ReadTape, fold_crosses, fold_blank, fold_jump}
use Rattle.archive_lists.proofs.reading.Fetches.{stands_within}
use Rattle.archive_lists.proofs.reading.Invariant.{Under, FewRead, Here, Ordered, locates, crosses, reads, Stood, Served, located, brought, missed, blank, no_more, waits, Agreed, to_seek, to_read, again, stops, finds_no_end, ReadInv, under, over, halted}

-- a reply that brings a frame is brought with it
pub lent_same : {X : Type 0} {frame lent : List ℕ} → LentWith (some frame) lent → (frame ≡ lent → X) → X
lent_same (inl e) h = never (cc)
lent_same (inr e) h = h (cc)

-- a jump from an address of the tape lands a little above LAST at most
land_low : {last a n : ℕ} → 3000 ≤ last → a ≤ last → Landing (a + 32) n → n ≤ last + 32
land_low large l (before h e) = omega arith
land_low large l (across h g e) = omega arith
land_low large l (behind h e) = omega arith

module _ {told : Header} {t : Tape} (k : ReadTape told t) (w : World) (u : Under told t w.session w.notes.deliveries)
    (r : Reply) (frame : List ℕ) (a : w.session.exchange.awaiting ≡ true) (long : length frame ≡ 33280) where
  taken_in : TakenIn w.session frame
  taken_in = record { phase = record { running = u.going_on; awaited = a }; long = long }

  case_is : {c : Command} {m : ℕ} → w.session.exchange.command ≡ c → Means r m → reply.case_of w.session r ≡ command_code c * 256 + m
  case_is {c} e means = ap (λ (x : Command). command_code x * 256 + meaning_of r.key r.asc r.ascq) e ∙ ap (λ (x : ℕ). command_code c * 256 + x) means

  pub answers : {c : Command} {m : ℕ} → w.session.exchange.command ≡ c → Means r m → reply.reply_of w.session r frame ≡ reply.reply_by w.session (command_code c * 256 + m) frame
  answers e means = taken_in_so w.session r frame taken_in (case_is e means)

  -- a READ of a user frame
  module _ (b : Address) (e : w.session.exchange.command ≡ Read b) (place : b.0 ≡ w.session.position.next.0) (user : is_user told.last.0 w.session.position.next.0 ≡ true) where
    -- it is read where it is due
    pub read_here : reply.address_of w.session ≡ w.session.position.next
    read_here = ap command_address e ∙ ap (λ (n : ℕ). record { 0 = n }) place

    step : fold_of told t (w.session.position.next.0 + 1) ≡ look told w.session.position.next.0 (t w.session.position.next.0) (going w.session.expected.0 w.notes.deliveries w.session.trail)
    step = fold_user told t w.session.position.next.0 user ∙ ap (look told w.session.position.next.0 (t w.session.position.next.0)) u.so_far

    pub frame_read : t w.session.position.next.0 ≡ some frame → fold_of told t (w.session.position.next.0 + 1) ≡ advance (judge_frame told w.session.position.next w.session.expected frame) frame w.session.position.next.0 w.session.expected.0 w.notes.deliveries w.session.trail
    unfolding look
    frame_read there = step ∙ ap (λ v. look told w.session.position.next.0 v (going w.session.expected.0 w.notes.deliveries w.session.trail)) there

    nothing_read : t w.session.position.next.0 ≡ none → fold_of told t (w.session.position.next.0 + 1) ≡ going w.session.expected.0 w.notes.deliveries w.session.trail
    unfolding look
    nothing_read there = step ∙ ap (λ v. look told w.session.position.next.0 v (going w.session.expected.0 w.notes.deliveries w.session.trail)) there

    pub replied_frame : Means r good ⊎ Means r recovered → reply.reply_of w.session r frame ≡ reply.judged_by (judge_frame told w.session.position.next w.session.expected frame) w.session
    unfolding reply.reply_by reply.judged_of
    replied_frame means =
        ⊎_elim (λ m. answers e m) (λ m. answers e m) means
        ∙ ap (λ (x : Header). reply.judged_by (judge_frame x (reply.address_of w.session) w.session.expected frame) w.session) u.told_is
        ∙ ap (λ (x : Address). reply.judged_by (judge_frame told x w.session.expected frame) w.session) read_here

  module _ (n : w.notes.refused ≡ 0) (m : w.notes.end ≡ false) (g : w.session.exchange.again ≡ false) where
    replied_as : {x : reply.RepliedSaid} → reply.reply_of w.session r frame ≡ x → ReadInv told t (after_replying w r frame x) → ReadInv told t (after_reply w r frame)
    replied_as e i = subst (λ x. ReadInv told t (after_replying w r frame x)) (sym e) i

    -- a reply that counts
    one_more : {i : ℕ} → Means r i → (i ≡ busy → ⊥) → replies_after r w.notes.replies ≡ w.notes.replies + 1
    one_more means b = pick_f _ (ne_eqb _ busy (λ e. b (sym means ∙ e)))

    unrefused : (said : reply.DeliverySaid) → reply_number said ≡ 0 → refused_after (reply_number said) w.notes.refused ≡ 0
    unrefused said e = ap (λ (x : ℕ). refused_after x w.notes.refused) e ∙ n

    nothing_more : w.notes.deliveries ++ [] ≡ w.notes.deliveries
    nothing_more = append-nil w.notes.deliveries

    -- the session at an address that does not wrap
    abbrev moved_to : ℕ → Bool → ℕ → Trail → Reading
    moved_to next locate expected trail = with_expected (reply.moved_of w.session (record { 0 = next }) locate) (record { 0 = expected }) trail

    -- nothing delivered
    same_as : going w.session.expected.0 w.notes.deliveries w.session.trail ≡ going w.session.expected.0 (w.notes.deliveries ++ []) w.session.trail
    same_as = ap (λ got. going w.session.expected.0 got w.session.trail) (sym nothing_more)

    goes_on : (next expected : ℕ) (trail : Trail) (locate : Bool) (said : reply.DeliverySaid) → reply_number said ≡ 0 → end_after said w.notes.end ≡ w.notes.end
        → fold_of told t next ≡ going expected (w.notes.deliveries ++ delivered said frame) trail
        → Agreed told.last.0 t (moved_to next locate expected trail) w.at (replies_after r w.notes.replies) readings.no_command
        → ReadInv told t (after_replying w r frame (reply.delivering (moved_to next locate expected trail) said))
    goes_on next expected trail locate said z unended so_far agreed =
        under (unrefused said z) (unended ∙ m) (record { told_is = u.told_is; going_on = u.going_on; unfinished = u.unfinished; so_far = so_far }) agreed

    -- ---- LOCATE answered good

    landed : (b : Address) → w.session.exchange.command ≡ Locate b → Means r good → w.at ≡ b.0 → Stand told.last.0 b.0 → fold_of told t b.0 ≡ going w.session.expected.0 w.notes.deliveries w.session.trail → Spent b.0 (w.notes.replies + 1) → ReadInv told t (after_reply w r frame)
    unfolding reply.reply_by
    landed b e means at here so_far few =
        replied_as (answers e means ∙ ap (λ (x : Command). reply.delivering (moved_to (command_address x).0 false w.session.expected.0 w.session.trail) reply.nothing) e)
        (goes_on b.0 w.session.expected.0 w.session.trail false reply.nothing refl refl (so_far ∙ same_as)
        (to_read refl g (inl here) refl at (subst (Spent b.0) (sym (one_more means (λ q. omega arith))) few)))

    -- ---- READ

    module _ (b : Address) (e : w.session.exchange.command ≡ Read b) (place : b.0 ≡ w.session.position.next.0) (user : is_user told.last.0 w.session.position.next.0 ≡ true) (read : w.session.position.locate ≡ false) (few : FewRead w.session w.notes.replies) where
      next_low : w.session.position.next.0 ≤ told.last.0
      next_low = stands_within k.large (inl user)

      place_is : (reply.address_of w.session).0 ≡ w.session.position.next.0
      place_is = ap (λ (x : Command). (command_address x).0) e ∙ place

      -- the next number does not wrap
      small_number : w.session.expected.0 + 1 < 2 ^ 32
      small_number =
          let c : Counts w.session.position.next.0 (going w.session.expected.0 w.notes.deliveries w.session.trail) = subst (Counts w.session.position.next.0) u.so_far (fold_counts told t w.session.position.next.0) in
          omega (arith, c.1, k.small, next_low)

      moved_is : (x y : ℕ) (locate : Bool) (expected : ℕ) (trail : Trail) → x ≡ y → y < 2 ^ 32 → moved_to (x % 2 ^ 32) locate expected trail ≡ moved_to y locate expected trail
      moved_is x y locate expected trail same low = ap (λ (q : ℕ). moved_to (q % 2 ^ 32) locate expected trail) same ∙ ap (λ (q : ℕ). moved_to q locate expected trail) (mod-eq_of_lt low)

      next_here : Here told.last.0 (moved_to (w.session.position.next.0 + 1) w.session.position.locate 0 w.session.trail)
      next_here = go (dec_le (w.session.position.next.0 + 1) told.last.0)
        where
          go : Dec (w.session.position.next.0 + 1 ≤ told.last.0) → Stand told.last.0 (w.session.position.next.0 + 1) ⊎ (told.last.0 < w.session.position.next.0 + 1)
          go (yes h) = inl (user_next told.last.0 w.session.position.next.0 user h)
          go (no h) = inr (omega arith)

      -- one address further
      further : {i : ℕ} → Means r i → (i ≡ busy → ⊥) → (x y : ℕ) (trail written : Trail) (said : reply.DeliverySaid) → y ≡ x → written ≡ trail → reply_number said ≡ 0 → end_after said w.notes.end ≡ w.notes.end → w.at ≡ w.session.position.next.0 + 1
          → fold_of told t (w.session.position.next.0 + 1) ≡ going x (w.notes.deliveries ++ delivered said frame) trail
          → reply.reply_of w.session r frame ≡ reply.delivering (with_expected (reply.advanced_of w.session) (record { 0 = y }) written) said
          → ReadInv told t (after_reply w r frame)
      further means b x y trail written said same same_trail z unended at so_far replied =
          replied_as
          (replied
          ∙ ap (λ (q : Reading). reply.delivering q said) (moved_is ((reply.address_of w.session).0 + 1) (w.session.position.next.0 + 1) w.session.position.locate y written (ap (λ (q : ℕ). q + 1) place_is) (omega (arith, k.small, next_low)))
          ∙ ap (λ (q : ℕ). reply.delivering (moved_to (w.session.position.next.0 + 1) w.session.position.locate q written) said) same
          ∙ ap (λ (q : Trail). reply.delivering (moved_to (w.session.position.next.0 + 1) w.session.position.locate x q) said) same_trail)
          (goes_on (w.session.position.next.0 + 1) x trail w.session.position.locate said z unended so_far
          (to_read refl g next_here read at (subst (Spent (w.session.position.next.0 + 1)) (sym (one_more means b)) (few_further (user_ranges told.last.0 w.session.position.next.0 user) few))))

      -- a step that delivers nothing
      passes : {i : ℕ} → Means r i → (i ≡ busy → ⊥) → w.at ≡ w.session.position.next.0 + 1
          → fold_of told t (w.session.position.next.0 + 1) ≡ going w.session.expected.0 w.notes.deliveries w.session.trail
          → reply.reply_of w.session r frame ≡ reply.passed_over_of w.session → ReadInv told t (after_reply w r frame)
      passes means b at so_far replied = further means b w.session.expected.0 w.session.expected.0 w.session.trail w.session.trail reply.nothing refl refl refl refl at (so_far ∙ same_as) replied

      -- the fold stays where it ends or stops
      whole_is : {x : Reader} → Final x → fold_of told t (w.session.position.next.0 + 1) ≡ x → whole_of told t ≡ x
      whole_is final so_far = fold_final told t (w.session.position.next.0 + 1) (told.last.0 + 1) (omega (arith, next_low)) final so_far

      -- after EOD: one below the next address
      ended_here : (end_of (reply.advanced_of w.session)).0 ≡ w.session.position.next.0
      ended_here =
          let low : ((reply.address_of w.session).0 + 1) % 2 ^ 32 ≡ (reply.address_of w.session).0 + 1 = mod-eq_of_lt (omega (arith, place_is, k.small, next_low)) in
          omega (arith, low, place_is)

      ends : {i : ℕ} → Means r i → (i ≡ busy → ⊥) → fold_of told t (w.session.position.next.0 + 1) ≡ finished w.notes.deliveries w.session.position.next.0
          → reply.reply_of w.session r frame ≡ reply.finished_of w.session
          → ReadInv told t (after_reply w r frame)
      ends means b so_far replied =
          replied_as replied
          (over (unrefused reply.end refl) refl refl u.going_on refl g refl
          (record {
            told_is = u.told_is;
            so_far = ap (fold_of told t) ended_here ∙ u.so_far ∙ same_as;
            whole = whole_is tt so_far ∙ ap (λ got. finished got w.session.position.next.0) (sym nothing_more) ∙ ap (finished (w.notes.deliveries ++ [])) (sym ended_here);
          })
          (omega (arith, one_more means b, few_ended k.large next_low few)))

      stopped_by : (i : ℕ) → (i ≡ 10) ⊎ (i ≡ 11) → fold_of told t (w.session.position.next.0 + 1) ≡ stopped i → reply.reply_of w.session r frame ≡ reply.ending w.session i → ReadInv told t (after_reply w r frame)
      stopped_by i (inl q) so_far replied =
          replied_as (replied ∙ ap (reply.ending w.session) q)
          (halted m refl refl (stops (inl refl) (whole_is tt (so_far ∙ ap stopped q))))
      stopped_by i (inr q) so_far replied =
          replied_as (replied ∙ ap (reply.ending w.session) q)
          (halted m refl refl (stops (inr refl) (whole_is tt (so_far ∙ ap stopped q))))

      judged_by_lem : {i : ℕ} → Means r i → (i ≡ busy → ⊥) → w.at ≡ w.session.position.next.0 + 1 → (j : JudgementSaid) → JudgeView told w.session.position.next w.session.expected frame j
          → fold_of told t (w.session.position.next.0 + 1) ≡ advance j frame w.session.position.next.0 w.session.expected.0 w.notes.deliveries w.session.trail
          → reply.reply_of w.session r frame ≡ reply.judged_by j w.session → ReadInv told t (after_reply w r frame)
      judged_by_lem means b at judgement.passed_over v so_far replied = passes means b at so_far replied
      judged_by_lem means b at (judgement.refused i) v so_far replied = stopped_by i (refused_known long v) so_far replied
      judged_by_lem means b at judgement.block v so_far replied = further means b (w.session.expected.0 + 1) _ w.session.trail _ reply.block (mod-eq_of_lt small_number) refl refl refl at so_far replied
      judged_by_lem means b at judgement.filemark v so_far replied =
          further means b (w.session.expected.0 + 1) _ (marked w.session.trail w.session.position.next) _ reply.filemark (mod-eq_of_lt small_number) (ap (marked w.session.trail) (ap command_address e ∙ ap (λ (q : ℕ). record { 0 = q }) place)) refl refl at so_far replied
      judged_by_lem means b at judgement.end v so_far replied = ends means b so_far replied

      brought_so : Means r good ⊎ Means r recovered → t w.session.position.next.0 ≡ some frame → w.at ≡ w.session.position.next.0 + 1 → ReadInv told t (after_reply w r frame)
      brought_so (inl means) there at = judged_by_lem means (λ q. omega arith) at (judge_frame told w.session.position.next w.session.expected frame) (judge_view told w.session.position.next w.session.expected frame) (frame_read b e place user there) (replied_frame b e place user (inl means))
      brought_so (inr means) there at = judged_by_lem means (λ q. omega arith) at (judge_frame told w.session.position.next w.session.expected frame) (judge_view told w.session.position.next w.session.expected frame) (frame_read b e place user there) (replied_frame b e place user (inr means))

      missed_so : Means r unreadable → t w.session.position.next.0 ≡ none → w.at ≡ w.session.position.next.0 + 1 → ReadInv told t (after_reply w r frame)
      unfolding reply.reply_by
      missed_so means there at = passes means (λ q. omega arith) at (nothing_read b e place user there) (answers e means)

      jumped_so : Means r end_of_data → ((c : ℕ) → w.session.position.next.0 ≤ c → c < w.session.position.next.0 + 32 → t c ≡ none) → ReadInv told t (after_reply w r frame)
      unfolding reply.reply_by
      jumped_so means unread =
          let there = w.session.position.next.0 in
          replied_as
          (answers e means
          ∙ ap (λ (q : Reading). reply.delivering q reply.nothing)
          (moved_is (past_reserved ((reply.address_of w.session).0 + 32)) (past_reserved (there + 32)) true w.session.expected.0 w.session.trail (ap (λ (q : ℕ). past_reserved (q + 32)) place_is) (omega (arith, k.small, land_low k.large next_low (landing (there + 32))))))
          (goes_on (past_reserved (there + 32)) w.session.expected.0 w.session.trail true reply.nothing refl refl
          (fold_jump k there unread ∙ u.so_far ∙ same_as)
          (to_seek refl g jumped_here refl (subst (λ (x : ℕ). Spent (past_reserved (there + 32)) (x + 1)) (sym (one_more means (λ q. omega arith))) (few_jumped (landing (there + 32)) few))))
        where
          low : User told.last.0 w.session.position.next.0 → 10 ≤ w.session.position.next.0 + 32
          low (inl h) = let x = h.0 in omega arith
          low (inr h) = let x = h.0 in omega arith

          jumped_here : Here told.last.0 (moved_to (past_reserved (w.session.position.next.0 + 32)) true w.session.expected.0 w.session.trail)
          jumped_here = go (dec_le (w.session.position.next.0 + 32) told.last.0)
            where
              go : Dec (w.session.position.next.0 + 32 ≤ told.last.0) → Stand told.last.0 (past_reserved (w.session.position.next.0 + 32)) ⊎ (told.last.0 < past_reserved (w.session.position.next.0 + 32))
              go (yes h) = inl (inl (past_user told.last.0 (w.session.position.next.0 + 32) (low (user_ranges told.last.0 w.session.position.next.0 user)) h k.large))
              go (no h) = inr (omega (arith, past_reserved_least (w.session.position.next.0 + 32)))

      -- 00/00/02: nothing readable is left
      lost_so : Means r end_of_medium → ((c : ℕ) → w.session.position.next.0 ≤ c → t c ≡ none) → ReadInv told t (after_reply w r frame)
      unfolding reply.reply_by
      lost_so means unread =
          replied_as (answers e means)
          (halted m refl refl (finds_no_end refl (fold_blank k w.session.position.next.0 next_low unread ∙ u.so_far ∙ same_as)))

    -- ---- busy

    repeated : {c : Command} → w.session.exchange.command ≡ c → Means r busy → reply.reply_of w.session r frame ≡ reply.delivering (reply.repeated_of w.session) reply.nothing → Ordered told.last.0 w.session w.notes.replies c → Stood w.session w.at c → ReadInv told t (after_reply w r frame)
    repeated {c} e means replied o st =
        replied_as replied
        (under n m (record { told_is = u.told_is; going_on = u.going_on; unfinished = u.unfinished; so_far = u.so_far ∙ same_as })
        (subst (λ (x : ℕ). Agreed told.last.0 t (reply.repeated_of w.session) w.at x readings.no_command) (sym (pick_t _ (eq-eqb _ busy means)))
        (again refl refl (subst (λ (x : Command). Ordered told.last.0 (reply.repeated_of w.session) w.notes.replies x) (sym e) (order o)) (subst (λ (x : Command). Stood (reply.repeated_of w.session) w.at x) (sym e) (stood c st)))))
      where
        order : {c : Command} → Ordered told.last.0 w.session w.notes.replies c → Ordered told.last.0 (reply.repeated_of w.session) w.notes.replies c
        order (locates a e h l g) = locates a e h l g
        order (crosses a e p l g) = crosses a e p l g
        order (reads a e p l g) = reads a e p l g

        stood : (c : Command) → Stood w.session w.at c → Stood (reply.repeated_of w.session) w.at c
        stood (Read a) h = h
        stood (Write a) h = tt
        stood (Locate a) h = tt
        stood ReadPosition h = tt

    repeats : {c : Command} → w.session.exchange.command ≡ c → Means r busy → Ordered told.last.0 w.session w.notes.replies c → Stood w.session w.at c → ReadInv told t (after_reply w r frame)
    unfolding reply.reply_by
    repeats e means (locates b p h l few) st = repeated e means (answers e means) (locates b p h l few) st
    repeats e means (crosses b p q l few) st = repeated e means (answers e means) (crosses b p q l few) st
    repeats e means (reads b p q l few) st = repeated e means (answers e means) (reads b p q l few) st

    -- ---- by what the drive gave

    located_so : (b : Address) → w.session.exchange.command ≡ Locate b → Means r good → w.at ≡ b.0 → Ordered told.last.0 w.session w.notes.replies (Locate b) → ReadInv told t (after_reply w r frame)
    located_so b e means at (locates _ p h l few) =
        landed b e means at (subst (Stand told.last.0) (sym p) h) (ap (fold_of told t) p ∙ u.so_far) (subst (λ (x : ℕ). Spent x (w.notes.replies + 1)) (sym p) few)
    located_so b e means at (crosses _ p q l few) =
        landed b e means at (inl (subst (λ (x : ℕ). is_user told.last.0 x ≡ true) (sym p) (ranges_user told.last.0 3000 (inr (omega arith, k.large)))))
        (ap (fold_of told t) p ∙ fold_crosses k ∙ ap (fold_of told t) (sym q) ∙ u.so_far) (few_crossed q p few)

    pub serve_so : {given : Option (List ℕ)} (c : Command) → w.session.exchange.command ≡ c → LentWith given frame → Served told.last.0 t w.session w.at w.notes.replies r given c → ReadInv told t (after_reply w r frame)
    serve_so c e lent (located b means at o) = located_so b e means at o
    serve_so c e lent (brought b read means there at (reads _ p q l few)) = lent_same lent (λ same. brought_so b e p q l few means (there ∙ ap some same) at)
    serve_so c e lent (missed b means there at (reads _ p q l few)) = missed_so b e p q l few means there at
    serve_so c e lent (blank b means none_there (reads _ p q l few)) = jumped_so b e p q l few means none_there
    serve_so c e lent (no_more b means none_there (reads _ p q l few)) = lost_so b e p q l few means none_there
    serve_so c e lent (waits c2 means o st) = repeats e means o st

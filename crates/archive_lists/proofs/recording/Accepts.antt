-- Accepting and close keep the invariant. Assumes nothing.
use Prim.Native.Nat.{ℕ, suc, ◌+◌, ◌*◌, ◌/◌, ◌%◌, ◌^◌, ◌≤◌, ◌<◌}
use mathlib.Core.Path.{◌≡◌, refl, sym, ap, subst, ◌∙◌}
use mathlib.Core.Bool.{Bool, true, false, ◌&&◌}
use mathlib.Core.List.{List, [], ◌∷◌, ◌++◌}
use mathlib.Core.Logic.{◌⊎◌, inl, inr, ⊎_elim}
use native.Mathlib.Decide.{dec_le}
use native.Mathlib.Nat.{eq-or-lt_of_le, div-add-mod', mul-le-mul_right, mod-eq_of_lt}
use native.Mathlib.Omega.{arith}
use borrow.Author.Tests.{ltb-true, ltb-false, eqb-true}
use lib.Dec.{eqb, ltb}
use lib.ListN.{length, get_or, length-append, length-set}
use lib.Seq.{get_or_at}
use Rattle.geometry.proofs.PickLaws.{pick_by}
use Rattle.geometry.proofs.TestLaws.{or_false, and_true}
use Rattle.geometry.proofs.Impossible.{never, clash}
use Rattle.buffer.specs.Bytes.{agree}
use Rattle.buffer.proofs.Agreement.{agree_is}
use Rattle.drive.specs.Listed.{Listed}
use Rattle.drive.specs.Senses.{meaning_of}
use Rattle.elements.specs.Elements as elements
use Rattle.elements.specs.Queue.{number_of}
use Rattle.elements.proofs.AcceptLaws.{mark_kept, accepted_new}
use Rattle.recording_state.specs.Accept.{accepts_none, is_full, is_spent, with_element, filemark_of, place_of, StoredSaid, block_of, close_of}
use Rattle.recording_state.specs.State.{closed_of, OutcomeSaid, blocks_of, window_length, accepting, eod_due, closing_started, settled_by, settled_of}
use Rattle.recording_state.specs.Window.{block_at, put_block}
use Rattle.recording_state.specs.declared.state.State.{State}
use Rattle.recording_state.specs.declared.state.Stage.{Stage}
use Rattle.recording_state.specs.declared.state.Stage.TheVariants as S
use Rattle.recording_state.proofs.BlockPlace.{place_inside}
use Rattle.recording_state.proofs.Stages.{HeaderStage, ElementStage}
use Rattle.archive_lists.specs.Recordings.{World, Element, promised, block, filemark, TakesEffect, after_block, after_filemark, accepted_after}
use Rattle.archive_lists.proofs.tape.Basics.{no_effect, promised_all}
use Rattle.recording_state.proofs.WindowLaws.{put_same_block, put_other_block}
use Rattle.archive_lists.proofs.tape.SeenLaws.{seen_accept}
use Rattle.archive_lists.specs.Filemarks.{Item, element, eod, item_at, is_marker}
use Rattle.archive_lists.proofs.tape.Marks.{is_filemark, mark_more, mark_new}
use Rattle.archive_lists.proofs.tape.Stands.{Stands, Queue, StoredAs}
use Rattle.archive_lists.proofs.tape.StandsLaws.{item_in, item_more}
use Rattle.archive_lists.proofs.recording.Trailing.{Prior, Buffered, holds, halted, Trailing}
use Rattle.archive_lists.proofs.recording.TrailingLaws.{traces_alike, says_alike, frames_alike, number_alike, written_alike, tape_grow}
use Rattle.archive_lists.proofs.recording.ElementsLink.{Writing}
use Rattle.archive_lists.proofs.recording.KeptAgreement.{agree_as, writing_as, writing_numbers, sent_due}
use Rattle.archive_lists.proofs.recording.Invariant as inv
use Rattle.archive_lists.proofs.recording.Invariant.{total_of, Counted, Course, Outgoing, Content, Live, Rejecting, Inv, live, rejecting, spent, over}
use Rattle.archive_lists.proofs.recording.Setting.{Setting}

-- ---- calls that take effect

pub record Accepting (s : State) : Type 0 where
  pub going : s.ended ≡ false
  pub unclosed : s.closed ≡ false
  pub room : s.elements.queue.pending ≤ s.setup.highest

accepting_so : (s : State) → accepts_none s ≡ false → is_full s ≡ false → Accepting s
accepting_so s a b = let x = or_false s.ended s.closed a in record { going = x.0; unclosed = x.1; room = ltb-false s.setup.highest s.elements.queue.pending b }

filemark_view : (s : State) → TakesEffect (filemark_of s).number → (filemark_of s ≡ accepting (with_element s true)) × Accepting s
unfolding filemark_of
filemark_view s =
    pick_by (λ (r : OutcomeSaid). TakesEffect r.number → (r ≡ accepting (with_element s true)) × Accepting s) (accepts_none s) (λ _ te. no_effect (omega arith) (omega arith) te)
    (λ a. pick_by (λ (r : OutcomeSaid). TakesEffect r.number → (r ≡ accepting (with_element s true)) × Accepting s) (is_full s) (λ _ te. no_effect (omega arith) (omega arith) te)
    (λ b te. (refl, accepting_so s a b)))

pub record Storing (s : State) (b window : List ℕ) (r : StoredSaid) : Type 0 where
  pub is : r ≡ record { result = accepting (with_element s false); window = put_block window (place_of s) b }
  pub accepting_it : Accepting s
  pub full : length b ≡ 32768
  pub long : length window ≡ window_length s

block_view : (s : State) (b window : List ℕ) → TakesEffect (block_of s b window).result.number → Storing s b window (block_of s b window)
unfolding block_of
block_view s b window =
    pick_by (λ (r : StoredSaid). TakesEffect r.result.number → Storing s b window r) (accepts_none s) (λ _ te. no_effect (omega arith) (omega arith) te)
    (λ a. pick_by (λ (r : StoredSaid). TakesEffect r.result.number → Storing s b window r) (eqb (length b) 32768 && eqb (length window) (window_length s))
    (λ l. pick_by (λ (r : StoredSaid). TakesEffect r.result.number → Storing s b window r) (is_full s) (λ _ te. no_effect (omega arith) (omega arith) te)
    (λ f te.
    let lengths = and_true (eqb (length b) 32768) (eqb (length window) (window_length s)) l in
    record { is = refl; accepting_it = accepting_so s a f; full = eqb-true (length b) 32768 lengths.0; long = eqb-true (length window) (window_length s) lengths.1 }))
    (λ _ te. no_effect (omega arith) (omega arith) te))

pub close_view : (s : State) → is_spent s ≡ false → TakesEffect (close_of s).number → (close_of s ≡ accepting (settled_of (closed_of s))) × (s.ended ≡ false) × (s.closed ≡ false)
unfolding close_of
close_view s unspent =
    pick_by (λ (r : OutcomeSaid). TakesEffect r.number → (r ≡ accepting (settled_of (closed_of s))) × (s.ended ≡ false) × (s.closed ≡ false)) (is_spent s) (λ e. clash e unspent)
    (λ _. pick_by (λ (r : OutcomeSaid). TakesEffect r.number → (r ≡ accepting (settled_of (closed_of s))) × (s.ended ≡ false) × (s.closed ≡ false)) (accepts_none s) (λ _ te. no_effect (omega arith) (omega arith) te)
    (λ a te. let x = or_false s.ended s.closed a in (refl, x.0, x.1)))

-- ---- one element more

-- two numbers less than n apart have different remainders
mod_apart : (n i j : ℕ) → i < j → j < i + n → i % n ≡ j % n → ⊥
mod_apart n i j l u e = go (dec_le (suc (i / n)) (j / n))
  where
    a : i / n * n + i % n ≡ i
    a = div-add-mod' i n

    b : j / n * n + j % n ≡ j
    b = div-add-mod' j n

    go : Dec (suc (i / n) ≤ j / n) → ⊥
    go (yes h) = omega (arith, a, b, mul-le-mul_right n h)
    go (no h) = let g : j / n ≤ i / n = omega arith in omega (arith, a, b, mul-le-mul_right n g)

abbrev with_accepted : World → State → List ℕ → Bool → List Element → World
with_accepted w s window unaltered xs = record {
  session = s;
  window = window;
  drive = w.drive;
  flight = w.flight;
  notes = record { accepted = xs; unaltered = unaltered; reported = w.notes.reported; given_up = w.notes.given_up };
}

abbrev accepted_world : World → State → List ℕ → Bool → Element → World
accepted_world w s window unaltered x = with_accepted w s window unaltered (w.notes.accepted ++ x ∷ [])

-- what the window must keep and gain
pub record Gains (s : State) (before after : List ℕ) (x : Element) (marks : List Bool) : Type 0 where
  pub keeps : (i : ℕ) → i < s.elements.queue.pending → block_at after ((s.elements.queue.first.0 + i) % blocks_of s) ≡ block_at before ((s.elements.queue.first.0 + i) % blocks_of s)
  pub gains : StoredAs (element x) after marks (blocks_of s) (s.elements.queue.first.0 + s.elements.queue.pending)

queue_grow : (last pass : ℕ) (xs ys : List Element) (k : ℕ) (fs : List (List ℕ)) → k + length fs ≤ length xs → Queue last pass xs k fs → Queue last pass (xs ++ ys) k fs
unfolding Queue
queue_grow last pass xs ys k [] l q = tt
queue_grow last pass xs ys k (f ∷ fs) l q =
    (subst (λ (x : Item). Stands last pass x k f) (sym (item_more xs ys k (omega arith))) q.0, queue_grow last pass xs ys (k + 1) fs (omega arith) q.1)

module _ {last pass : ℕ} {on_newest none_bears : Type 0} {prior : Prior} (w : World) (set : Setting last pass) (l : Live last pass on_newest none_bears prior w) (mark : Bool) (x : Element) (acc : Accepting w.session) where
  -- the stages in which elements are accepted
  data Early (k edge : ℕ) : Type 0 where
    opening : w.session.stage ≡ S.OpeningHeaders → w.session.elements.eod ≡ false → Early k edge
    writing : w.session.stage ≡ S.Elements → w.session.elements.eod ≡ false → Writing last w.session w.drive k edge w.flight → Early k edge

  early : {k edge : ℕ} → Course last (length l.list) w k edge → Early k edge
  early (inv.opening st v t c) = opening st v
  early (inv.writing st (inv.not_yet v) a) = writing st v a
  early (inv.writing st (inv.alone v c p) a) = clash c acc.unclosed
  early (inv.closing st v c a b g) = clash c acc.unclosed
  early (inv.finished st v c a b f g h r y) = clash c acc.unclosed

  -- EOD is not due in these
  early_unended : {k edge : ℕ} → Early k edge → w.session.elements.eod ≡ false
  early_unended (opening _ v) = v
  early_unended (writing _ v _) = v

  early_unclosed : {k edge : ℕ} {X : Type 0} → Early k edge → (w.session.stage ≡ S.ClosingHeaders) ⊎ (w.session.stage ≡ S.Done) → X
  early_unclosed (opening q _) (inl z) = never (cc)
  early_unclosed (opening q _) (inr z) = never (cc)
  early_unclosed (writing q _ _) (inl z) = never (cc)
  early_unclosed (writing q _ _) (inr z) = never (cc)

  total_plain : {k edge : ℕ} (n : ℕ) → Early k edge → total_of w.session.elements.eod n ≡ n
  total_plain n y = ap (λ (b : Bool). total_of b n) (early_unended y)

  plain_pending : (w.session.elements.queue.pending + 1) % 2 ^ 16 ≡ w.session.elements.queue.pending + 1
  plain_pending = mod-eq_of_lt (omega (arith, acc.room, l.counted.wide))

  grown : length (l.list ++ x ∷ []) ≡ length l.list + 1
  grown = length-append l.list (x ∷ [])

  counted_more : Counted last (length (l.list ++ x ∷ [])) (with_element w.session mark)
  counted_more =
      let c = l.counted in
      let held = c.held in
      let y = early l.course in
      record {
        wide = c.wide;
        held = omega (arith, plain_pending);
        windowed = omega (arith, plain_pending, acc.room);
        numbered = omega (arith, plain_pending, grown, c.numbered, total_plain (length l.list) y, total_plain (length (l.list ++ x ∷ [])) y);
        marks = length-set w.session.elements.queue.marks _ mark ∙ c.marks;
        room = c.room;
      }

  -- nothing is given up: all that was accepted is promised
  ungiven_so : w.notes.given_up ≡ 0
  ungiven_so = l.promises.ungiven (early_unended (early l.course))

  all_so : l.list ≡ w.notes.accepted
  all_so = l.promises.is ∙ promised_all w.notes ungiven_so

  promised_so : l.list ++ x ∷ [] ≡ promised (record { accepted = w.notes.accepted ++ x ∷ []; unaltered = true; reported = true; given_up = w.notes.given_up })
  promised_so = ap (λ (ys : List Element). ys ++ x ∷ []) all_so ∙ sym (promised_all (record { accepted = w.notes.accepted ++ x ∷ []; unaltered = true; reported = true; given_up = w.notes.given_up }) ungiven_so)

  more_pending : w.session.elements.queue.pending ≤ (with_element w.session mark).elements.queue.pending
  more_pending = omega (arith, plain_pending)

  course_more : (window : List ℕ) (unaltered : Bool) {k edge : ℕ} → Course last (length l.list) w k edge → Course last (length (l.list ++ x ∷ [])) (accepted_world w (with_element w.session mark) window unaltered x) k edge
  course_more window unaltered (inv.opening st v t c) = inv.opening st v t (agree_as w.session (with_element w.session mark) w.drive refl refl c)
  course_more window unaltered {k} {edge} (inv.writing st (inv.not_yet v) a) = inv.writing st (inv.not_yet v) (writing_as last w.session (with_element w.session mark) w.drive k edge refl more_pending a)
  course_more window unaltered (inv.writing st (inv.alone v c p) a) = clash c acc.unclosed
  course_more window unaltered (inv.closing st v c a b g) = clash c acc.unclosed
  course_more window unaltered (inv.finished st v c a b f g h r y) = clash c acc.unclosed

  first_small : {k edge : ℕ} → Course last (length l.list) w k edge → w.session.elements.queue.first.0 + w.session.elements.queue.pending < 2 ^ 32
  first_small (inv.opening st v t c) = omega (arith, t.first_is, t.spread, t.roof, acc.room, l.counted.wide, set.small)
  first_small (inv.writing st v a) = let n = writing_numbers l.counted.held a in omega (arith, n.low, acc.room, l.counted.wide, set.small)
  first_small (inv.closing st v c a b g) = clash c acc.unclosed
  first_small (inv.finished st v c a b f g h r y) = clash c acc.unclosed

  count_is : w.session.elements.queue.first.0 + w.session.elements.queue.pending ≡ length l.list
  count_is = l.counted.numbered ∙ total_plain (length l.list) (early l.course)

  -- what is on tape was accepted
  k_low : {k edge : ℕ} → Course last (length l.list) w k edge → k ≤ length l.list
  k_low (inv.opening st v t c) = omega (arith, t.first_is, count_is)
  k_low (inv.writing st v a) = let n = writing_numbers l.counted.held a in omega (arith, n.most, count_is)
  k_low (inv.closing st v c a b g) = clash c acc.unclosed
  k_low (inv.finished st v c a b f g h r y) = clash c acc.unclosed

  writing_of : ElementStage w.session → Writing last w.session w.drive l.k l.edge w.flight
  writing_of st = go st (early l.course)
    where
      go : ElementStage w.session → Early l.k l.edge → Writing last w.session w.drive l.k l.edge w.flight
      go q (opening o _) = never (cc)
      go q (writing o _ a) = a

  -- the frames stand for what they stood for
  outgoing_more : (window : List ℕ) (unaltered : Bool) → Outgoing last pass l.list w l.k → Outgoing last pass (l.list ++ x ∷ []) (accepted_world w (with_element w.session mark) window unaltered x) l.k
  outgoing_more window unaltered f = record {
    queue = λ st free. queue_grow last pass l.list (x ∷ []) l.k w.drive.buffer (omega (arith, (writing_numbers l.counted.held (writing_of st)).fits free, count_is)) (f.queue st free);
    sent = λ a g st q.
        let due = sent_due (subst (Writing last w.session w.drive l.k l.edge) q (writing_of st)) in
        subst (λ (y : Item). Stands last pass y (w.session.elements.queue.first.0 + w.session.elements.queue.outstanding) g) (sym (item_more l.list (x ∷ []) (w.session.elements.queue.first.0 + w.session.elements.queue.outstanding) (omega (arith, count_is)))) (f.sent a g st q);
  }

  module _ (window : List ℕ) (c : Content last pass l.list w l.k l.edge) (g : Gains w.session w.window window x (elements.accepted_of w.session.elements mark).queue.marks) where
    -- an item that was pending stays as it was stored
    stays : (y : Item) (i : ℕ) → i < w.session.elements.queue.pending → StoredAs y w.window w.session.elements.queue.marks (blocks_of w.session) (w.session.elements.queue.first.0 + i)
        → StoredAs y window (elements.accepted_of w.session.elements mark).queue.marks (blocks_of w.session) (w.session.elements.queue.first.0 + i)
    stays (element (block b)) i h old =
        (g.keeps i h ∙ old.0, mark_kept w.session.elements.queue.marks w.session.elements.queue.first.0 i w.session.elements.queue.pending mark h (omega (arith, acc.room, l.counted.wide)) ∙ old.1)
    stays (element filemark) i h old = mark_kept w.session.elements.queue.marks w.session.elements.queue.first.0 i w.session.elements.queue.pending mark h (omega (arith, acc.room, l.counted.wide)) ∙ old
    stays eod i h old = tt

    new_item : item_at (l.list ++ x ∷ []) (w.session.elements.queue.first.0 + w.session.elements.queue.pending) ≡ element x
    new_item =
        let n = w.session.elements.queue.first.0 + w.session.elements.queue.pending in
        item_in (l.list ++ x ∷ []) n (omega (arith, count_is, grown)) ∙ ap element (get_or_at l.list x [] filemark n (sym count_is))

    stored_more : (i : ℕ) → i < (with_element w.session mark).elements.queue.pending
        → StoredAs (item_at (l.list ++ x ∷ []) (w.session.elements.queue.first.0 + i)) window (elements.accepted_of w.session.elements mark).queue.marks (blocks_of w.session) (w.session.elements.queue.first.0 + i)
    stored_more i h = go (eq-or-lt_of_le upper)
      where
        upper : i ≤ w.session.elements.queue.pending
        upper = omega (arith, plain_pending)

        go : (i ≡ w.session.elements.queue.pending) ⊎ (i < w.session.elements.queue.pending)
            → StoredAs (item_at (l.list ++ x ∷ []) (w.session.elements.queue.first.0 + i)) window (elements.accepted_of w.session.elements mark).queue.marks (blocks_of w.session) (w.session.elements.queue.first.0 + i)
        go (inl same) =
            subst (λ (j : ℕ). StoredAs (item_at (l.list ++ x ∷ []) (w.session.elements.queue.first.0 + j)) window (elements.accepted_of w.session.elements mark).queue.marks (blocks_of w.session) (w.session.elements.queue.first.0 + j)) (sym same)
            (subst (λ (y : Item). StoredAs y window (elements.accepted_of w.session.elements mark).queue.marks (blocks_of w.session) (w.session.elements.queue.first.0 + w.session.elements.queue.pending)) (sym new_item) g.gains)
        go (inr low) =
            subst (λ (y : Item). StoredAs y window (elements.accepted_of w.session.elements mark).queue.marks (blocks_of w.session) (w.session.elements.queue.first.0 + i)) (sym (item_more l.list (x ∷ []) (w.session.elements.queue.first.0 + i) (omega (arith, count_is))))
            (stays (item_at l.list (w.session.elements.queue.first.0 + i)) i low (c.stored i low))

    content_more : (unaltered : Bool) → Content last pass (l.list ++ x ∷ []) (accepted_world w (with_element w.session mark) window unaltered x) l.k l.edge
    content_more unaltered =
        record {
          tape = c.tape;
          seen = seen_accept x all_so (k_low l.course) c.seen;
          stored = stored_more;
        }

  -- the filemarks before each frame stay
  trailing_more : mark ≡ is_marker (element x) → Trailing last pass prior (l.list ++ x ∷ []) (w.notes.accepted ++ x ∷ []) w.session.stage (elements.accepted_of w.session.elements mark) w.drive w.flight l.k l.edge
  trailing_more same =
      let xs = l.list in
      let y = l.trailing in
      record {
        from = y.from;
        prefix = λ i _. ap (λ (ys : List Element). item_at (ys ++ x ∷ []) i) (sym all_so);
        marked = λ i h. marked i (eq-or-lt_of_le (let z : i ≤ w.session.elements.queue.pending = omega (arith, plain_pending) in z));
        trail = traces_alike xs (xs ++ x ∷ []) (length xs) (item_more xs (x ∷ [])) (omega (arith, count_is)) y.trail;
        written = λ j own h. written_alike xs (xs ++ x ∷ []) (length xs) (item_more xs (x ∷ [])) (let z = k_low l.course in omega arith) (y.written j own h);
        behind = λ st j a low high q. number_alike xs (xs ++ x ∷ []) (length xs) (item_more xs (x ∷ [])) (let z = k_low l.course in omega arith) (y.behind st j a low high q);
        queue = λ st. buffered (y.queue st);
        sent = λ a f st q.
            let due = sent_due (subst (Writing last w.session w.drive l.k l.edge) q (writing_of st)) in
            says_alike xs (xs ++ x ∷ []) (length xs) (item_more xs (x ∷ [])) (omega (arith, count_is)) (y.sent a f st q);
        tape = λ s t. tape_grow xs w.notes.accepted (xs ++ x ∷ []) (w.notes.accepted ++ x ∷ []) (item_more w.notes.accepted (x ∷ [])) (omega (arith, ap length all_so)) (omega (arith, grown)) (y.tape s t);
      }
    where
      buffered : Buffered last pass prior l.list w.session.elements w.drive l.k l.edge
          → Buffered last pass prior (l.list ++ x ∷ []) (elements.accepted_of w.session.elements mark) w.drive l.k l.edge
      buffered (holds fits fs) = holds (omega (arith, plain_pending)) (frames_alike l.list (l.list ++ x ∷ []) (length l.list) (item_more l.list (x ∷ [])) last pass _ l.k w.drive.buffer (omega (arith, count_is)) fs)
      buffered (halted f z) = halted f z

      marked : (i : ℕ) → (i ≡ w.session.elements.queue.pending) ⊎ (i < w.session.elements.queue.pending)
          → get_or (elements.accepted_of w.session.elements mark).queue.marks ((w.session.elements.queue.first.0 + i) % 64) false ≡ is_filemark (l.list ++ x ∷ []) (w.session.elements.queue.first.0 + i)
      marked i (inl here) =
          subst (λ (j : ℕ). get_or (elements.accepted_of w.session.elements mark).queue.marks ((w.session.elements.queue.first.0 + j) % 64) false ≡ is_filemark (l.list ++ x ∷ []) (w.session.elements.queue.first.0 + j)) (sym here)
          (accepted_new w.session.elements mark l.counted.marks ∙ same ∙ sym (mark_new l.list x (w.session.elements.queue.first.0 + w.session.elements.queue.pending) count_is))
      marked i (inr low) =
          mark_kept w.session.elements.queue.marks w.session.elements.queue.first.0 i w.session.elements.queue.pending mark low (omega (arith, acc.room, l.counted.wide))
          ∙ l.trailing.marked i low
          ∙ sym (mark_more l.list (x ∷ []) (w.session.elements.queue.first.0 + i) (omega (arith, count_is)))

  live_more : mark ≡ is_marker (element x) → (window : List ℕ) (unaltered : Bool) → (unaltered ≡ true → (w.notes.unaltered ≡ true) × Gains w.session w.window window x (elements.accepted_of w.session.elements mark).queue.marks)
      → Live last pass on_newest none_bears prior (accepted_world w (with_element w.session mark) window unaltered x)
  live_more same window unaltered gain = record {
    k = l.k;
    edge = l.edge;
    list = l.list ++ x ∷ [];
    floor = (l.floor.0, omega (arith, l.floor.1, grown), l.floor.2);
    promises = record { is = promised_so; ungiven = λ _. ungiven_so; aimed = l.promises.aimed };
    going = l.going;
    counted = counted_more;
    carried = l.carried;
    course = course_more window unaltered l.course;
    reported = l.reported;
    outgoing = λ n. outgoing_more window unaltered (l.outgoing (⊎_elim (λ y. inl (y.0, (gain y.1).0)) inr n));
    eod_place = let y = early l.course in record { written = λ _ b _. clash b (early_unended y); named = λ q. early_unclosed y q };
    copied = l.copied;
    below = l.below;
    clean = l.clean;
    content = λ p u. let y = gain u in content_more window (l.content p y.0) y.1 unaltered;
    trailing = trailing_more same;
  }

-- ---- the calls

rejecting_more : {last : ℕ} (w : World) (s : State) (window : List ℕ) (unaltered : Bool) (x : Element) (d : Rejecting last w) → s.ended ≡ w.session.ended → s.exchange.awaiting ≡ w.session.exchange.awaiting → s.exchange.command ≡ w.session.exchange.command → s.stage ≡ w.session.stage → Rejecting last (accepted_world w s window unaltered x)
rejecting_more w s window unaltered x d ended awaiting command stage = record {
  reply = d.reply;
  going = ended ∙ d.going;
  awaits = awaiting ∙ d.awaits;
  replied = d.replied;
  unlisted = λ y. d.unlisted (subst (λ c. Listed c (meaning_of d.reply.key d.reply.asc d.reply.ascq)) command y);
  off_headers = λ el a e. d.off_headers (sym stage ∙ el) a (sym command ∙ e);
  safe = d.safe;
  unreported = d.unreported;
}

pub keeps_filemark : {last pass : ℕ} {on_newest none_bears : Type 0} {prior : Prior} (w : World) → Setting last pass → Inv last pass on_newest none_bears prior w → TakesEffect (filemark_of w.session).number → Inv last pass on_newest none_bears prior (after_filemark w)
keeps_filemark {last} {pass} {on_newest} {none_bears} {prior} w set i te =
    let v = filemark_view w.session te in
    subst (λ (r : OutcomeSaid). Inv last pass on_newest none_bears prior (with_accepted w r.session w.window w.notes.unaltered (accepted_after r.number w.notes.accepted filemark))) (sym v.0) (go v.1 i)
  where
    go : Accepting w.session → Inv last pass on_newest none_bears prior w → Inv last pass on_newest none_bears prior (accepted_world w (with_element w.session true) w.window w.notes.unaltered filemark)
    go acc (live wr l) =
        live wr (live_more w set l true filemark acc refl w.window w.notes.unaltered (λ u. (u, record { keeps = λ _ _. refl; gains = accepted_new w.session.elements true l.counted.marks })))
    go acc (rejecting wr d) = rejecting wr (rejecting_more w (with_element w.session true) w.window w.notes.unaltered filemark d refl refl refl refl)
    go acc (spent wr y) = clash y.ended acc.going
    go acc (over wr o) = clash o.ended acc.going

pub keeps_block : {last pass : ℕ} {on_newest none_bears : Type 0} {prior : Prior} (w : World) (b lent : List ℕ) → Setting last pass → Inv last pass on_newest none_bears prior w → TakesEffect (block_of w.session b lent).result.number → Inv last pass on_newest none_bears prior (after_block w b lent)
keeps_block {last} {pass} {on_newest} {none_bears} {prior} w b lent set i te =
    let v = block_view w.session b lent te in
    subst (λ (r : StoredSaid). Inv last pass on_newest none_bears prior (with_accepted w r.result.session r.window (w.notes.unaltered && agree lent w.window) (accepted_after r.result.number w.notes.accepted (block b)))) (sym v.is) (go v i)
  where
    go : Storing w.session b lent (block_of w.session b lent) → Inv last pass on_newest none_bears prior w
        → Inv last pass on_newest none_bears prior (accepted_world w (with_element w.session false) (put_block lent (place_of w.session) b) (w.notes.unaltered && agree lent w.window) (block b))
    go v (live wr l) =
        let acc = v.accepting_it in
        let first = w.session.elements.queue.first.0 in
        let pending = w.session.elements.queue.pending in
        let width = blocks_of w.session in
        let exact : (first + pending) % 2 ^ 32 ≡ first + pending = mod-eq_of_lt (first_small w set l false (block b) acc l.course) in
        let place_is : place_of w.session ≡ (first + pending) % width = ap (λ (n : ℕ). n % width) exact in
        let room : place_of w.session * 32768 + 32768 ≤ length lent = subst (λ (n : ℕ). place_of w.session * 32768 + 32768 ≤ n) (sym v.long) (place_inside (number_of w.session.elements.queue pending).0 w.session.setup.highest) in
        live wr
        (live_more w set l false (block b) acc refl (put_block lent (place_of w.session) b) (w.notes.unaltered && agree lent w.window)
        (λ u.
        let both = and_true w.notes.unaltered (agree lent w.window) u in
        let same : lent ≡ w.window = agree_is lent w.window both.1 in (
          both.0,
          record {
            keeps = λ i h.
                put_other_block lent b (place_of w.session) room v.full ((first + i) % width)
                (λ q. mod_apart width (first + i) (first + pending) (omega arith) (omega (arith, acc.room)) (q ∙ place_is))
                (subst (λ (n : ℕ). (first + i) % width * 32768 + 32768 ≤ n) (sym v.long) (place_inside (first + i) w.session.setup.highest))
                ∙ ap (λ (x : List ℕ). block_at x ((first + i) % width)) same;
            gains =
                (subst (λ (n : ℕ). block_at (put_block lent (place_of w.session) b) n ≡ b) place_is (put_same_block lent b (place_of w.session) room v.full), accepted_new w.session.elements false l.counted.marks);
          },
        )))
    go v (rejecting wr d) = rejecting wr (rejecting_more w (with_element w.session false) (put_block lent (place_of w.session) b) (w.notes.unaltered && agree lent w.window) (block b) d refl refl refl refl)
    go v (spent wr y) = clash y.ended v.accepting_it.going
    go v (over wr o) = clash o.ended v.accepting_it.going

-- ---- close

-- EOD becomes due, or the closing headers do, or neither
pub settled_cases : (s : State) (P : State → Type 0) → ((0 < s.elements.queue.pending) ⊎ (HeaderStage s ⊎ (s.stage ≡ S.Done)) ⊎ ((s.elements.eod ≡ false) × (s.closed ≡ false)) → P s)
    → (s.stage ≡ S.Elements → s.elements.eod ≡ false → s.closed ≡ true → s.elements.queue.pending ≡ 0 → P (eod_due s)) → (s.stage ≡ S.Elements → s.elements.eod ≡ true → s.elements.queue.pending ≡ 0 → P (closing_started s)) → P (settled_of s)
unfolding settled_of
settled_cases s P same at_eod_due closing_due =
    pick_by P (ltb 0 s.elements.queue.pending) (λ e. same (inl (ltb-true 0 s.elements.queue.pending e)))
    (λ e. let none : s.elements.queue.pending ≡ 0 = let z = ltb-false 0 s.elements.queue.pending e in omega arith in by none s.stage refl)
  where
    by : s.elements.queue.pending ≡ 0 → (st : Stage) → s.stage ≡ st → P (settled_by st s)
    by none S.OpeningHeaders q = same (inr (inl (inl (inl q))))
    by none S.Elements q =
        pick_by P s.elements.eod (λ v. closing_due q v none) (λ v. pick_by P s.closed (λ c. at_eod_due q v c none) (λ c. same (inr (inr (v, c)))))
    by none S.ClosingHeaders q = same (inr (inl (inl (inr q))))
    by none S.Done q = same (inr (inl (inr q)))

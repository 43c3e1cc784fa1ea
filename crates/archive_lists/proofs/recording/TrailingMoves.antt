-- What each act and answer of the drive, each reply and each frame that is built leave of what is said of the filemarks before each frame. Assumes nothing.
use Prim.Native.Nat.{ℕ, ◌+◌, ◌%◌, ◌^◌, ◌≤◌, ◌<◌}
use mathlib.Core.Path.{◌≡◌, refl, sym, ap, subst, ◌∙◌}
use mathlib.Core.Bool.{Bool, true, false}
use mathlib.Core.List.{List, [], ◌∷◌}
use mathlib.Core.Logic.{◌⊎◌, inl, inr}
use mathlib.Core.Option.{Option, some}
use native.Mathlib.Decide.{dec_le}
use native.Mathlib.Nat.{le_refl, eq-or-lt_of_le, mod-eq_of_lt}
use native.Mathlib.Omega.{arith}
use lib.ListN.{length, get_or, length-append}
use Rattle.geometry.specs.Cartridge.{is_header, is_user}
use Rattle.geometry.specs.declared.address.Address.{Address}
use Rattle.geometry.proofs.Impossible.{never, clash}
use Rattle.geometry.proofs.UserFrames.{header_not_user}
use Rattle.frame.specs.declared.element.Kind.{Kind}
use Rattle.frame.specs.declared.trail.Trail.{Trail}
use Rattle.judgement.proofs.Facts.{FoundAs}
use Rattle.drive.specs.declared.command.Command.TheVariants.{Write}
use Rattle.drive.specs.declared.reply.Reply.{Reply}
use Rattle.elements.specs.Elements.{base_of}
use Rattle.elements.specs.Trail.{trail_after, trail_before}
use Rattle.elements.specs.declared.elements.Elements.{Elements}
use Rattle.recording_state.specs.declared.state.State.{State}
use Rattle.recording_state.specs.declared.state.Stage.{Stage}
use Rattle.recording_state.specs.declared.state.Stage.TheVariants as S
use Rattle.archive_lists.specs.Conduct as conduct
use Rattle.archive_lists.specs.Conduct.{Drive, Written, Left, as_new, wrote, failing, taking, moved}
use Rattle.archive_lists.specs.Tape.{Tape, put}
use Rattle.archive_lists.specs.Recordings as recordings
use Rattle.archive_lists.specs.Recordings.{Element, Flight}
use Rattle.archive_lists.specs.Filemarks.{item_at, kind_for}
use Rattle.archive_lists.proofs.tape.Basics.{none_sent, answered_sent}
use Rattle.archive_lists.proofs.tape.FoldLaws.{put_other}
use Rattle.archive_lists.proofs.tape.Marks.{is_filemark, kind_marker}
use Rattle.archive_lists.proofs.tape.Stands.{telling}
use Rattle.archive_lists.proofs.tape.Closed.{user_within}
use Rattle.archive_lists.proofs.recording.ContentMoves.{left_reads}
use Rattle.archive_lists.proofs.recording.ElementSteps.{Step}
use Rattle.archive_lists.proofs.recording.Trailing.{Prior, MarkerBelow, Marked, Place, on_tape, to_come, NumberAt, NumberBelow, Traces, Says, Frames, TapeTrails, Buffered, holds, halted, Trailing}
use Rattle.archive_lists.proofs.recording.TrailingLaws.{below_moves, below_put, marked_map, traces_map, says_map, frames_map, place_map, frames_more, says_read, number_put, written_moves, tape_moves, keeps_put, tape_tried, tape_upto, number_written, place_written, buffered_as, traces_on}

-- ---- nothing but the address that the drive has tried, or nothing at all, changes

module _ {last pass : ℕ} {prior : Prior} {xs ys : List Element} {st : Stage} {e : Elements} {d : Drive} {g : Flight} {k edge : ℕ} (x : Trailing last pass prior xs ys st e d g k edge) where
  pub trailing_edge : (further : ℕ) → edge ≤ further → Trailing last pass prior xs ys st e d g k further
  trailing_edge further h = record {
    from = x.from;
    prefix = x.prefix;
    marked = x.marked;
    trail = traces_map (λ j a m. marked_map (below_moves further h) m) x.trail;
    written = λ j l m. let y = x.written j l m in written_moves y (let z = y.low in omega arith) refl;
    behind = x.behind;
    queue = λ s. on (x.queue s);
    sent = λ a f s q. says_map (λ j b _ p. place_map (below_moves further h) p) (x.sent a f s q);
    tape = λ s t. tape_moves (λ j b m. below_moves further h m) (λ _ _ _ r. r) (x.tape s t);
  }
    where
      on : Buffered last pass prior xs e d k edge → Buffered last pass prior xs e d k further
      on (holds fits fs) = holds fits (frames_map last pass xs _ _ k d.buffer (λ j a _ p. place_map (below_moves further h) p) fs)
      on (halted f l) = halted f l

  -- the command was answered, or is to be given again
  pub trailing_unsent : (h : Flight) → ((a : Address) (f : List ℕ) → h ≡ recordings.sent (Write a) f → ⊥) → Trailing last pass prior xs ys st e d h k edge
  trailing_unsent h none = record { from = x.from; prefix = x.prefix; marked = x.marked; trail = x.trail; written = x.written; behind = x.behind; queue = x.queue; sent = λ a f _ q. absurd (none a f q); tape = x.tape }

  pub trailing_answered : (r : Reply) → Trailing last pass prior xs ys st e d (recordings.answered r) k edge
  trailing_answered r = trailing_unsent (recordings.answered r) (λ _ _ q. answered_sent q)

  -- the drive has moved
  pub trailing_moved : (r : Reply) (to : ℕ) → e.queue.first.0 ≡ k → Trailing last pass prior xs ys st e (moved d to) (recordings.answered r) k edge
  unfolding Frames
  trailing_moved r to all = record { from = x.from; prefix = x.prefix; marked = x.marked; trail = x.trail; written = x.written; behind = λ _ j a l h _. absurd (omega arith); queue = λ _. holds (omega arith) tt; sent = λ _ _ _ q. answered_sent q; tape = x.tape }

  -- another stage than the elements'
  pub trailing_header : (u : Drive) (h : Flight) (v : Option (List ℕ)) → u.tape ≡ put d.tape d.at v → is_header d.at ≡ true → (st ≡ S.Elements → ⊥) → Trailing last pass prior xs ys st e u h k edge
  trailing_header u h v q at outside = record {
    from = x.from;
    prefix = x.prefix;
    marked = x.marked;
    trail = traces_map (λ j b m. marked_map (keeps j b) m) x.trail;
    written = λ j l m. let y = x.written j l m in written_moves y y.low (ap (λ (z : Tape). z y.place) q ∙ put_other d.tape d.at v y.place (apart y.place y.there.user));
    behind = λ s. absurd (outside s);
    queue = λ s. absurd (outside s);
    sent = λ _ _ s. absurd (outside s);
    tape = λ s t. tape_moves keeps (λ a f us r. sym (put_other d.tape d.at v a (apart a us)) ∙ sym (ap (λ (y : Tape). y a) q) ∙ r) (x.tape s t);
  }
    where
      apart : (a : ℕ) → is_user last a ≡ true → a ≡ d.at → ⊥
      apart a us z = header_not_user last d.at at (sym (ap (is_user last) z) ∙ us)

      keeps : (j b : ℕ) → MarkerBelow last pass edge d.tape j b → MarkerBelow last pass edge u.tape j b
      keeps j b m = subst (λ (y : Tape). MarkerBelow last pass edge y j b) (sym q) (below_put edge d.at v (le_refl edge) (apart b m.user) m)

  pub trailing_tape : (u : Drive) (h : Flight) → u.tape ≡ d.tape → (st ≡ S.Elements → ⊥) → Trailing last pass prior xs ys st e u h k edge
  trailing_tape u h q outside = record {
    from = x.from;
    prefix = x.prefix;
    marked = x.marked;
    trail = subst (λ (y : Tape). Traces xs (Marked prior last pass edge y) e.queue.first.0 e.trail) (sym q) x.trail;
    written = λ j l m. let y = x.written j l m in written_moves y y.low (ap (λ (z : Tape). z y.place) q);
    behind = λ s. absurd (outside s);
    queue = λ s. absurd (outside s);
    sent = λ _ _ s. absurd (outside s);
    tape = λ s t. subst (TapeTrails last pass xs ys k edge) (sym q) (x.tape s t);
  }

-- nothing is in flight
pub trailing_idle : {last pass : ℕ} {prior : Prior} {xs ys : List Element} {st : Stage} {e : Elements} {d : Drive} {g : Flight} {k edge : ℕ} → Trailing last pass prior xs ys st e d g k edge → Trailing last pass prior xs ys st e d recordings.no_command k edge
trailing_idle x = trailing_unsent x recordings.no_command (λ _ _ q. none_sent q)

-- the closing headers begin: nothing of the user's is above LAST
pub trailing_closed : {last pass : ℕ} {prior : Prior} {xs ys : List Element} {st : Stage} {e : Elements} {d : Drive} {g : Flight} {k edge : ℕ} → 3000 ≤ last → Trailing last pass prior xs ys st e d g k edge
    → Trailing last pass prior xs ys S.ClosingHeaders e d recordings.no_command k (last + 1)
trailing_closed {last} {pass} {d = d} {edge = edge} large x = record {
  from = x.from;
  prefix = x.prefix;
  marked = x.marked;
  trail = traces_map (λ j b m. marked_map (keeps j b) m) x.trail;
  written = λ j l m. let y = x.written j l m in written_moves y (omega (arith, user_within last y.place large y.there.user)) refl;
  behind = λ s. never (cc);
  queue = λ s. never (cc);
  sent = λ _ _ s. never (cc);
  tape = λ s t. tape_moves keeps (λ _ _ _ r. r) (x.tape s t);
}
  where
    keeps : (j b : ℕ) → MarkerBelow last pass edge d.tape j b → MarkerBelow last pass (last + 1) d.tape j b
    keeps j b m = record { frame = m.frame; user = m.user; low = omega (arith, user_within last b large m.user); reads = m.reads; found = m.found }

-- a WRITE was taken
pub trailing_taken : {last pass : ℕ} {prior : Prior} {xs ys : List Element} {st : Stage} {e : Elements} {d : Drive} {k edge : ℕ} (a : Address) (f : List ℕ) (r : Reply) → st ≡ S.Elements → e.course.locate ≡ false → e.queue.outstanding < e.queue.pending → e.queue.first.0 + e.queue.outstanding ≡ k + length d.buffer
    → Trailing last pass prior xs ys st e d (recordings.sent (Write a) f) k edge → Trailing last pass prior xs ys st e (taking d f) (recordings.answered r) k edge
trailing_taken {last} {pass} {prior} {xs} {ys} {st} {e} {d} {k} {edge} a f r is placed due there x = record {
  from = x.from;
  prefix = x.prefix;
  marked = x.marked;
  trail = x.trail;
  written = x.written;
  behind = x.behind;
  queue = λ s. more (x.queue s);
  sent = λ _ _ _ q. answered_sent q;
  tape = x.tape;
}
  where
    more : Buffered last pass prior xs e d k edge → Buffered last pass prior xs e (taking d f) k edge
    more (holds fits fs) =
        holds (omega (arith, length-append d.buffer (f ∷ [])))
        (frames_more last pass xs _ k d.buffer f fs (subst (λ (n : ℕ). Says last pass xs (Place prior last pass k d.at edge d.tape) n f) there (x.sent a f is refl)))
    more (halted _ l) = clash l placed

-- ---- the drive tries an address

module _ {last pass : ℕ} {prior : Prior} {xs ys : List Element} {st : Stage} {e : Elements} {d : Drive} {g : Flight} {k edge : ℕ} (f : List ℕ) (rest : List (List ℕ)) (b : d.buffer ≡ f ∷ rest) (free : d.failed ≡ false) (is : st ≡ S.Elements)
    (large : 3000 ≤ last) (here : is_user last d.at ≡ true) (edge_here : edge ≡ d.at) (low : k ≤ length xs) (before : Trailing last pass prior xs ys st e d g k edge) where
  x : Trailing last pass prior xs ys st e d g k d.at
  x = subst (λ (n : ℕ). Trailing last pass prior xs ys st e d g k n) edge_here before

  held : (k + length d.buffer ≤ e.queue.first.0 + e.queue.pending) × Frames last pass xs (Place prior last pass k d.at d.at d.tape) k d.buffer
  held = go (x.queue is)
    where
      go : Buffered last pass prior xs e d k d.at → (k + length d.buffer ≤ e.queue.first.0 + e.queue.pending) × Frames last pass xs (Place prior last pass k d.at d.at d.tape) k d.buffer
      go (holds fits fs) = (fits, fs)
      go (halted f _) = clash f free

  head : Says last pass xs (Place prior last pass k d.at d.at d.tape) k f × Frames last pass xs (Place prior last pass k d.at d.at d.tape) (k + 1) rest
  unfolding Frames
  head = subst (Frames last pass xs (Place prior last pass k d.at d.at d.tape) k) b held.1

  tape_so : (v : Option (List ℕ)) → Left (d.tape d.at) f v → prior.same → prior.trailed → TapeTrails last pass xs ys k (d.at + 1) (put d.tape d.at v)
  tape_so v left s t = tape_tried d.tape d.at k v low x.prefix f (λ h q. left_reads left q) head.0 s (x.tape s t)

  -- those on tape before it stay
  stays : (v : Option (List ℕ)) (j a : ℕ) → e.queue.first.0 ≤ j → j < k → a + k ≡ d.at + j → NumberAt last pass xs (put d.tape d.at v) j a
  stays v j a l h q = number_put d.at v (λ z. omega arith) (x.behind is j a l h q)

  keeps_written : (v : Option (List ℕ)) (j : ℕ) → prior.base ≤ j → j < k → NumberBelow last pass xs (d.at + 1) (put d.tape d.at v) j
  keeps_written v j l h = let y = x.written j l h in let low = y.low in written_moves y (omega arith) (put_other d.tape d.at v y.place (λ z. omega arith))

  pub trailing_failed : (v : Option (List ℕ)) → Left (d.tape d.at) f v → Trailing last pass prior xs ys st e (failing d v) g k (d.at + 1)
  trailing_failed v left = record {
    from = x.from;
    prefix = x.prefix;
    marked = x.marked;
    trail = traces_map (λ j c m. marked_map (keeps_put d.tape d.at v j c) m) x.trail;
    written = keeps_written v;
    behind = λ _. stays v;
    queue = λ _. holds held.0 (frames_map last pass xs _ _ k d.buffer (λ j c _ p. place_map (keeps_put d.tape d.at v j c) p) held.1);
    sent = λ a h s q. says_map (λ j c _ p. place_map (keeps_put d.tape d.at v j c) p) (x.sent a h s q);
    tape = tape_so v left;
  }

  pub trailing_written : (v : Option (List ℕ)) → Written f v → Trailing last pass prior xs ys st e (wrote d rest v) g (k + 1) (d.at + 1)
  trailing_written v (conduct.reads read r) = record {
    from = x.from;
    prefix = x.prefix;
    marked = x.marked;
    trail = traces_map (λ j c m. marked_map (keeps_put d.tape d.at (some read) j c) m) x.trail;
    written = λ j l h. one_more j l (eq-or-lt_of_le (let z : j ≤ k = omega arith in z));
    behind = λ _ j a l h q. by j a l q (eq-or-lt_of_le (let z : j ≤ k = omega arith in z));
    queue = λ _.
        let one = ap length b in
        holds (omega (arith, held.0, one)) (frames_map last pass xs _ _ (k + 1) rest (place_written xs d.tape d.at k read here (user_within last d.at large here) found) head.1);
    sent = λ a h s q. says_map (place_written xs d.tape d.at k read here (user_within last d.at large here) found) (x.sent a h s q);
    tape = λ s t. tape_upto (tape_so (some read) (as_new (some read) (conduct.reads read r)) s t);
  }
    where
      found : FoundAs (telling last pass 0) (record { 0 = k }) (kind_for (item_at xs k)) read
      found = (says_read r head.0).found

      one_more : (j : ℕ) → prior.base ≤ j → (j ≡ k) ⊎ (j < k) → NumberBelow last pass xs (d.at + 1) (put d.tape d.at (some read)) j
      one_more j l (inr h) = keeps_written (some read) j l h
      one_more j l (inl z) =
          subst (NumberBelow last pass xs (d.at + 1) (put d.tape d.at (some read))) (sym z)
          (record { place = d.at; low = omega arith; there = number_written xs d.tape d.at k read here (user_within last d.at large here) found d.at refl })

      by : (j a : ℕ) → e.queue.first.0 ≤ j → a + (k + 1) ≡ d.at + 1 + j → (j ≡ k) ⊎ (j < k) → NumberAt last pass xs (put d.tape d.at (some read)) j a
      by j a l q (inl z) = subst (λ (n : ℕ). NumberAt last pass xs (put d.tape d.at (some read)) n a) (sym z) (number_written xs d.tape d.at k read here (user_within last d.at large here) found a (omega arith))
      by j a l q (inr h) = stays (some read) j a l h (omega arith)

-- ---- the trail over outstanding elements

module _ {last pass : ℕ} {prior : Prior} {xs ys : List Element} {st : Stage} {e : Elements} {d : Drive} {g : Flight} {k edge : ℕ} (large : 3000 ≤ last) (small : last + 65 < 2 ^ 32) (is : st ≡ S.Elements) (x : Trailing last pass prior xs ys st e d g k edge) where
  -- one that is on tape
  marker_behind : (i a : ℕ) → e.queue.first.0 + i < k → a + k ≡ d.at + (e.queue.first.0 + i) → d.at ≤ edge → is_filemark xs (e.queue.first.0 + i) ≡ true → Marked prior last pass edge d.tape (e.queue.first.0 + i) a × (a < 2 ^ 32)
  marker_behind i a h q tried m =
      let n = x.behind is (e.queue.first.0 + i) a (omega arith) h q in (
        record {
          inside = user_within last a large n.user;
          there = λ _. record {
            frame = n.frame;
            user = n.user;
            low = omega arith;
            reads = n.reads;
            found = subst (λ (c : Kind). FoundAs (telling last pass 0) (record { 0 = e.queue.first.0 + i }) c n.frame) (kind_marker xs (e.queue.first.0 + i) m) n.found;
          };
        },
        omega (arith, user_within last a large n.user),
      )

  -- n more are confirmed
  pub trail_after_lem : (n : ℕ) → n ≤ e.queue.pending → e.queue.first.0 + n < 2 ^ 32 → e.queue.first.0 + n ≤ k → (0 < n → ((base_of e).0 + k ≡ d.at + e.queue.first.0) × (d.at ≤ edge))
      → Traces xs (Marked prior last pass edge d.tape) (e.queue.first.0 + n) (trail_after e n)
  trail_after_lem n few fits upto based =
      traces_on xs (Marked prior last pass edge d.tape) (Marked prior last pass edge d.tape) e.trail e.queue.marks e.queue.first (base_of e) n fits (λ i h. x.marked i (omega arith)) (λ j a _ m. m) new x.trail
    where
      new : (i : ℕ) → i < n → is_filemark xs (e.queue.first.0 + i) ≡ true → Marked prior last pass edge d.tape (e.queue.first.0 + i) (((base_of e).0 + i) % 2 ^ 32)
      new i h m =
          let y = based (omega arith) in
          let base_is = y.0 in
          let z = marker_behind i ((base_of e).0 + i) (omega arith) (omega arith) y.1 m in
          subst (Marked prior last pass edge d.tape (e.queue.first.0 + i)) (sym (mod-eq_of_lt z.1)) z.0

  -- before the next element to be written
  pub trail_before_lem : e.queue.outstanding ≤ e.queue.pending → e.queue.first.0 + e.queue.outstanding < 2 ^ 32 → e.queue.first.0 ≤ k → (base_of e).0 + k ≡ d.at + e.queue.first.0 → d.at ≤ edge → (base_of e).0 + e.queue.outstanding ≤ last + 1
      → Traces xs (Place prior last pass k d.at edge d.tape) (e.queue.first.0 + e.queue.outstanding) (trail_before e)
  trail_before_lem few fits least base_is tried roof =
      traces_on xs (Marked prior last pass edge d.tape) (Place prior last pass k d.at edge d.tape) e.trail e.queue.marks e.queue.first (base_of e) e.queue.outstanding fits (λ i h. x.marked i (omega arith))
      (λ j a l m. on_tape (omega arith) m) new x.trail
    where
      new : (i : ℕ) → i < e.queue.outstanding → is_filemark xs (e.queue.first.0 + i) ≡ true → Place prior last pass k d.at edge d.tape (e.queue.first.0 + i) (((base_of e).0 + i) % 2 ^ 32)
      new i h m =
          subst (Place prior last pass k d.at edge d.tape (e.queue.first.0 + i)) (sym (mod-eq_of_lt (let z : (base_of e).0 + i < 2 ^ 32 = omega arith in z))) (go (dec_le k (e.queue.first.0 + i)))
        where
          go : Dec (k ≤ e.queue.first.0 + i) → Place prior last pass k d.at edge d.tape (e.queue.first.0 + i) ((base_of e).0 + i)
          go (yes l) = to_come l (omega arith)
          go (no l) = on_tape (omega arith) (marker_behind i ((base_of e).0 + i) (omega arith) (omega arith) tried m).0

-- ---- a reply among the elements

pub trailing_stepped : {last pass : ℕ} {prior : Prior} {xs ys : List Element} {s : State} {d : Drive} {g : Flight} {k edge : ℕ} (e : Elements) (step : Step last s d k edge e) → 3000 ≤ last → last + 65 < 2 ^ 32 → s.stage ≡ S.Elements → s.elements.queue.outstanding ≤ s.elements.queue.pending → s.elements.queue.first.0 + s.elements.queue.pending < 2 ^ 32
    → Trailing last pass prior xs ys s.stage s.elements d g k edge → Trailing last pass prior xs ys s.stage e d recordings.no_command k step.tried
trailing_stepped {last} {pass} {prior} {xs} {ys} {s} {d} {g} {k} {edge} e step large small is few fits before =
    let first_is = step.first_is in
    let pending_is = step.pending_is in
    let confirmed = step.confirmed in
    let x = trailing_edge before step.tried step.further in
    record {
      from = let f = x.from in omega arith;
      prefix = x.prefix;
      marked = λ i h.
          let at : s.elements.queue.first.0 + (step.n + i) ≡ e.queue.first.0 + i = omega arith in
          subst (λ (m : List Bool). get_or m ((e.queue.first.0 + i) % 64) false ≡ is_filemark xs (e.queue.first.0 + i)) (sym step.marks_is)
          (subst (λ (j : ℕ). get_or s.elements.queue.marks (j % 64) false ≡ is_filemark xs j) at (x.marked (step.n + i) (omega arith)));
      trail =
          subst (λ (t : Trail). Traces xs (Marked prior last pass step.tried d.tape) e.queue.first.0 t) (sym step.trail_is)
          (subst (λ (j : ℕ). Traces xs (Marked prior last pass step.tried d.tape) j (trail_after s.elements step.n)) (sym first_is)
          (trail_after_lem large small is x step.n (omega arith) (omega arith) step.on_tape (λ h. let y = step.based h in (y.0, let z = y.1 in let f = step.further in omega arith))));
      written = x.written;
      behind = λ q j a l h z. x.behind q j a (omega arith) h z;
      queue = λ q. buffered_as s.elements e (omega arith) (λ f l. clash l (step.placed f)) (x.queue q);
      sent = λ _ _ _ q. none_sent q;
      tape = x.tape;
    }

-- How what is said of the filemarks before each frame goes on: as the tape is written, as elements are accepted and confirmed, and in a frame that is built. Assumes nothing.
use Prim.Native.Nat.{ℕ, zero, suc, ◌+◌, ◌%◌, ◌^◌, ◌≤◌, ◌<◌}
use mathlib.Core.Path.{◌≡◌, sym, ap, subst, ◌∙◌}
use mathlib.Core.Bool.{Bool, true, false}
use mathlib.Core.List.{List, [], ◌∷◌, ◌++◌}
use mathlib.Core.Logic.{◌⊎◌, inl, inr, ⊎_elim}
use mathlib.Core.Option.{Option, some}
use native.Mathlib.Decide.{ℕ_discrete}
use native.Mathlib.Nat.{le_refl, eq-or-lt_of_le, mod-eq_of_lt}
use native.Mathlib.Omega.{arith}
use lib.Dec.{lit≤}
use lib.ListN.{length, get_or}
use Rattle.geometry.specs.Cartridge.{is_user}
use Rattle.geometry.specs.declared.address.Address.{Address}
use Rattle.geometry.specs.declared.address.Seq.{Seq}
use Rattle.geometry.proofs.PickLaws.{pick_by}
use Rattle.frame.specs.Sent.{ReadsAs}
use Rattle.frame.specs.declared.element.Kind.{Kind}
use Rattle.frame.specs.declared.element.Kind.TheVariants.{Marker, Eod}
use Rattle.frame.specs.declared.trail.Trail.{Trail}
use Rattle.frame.proofs.AsSent.{aux_behind32}
use Rattle.judgement.proofs.Facts.{FoundAs}
use Rattle.judgement.proofs.Unread.{found_as_sent}
use Rattle.elements.specs.Trail.{trail_of}
use Rattle.elements.specs.declared.elements.Elements.{Elements}
use Rattle.archive_lists.specs.Tape.{Tape, put}
use Rattle.archive_lists.specs.Conduct.{Drive, AtRest, empty, stopped}
use Rattle.archive_lists.specs.Recordings.{Element}
use Rattle.archive_lists.specs.Filemarks.{Item, item_at, kind_for, latest_among, NamesLatest, marker_named}
use Rattle.archive_lists.proofs.tape.FoldLaws.{put_same, put_other}
use Rattle.archive_lists.proofs.tape.Marks.{is_filemark, kind_marker, filemarks_few, filemarks_alike, latest_alike, filemarks_marked, filemarks_plain, latest_marked, latest_plain, latest_map}
use Rattle.archive_lists.proofs.tape.Stands.{telling}
use Rattle.archive_lists.proofs.tape.StandsLaws.{item_past}
use Rattle.archive_lists.proofs.tape.Judged.{kind_same}
use Rattle.archive_lists.proofs.recording.Trailing.{MarkerBelow, Prior, Marked, Place, on_tape, to_come, NumberAt, NumberBelow, Traces, Says, Frames, TapeSays, TapeTrails, Buffered, holds, halted}

-- ---- a marker stays where it is

pub below_moves : {last pass edge : ℕ} {t : Tape} {j a : ℕ} (further : ℕ) → edge ≤ further → MarkerBelow last pass edge t j a → MarkerBelow last pass further t j a
below_moves further h m = record { frame = m.frame; user = m.user; low = let l = m.low in omega arith; reads = m.reads; found = m.found }

pub below_put : {last pass edge : ℕ} {t : Tape} {j a : ℕ} (further b : ℕ) (v : Option (List ℕ)) → edge ≤ further → (a ≡ b → ⊥) → MarkerBelow last pass edge t j a → MarkerBelow last pass further (put t b v) j a
below_put {t = t} {a = a} further b v h other m = record { frame = m.frame; user = m.user; low = let l = m.low in omega arith; reads = put_other t b v a other ∙ m.reads; found = m.found }

-- ---- to other places

pub traces_map : {xs : List Element} {P Q : ℕ → ℕ → Type 0} {n : ℕ} {trail : Trail} → ((j a : ℕ) → P j a → Q j a) → Traces xs P n trail → Traces xs Q n trail
traces_map {xs} {P} {Q} {n} {trail} h x = record { counts = x.counts; names = latest_map xs n P Q trail.marker.0 (λ j _ _ p. h j trail.marker.0 p) x.names }

pub says_map : {last pass : ℕ} {xs : List Element} {P Q : ℕ → ℕ → Type 0} {n : ℕ} {f : List ℕ} → ((j a : ℕ) → is_filemark xs j ≡ true → P j a → Q j a) → Says last pass xs P n f → Says last pass xs Q n f
says_map {xs = xs} {P} {Q} {n} {f} h x = record { found = x.found; counts = x.counts; names = latest_map xs n P Q (marker_named f) (λ j _ m p. h j (marker_named f) m p) x.names }

pub frames_map : (last pass : ℕ) (xs : List Element) (P Q : ℕ → ℕ → Type 0) (n : ℕ) (fs : List (List ℕ)) → ((j a : ℕ) → is_filemark xs j ≡ true → P j a → Q j a) → Frames last pass xs P n fs → Frames last pass xs Q n fs
unfolding Frames
frames_map last pass xs P Q n [] h x = tt
frames_map last pass xs P Q n (f ∷ fs) h x = (says_map h x.0, frames_map last pass xs P Q (n + 1) fs h x.1)

pub marked_map : {prior : Prior} {last pass edge further : ℕ} {t u : Tape} {j a : ℕ} → (MarkerBelow last pass edge t j a → MarkerBelow last pass further u j a) → Marked prior last pass edge t j a → Marked prior last pass further u j a
marked_map h m = record { inside = m.inside; there = λ s. h (m.there s) }

pub place_map : {prior : Prior} {last pass k at edge further : ℕ} {t u : Tape} {j a : ℕ} → (MarkerBelow last pass edge t j a → MarkerBelow last pass further u j a) → Place prior last pass k at edge t j a → Place prior last pass k at further u j a
place_map h (on_tape l m) = on_tape l (marked_map h m)
place_map h (to_come l e) = to_come l e

-- ---- as a frame is read

pub says_read : {last pass : ℕ} {xs : List Element} {P : ℕ → ℕ → Type 0} {n : ℕ} {sent read : List ℕ} → ReadsAs sent read → Says last pass xs P n sent → Says last pass xs P n read
says_read {xs = xs} {P} {n} r x = record {
  found = found_as_sent r x.found;
  counts = aux_behind32 r 192 (lit≤ tt) ∙ x.counts;
  names = subst (λ (name : ℕ). NamesLatest (latest_among xs n) P name) (sym (aux_behind32 r 200 (lit≤ tt))) x.names;
}

-- ---- one frame more

pub frames_more : (last pass : ℕ) (xs : List Element) (P : ℕ → ℕ → Type 0) (n : ℕ) (fs : List (List ℕ)) (f : List ℕ) → Frames last pass xs P n fs → Says last pass xs P (n + length fs) f → Frames last pass xs P n (fs ++ f ∷ [])
unfolding Frames
frames_more last pass xs P n [] f x s =
    let e : n + 0 ≡ n = omega arith in
    (subst (λ (i : ℕ). Says last pass xs P i f) e s, tt)
frames_more last pass xs P n (g ∷ fs) f x s =
    let e : n + length (g ∷ fs) ≡ n + 1 + length fs = omega arith in
    (x.0, frames_more last pass xs P (n + 1) fs f x.1 (subst (λ (i : ℕ). Says last pass xs P i f) e s))

-- the i-th of them
pub frames_at : (last pass : ℕ) (xs : List Element) (P : ℕ → ℕ → Type 0) (n : ℕ) (fs : List (List ℕ)) (i : ℕ) → i < length fs → Frames last pass xs P n fs → Says last pass xs P (n + i) (get_or fs i [])
unfolding Frames
frames_at last pass xs P n [] i h x = absurd (omega arith)
frames_at last pass xs P n (f ∷ fs) zero h x = let e : n ≡ n + 0 = omega arith in subst (λ (m : ℕ). Says last pass xs P m f) e x.0
frames_at last pass xs P n (f ∷ fs) (suc i) h x = let e : n + 1 + i ≡ n + suc i = omega arith in subst (λ (m : ℕ). Says last pass xs P m (get_or fs i [])) e (frames_at last pass xs P (n + 1) fs i (omega arith) x.1)

-- ---- of other elements that are alike up to a number

module _ (xs ys : List Element) (upto : ℕ) (alike : (i : ℕ) → i < upto → item_at ys i ≡ item_at xs i) where
  pub traces_alike : {P : ℕ → ℕ → Type 0} {n : ℕ} {trail : Trail} → n ≤ upto → Traces xs P n trail → Traces ys P n trail
  traces_alike {P} {n} {trail} h x = record {
    counts = x.counts ∙ sym (filemarks_alike xs ys n (λ i l. alike i (omega arith)));
    names = subst (λ (o : Option ℕ). NamesLatest o P trail.marker.0) (sym (latest_alike xs ys n (λ i l. alike i (omega arith)))) x.names;
  }

  found_alike : {last pass n : ℕ} {f : List ℕ} → n < upto → FoundAs (telling last pass 0) (record { 0 = n }) (kind_for (item_at xs n)) f → FoundAs (telling last pass 0) (record { 0 = n }) (kind_for (item_at ys n)) f
  found_alike {last} {pass} {n} {f} h x = subst (λ (y : Item). FoundAs (telling last pass 0) (record { 0 = n }) (kind_for y) f) (sym (alike n h)) x

  pub says_alike : {last pass : ℕ} {P : ℕ → ℕ → Type 0} {n : ℕ} {f : List ℕ} → n < upto → Says last pass xs P n f → Says last pass ys P n f
  says_alike {P = P} {n} {f} h x = record {
    found = found_alike h x.found;
    counts = x.counts ∙ sym (filemarks_alike xs ys n (λ i l. alike i (omega arith)));
    names = subst (λ (o : Option ℕ). NamesLatest o P (marker_named f)) (sym (latest_alike xs ys n (λ i l. alike i (omega arith)))) x.names;
  }

  pub frames_alike : (last pass : ℕ) (P : ℕ → ℕ → Type 0) (n : ℕ) (fs : List (List ℕ)) → n + length fs ≤ upto → Frames last pass xs P n fs → Frames last pass ys P n fs
  unfolding Frames
  frames_alike last pass P n [] h x = tt
  frames_alike last pass P n (f ∷ fs) h x = (says_alike (omega arith) x.0, frames_alike last pass P (n + 1) fs (omega arith) x.1)

  pub number_alike : {last pass : ℕ} {t : Tape} {j a : ℕ} → j < upto → NumberAt last pass xs t j a → NumberAt last pass ys t j a
  number_alike h x = record { frame = x.frame; user = x.user; reads = x.reads; found = found_alike h x.found }

  pub written_alike : {last pass edge : ℕ} {t : Tape} {j : ℕ} → j < upto → NumberBelow last pass xs edge t j → NumberBelow last pass ys edge t j
  written_alike h x = record { place = x.place; low = x.low; there = number_alike h x.there }

-- ---- of a tape

-- an element of xs, or EOD behind them, by other elements
element_or_end : (xs ys : List Element) {kind : Kind} {i : ℕ} → ((j : ℕ) → j < length xs → item_at ys j ≡ item_at xs j) → i ≤ length xs → kind ≡ kind_for (item_at xs i) → (kind ≡ kind_for (item_at ys i)) ⊎ (kind ≡ Eod)
element_or_end xs ys {kind} {i} alike few e = go (eq-or-lt_of_le few)
  where
    go : (i ≡ length xs) ⊎ (i < length xs) → (kind ≡ kind_for (item_at ys i)) ⊎ (kind ≡ Eod)
    go (inl last_one) = inr (e ∙ ap kind_for (item_past xs i (omega arith)))
    go (inr inside) = inl (e ∙ ap kind_for (sym (alike i inside)))

-- of more elements, of which as many are promised
pub tape_grow : {last pass k edge : ℕ} {t : Tape} (xs ys ps zs : List Element) → ((j : ℕ) → j < length ys → item_at zs j ≡ item_at ys j) → length xs ≤ length ys → length xs ≤ length ps → TapeTrails last pass xs ys k edge t → TapeTrails last pass ps zs k edge t
tape_grow {last} {pass} {k} {edge} {t} xs ys ps zs alike few longer x a i f kind u r q =
    let y = x a i f kind u r q in
    let h = y.among in
    record {
      among = omega arith;
      upto = y.upto;
      is = ⊎_elim (λ e. element_or_end ys zs alike (omega arith) e) (λ e. inr e) y.is;
      counts = y.counts ∙ sym (filemarks_alike ys zs i (λ j l. alike j (omega arith)));
      names = subst (λ (o : Option ℕ). NamesLatest o (MarkerBelow last pass edge t) (marker_named f)) (sym (latest_alike ys zs i (λ j l. alike j (omega arith)))) y.names;
    }

-- where the others are given up
pub tape_gives : {last pass k edge : ℕ} {t : Tape} {xs ys : List Element} (ps : List Element) → length ps ≡ k → TapeTrails last pass xs ys k edge t → TapeTrails last pass ps ys k edge t
tape_gives ps size x a i f kind u r q = let y = x a i f kind u r q in record { among = let h = y.upto in omega arith; upto = y.upto; is = y.is; counts = y.counts; names = y.names }

-- one more is on tape
pub tape_upto : {last pass k edge : ℕ} {t : Tape} {xs ys : List Element} → TapeTrails last pass xs ys k edge t → TapeTrails last pass xs ys (k + 1) edge t
tape_upto x a i f kind u r q = let y = x a i f kind u r q in record { among = y.among; upto = let h = y.upto in omega arith; is = y.is; counts = y.counts; names = y.names }

-- ---- a tape that is written at one address

pub number_put : {last pass : ℕ} {xs : List Element} {t : Tape} {j a : ℕ} (b : ℕ) (v : Option (List ℕ)) → (a ≡ b → ⊥) → NumberAt last pass xs t j a → NumberAt last pass xs (put t b v) j a
number_put {t = t} {a = a} b v other x = record { frame = x.frame; user = x.user; reads = put_other t b v a other ∙ x.reads; found = x.found }

-- where a number stays, further on
pub written_moves : {last pass : ℕ} {xs : List Element} {edge further : ℕ} {t u : Tape} {j : ℕ} (x : NumberBelow last pass xs edge t j) → x.place < further → u x.place ≡ t x.place → NumberBelow last pass xs further u j
written_moves x low same = record { place = x.place; low = low; there = let y = x.there in record { frame = y.frame; user = y.user; reads = same ∙ y.reads; found = y.found } }

says_moves : {last pass k : ℕ} {xs ys : List Element} {edge further : ℕ} {t u : Tape} {i : ℕ} {kind : Kind} {f : List ℕ} → ((j b : ℕ) → MarkerBelow last pass edge t j b → MarkerBelow last pass further u j b) → TapeSays last pass xs ys k edge t i kind f → TapeSays last pass xs ys k further u i kind f
says_moves {last} {pass} {k} {xs} {ys} {edge} {further} {t} {u} {i} {kind} {f} keeps y = record { among = y.among; upto = y.upto; is = y.is; counts = y.counts; names = latest_map ys i (MarkerBelow last pass edge t) (MarkerBelow last pass further u) (marker_named f) (λ j _ _ m. keeps j (marker_named f) m) y.names }

-- where markers stay, and other user frames too
pub tape_moves : {last pass k : ℕ} {xs ys : List Element} {edge further : ℕ} {t u : Tape} → ((j b : ℕ) → MarkerBelow last pass edge t j b → MarkerBelow last pass further u j b)
    → ((a : ℕ) (f : List ℕ) → is_user last a ≡ true → u a ≡ some f → t a ≡ some f) → TapeTrails last pass xs ys k edge t → TapeTrails last pass xs ys k further u
tape_moves keeps stays x a i f kind us r q = says_moves keeps (x a i f kind us (stays a f us r) q)

-- what is on tape stays there
pub keeps_put : {last pass : ℕ} (t : Tape) (at : ℕ) (v : Option (List ℕ)) (j b : ℕ) → MarkerBelow last pass at t j b → MarkerBelow last pass (at + 1) (put t at v) j b
keeps_put t at v j b m = below_put (at + 1) at v (omega arith) (λ e. let l = m.low in omega arith) m

module _ {prior : Prior} {last pass : ℕ} {xs ys : List Element} (t : Tape) (at k : ℕ) (v : Option (List ℕ)) (low : k ≤ length xs) (alike : (j : ℕ) → j < length xs → item_at ys j ≡ item_at xs j) where
  -- number k is tried at an address: it reads as before, as the frame that was sent, or not at all
  pub tape_tried : (sent : List ℕ) → ((f : List ℕ) → v ≡ some f → (t at ≡ some f) ⊎ ReadsAs sent f) → Says last pass xs (Place prior last pass k at at t) k sent → prior.same → TapeTrails last pass xs ys k at t → TapeTrails last pass xs ys k (at + 1) (put t at v)
  tape_tried sent left says s x a i f kind u r q = go (ℕ_discrete a at)
    where
      fresh : ReadsAs sent f → TapeSays last pass xs ys k (at + 1) (put t at v) i kind f
      fresh as_sent =
          let new = says_read as_sent says in
          let number : k ≡ i = sym new.found.number ∙ q.number in
          subst (λ (n : ℕ). TapeSays last pass xs ys k (at + 1) (put t at v) n kind f) number (record {
            among = low;
            upto = le_refl k;
            is = element_or_end xs ys alike low (kind_same q new.found);
            counts = new.counts ∙ sym (filemarks_alike xs ys k (λ j l. alike j (omega arith)));
            names = subst (λ (o : Option ℕ). NamesLatest o (MarkerBelow last pass (at + 1) (put t at v)) (marker_named f)) (sym (latest_alike xs ys k (λ j l. alike j (omega arith))))
                (latest_map xs k (Place prior last pass k at at t) (MarkerBelow last pass (at + 1) (put t at v)) (marker_named f) (λ j l _ p. stood j l p) new.names);
          })
        where
          stood : (j : ℕ) → j < k → Place prior last pass k at at t j (marker_named f) → MarkerBelow last pass (at + 1) (put t at v) j (marker_named f)
          stood j l (on_tape _ m) = keeps_put t at v j (marker_named f) (m.there (λ _. s))
          stood j l (to_come h _) = absurd (omega arith)

      go : Dec (a ≡ at) → TapeSays last pass xs ys k (at + 1) (put t at v) i kind f
      go (yes e) =
          ⊎_elim (λ y. says_moves (keeps_put t at v) (x at i f kind (subst (λ (b : ℕ). is_user last b ≡ true) e u) y q)) fresh (left f (sym (put_same t at v) ∙ ap (put t at v) (sym e) ∙ r))
      go (no n) = says_moves (keeps_put t at v) (x a i f kind u (sym (put_other t at v a n) ∙ r) q)

-- it is on tape
module _ {last pass : ℕ} (xs : List Element) (t : Tape) (at k : ℕ) (read : List ℕ) (here : is_user last at ≡ true) (inside : at ≤ last) (found : FoundAs (telling last pass 0) (record { 0 = k }) (kind_for (item_at xs k)) read) where
  pub number_written : (a : ℕ) → a ≡ at → NumberAt last pass xs (put t at (some read)) k a
  number_written a e = record { frame = read; user = subst (λ (b : ℕ). is_user last b ≡ true) (sym e) here; reads = ap (put t at (some read)) e ∙ put_same t at (some read); found = found }

  pub place_written : {prior : Prior} (j a : ℕ) → is_filemark xs j ≡ true → Place prior last pass k at at t j a → Place prior last pass (k + 1) (at + 1) (at + 1) (put t at (some read)) j a
  place_written j a m (on_tape l x) = on_tape (omega arith) (marked_map (keeps_put t at (some read) j a) x)
  place_written {prior} j a m (to_come h e) = go (eq-or-lt_of_le h)
    where
      go : (k ≡ j) ⊎ (k < j) → Place prior last pass (k + 1) (at + 1) (at + 1) (put t at (some read)) j a
      go (inr l) = to_come (omega arith) (omega arith)
      go (inl same) =
          let a_is : a ≡ at = omega arith in
          on_tape (omega arith) (record {
            inside = omega arith;
            there = λ _. record {
              frame = read;
              user = subst (λ (b : ℕ). is_user last b ≡ true) (sym a_is) here;
              low = omega arith;
              reads = ap (put t at (some read)) a_is ∙ put_same t at (some read);
              found = subst (λ (n : ℕ). FoundAs (telling last pass 0) (record { 0 = n }) Marker read) same (subst (λ (c : Kind). FoundAs (telling last pass 0) (record { 0 = k }) c read) (kind_marker xs k (subst (λ (n : ℕ). is_filemark xs n ≡ true) (sym same) m)) found);
            };
          })

-- ---- the drive's buffer, to other elements of the session

pub buffered_as : {last pass : ℕ} {prior : Prior} {xs : List Element} {d : Drive} {k edge : ℕ} (e f : Elements) → e.queue.first.0 + e.queue.pending ≤ f.queue.first.0 + f.queue.pending → (d.failed ≡ true → e.course.locate ≡ true → f.course.locate ≡ true)
    → Buffered last pass prior xs e d k edge → Buffered last pass prior xs f d k edge
buffered_as e f more moving (holds fits fs) = holds (omega arith) fs
buffered_as e f more moving (halted failed l) = halted failed (moving failed l)

-- it holds nothing
pub none_buffered : {last pass : ℕ} {prior : Prior} {xs : List Element} {k edge : ℕ} (e : Elements) (d : Drive) → k ≤ e.queue.first.0 + e.queue.pending → d.buffer ≡ [] → Buffered last pass prior xs e d k edge
unfolding Frames
none_buffered {last} {pass} {prior} {xs} {k} {edge} e d few none = holds (omega (arith, ap length none)) (subst (Frames last pass xs (Place prior last pass k d.at edge d.tape) k) (sym none) tt)

-- or it rests, and a LOCATE is due
pub rests_buffered : {last pass : ℕ} {prior : Prior} {xs : List Element} {k edge : ℕ} (e : Elements) (d : Drive) → k ≤ e.queue.first.0 + e.queue.pending → e.course.locate ≡ true → AtRest d → Buffered last pass prior xs e d k edge
rests_buffered e d few locate (stopped f) = halted f locate
rests_buffered e d few locate (empty none) = none_buffered e d few none

-- ---- the trail of the session

-- n elements more, from a base on
module _ (xs : List Element) (P Q : ℕ → ℕ → Type 0) (start : Trail) (marks : List Bool) (first : Seq) (base : Address) where
  pub traces_on : (n : ℕ) → first.0 + n < 2 ^ 32 → ((i : ℕ) → i < n → get_or marks ((first.0 + i) % 64) false ≡ is_filemark xs (first.0 + i)) → ((j a : ℕ) → j < first.0 → P j a → Q j a)
      → ((i : ℕ) → i < n → is_filemark xs (first.0 + i) ≡ true → Q (first.0 + i) ((base.0 + i) % 2 ^ 32)) → Traces xs P first.0 start → Traces xs Q (first.0 + n) (trail_of start marks first base n)
  unfolding trail_of
  traces_on zero small marks_are earlier new x =
      let e : first.0 ≡ first.0 + 0 = omega arith in
      subst (λ (m : ℕ). Traces xs Q m start) e (record { counts = x.counts; names = latest_map xs first.0 P Q start.marker.0 (λ j l _ p. earlier j start.marker.0 l p) x.names })
  traces_on (suc n) small marks_are earlier new x =
      let e : suc (first.0 + n) ≡ first.0 + suc n = omega arith in
      let before = traces_on n (omega arith) (λ i h. marks_are i (omega arith)) earlier (λ i h. new i (omega arith)) x in
      subst (λ (m : ℕ). Traces xs Q m (trail_of start marks first base (suc n))) e
      (pick_by (λ (y : Trail). Traces xs Q (suc (first.0 + n)) y) (get_or marks ((first.0 + n) % 64) false)
      (λ y.
      let is : is_filemark xs (first.0 + n) ≡ true = sym (marks_are n (omega arith)) ∙ y in
      let few = filemarks_few xs (first.0 + n) in
      let counts = before.counts in
      let whole : ((trail_of start marks first base n).filemarks + 1) % 2 ^ 32 ≡ (trail_of start marks first base n).filemarks + 1 = mod-eq_of_lt (omega arith) in
      record {
        counts = omega (arith, whole, filemarks_marked xs (first.0 + n) is);
        names = latest_marked xs (first.0 + n) Q ((base.0 + n) % 2 ^ 32) is (new n (omega arith) is);
      })
      (λ y.
      let is : is_filemark xs (first.0 + n) ≡ false = sym (marks_are n (omega arith)) ∙ y in
      record {
        counts = before.counts ∙ sym (filemarks_plain xs (first.0 + n) is);
        names = latest_plain xs (first.0 + n) Q (trail_of start marks first base n).marker.0 is before.names;
      }))

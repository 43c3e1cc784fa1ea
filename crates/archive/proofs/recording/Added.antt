-- A session that was opened at the end of a reading starts behind what the reading delivered. Assumes nothing.
use Prim.Native.Nat.{ℕ, ◌+◌, ◌%◌, ◌^◌, ◌≤◌, ◌<◌}
use mathlib.Core.Path.{◌≡◌, refl, sym, ap, subst, ◌∙◌}
use mathlib.Core.Bool.{Bool, true, false, ◌||◌, not, true≢false}
use mathlib.Core.List.{List}
use mathlib.Core.Logic.{◌⊎◌, inl, inr, ⊎_elim}
use mathlib.Core.Option.{some}
use native.Mathlib.Decide.{dec_le}
use native.Mathlib.Nat.{le_refl, le_trans, eq-or-lt_of_le, mod-eq_of_lt}
use native.Mathlib.Omega.{arith}
use borrow.Author.Tests.{ltb-false, eqb-true, eqb-false}
use lib.Dec.{eqb}
use lib.ListN.{length, drop}
use lib.Seq.{take-length}
use Rattle.geometry.specs.Cartridge.{is_user}
use Rattle.geometry.proofs.PickLaws.{pick_by}
use Rattle.geometry.proofs.TestLaws.{or_false, and_true}
use Rattle.geometry.proofs.Impossible.{never}
use Rattle.geometry.proofs.UserFrames.{user_ranges}
use Rattle.buffer.specs.Bytes.{get16, get32}
use Rattle.frame.specs.declared.element.Kind.TheVariants.{Marker, Eod}
use Rattle.frame.specs.declared.trail.Trail.{Trail}
use Rattle.header.specs.Valid.{update_of, header_of}
use Rattle.judgement.specs.Judgement as judgement
use Rattle.judgement.specs.Judgement.{JudgementSaid, ends_from, judge_frame}
use Rattle.frame.specs.declared.header.Header.{Header}
use Rattle.judgement.proofs.Facts.{Typed, FoundAs}
use Rattle.judgement.proofs.JudgeView as view
use Rattle.judgement.proofs.JudgeView.{JudgeView, judge_view}
use Rattle.judgement.proofs.JudgeLaws.{below_so, earlier_so, unnamed, found_told, other_pass}
use Rattle.carried_headers.specs.Carried.{is_counted_out, added_to}
use Rattle.recording_state.specs.State.{OutcomeSaid, accepting}
use Rattle.recording_state.specs.Open.{setup_of, is_misfit}
use Rattle.recording_state.specs.declared.state.State.{State}
use Rattle.recording_state.proofs.KeptSizes.{Fitting, sizes_fit}
use Rattle.reading_state.specs.State.{is_at_end, end_of}
use Rattle.reading_state.specs.declared.state.State.{State as Reading}
use Rattle.adding_opening.specs.AtEnd.{ends_elsewhere, added_session, open_at_end_of}
use Rattle.archive_lists.specs.Tape.{Tape, Cartridge, SameFrames}
use Rattle.archive_lists.specs.Headers.{Newest}
use Rattle.archive_lists.specs.Recordings.{Element}
use Rattle.archive_lists.specs.Fold.{going, fold_of}
use Rattle.archive.specs.Chain.{NoneAbove}
use Rattle.archive_lists.proofs.tape.Basics.{some_same}
use Rattle.archive_lists.proofs.tape.Seen.{has, Seen, Quiet, Clean}
use Rattle.archive_lists.proofs.tape.Stands.{telling, unending}
use Rattle.archive_lists.proofs.tape.StandsLaws.{ends_telling}
use Rattle.archive_lists.proofs.tape.FoldLaws.{fold_alike}
use Rattle.archive_lists.proofs.tape.Ended.{EndsHere, fold_ended, ends_known}
use Rattle.archive_lists.proofs.reading.Facts.{Counts, fold_counts, Spread, fold_spread}
use Rattle.archive_lists.specs.Filemarks.{filemarks_among, latest_among, NamesLatest}
use Rattle.archive_lists.proofs.reading.FoldTrails.{Tracing, fold_traces}
use Rattle.archive_lists.proofs.reading.Invariant.{Ended}
use Rattle.archive_lists.proofs.recording.Trailing.{MarkerBelow, Marked, Traces, prior_of}
use Rattle.archive_lists.proofs.tape.Marks.{latest_map}
use Rattle.archive_lists.proofs.recording.HeaderCopies.{Below}
use Rattle.archive_cuts.proofs.View.{Sound, alien, own, Fair}
use Rattle.archive_lists.proofs.recording.Start.{Started, Starts, refused_accepting}

-- ---- an opening that was accepted

pub record AddedView (r : Reading) (depth blocks tail : ℕ) (s : State) : Type 0 where
  pub finished_is : r.finished ≡ true
  pub going_on : r.ended ≡ false
  pub sizes : Fitting depth blocks
  pub counts : r.told.update ≤ 4294967293
  pub some_end : r.told.eod.0 ≡ 0 → ⊥
  pub named : r.told.eod.0 ≡ (end_of r).0
  pub is : added_session (setup_of depth blocks tail) r ≡ s

not_true : (b : Bool) → not b ≡ true → b ≡ false
not_true true e = absurd (true≢false (sym e))
not_true false e = refl

not_untrue : (b : Bool) → not b ≡ false → b ≡ true
not_untrue true e = refl
not_untrue false e = absurd (true≢false e)

pub at_end_facts : (r : Reading) → is_at_end r ≡ true → (r.finished ≡ true) × (r.ended ≡ false)
at_end_facts r at =
    let ends = and_true r.finished (not (r.ended || r.exchange.awaiting || r.exchange.again)) at in
    let idle = or_false (r.ended || r.exchange.awaiting) r.exchange.again (not_true _ ends.1) in
    (ends.0, (or_false r.ended r.exchange.awaiting idle.0).0)

pub added_view : (r : Reading) (depth blocks tail : ℕ) (s : State) → open_at_end_of r depth blocks tail ≡ accepting s → AddedView r depth blocks tail s
unfolding open_at_end_of
added_view r depth blocks tail s =
    pick_by View (is_at_end r)
    (λ at. pick_by View (is_misfit depth blocks) (λ _ q. refused_accepting 4 (omega arith) q)
    (λ fit. pick_by View (is_counted_out r.told.update) (λ _ q. refused_accepting 5 (omega arith) q)
    (λ count. pick_by View (ends_elsewhere r) (λ _ q. refused_accepting 13 (omega arith) q)
    (λ here q.
    let ends = at_end_facts r at in
    let place = or_false (eqb r.told.eod.0 0) (not (eqb r.told.eod.0 (end_of r).0)) here in
    record {
      finished_is = ends.0;
      going_on = ends.1;
      sizes = sizes_fit depth blocks fit;
      counts = ltb-false 4294967293 r.told.update count;
      some_end = eqb-false r.told.eod.0 0 place.0;
      named = eqb-true r.told.eod.0 (end_of r).0 (not_untrue _ place.1);
      is = ap (λ (x : OutcomeSaid). x.session) q;
    }))))
    (λ _ q. refused_accepting 7 (omega arith) q)
  where
    View : OutcomeSaid → Type 0
    View x = x ≡ accepting s → AddedView r depth blocks tail s

pub added_starts : (r : Reading) (depth blocks tail : ℕ) (s : State) → AddedView r depth blocks tail s → Starts depth blocks tail s
added_starts r depth blocks tail s y = record { header = added_to r.told.last r.told.pass r.told.update (end_of r); at = end_of r; number = r.expected; trail = r.trail; is = y.is; sizes = y.sizes }

-- ---- what bears the pass at the start

pub added_clean : {last pass end : ℕ} {t : Tape} → NoneAbove last t end pass → Clean last pass end t
added_clean {end = end} none = record { old = end; old_low = le_refl end; none = λ a f o l u e. none a f u o e }

-- ---- at the end of a reading of a tape t, which delivered earlier

module _ (told : Header) (last : ℕ) (t : Tape) (r : Reading) (earlier : List Element) (large : 3000 ≤ last) (last_is : told.last.0 ≡ last) (ended : Ended told t r earlier) where
  abbrev end_at : ℕ
  end_at = (end_of r).0

  here : EndsHere told t earlier end_at
  here = fold_ended told t earlier end_at (told.last.0 + 1) ended.whole

  end_user : is_user last end_at ≡ true
  end_user = subst (λ (n : ℕ). is_user n end_at ≡ true) last_is here.user

  end_low : end_at ≤ last
  end_low = ⊎_elim (λ h. let x = h.1 in omega arith) (λ h. h.1) (user_ranges last end_at end_user)

  count_is : length earlier ≡ r.expected.0
  count_is = let c : Counts end_at (going r.expected.0 earlier r.trail) = subst (Counts end_at) ended.so_far (fold_counts told t end_at) in c.0

  -- as many user frames have gone by
  spread : length earlier + 10 ≤ end_at
  spread =
      let s : Spread end_at (going r.expected.0 earlier r.trail) = subst (Spread end_at) ended.so_far (fold_spread told t end_at) in
      ⊎_elim (λ h. let x = h.0 in omega (arith, count_is)) (λ h. let x = h.0 in omega (arith, count_is)) (user_ranges last end_at end_user)

  end_zone : (end_at ≤ 2990) ⊎ (3000 ≤ end_at)
  end_zone = ⊎_elim (λ h. let x = h.1 in inl (omega arith)) (λ h. inr h.0) (user_ranges last end_at end_user)

  module _ (depth blocks tail : ℕ) (s : State) (v : AddedView r depth blocks tail s) where
    told_update : r.told.update ≡ told.update
    told_update = ap (λ (x : Header). x.update) ended.told_is

    count_up : (r.told.update + 1) % 2 ^ 32 ≡ r.told.update + 1
    count_up = mod-eq_of_lt (let y = v.counts in omega arith)

    pub added_started : told.pass ≤ 65534 → Started last earlier end_at s
    unfolding ends_from
    added_started low = record {
      setup = setup_of depth blocks tail;
      header = added_to r.told.last r.told.pass r.told.update (end_of r);
      number = r.expected;
      trail = r.trail;
      is = v.is;
      narrow = let y = v.sizes.few in omega arith;
      last_is = ap (λ (x : Header). x.last.0) ended.told_is ∙ last_is;
      pass_low = subst (λ (n : ℕ). n ≤ 65534) (sym (ap (λ (x : Header). x.pass) ended.told_is)) low;
      eod_zero = refl;
      old_low = end_low;
      count_fits = let y = v.counts in omega (arith, count_up);
      number_is = sym count_is;
      roof = end_low;
      zone = end_zone;
      spread = spread;
      late = inr (le_refl end_at);
    }

    pub added_pass : s.copies.header.pass ≡ told.pass
    added_pass = sym (ap (λ (x : State). x.copies.header.pass) v.is) ∙ ap (λ (x : Header). x.pass) ended.told_is

    -- it goes on from the filemarks that the reading delivered, which are on a tape whose user frames are those that were read
    pub added_traced : last + 65 < 2 ^ 32 → (u : Tape) → Traces earlier (Marked (prior_of last s.copies.header earlier end_at u (SameFrames last t u)) last s.copies.header.pass end_at u) (length earlier) s.elements.trail
    added_traced small u = record {
      counts = ap (λ (x : Trail). x.filemarks) trail_is ∙ so_far.counts ∙ ap (filemarks_among earlier) (sym count_is);
      names =
          subst (λ (x : Trail). NamesLatest (latest_among earlier (length earlier)) There x.marker.0) (sym trail_is)
          (subst (λ (n : ℕ). NamesLatest (latest_among earlier n) There r.trail.marker.0) (sym count_is)
          (latest_map earlier r.expected.0 (MarkerBelow told.last.0 told.pass end_at t) There r.trail.marker.0 (λ j l _ m. there j r.trail.marker.0 (omega (arith, count_is)) m) so_far.names));
    }
      where
        There : ℕ → ℕ → Type 0
        There = Marked (prior_of last s.copies.header earlier end_at u (SameFrames last t u)) last s.copies.header.pass end_at u

        trail_is : s.elements.trail ≡ r.trail
        trail_is = sym (ap (λ (x : State). x.elements.trail) v.is)

        so_far : Traces earlier (MarkerBelow told.last.0 told.pass end_at t) r.expected.0 r.trail
        so_far = subst (Tracing told t (omega (arith, last_is)) end_at) ended.so_far (fold_traces told t (omega (arith, last_is)) end_at (omega (arith, last_is, end_low)))

        there : (j b : ℕ) → j < length earlier → MarkerBelow told.last.0 told.pass end_at t j b → There j b
        there j b l m = record {
          inside = omega (arith, m.low, end_low);
          there = λ same.
              let y = subst (λ (n : ℕ). MarkerBelow last n end_at t j b) (sym added_pass) (subst (λ (n : ℕ). MarkerBelow n told.pass end_at t j b) last_is m) in
              record { frame = y.frame; user = y.user; low = y.low; reads = sym (same l b y.user) ∙ y.reads; found = y.found };
        }

    -- the header that was read counts less than its own
    pub added_count : (h : List ℕ) → told ≡ (header_of h) → update_of h < s.copies.header.update
    added_count h of_header =
        let is : (r.told.update + 1) % 2 ^ 32 ≡ s.copies.header.update = ap (λ (x : State). x.copies.header.update) v.is in
        let count : told.update ≡ update_of h = ap (λ (x : Header). x.update) of_header in
        omega (arith, count_up, is, count, told_update)

    -- and so does every valid one that the cartridge holds
    pub added_below : (h : List ℕ) → told ≡ (header_of h) → (u : Tape) → Newest last u h → Below last s.copies.header u
    added_below h of_header u n a f at = inl (omega (arith, n.highest a f at, added_count h of_header))

    -- ---- what a reading sees at the start

    ends_is : ends_from told ≡ end_at
    unfolding ends_from
    ends_is =
        let same : r.told.eod.0 ≡ told.eod.0 = ap (λ (x : Header). x.eod.0) ended.told_is in
        pick_by (λ (n : ℕ). n ≡ end_at) (eqb told.eod.0 0) (λ z. absurd (v.some_end (same ∙ eqb-true told.eod.0 0 z))) (λ _. sym same ∙ v.named)

    -- in the open view all that was delivered is there below the old end
    seen_before : fold_of (unending last told.pass) t end_at ≡ going r.expected.0 earlier r.trail
    seen_before =
        fold_alike (unending last told.pass) told (sym last_is) refl t end_at
        (λ a l. (omega (arith, ends_telling last told.pass (last + 1), end_low), omega (arith, ends_is)))
        ∙ ended.so_far

    -- at the old end stands the EOD that the reading ended at, with the next number or one below
    old_eod : Typed told Eod here.frame × (get32 (drop 32768 here.frame) 44 ≤ r.expected.0)
    old_eod =
        let same : here.number ≡ r.expected.0 = number_same (sym here.before ∙ ended.so_far) in
        let known = ends_known here in
        (known.0, subst (λ (n : ℕ). get32 (drop 32768 here.frame) 44 ≤ n) same known.1)
      where
        number_same : {n m : ℕ} {x y : List Element} {a b : Trail} → going n x a ≡ going m y b → n ≡ m
        number_same e = cc

    -- which is the frame there
    frame_at : (a : ℕ) (f : List ℕ) → end_at ≡ a → t a ≡ some f → here.frame ≡ f
    frame_at a f at e = some_same (sym here.reads ∙ ap t at ∙ e)

    -- so a current marker stands below it
    pub marker_low : NoneAbove last t end_at told.pass → (j b : ℕ) (f : List ℕ) → is_user last b ≡ true → t b ≡ some f → FoundAs (telling last told.pass 0) (record { 0 = j }) Marker f → b < end_at
    marker_low none j b f u e q = go (dec_le end_at b)
      where
        at_end : (end_at ≡ b) ⊎ (end_at < b) → ⊥
        at_end (inl at) = let z : ◌≡◌ {A = ℕ} 0x0100 0x0200 = sym old_eod.0.type ∙ ap (λ (x : List ℕ). get16 (drop 32768 x) 16) (frame_at b f at e) ∙ q.typed.type in omega arith
        at_end (inr above) = none b f u above e q.typed.written

        go : Dec (end_at ≤ b) → b < end_at
        go (yes l) = absurd (at_end (eq-or-lt_of_le l))
        go (no l) = omega arith

    old_typed : Typed (unending last told.pass) Eod here.frame
    old_typed = let t = old_eod.0 in record { long = t.long; format = t.format; type = t.type; partition = t.partition; written = t.written }

    old_early : (a : ℕ) → end_at ≡ a → a < ends_from (unending last told.pass)
    old_early a e = omega (arith, ends_telling last told.pass (last + 1), end_low)

    quiet_there : Cartridge last t → NoneAbove last t end_at told.pass → Quiet last told.pass (length earlier) end_at t
    quiet_there cart none a f l u e i base = go (eq-or-lt_of_le l)
      where
        eod_quiet : (end_at ≡ a) → (get32 (drop 32768 here.frame) 44 ≡ i) ⊎ (get32 (drop 32768 here.frame) 44 < i) → judge_frame (unending last told.pass) (record { 0 = a }) (record { 0 = i }) here.frame ≡ judgement.passed_over
        eod_quiet at (inl same) = earlier_so (unending last told.pass) (record { 0 = a }) (record { 0 = i }) here.frame old_typed same (old_early a at)
        eod_quiet at (inr above) =
            below_so (unending last told.pass) (record { 0 = a }) (record { 0 = i }) here.frame Eod (unnamed (unending last told.pass) (record { 0 = a }) (old_early a at) Eod) old_typed above

        go : (end_at ≡ a) ⊎ (end_at < a) → judge_frame (unending last told.pass) (record { 0 = a }) (record { 0 = i }) f ≡ judgement.passed_over
        go (inl at) = subst (λ (x : List ℕ). judge_frame (unending last told.pass) (record { 0 = a }) (record { 0 = i }) x ≡ judgement.passed_over) (frame_at a f at e) (eod_quiet at (eq-or-lt_of_le (le_trans old_eod.1 (omega (arith, count_is)))))
        go (inr above) = other_pass (unending last told.pass) (record { 0 = a }) (record { 0 = i }) f (cart.long a f e) (none a f u above e)

    -- frames from the old end on are of another pass, or as the table has them
    ended_sound : {n : ℕ} {f : List ℕ} {j : JudgementSaid} → j ≡ judgement.end → JudgeView told (record { 0 = end_at }) (record { 0 = n }) f j → Sound last told.pass f
    ended_sound e (view.wrong_length _) = never (cc)
    ended_sound e (view.other_format _ _) = never (cc)
    ended_sound e (view.other_type _ _) = never (cc)
    ended_sound e (view.other_partition _ _) = never (cc)
    ended_sound e (view.other_pass _ _) = never (cc)
    ended_sound e (view.one_below _ _ _ h) = own Eod _ (found_told told (telling last told.pass 0) last_is refl h)
    ended_sound e (view.foreign_below _ _ _) = never (cc)
    ended_sound e (view.below _ _ _) = never (cc)
    ended_sound e (view.above _ _ _) = never (cc)
    ended_sound e (view.earlier _ _ _) = never (cc)
    ended_sound e (view.foreign _ _ _ _ _) = never (cc)
    ended_sound {n} e (view.found k _ _ h) = own k n (found_told told (telling last told.pass 0) last_is refl h)

    pub added_fair : Cartridge last t → NoneAbove last t end_at told.pass → Fair last told.pass end_at t
    added_fair cart none a f l u e = go (eq-or-lt_of_le l)
      where
        go : (end_at ≡ a) ⊎ (end_at < a) → Sound last told.pass f
        go (inl at) = subst (Sound last told.pass) (frame_at a f at e) (ended_sound here.judged (judge_view told (record { 0 = end_at }) (record { 0 = here.number }) here.frame))
        go (inr above) = alien (cart.long a f e) (none a f u above e)

    pub added_seen : Cartridge last t → NoneAbove last t end_at told.pass → Seen last told.pass earlier earlier (length earlier) end_at t
    added_seen cart none = record {
      base = length earlier;
      m = length earlier;
      floor = le_refl (length earlier);
      low = inl (le_refl (length earlier));
      high = omega arith;
      most = omega arith;
      top = le_refl (length earlier);
      few = le_refl (length earlier);
      prefix = λ i h. refl;
      seen = has r.trail (seen_before ∙ ap (λ (n : ℕ). going n earlier r.trail) (sym count_is) ∙ ap (λ (x : List Element). going (length earlier) x r.trail) (sym (take-length earlier)));
      quiet = quiet_there cart none;
    }

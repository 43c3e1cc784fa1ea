-- What the geometry and an opening fix, and that the invariant holds at the start. Assumes nothing.
use Prim.Native.Nat.{ℕ, ◌+◌, ◌%◌, ◌^◌, ◌≤◌, ◌<◌}
use mathlib.Core.Path.{◌≡◌, refl, sym, ap, subst, ◌∙◌}
use mathlib.Core.Bool.{Bool, true, false, ◌||◌, true≢false}
use mathlib.Core.List.{List, [], ◌++◌, append-nil}
use mathlib.Core.Logic.{◌⊎◌, inl, inr, ⊎_elim}
use native.Mathlib.Nat.{le_refl, mod-eq_of_lt}
use native.Mathlib.Omega.{arith}
use borrow.Author.Tests.{ltb-false, leb-false}
use lib.Dec.{eqb, ltb, leb}
use lib.ListN.{length, length-replicate}
use Rattle.geometry.specs.Place.{as_address, as_seq, PlaceSaid, address}
use Rattle.geometry.specs.declared.address.Address.{Address}
use Rattle.geometry.specs.declared.address.Seq.{Seq}
use Rattle.frame.specs.Trail.{no_trail}
use Rattle.frame.specs.declared.trail.Trail.{Trail}
use Rattle.judgement.proofs.JudgeLaws.{other_pass}
use Rattle.geometry.specs.Cartridge.{last_of, is_user}
use Rattle.geometry.specs.declared.cartridge.Geometry.{Geometry}
use Rattle.geometry.proofs.PickLaws.{pick_by}
use Rattle.geometry.proofs.Last.{frames_of_lem, last_small}
use Rattle.geometry.proofs.TestLaws.{or_false, and_true}
use Rattle.geometry.proofs.Impossible.{never}
use Rattle.geometry.proofs.UserFrames.{User, user_ranges}
use Rattle.frame.specs.declared.header.Header.{Header}
use Rattle.header.specs.Valid.{valid_header, header_of, update_of}
use Rattle.header.specs.Read as checked
use Rattle.header.specs.Read.{CheckedSaid, read_header}
use Rattle.header.proofs.Facts.{valid_last}
use Rattle.header.proofs.ReadLaws.{taken_valid, refused_number}
use Rattle.archive_lists.specs.Conduct.{Drive, AtRest, Within, nothing_written}
use Rattle.archive_lists.specs.Tape.{Tape, Cartridge}
use Rattle.copies.proofs.Counts.{start_counts}
use Rattle.copies.proofs.Placed.{start_placed}
use Rattle.recording_state.specs.State.{OutcomeSaid, accepting}
use Rattle.carried_headers.specs.Carried.{is_exhausted, renewed, opening_header}
use Rattle.recording_state.specs.Open.{setup_of, started_at, fresh, open_refused, is_misfit, open_with, open_for, open_of, open_blank_for, open_blank_of}
use Rattle.recording_state.specs.declared.state.Setup.{Setup}
use Rattle.recording_state.specs.declared.state.State.{State}
use Rattle.recording_state.proofs.KeptSizes.{Fitting, sizes_fit}
use Rattle.recording_state.specs.declared.state.Stage.TheVariants as S
use Rattle.archive_lists.specs.Recordings as recordings
use Rattle.archive_lists.specs.Recordings.{Element}
use Rattle.archive_lists.specs.Openings.{new_pass, Opening, on_header, on_none, opened, OnNewest, NoneBears}
use Rattle.archive_lists.specs.Fold.{fold_of}
use Rattle.archive_lists.specs.Filemarks.{filemarks_among, latest_among}
use Rattle.archive_lists.proofs.tape.Stands.{unending}
use Rattle.archive_lists.proofs.tape.Basics.{promised_all}
use Rattle.archive_lists.proofs.tape.Seen.{has, Seen, Clean}
use Rattle.archive_lists.proofs.tape.FoldLaws.{fold_none}
use Rattle.archive_lists.proofs.recording.Trailing.{Marked, Traces, TapeTrails, prior_of}
use Rattle.archive_lists.proofs.recording.HeaderCopies.{Late, Carried, Below}
use Rattle.archive_lists.proofs.recording.CopiesLink.{to_seek}
use Rattle.archive_lists.proofs.recording.Noted.{noted}
use Rattle.archive_lists.proofs.recording.Invariant as inv
use Rattle.archive_lists.proofs.recording.Invariant.{Inv, live}
use Rattle.archive_lists.proofs.recording.Setting.{Setting}

-- ---- an opening that was accepted, behind elements that the cartridge holds already

pub record Started (last : ℕ) (earlier : List Element) (at : ℕ) (s : State) : Type 0 where
  pub setup : Setup
  pub header : Header
  pub number : Seq
  pub trail : Trail
  pub is : started_at setup header (as_address at) number trail ≡ s
  pub narrow : setup.highest ≤ 63
  pub last_is : header.last.0 ≡ last
  pub pass_low : header.pass ≤ 65534
  pub eod_zero : header.eod.0 ≡ 0
  pub old_low : header.old.0 ≤ last
  pub count_fits : header.update + 1 < 2 ^ 32
  pub number_is : number.0 ≡ length earlier
  pub roof : at ≤ last
  pub zone : (at ≤ 2990) ⊎ (3000 ≤ at)
  pub spread : length earlier + 10 ≤ at
  pub late : Late at header

-- and of the opening alone: the sizes that it was given
pub record Starts (depth blocks tail : ℕ) (s : State) : Type 0 where
  pub header : Header
  pub at : Address
  pub number : Seq
  pub trail : Trail
  pub is : started_at (setup_of depth blocks tail) header at number trail ≡ s
  pub sizes : Fitting depth blocks

pub refused_accepting : {X : Type 0} {s : State} (n : ℕ) → 1 ≤ n → open_refused n ≡ accepting s → X
refused_accepting n l e = let z : n ≡ 0 = ap (λ (r : OutcomeSaid). r.number) e in absurd (omega arith)

opened_with : (depth blocks tail : ℕ) (exhausted : Bool) (h : Header) (s : State) → open_with depth blocks tail exhausted h ≡ accepting s → (fresh (setup_of depth blocks tail) h ≡ s) × Fitting depth blocks × (exhausted ≡ false)
unfolding open_with
opened_with depth blocks tail exhausted h s =
    pick_by (λ (r : OutcomeSaid). r ≡ accepting s → (fresh (setup_of depth blocks tail) h ≡ s) × Fitting depth blocks × (exhausted ≡ false)) (is_misfit depth blocks) (λ _ e. refused_accepting 4 (omega arith) e)
    (λ sizes. pick_by (λ (r : OutcomeSaid). r ≡ accepting s → (fresh (setup_of depth blocks tail) h ≡ s) × Fitting depth blocks × (exhausted ≡ false)) exhausted (λ _ e. refused_accepting 5 (omega arith) e)
    (λ x e. (ap (λ (r : OutcomeSaid). r.session) e, sizes_fit depth blocks sizes, x)))

module _ (g : Geometry) (last depth blocks tail : ℕ) (s : State) (e : last_of g ≡ address last) where
  pub record OnHeader (h : List ℕ) : Type 0 where
    pub valid : valid_header (as_address last) h ≡ true
    pub with : (fresh (setup_of depth blocks tail) (renewed (header_of h)) ≡ s) × Fitting depth blocks × (is_exhausted (header_of h) ≡ false)

  on_header_view : (h : List ℕ) → open_of g depth blocks tail h ≡ accepting s → OnHeader h
  unfolding open_of
  on_header_view h = go (read_header g h) refl
    where
      With : Header → Type 0
      With x = (fresh (setup_of depth blocks tail) (renewed x) ≡ s) × Fitting depth blocks × (is_exhausted x ≡ false)

      go : (c : CheckedSaid) → read_header g h ≡ c → open_for c depth blocks tail ≡ accepting s → OnHeader h
      go (checked.valid fields) r q =
          let taken = taken_valid g h e r in
          record { valid = taken.is_valid; with = subst With taken.told (opened_with depth blocks tail (is_exhausted fields) (renewed fields) s q) }
      go (checked.refused n) r q = refused_accepting n (refused_number g h e r) q

  fresh_counts : (h : List ℕ) → OnHeader h → ((header_of h).pass < 65534) × ((header_of h).update ≤ 4294967293)
  fresh_counts h o =
      let x = or_false (leb 65534 (header_of h).pass) (ltb 4294967293 (header_of h).update) o.with.2 in
      (leb-false 65534 (header_of h).pass x.0, ltb-false 4294967293 (header_of h).update x.1)

  -- a recording of its own, by the header that it goes out with
  started_afresh : 3000 ≤ last → (x : Header) → fresh (setup_of depth blocks tail) x ≡ s → Fitting depth blocks
      → x.last.0 ≡ last → x.pass ≤ 65534 → x.eod.0 ≡ 0 → x.old.0 ≡ 0 → x.update + 1 < 2 ^ 32 → Started last [] 10 s
  started_afresh large x is sizes last_is pass_low eod_zero old_zero count_fits = record {
    setup = setup_of depth blocks tail;
    header = x;
    number = as_seq 0;
    trail = no_trail;
    is = is;
    narrow = let y = sizes.few in omega arith;
    last_is = last_is;
    pass_low = pass_low;
    eod_zero = eod_zero;
    old_low = omega (arith, old_zero);
    number_is = refl;
    roof = omega arith;
    zone = inl (omega arith);
    spread = le_refl 10;
    late = inl (le_refl 10);
    count_fits = count_fits;
  }

  started_header : 3000 ≤ last → (h : List ℕ) → OnHeader h → Started last [] 10 s
  started_header large h o =
      let x = fresh_counts h o in
      let small : ((header_of h).pass + 1) % 2 ^ 16 ≡ (header_of h).pass + 1 = mod-eq_of_lt (let y = x.0 in omega arith) in
      let few : ((header_of h).update + 1) % 2 ^ 32 ≡ (header_of h).update + 1 = mod-eq_of_lt (let y = x.1 in omega arith) in
      let pass_low : (renewed (header_of h)).pass ≤ 65534 = let y = x.0 in omega (arith, small) in
      let count_fits : (renewed (header_of h)).update + 1 < 2 ^ 32 = let y = x.1 in omega (arith, few) in
      started_afresh large (renewed (header_of h)) o.with.0 o.with.1 (valid_last last h o.valid) pass_low refl refl count_fits

  blank_with : open_blank_of g depth blocks tail ≡ accepting s → (fresh (setup_of depth blocks tail) (opening_header (as_address last) 1 0) ≡ s) × Fitting depth blocks × (false ≡ false)
  unfolding open_blank_of
  blank_with q = opened_with depth blocks tail false (opening_header (as_address last) 1 0) s (sym (ap (λ (y : PlaceSaid). open_blank_for y depth blocks tail) e) ∙ q)

  started_none : 3000 ≤ last → open_blank_of g depth blocks tail ≡ accepting s → Started last [] 10 s
  started_none large q =
      let o = blank_with q in
      started_afresh large (opening_header (as_address last) 1 0) o.0 o.1 refl (omega arith) refl refl (omega arith)

  pub started_as : 3000 ≤ last → (o : Opening) → opened g depth blocks tail o ≡ accepting s → Started last [] 10 s
  started_as large (on_header h) q = started_header large h (on_header_view h q)
  started_as large on_none q = started_none large q

  pub pass_is : (o : Opening) → opened g depth blocks tail o ≡ accepting s → s.copies.header.pass ≡ new_pass o
  pass_is (on_header h) q =
      let o = on_header_view h q in
      let small : ((header_of h).pass + 1) % 2 ^ 16 ≡ (header_of h).pass + 1 = mod-eq_of_lt (let y = (fresh_counts h o).0 in omega arith) in
      sym (ap (λ (r : State). r.copies.header.pass) o.with.0) ∙ small
  pass_is on_none q = sym (ap (λ (r : State). r.copies.header.pass) (blank_with q).0)

  -- it starts with no filemark
  pub trail_none : (o : Opening) → opened g depth blocks tail o ≡ accepting s → s.elements.trail ≡ no_trail
  trail_none (on_header h) q = sym (ap (λ (r : State). r.elements.trail) (on_header_view h q).with.0)
  trail_none on_none q = sym (ap (λ (r : State). r.elements.trail) (blank_with q).0)

  -- it keeps the tail that was asked for, and is not spent
  pub opened_tail : (o : Opening) → opened g depth blocks tail o ≡ accepting s → s.setup.tail ≡ tail
  opened_tail (on_header h) q = sym (ap (λ (r : State). r.setup.tail) (on_header_view h q).with.0)
  opened_tail on_none q = sym (ap (λ (r : State). r.setup.tail) (blank_with q).0)

  pub opened_unspent : (o : Opening) → opened g depth blocks tail o ≡ accepting s → s.spent ≡ false
  opened_unspent (on_header h) q = sym (ap (λ (r : State). r.spent) (on_header_view h q).with.0)
  opened_unspent on_none q = sym (ap (λ (r : State). r.spent) (blank_with q).0)

  fresh_starts : (h : Header) {exhausted : Bool} → (fresh (setup_of depth blocks tail) h ≡ s) × Fitting depth blocks × (exhausted ≡ false) → Starts depth blocks tail s
  fresh_starts h x = record { header = h; at = as_address 10; number = as_seq 0; trail = no_trail; is = x.0; sizes = x.1 }

  pub opened_starts : (o : Opening) → opened g depth blocks tail o ≡ accepting s → Starts depth blocks tail s
  opened_starts (on_header h) q = fresh_starts (renewed (header_of h)) (on_header_view h q).with
  opened_starts on_none q = fresh_starts (opening_header (as_address last) 1 0) (blank_with q)

  -- the header that it was opened on counts less than its own
  pub renewed_count : (h : List ℕ) → opened g depth blocks tail (on_header h) ≡ accepting s → update_of h < s.copies.header.update
  renewed_count h q =
      let o = on_header_view h q in
      let x = fresh_counts h o in
      let few : ((header_of h).update + 1) % 2 ^ 32 ≡ (header_of h).update + 1 = mod-eq_of_lt (let y = x.1 in omega arith) in
      let is : (renewed (header_of h)).update ≡ s.copies.header.update = ap (λ (r : State). r.copies.header.update) o.with.0 in
      omega (arith, few, is)

  -- and so does every valid one that the cartridge holds
  pub starts_below : (t : Tape) (o : Opening) → opened g depth blocks tail o ≡ accepting s → OnNewest last t o → Below last s.copies.header t
  starts_below t (on_header h) q n a f at = inl (omega (arith, n.highest a f at, renewed_count h q))
  starts_below t on_none q n a f at = absurd (n a f at)

pub sets : (g : Geometry) (last : ℕ) (earlier : List Element) (at : ℕ) (s : State) → g.segtrk < 2 ^ 16 → g.trks < 2 ^ 16 → last_of g ≡ address last → Started last earlier at s → Setting last s.copies.header.pass
sets g last earlier at s seg trk e x =
    let f = frames_of_lem g last e in
    record {
      large = f.large;
      small = last_small g last seg trk f;
      low = subst (λ (r : State). r.copies.header.pass ≤ 65534) x.is x.pass_low;
    }

-- ---- what a reading sees at the start of a fresh recording

pub nothing_seen : (last pass : ℕ) (t : Tape) → Cartridge last t → NoneBears last t pass → Seen last pass [] [] 0 10 t
unfolding fold_of
nothing_seen last pass t cart none = record {
  base = 0;
  m = 0;
  floor = le_refl 0;
  low = inl (le_refl 0);
  high = omega arith;
  most = omega arith;
  top = le_refl 0;
  few = le_refl 0;
  prefix = λ i h. refl;
  seen = has no_trail (fold_none (unending last pass) t 0 10 (omega arith) (λ c f l u w _. low c u (user_ranges last c w)));
  quiet = λ a f l u q i h. other_pass (unending last pass) (record { 0 = a }) (record { 0 = i }) f (cart.long a f q) (none a f u q);
}
  where
    low : (c : ℕ) → c < 10 → User last c → ⊥
    low c u (inl h) = let x = h.0 in omega arith
    low c u (inr h) = let x = h.0 in omega arith

-- and nothing that bears the pass
pub nothing_borne : (last pass : ℕ) (t : Tape) → NoneBears last t pass → Clean last pass 10 t
nothing_borne last pass t none = record { old = 9; old_low = omega arith; none = λ a f o l u q. none a f u q }

-- before the first element of all there is no filemark
pub nothing_traced : (P : ℕ → ℕ → Type 0) (trail : Trail) → trail ≡ no_trail → Traces [] P 0 trail
unfolding filemarks_among latest_among
nothing_traced P trail e = record { counts = ap (λ (x : Trail). x.filemarks) e; names = ap (λ (x : Trail). x.marker.0) e }

-- ---- the start

pub begins : (last : ℕ) (d : Drive) (window : List ℕ) (earlier : List Element) (kept : Bool) (at : ℕ) (s : State) (x : Started last earlier at s) (on_newest none_bears same : Type 0) → Setting last s.copies.header.pass → d.written ≡ [] → AtRest d
    → Cartridge last d.tape → (on_newest → Below last s.copies.header d.tape) → (none_bears → kept ≡ true → Seen last s.copies.header.pass earlier earlier (length earlier) at d.tape) → (none_bears → Clean last s.copies.header.pass at d.tape)
    → Traces earlier (Marked (prior_of last s.copies.header earlier at d.tape same) last s.copies.header.pass at d.tape) (length earlier) s.elements.trail
    → Inv last s.copies.header.pass on_newest none_bears (prior_of last s.copies.header earlier at d.tape same) (noted earlier kept (recordings.started s window d))
begins last d window earlier kept at s x on_newest none_bears same set unwritten rest cart below seen clean traced =
    live (subst (Within last) (sym unwritten) nothing_written) (record {
      k = length earlier;
      edge = at;
      list = earlier ++ [];
      floor = (le_refl (length earlier), omega (arith, ap length (append-nil earlier)), le_refl at);
      promises = record { is = sym (promised_all (noted earlier kept (recordings.started s window d)).notes refl); ungiven = λ _. refl; aimed = λ _ _. aimed };
      going = ap (λ (r : State). r.ended) (sym x.is);
      counted = subst (λ (r : State). inv.Counted last (length (earlier ++ [])) r) x.is (record {
        wide = x.narrow;
        held = le_refl 0;
        windowed = omega arith;
        numbered = omega (arith, x.number_is, ap length (append-nil earlier));
        marks = length-replicate {A = Bool} 64 false;
        room = room;
      });
      carried = subst (λ (r : State). Carried last r.copies.header.pass (prior_of last r.copies.header earlier at d.tape same) (inv.spare_of r.stage) r.copies.header) x.is (record {
        last_is = x.last_is;
        pass_is = refl;
        eod_fits = ap (λ (n : ℕ). eqb n 0 || is_user last n) x.eod_zero;
        old_low = x.old_low;
        count_fits = x.count_fits;
        late = x.late;
        newer = le_refl x.header.update;
        counts = refl;
        unnamed = λ _. x.eod_zero;
      });
      course = subst (λ (r : State). inv.Course last (length (earlier ++ [])) (noted earlier kept (recordings.started r window d)) (length earlier) (at)) x.is
          (inv.opening refl refl (record { first_is = x.number_is; none_out = refl; relocates = refl; target_is = refl; roof = x.roof; zone = x.zone; spread = x.spread }) (record {
            counts = start_counts x.header;
            placed = start_placed x.header;
            copying = to_seek refl refl (record { due = refl; rests = rest; kept = inl refl });
          }));
      reported = λ e. absurd (true≢false (sym e));
      outgoing = λ _. record { queue = λ st _. absurd (opening_stage st); sent = λ _ _ st _. absurd (opening_stage st) };
      eod_place = record { written = λ st _ _. absurd (opening_stage st); named = λ st. absurd (⊎_elim closing_stage done_stage st) };
      copied = λ st. absurd (opening_stage st);
      below = below;
      clean = clean;
      content = λ p u.
          record {
            tape = cart;
            seen = subst (λ (xs : List Element). Seen last s.copies.header.pass xs xs (length earlier) (at) d.tape) (sym (append-nil earlier)) (seen p (and_true kept true u).0);
            stored = λ i h. absurd (none_pending i h);
          };
      trailing = record {
        from = omega (arith, first_is);
        prefix = λ i l. refl;
        marked = λ i h. absurd (none_pending i h);
        trail =
            subst (λ (n : ℕ). Traces (earlier ++ []) (Marked (prior_of last s.copies.header earlier at d.tape same) last s.copies.header.pass at d.tape) n s.elements.trail) (sym first_is)
            (subst (λ (xs : List Element). Traces xs (Marked (prior_of last s.copies.header earlier at d.tape same) last s.copies.header.pass at d.tape) (length earlier) s.elements.trail) (sym (append-nil earlier)) traced);
        written = λ j l h. absurd (omega arith);
        behind = λ st. absurd (opening_stage st);
        queue = λ st. absurd (opening_stage st);
        sent = λ _ _ st. absurd (opening_stage st);
        tape = λ _ t. subst (λ (xs : List Element). TapeTrails last s.copies.header.pass xs xs (length earlier) at d.tape) (sym (append-nil earlier)) t;
      };
    })
  where
    room : (x.header.last.0 + 1) % 2 ^ 32 ≤ last + 1
    room = let e : (x.header.last.0 + 1) % 2 ^ 32 ≡ x.header.last.0 + 1 = mod-eq_of_lt (omega (arith, x.last_is, set.small)) in omega (arith, x.last_is)

    aimed : s.elements.course.target.0 < s.elements.course.limit.0
    aimed =
        let e : (x.header.last.0 + 1) % 2 ^ 32 ≡ x.header.last.0 + 1 = mod-eq_of_lt (omega (arith, x.last_is, set.small)) in
        let target : at ≡ s.elements.course.target.0 = ap (λ (r : State). r.elements.course.target.0) x.is in
        let limit : (x.header.last.0 + 1) % 2 ^ 32 ≡ s.elements.course.limit.0 = ap (λ (r : State). r.elements.course.limit.0) x.is in
        omega (arith, x.last_is, x.roof)

    none_pending : (i : ℕ) → i < s.elements.queue.pending → ⊥
    none_pending i h = let e : 0 ≡ s.elements.queue.pending = ap (λ (r : State). r.elements.queue.pending) x.is in omega arith

    first_is : s.elements.queue.first.0 ≡ length earlier
    first_is = sym (ap (λ (r : State). r.elements.queue.first.0) x.is) ∙ x.number_is

    stage_is : S.OpeningHeaders ≡ s.stage
    stage_is = ap (λ (r : State). r.stage) x.is

    opening_stage : s.stage ≡ S.Elements → ⊥
    opening_stage st = never (let e = stage_is in cc)

    closing_stage : s.stage ≡ S.ClosingHeaders → ⊥
    closing_stage st = never (let e = stage_is in cc)

    done_stage : s.stage ≡ S.Done → ⊥
    done_stage st = never (let e = stage_is in cc)

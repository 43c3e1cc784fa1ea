-- What a reading has of the filemarks among what it delivered: how many, and where it was delivered the latest. Assumes nothing.
use Prim.Native.Nat.{ℕ, zero, suc, ◌+◌, ◌%◌, ◌^◌, ◌≤◌, ◌<◌}
use mathlib.Core.Path.{◌≡◌, refl, sym, subst, ◌∙◌}
use mathlib.Core.Bool.{true}
use mathlib.Core.List.{List, [], ◌∷◌, ◌++◌}
use mathlib.Core.Option.{Option, none, some}
use native.Mathlib.Nat.{mod-eq_of_lt}
use native.Mathlib.Numerals.{add-one}
use native.Mathlib.Omega.{arith}
use lib.ListN.{length}
use Rattle.geometry.specs.Cartridge.{is_user}
use Rattle.geometry.proofs.PickLaws.{pick_by}
use Rattle.frame.specs.declared.element.Kind.TheVariants.{Marker}
use Rattle.frame.specs.declared.trail.Trail.{Trail}
use Rattle.judgement.specs.Judgement as judgement
use Rattle.judgement.specs.Judgement.{JudgementSaid, judge_frame}
use Rattle.frame.specs.declared.header.Header.{Header}
use Rattle.judgement.proofs.JudgeLaws.{found_told}
use Rattle.judgement.proofs.JudgeView.{JudgeView, judge_view, found_known}
use Rattle.archive_lists.specs.Tape.{Tape}
use Rattle.archive_lists.specs.Recordings.{Element, block, filemark}
use Rattle.archive_lists.specs.Fold.{Reader, going, finished, stopped, advance, look, fold_of}
use Rattle.archive_lists.specs.Filemarks.{filemarks_among, latest_among}
use Rattle.archive_lists.proofs.tape.Marks.{mark_new, filemarks_few, filemarks_marked, filemarks_plain, latest_marked, latest_plain}
use Rattle.archive_lists.proofs.tape.Stands.{telling}
use Rattle.archive_lists.proofs.tape.StandsLaws.{item_more}
use Rattle.archive_lists.proofs.reading.Facts.{Counts, fold_counts}
use Rattle.archive_lists.proofs.recording.Trailing.{MarkerBelow, Traces}
use Rattle.archive_lists.proofs.recording.TrailingLaws.{below_moves, traces_map, traces_alike}

module _ (told : Header) (t : Tape) (small : told.last.0 + 65 < 2 ^ 32) where
  abbrev Below : ℕ → ℕ → ℕ → Type 0
  Below a j b = MarkerBelow told.last.0 told.pass a t j b

  abbrev pub Tracing : ℕ → Reader → Type 0
  Tracing a (going n got trail) = Traces got (Below a) n trail
  Tracing a (finished got e) = Unit {0}
  Tracing a (stopped m) = Unit {0}

  more_tracing : (a : ℕ) (r : Reader) → Tracing a r → Tracing (suc a) r
  more_tracing a (going n got trail) x = traces_map (λ j b m. below_moves (suc a) (omega arith) m) x
  more_tracing a (finished got e) x = tt
  more_tracing a (stopped m) x = tt

  module _ (a : ℕ) (f : List ℕ) (n : ℕ) (got : List Element) (trail : Trail) (user : is_user told.last.0 a ≡ true) (low : a ≤ told.last.0) (reads : t a ≡ some f) (counts : Counts a (going n got trail)) (x : Traces got (Below a) n trail) where
    -- one more that was delivered
    grown : (y : Element) → Traces (got ++ y ∷ []) (Below (suc a)) n trail
    grown y = traces_alike got (got ++ y ∷ []) (length got) (λ i l. item_more got (y ∷ []) i l) (omega (arith, counts.0)) (traces_map (λ j b m. below_moves (suc a) (omega arith) m) x)

    advance_traces : (j : JudgementSaid) → judge_frame told (record { 0 = a }) (record { 0 = n }) f ≡ j → Tracing (suc a) (advance j f a n got trail)
    advance_traces judgement.passed_over e = more_tracing a (going n got trail) x
    advance_traces (judgement.refused m) e = tt
    advance_traces judgement.block e =
        let y = block _ in
        let plain = mark_new got y n (sym counts.0) in
        subst (λ (m : ℕ). Traces (got ++ y ∷ []) (Below (suc a)) m trail) (sym (add-one n)) (record {
          counts = (grown y).counts ∙ sym (filemarks_plain (got ++ y ∷ []) n plain);
          names = latest_plain (got ++ y ∷ []) n (Below (suc a)) trail.marker.0 plain (grown y).names;
        })
    advance_traces judgement.filemark e =
        let ys = got ++ filemark ∷ [] in
        let is = mark_new got filemark n (sym counts.0) in
        let so_far = (grown filemark).counts in
        let few = filemarks_few ys n in
        let many = counts.1 in
        let whole : (trail.filemarks + 1) % 2 ^ 32 ≡ trail.filemarks + 1 = mod-eq_of_lt (omega arith) in
        subst (λ (m : ℕ). Traces ys (Below (suc a)) m (record { filemarks = (trail.filemarks + 1) % 2 ^ 32; marker = record { 0 = a } })) (sym (add-one n)) (record {
          counts = omega (arith, whole, filemarks_marked ys n is);
          names = latest_marked ys n (Below (suc a)) a is (record {
            frame = f;
            user = user;
            low = omega arith;
            reads = reads;
            found = found_told told (telling told.last.0 told.pass 0) refl refl (found_known Marker refl (subst (λ (j : JudgementSaid). JudgeView told (record { 0 = a }) (record { 0 = n }) f j) e (judge_view told (record { 0 = a }) (record { 0 = n }) f))).0;
          });
        })
    advance_traces judgement.end e = tt

  look_traces : (a : ℕ) → is_user told.last.0 a ≡ true → a ≤ told.last.0 → (v : Option (List ℕ)) → t a ≡ v → (r : Reader) → Counts a r → Tracing a r → Tracing (suc a) (look told a v r)
  unfolding look
  look_traces a user low none e r c x = more_tracing a r x
  look_traces a user low (some f) e (going n got trail) c x = advance_traces a f n got trail user low e c x (judge_frame told (record { 0 = a }) (record { 0 = n }) f) refl
  look_traces a user low (some f) e (finished got d) c x = tt
  look_traces a user low (some f) e (stopped m) c x = tt

  pub fold_traces : (a : ℕ) → a ≤ told.last.0 + 1 → Tracing a (fold_of told t a)
  unfolding fold_of filemarks_among latest_among
  fold_traces zero h = record { counts = refl; names = refl }
  fold_traces (suc a) h =
      pick_by (Tracing (suc a)) (is_user told.last.0 a) (λ u. look_traces a u (omega arith) (t a) refl (fold_of told t a) (fold_counts told t a) (fold_traces a (omega arith)))
      (λ _. more_tracing a (fold_of told t a) (fold_traces a (omega arith)))

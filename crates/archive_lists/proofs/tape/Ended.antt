-- Where a fold has ended, the tape reads as an EOD that ends reading. Assumes nothing.
use Prim.Native.Nat.{ℕ, zero, suc, ◌+◌, ◌-◌, ◌≤◌, ◌<◌}
use mathlib.Core.Path.{◌≡◌, refl, sym, ap, subst, ◌∙◌}
use mathlib.Core.Bool.{true, false}
use mathlib.Core.List.{List}
use mathlib.Core.Option.{Option, none, some}
use native.Mathlib.Decide.{ℕ_discrete, dec_le}
use native.Mathlib.Omega.{arith}
use borrow.Author.Tests.{ltb-false}
use lib.ListN.{length, drop}
use Rattle.geometry.specs.Cartridge.{is_user}
use Rattle.buffer.specs.Bytes.{get32}
use Rattle.geometry.proofs.PickLaws.{pick_by}
use Rattle.geometry.proofs.Impossible.{never}
use Rattle.frame.specs.declared.element.Kind.{Kind}
use Rattle.frame.specs.declared.element.Kind.TheVariants.{Data, Marker, Eod}
use Rattle.frame.specs.declared.trail.Trail.{Trail}
use Rattle.judgement.specs.Judgement as judgement
use Rattle.judgement.specs.Judgement.{JudgementSaid, found_said, ends_from, is_earlier_end, judge_frame}
use Rattle.frame.specs.declared.header.Header.{Header}
use Rattle.judgement.proofs.Facts.{Typed, FoundAs}
use Rattle.judgement.proofs.JudgeLaws.{above_so, found_so}
use Rattle.judgement.proofs.JudgeView.{JudgeView, judge_view, end_known}
use Rattle.archive_lists.specs.Tape.{Tape}
use Rattle.archive_lists.specs.Recordings.{Element}
use Rattle.archive_lists.specs.Fold.{Reader, going, finished, stopped, advance, look, fold_of, whole_of}
use Rattle.archive_lists.proofs.tape.FoldLaws.{fold_user, fold_final}
use Rattle.archive_lists.proofs.reading.Facts.{Fits, fold_back}

pub record EndsHere (told : Header) (t : Tape) (got : List Element) (e : ℕ) : Type 0 where
  pub number : ℕ
  pub trail : Trail
  pub frame : List ℕ
  pub before : fold_of told t e ≡ going number got trail
  pub user : is_user told.last.0 e ≡ true
  pub reads : t e ≡ some frame
  pub judged : judge_frame told (record { 0 = e }) (record { 0 = number }) frame ≡ judgement.end

module _ (told : Header) (t : Tape) (got : List Element) (e : ℕ) where
  advanced : (a : ℕ) (f : List ℕ) (n : ℕ) (g : List Element) (tr : Trail) → is_user told.last.0 a ≡ true → t a ≡ some f → fold_of told t a ≡ going n g tr
      → (j : JudgementSaid) → judge_frame told (record { 0 = a }) (record { 0 = n }) f ≡ j → advance j f a n g tr ≡ finished got e → EndsHere told t got e
  advanced a f n g tr u v r judgement.passed_over j q = never (cc)
  advanced a f n g tr u v r (judgement.refused m) j q = never (cc)
  advanced a f n g tr u v r judgement.block j q = never (cc)
  advanced a f n g tr u v r judgement.filemark j q = never (cc)
  advanced a f n g tr u v r judgement.end j q =
      let same : g ≡ got = cc in
      let here : a ≡ e = cc in
      subst (EndsHere told t got) here (record { number = n; trail = tr; frame = f; before = r ∙ ap (λ (x : List Element). going n x tr) same; user = u; reads = v; judged = j })

  looked : (a : ℕ) → (fold_of told t a ≡ finished got e → EndsHere told t got e) → is_user told.last.0 a ≡ true → (v : Option (List ℕ)) → t a ≡ v → (r : Reader) → fold_of told t a ≡ r → look told a v r ≡ finished got e → EndsHere told t got e
  unfolding look
  looked a before u none v r f q = before (f ∙ q)
  looked a before u (some x) v (going n g tr) f q = advanced a x n g tr u v f (judge_frame told (record { 0 = a }) (record { 0 = n }) x) refl q
  looked a before u (some x) v (finished g d) f q = before (f ∙ q)
  looked a before u (some x) v (stopped m) f q = never (cc)

  pub fold_ended : (a : ℕ) → fold_of told t a ≡ finished got e → EndsHere told t got e
  unfolding fold_of
  fold_ended zero = λ q. never (cc)
  fold_ended (suc a) =
      pick_by (λ (x : Reader). x ≡ finished got e → EndsHere told t got e) (is_user told.last.0 a) (λ u q. looked a (fold_ended a) u (t a) refl (fold_of told t a) refl q) (λ _ q. fold_ended a q)

-- the EOD that ends it, from where EODs end reading on
pub ends_known : {told : Header} {t : Tape} {got : List Element} {e : ℕ} (x : EndsHere told t got e) → Typed told Eod x.frame × (get32 (drop 32768 x.frame) 44 ≤ x.number) × (ends_from told ≤ e)
ends_known {told} {e = e} x =
    let y = end_known (subst (JudgeView told (record { 0 = e }) (record { 0 = x.number }) x.frame) x.judged (judge_view told (record { 0 = e }) (record { 0 = x.number }) x.frame)) in
    (y.0, y.1, ltb-false e (ends_from told) y.2)

-- ---- where the fold over the whole tape has ended

module _ (told : Header) (t : Tape) (xs : List Element) (e : ℕ) (ends : whole_of told t ≡ finished xs e) where
  fits_at : (a : ℕ) → a ≤ told.last.0 + 1 → Fits xs (fold_of told t a)
  fits_at a l =
      let n : told.last.0 + 1 ≡ told.last.0 + 1 - a + a = omega arith in
      fold_back told t xs a (told.last.0 + 1 - a) (subst (λ (i : ℕ). Fits xs (fold_of told t i)) n (subst (Fits xs) (sym ends) refl))

  -- an element that reads below the end has been delivered
  module _ (a i : ℕ) (f : List ℕ) (k : Kind) (user : is_user told.last.0 a ≡ true) (low : a ≤ told.last.0) (below : a < e) (reads : t a ≡ some f) (found : FoundAs told (record { 0 = i }) k f) (element : k ≡ Eod → ⊥) where
    -- it is no earlier end
    on_time : (c : Kind) → (c ≡ Eod → ⊥) → is_earlier_end c told (record { 0 = a }) ≡ false
    on_time Data _ = refl
    on_time Marker _ = refl
    on_time Eod h = absurd (h refl)

    at_it : (n : ℕ) (got : List Element) (trail : Trail) → fold_of told t a ≡ going n got trail → (j : JudgementSaid) → judge_frame told (record { 0 = a }) (record { 0 = n }) f ≡ j → fold_of told t (a + 1) ≡ advance j f a n got trail
    unfolding look
    at_it n got trail q j said = fold_user told t a user ∙ ap (look told a (t a)) q ∙ ap (λ v. look told a v (going n got trail)) reads ∙ ap (λ x. advance x f a n got trail) said

    one_more : (c : Kind) → (c ≡ Eod → ⊥) → (n : ℕ) (got : List Element) (trail : Trail) → Fits xs (advance (found_said c) f a n got trail) → n < length xs
    one_more Data _ n got trail h = omega (arith, h.1)
    one_more Marker _ n got trail h = omega (arith, h.1)
    one_more Eod h n got trail _ = absurd (h refl)

    numbered : (r : Reader) → fold_of told t a ≡ r → Fits xs r → i < length xs
    numbered (going n got trail) q fits = go (ℕ_discrete i n) (dec_le i n)
      where
        go : Dec (i ≡ n) → Dec (i ≤ n) → i < length xs
        go (yes same) _ =
            let said : judge_frame told (record { 0 = a }) (record { 0 = n }) f ≡ found_said k = found_so told (record { 0 = a }) (record { 0 = n }) f k (on_time k element) (subst (λ (m : ℕ). FoundAs told (record { 0 = m }) k f) same found) in
            let h = one_more k element n got trail (subst (Fits xs) (at_it n got trail q (found_said k) said) (fits_at (a + 1) (omega arith))) in
            omega arith
        go (no other) (yes less) = omega (arith, fits.1)
        go (no other) (no more) =
            let said = above_so told (record { 0 = a }) (record { 0 = n }) f k found.typed (omega (arith, found.number)) in
            absurd (subst (Fits xs) (at_it n got trail q (judgement.refused 10) said) (fits_at (a + 1) (omega arith)))
    numbered (finished got d) q fits = never (let z = sym (fold_final told t a e {r = finished got d} (omega arith) tt q) ∙ (fold_ended told t xs e (told.last.0 + 1) ends).before in cc)
    numbered (stopped m) q fits = absurd fits

    pub element_delivered : i < length xs
    element_delivered = numbered (fold_of told t a) refl (fits_at a (omega arith))

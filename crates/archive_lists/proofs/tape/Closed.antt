-- A tape on which all elements are seen in the open view reads to its EOD on a header that names it. Assumes nothing.
use Prim.Native.Nat.{ℕ, zero, suc, ◌+◌, ◌-◌, ◌≤◌, ◌<◌}
use mathlib.Core.Path.{◌≡◌, refl, sym, ap, subst, ◌∙◌}
use mathlib.Core.Bool.{true}
use mathlib.Core.List.{List, [], ◌∷◌}
use mathlib.Core.Logic.{◌⊎◌, inl, inr, ⊎_elim}
use mathlib.Core.Option.{some}
use native.Mathlib.Decide.{dec_le}
use native.Mathlib.Nat.{le_refl, eq-or-lt_of_le, not-suc-le-zero, le_of_suc-le-suc}
use native.Mathlib.Omega.{arith}
use borrow.Author.Tests.{ne_eqb}
use lib.ListN.{length, take}
use lib.Seq.{take-length, length-take-le}
use Rattle.geometry.specs.Cartridge.{is_user}
use Rattle.geometry.proofs.UserFrames.{user_ranges}
use Rattle.geometry.proofs.Impossible.{never}
use Rattle.geometry.proofs.PickLaws.{pick_f}
use Rattle.frame.specs.declared.trail.Trail.{Trail}
use Rattle.judgement.specs.Judgement as judgement
use Rattle.judgement.specs.Judgement.{ends_from, judge_frame}
use Rattle.frame.specs.declared.header.Header.{Header}
use Rattle.archive_lists.specs.Tape.{Tape}
use Rattle.archive_lists.specs.Recordings.{Element}
use Rattle.archive_lists.specs.Fold.{Reader, going, finished, stopped, advance, look, fold_of}
use Rattle.archive_lists.specs.Filemarks.{eod}
use Rattle.archive_lists.proofs.tape.Seen.{Has, has, Seen, Recorded}
use Rattle.archive_lists.proofs.tape.Stands.{unending, Stands}
use Rattle.archive_lists.proofs.tape.StandsLaws.{ends_telling, stands_above, eod_ends, eod_one_below}
use Rattle.archive_lists.proofs.tape.FoldLaws.{fold_user, Final, fold_final, fold_alike}
use Rattle.archive_lists.proofs.reading.Facts.{Fits, fold_back}

pub user_within : (last a : ℕ) → 3000 ≤ last → is_user last a ≡ true → a ≤ last
user_within last a large u = ⊎_elim (λ h. let x = h.1 in omega arith) (λ h. h.1) (user_ranges last a u)

pub final_going : {X : Type 0} {r : Reader} {n : ℕ} {got : List Element} {trail : Trail} → Final r → r ≡ going n got trail → X
final_going {r = going n got trail} f e = absurd f
final_going {r = finished got e} f q = never (cc)
final_going {r = stopped m} f q = never (cc)

-- a user frame's address is not 0
pub user_some : (last a : ℕ) → is_user last a ≡ true → a ≡ 0 → ⊥
user_some last a u z = ⊎_elim (λ h. let x = h.0 in omega arith) (λ h. let x = h.0 in omega arith) (user_ranges last a u)

pub from_named : (told : Header) → (told.eod.0 ≡ 0 → ⊥) → ends_from told ≡ told.eod.0
unfolding ends_from
from_named told other = pick_f _ (ne_eqb told.eod.0 0 other)

pub take_take : (j m : ℕ) (xs : List Element) → j ≤ m → take j (take m xs) ≡ take j xs
take_take zero m xs h = refl
take_take (suc j) zero xs h = absurd (not-suc-le-zero h)
take_take (suc j) (suc m) [] h = refl
take_take (suc j) (suc m) (x ∷ xs) h = ap (λ (ys : List Element). x ∷ ys) (take_take j m xs (le_of_suc-le-suc h))

-- the EOD is numbered n, and a reading in the open view has the elements ys, n or one more
module _ (last pass n : ℕ) (ys : List Element) (t : Tape) (large : 3000 ≤ last) (e : ℕ) (f : List ℕ) (user : is_user last e ≡ true) (there : t e ≡ some f) (s : Stands last pass eod n f) (most : length ys ≤ n + 1) where
  e_low : e ≤ last
  e_low = user_within last e large user

  -- the EOD, with fewer delivered; with n, and with one more
  refuses : (j : ℕ) (got : List Element) (tr : Trail) → j < n → look (unending last pass) e (some f) (going j got tr) ≡ stopped 10
  unfolding look
  refuses j got tr less = ap (λ x. advance x f e j got tr) (stands_above (unending last pass) e refl refl s j less)

  ends_here : (told : Header) → told.last.0 ≡ last → told.pass ≡ pass → told.eod.0 ≡ e → ends_from told ≡ e → (j : ℕ) (got : List Element) (tr : Trail) → (j ≡ n) ⊎ (j ≡ n + 1) → look told e (some f) (going j got tr) ≡ finished got e
  unfolding look
  ends_here told last_is pass_is eod_is from j got tr at = ap (λ x. advance x f e j got tr) (judged at)
    where
      judged : (j ≡ n) ⊎ (j ≡ n + 1) → judge_frame told (record { 0 = e }) (record { 0 = j }) f ≡ judgement.end
      judged (inl same) = subst (λ (i : ℕ). judge_frame told (record { 0 = e }) (record { 0 = i }) f ≡ judgement.end) (sym same) (eod_ends told e last_is pass_is s (omega (arith, from)))
      judged (inr same) =
          subst (λ (i : ℕ). judge_frame told (record { 0 = e }) (record { 0 = i }) f ≡ judgement.end) (sym same)
          (eod_one_below told e last_is pass_is s (λ z. user_some last e user (sym eod_is ∙ z)) (sym eod_is))

  -- what a reading has at the EOD
  record There (r : Reader) : Type 0 where
    count : ℕ
    trail : Trail
    is : r ≡ going count (take count ys) trail
    least : n ≤ count
    within : count ≤ length ys

  -- a fold in the open view that goes on at the end was never final
  module _ {trail : Trail} (all : fold_of (unending last pass) t (last + 1) ≡ going (length ys) ys trail) where
    not_final : (a : ℕ) {r : Reader} → a ≤ last + 1 → Final r → fold_of (unending last pass) t a ≡ r → {X : Type 0} → X
    not_final a l f q = final_going f (sym (fold_final (unending last pass) t a (last + 1) l f q) ∙ all)

    fits_there : Fits ys (fold_of (unending last pass) t e)
    fits_there =
        let d : last + 1 ≡ last + 1 - e + e = omega (arith, e_low) in
        fold_back (unending last pass) t ys e (last + 1 - e)
        (subst (λ (i : ℕ). Fits ys (fold_of (unending last pass) t i)) d
        (subst (Fits ys) (sym all) (sym (take-length ys), le_refl (length ys))))

    -- at EOD n were delivered at least: with fewer it would have been refused there
    there_has : (r : Reader) → fold_of (unending last pass) t e ≡ r → Fits ys r → There r
    there_has (going j got tr) q fits = go (dec_le n j)
      where
        go : Dec (n ≤ j) → There (going j got tr)
        go (yes h) = record { count = j; trail = tr; is = ap (λ (g : List Element). going j g tr) fits.0; least = h; within = fits.1 }
        go (no h) =
            not_final (e + 1) {r = stopped 10} (omega (arith, e_low)) tt
            (fold_user (unending last pass) t e user ∙ ap (look (unending last pass) e (t e)) q ∙ ap (λ v. look (unending last pass) e v (going j got tr)) there ∙ refuses j got tr (omega arith))
    there_has (finished got d) q fits = not_final e {r = finished got d} (omega (arith, e_low)) tt q
    there_has (stopped m) q fits = absurd fits

  -- so the fold on a header that names it ends there
  pub record ClosedAt : Type 0 where
    pub count : ℕ
    pub least : n ≤ count
    pub within : count ≤ length ys
    pub recorded : Recorded last pass t (take count ys) e

  closed_by : There (fold_of (unending last pass) t e) → ClosedAt
  closed_by h = record {
    count = h.count;
    least = h.least;
    within = h.within;
    recorded = λ told last_is pass_is eod_is.
        let from : ends_from told ≡ e = from_named told (λ z. user_some last e user (sym eod_is ∙ z)) ∙ eod_is in
        fold_final told t (e + 1) (told.last.0 + 1) (omega (arith, last_is, e_low)) tt
        (fold_user told t e (ap (λ (i : ℕ). is_user i e) last_is ∙ user)
        ∙ ap (look told e (t e)) (fold_alike told (unending last pass) last_is pass_is t e (λ a l. (omega (arith, from), omega (arith, ends_telling last pass (last + 1), e_low))) ∙ h.is)
        ∙ ap (λ v. look told e v (going h.count (take h.count ys) h.trail)) there
        ∙ ends_here told last_is pass_is eod_is from h.count (take h.count ys) h.trail (which (eq-or-lt_of_le h.least)));
  }
    where
      which : (n ≡ h.count) ⊎ (n < h.count) → (h.count ≡ n) ⊎ (h.count ≡ n + 1)
      which (inl same) = inl (sym same)
      which (inr less) = let w = h.within in inr (omega (arith, most))

  pub closed : {trail : Trail} → fold_of (unending last pass) t (last + 1) ≡ going (length ys) ys trail → ClosedAt
  closed all = closed_by (there_has all (fold_of (unending last pass) t e) refl (fits_there all))

-- what a recording has seen at its done: the promised elements are read, and at most one more
pub record ReadsAll (last pass : ℕ) (ps xs : List Element) (e : ℕ) (t : Tape) : Type 0 where
  pub count : ℕ
  pub least : length ps ≤ count
  pub most : count ≤ length ps + 1
  pub within : count ≤ length xs
  pub recorded : Recorded last pass t (take count xs) e

pub seen_closed : {last pass : ℕ} {ps xs : List Element} {t : Tape} → 3000 ≤ last → (e : ℕ) (f : List ℕ) → is_user last e ≡ true → t e ≡ some f → Stands last pass eod (length ps) f
    → Seen last pass ps xs (length ps + 1) (last + 1) t → ReadsAll last pass ps xs e t
seen_closed {last} {pass} {ps} {xs} {t} large e f user there s h = go h.seen
  where
    size : length (take h.m xs) ≡ h.m
    size = length-take-le h.m xs h.top

    go : Has xs h.m (fold_of (unending last pass) t (last + 1)) → ReadsAll last pass ps xs e t
    go (has trail q) =
        let c = closed last pass (length ps) (take h.m xs) t large e f user there s (omega (arith, size, h.most)) (q ∙ ap (λ (i : ℕ). going i (take h.m xs) trail) (sym size)) in
        let low = c.within in
        record {
          count = c.count;
          least = c.least;
          most = omega (arith, size, h.most);
          within = omega (arith, size, h.top);
          recorded = subst (λ (ys : List Element). Recorded last pass t ys e) (take_take c.count h.m xs (omega (arith, size))) c.recorded;
        }

-- A reading of a tape on which the fold has the first so many of some elements, and ends or goes on: what every list of its calls gives. Assumes nothing.
use Prim.Native.Nat.{ℕ, ◌≤◌}
use mathlib.Core.Path.{◌≡◌, refl, sym, ap, subst, ◌∙◌}
use mathlib.Core.Bool.{true}
use mathlib.Core.List.{List, ◌++◌}
use mathlib.Core.Logic.{◌⊎◌, inl, inr, ⊎_elim}
use native.Mathlib.Decide.{dec_le}
use native.Mathlib.Nat.{le_refl}
use native.Mathlib.Omega.{arith}
use lib.ListN.{length, take}
use lib.Seq.{take_all}
use Rattle.geometry.proofs.Impossible.{never, clash}
use Rattle.frame.specs.declared.trail.Trail.{Trail}
use Rattle.frame.specs.declared.header.Header.{Header}
use Rattle.reading_state.specs.State.{end_of}
use Rattle.archive_lists.specs.Tape.{Tape}
use Rattle.archive_lists.specs.Recordings.{Element}
use Rattle.archive_lists.specs.Readings.{World}
use Rattle.archive_lists.specs.Faithful.{reply_bound}
use Rattle.archive_lists.specs.Fold.{going, finished, whole_of, Standing, goes_on, at_end, stops, finds_no_end}
use Rattle.archive_lists.proofs.tape.Closed.{take_take}
use Rattle.archive_lists.proofs.reading.Facts.{Fits, ReadTape, finished_list, finished_at, going_finished}
use Rattle.archive_lists.proofs.reading.Invariant.{ReadInv}
use Rattle.archive_lists.proofs.reading.Steady.{Only12, Steady, steady}
use Rattle.archive_lists.proofs.reading.Promises.{standing}
use Rattle.archive_cuts.specs.Cuts.{FaithfulInPart}

-- what the whole tape gives, the first j of xs: it has no end, or one at an address
pub data Whole (told : Header) (t : Tape) (xs : List Element) (may_end : ℕ → Type 0) (j : ℕ) : Type 0 where
  without_end : (trail : Trail) → whole_of told t ≡ going j (take j xs) trail → Whole told t xs may_end j
  with_end : (e : ℕ) → may_end e → whole_of told t ≡ finished (take j xs) e → Whole told t xs may_end j

going_list : {u v : List Element} {c d : ℕ} {p q : Trail} → going c u p ≡ going d v q → u ≡ v
going_list e = cc

module _ {told : Header} {t : Tape} (k : ReadTape told t) (earlier accepted : List Element) (may_end : ℕ → Type 0) (j : ℕ) (low : length earlier ≤ j) (size : length (take j (earlier ++ accepted)) ≡ j) where
  abbrev ys : List Element
  ys = take j (earlier ++ accepted)

  fits : Whole told t (earlier ++ accepted) may_end j → Fits ys (whole_of told t)
  fits (without_end trail e) = subst (Fits ys) (sym e) (sym (take_take j j (earlier ++ accepted) (le_refl j)), omega (arith, size))
  fits (with_end e _ q) = subst (Fits ys) (sym q) refl

  -- the first so many of those are the first so many of all
  record Leading (got : List Element) : Type 0 where
    count : ℕ
    is : got ≡ take count (earlier ++ accepted)

  leading : (got : List Element) (n : ℕ) → got ≡ take n ys → Leading got
  leading got n e = go (dec_le n j)
    where
      go : Dec (n ≤ j) → Leading got
      go (yes l) = record { count = n; is = e ∙ take_take n j (earlier ++ accepted) l }
      go (no l) = record { count = j; is = e ∙ take_all n ys (omega (arith, size)) }

  -- ---- at the end, and at 12

  all_delivered : {w : World} → Whole told t (earlier ++ accepted) may_end j → (w.notes.end ≡ true) ⊎ (w.notes.refused ≡ 12) → Standing told t w → w.notes.deliveries ≡ ys
  all_delivered x h (goes_on z m _) = ⊎_elim (λ e. clash e m) (λ e. let y : ◌≡◌ {A = ℕ} 0 12 = sym z ∙ e in absurd (omega arith)) h
  all_delivered (without_end trail q) h (at_end _ _ _ d) = going_finished (sym q ∙ d)
  all_delivered (with_end e _ q) h (at_end _ _ _ d) = finished_list (sym d ∙ q)
  all_delivered (without_end trail q) h (stops _ _ d) = never (let z = sym q ∙ d in cc)
  all_delivered (with_end e _ q) h (stops _ _ d) = never (let z = sym q ∙ d in cc)
  all_delivered (without_end trail q) h (finds_no_end _ _ d) = going_list (sym d ∙ q)
  all_delivered (with_end e _ q) h (finds_no_end _ _ d) = going_finished (sym d ∙ q)

  ends_there : {w : World} → Whole told t (earlier ++ accepted) may_end j → w.notes.end ≡ true → Standing told t w → may_end (end_of w.session).0
  ends_there x h (goes_on _ m _) = clash h m
  ends_there (without_end trail q) h (at_end _ _ _ d) = going_finished (sym q ∙ d)
  ends_there (with_end e may q) h (at_end _ _ _ d) = subst may_end (finished_at (sym q ∙ d)) may
  ends_there x h (stops _ m _) = clash h m
  ends_there x h (finds_no_end _ m _) = clash h m

  pub in_part : Whole told t (earlier ++ accepted) may_end j → (w : World) → w.notes.replies ≤ reply_bound told.last.0 → ReadInv told t w → FaithfulInPart told.last.0 earlier accepted may_end w
  in_part x w few i = record {
    count = first.count;
    in_order = first.is;
    only_12 = twelve s.only_12;
    whole = λ h. omega (arith, ap length (all_delivered x h (standing i)), size);
    ends_where = λ h. ends_there x h (standing i);
    goes_on = λ g z q. ⊎_elim inl (λ y. inr y.0) (s.goes_on g z q);
    taken_in = λ r given lent q along long. twelve (s.taken_in r given lent q along long);
    full = s.full;
    alone = s.alone;
    bounded = few;
    says_again = s.says_again;
  }
    where
      s : Steady told t ys w
      s = steady k ys (fits x) w i

      first : Leading w.notes.deliveries
      first = leading w.notes.deliveries s.count s.in_order

      twelve : {n : ℕ} → Only12 told t n → (n ≡ 0) ⊎ (n ≡ 12)
      twelve (inl z) = inl z
      twelve (inr y) = inr y.0

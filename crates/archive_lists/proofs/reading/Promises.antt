-- What the invariant of a reading promises: every list of its calls gives the fold. Assumes nothing.
use Prim.Native.Nat.{ℕ, ◌≤◌}
use mathlib.Core.Path.{◌≡◌, refl, sym, subst, ◌∙◌}
use mathlib.Core.Bool.{true, false}
use mathlib.Core.List.{List}
use mathlib.Core.Logic.{inl, inr, ⊎_elim}
use Rattle.geometry.proofs.Impossible.{clash}
use Rattle.frame.specs.declared.header.Header.{Header}
use Rattle.archive_lists.specs.Tape.{Tape}
use Rattle.archive_lists.specs.Recordings.{Element}
use Rattle.archive_lists.specs.Readings.{World}
use Rattle.archive_lists.specs.Faithful.{Faithful, reply_bound}
use Rattle.archive_lists.specs.Fold.{finished, whole_of, Standing, goes_on, at_end, stops, finds_no_end, IsFold}
use Rattle.archive_lists.proofs.reading.Facts.{Fits, ReadTape, finished_list}
use Rattle.archive_lists.proofs.reading.Invariant as invariant
use Rattle.archive_lists.proofs.reading.Invariant.{Ended, ReadInv, under, over, halted}
use Rattle.archive_lists.proofs.reading.Steady.{Only12, Steady, steady}

-- ---- how far it has come

module _ {told : Header} {t : Tape} {w : World} where
  pub standing : ReadInv told t w → Standing told t w
  standing (under n m u a) = goes_on n m u.so_far
  standing (over n m f e a g q d b) = at_end n m d.so_far d.whole
  standing (halted m e q (invariant.stops n d)) = stops n m d
  standing (halted m e q (invariant.finds_no_end n d)) = finds_no_end n m d

-- ---- where the fold ends, every list goes on to that end

module _ {told : Header} {t : Tape} {xs : List Element} {end_at : ℕ} (k : ReadTape told t) (all : whole_of told t ≡ finished xs end_at) where
  faithful : (w : World) → w.notes.replies ≤ reply_bound told.last.0 → ReadInv told t w → Faithful told.last.0 xs w
  faithful w few i = record {
    count = s.count;
    in_order = s.in_order;
    never_refused = never_12 s.only_12;
    goes_on = λ g q. ⊎_elim (λ x. x) (λ x. absurd (x.1 xs end_at all)) (s.goes_on g (never_12 s.only_12) q);
    taken_in = λ r given lent q along long. never_12 (s.taken_in r given lent q along long);
    full = s.full;
    alone = s.alone;
    bounded = few;
    complete = λ e. complete e (standing i);
    says_again = s.says_again;
  }
    where
      s : Steady told t xs w
      s = steady k xs (subst (Fits xs) (sym all) refl) w i

      never_12 : {n : ℕ} → Only12 told t n → n ≡ 0
      never_12 (inl z) = z
      never_12 (inr x) = absurd (x.1 xs end_at all)

      complete : w.notes.end ≡ true → Standing told t w → w.notes.deliveries ≡ xs
      complete e (goes_on _ m _) = clash e m
      complete e (at_end _ _ _ d) = finished_list (sym d ∙ all)
      complete e (stops _ m _) = clash e m
      complete e (finds_no_end _ m _) = clash e m

pub is_fold : {told : Header} {t : Tape} → ReadTape told t → (w : World) → w.notes.replies ≤ reply_bound told.last.0 → ReadInv told t w → IsFold told t w
is_fold k w few i = record { standing = standing i; faithful = λ xs e all. faithful k all w few i }

-- ---- a session that has come to its end

pub record AtEnd (told : Header) (t : Tape) (w : World) : Type 0 where
  pub noted : w.notes.end ≡ true
  pub ended : Ended told t w.session w.notes.deliveries

pub at_end_so : {told : Header} {t : Tape} (w : World) → ReadInv told t w → w.session.finished ≡ true → w.session.ended ≡ false → AtEnd told t w
at_end_so w (under n m u a) f e = clash f u.unfinished
at_end_so w (over n m _ _ a g q d b) f e = record { noted = m; ended = d }
at_end_so w (halted m x q h) f e = clash x e

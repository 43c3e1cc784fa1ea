-- The table of sense triples: each listed triple has its own meaning, and only listed ones have one. Assumes nothing.
use Prim.Native.Nat.{ℕ, suc, ◌+◌, ◌≤◌, ◌<◌}
use mathlib.Core.Path.{◌≡◌, refl, ap, sym, subst, ◌∙◌}
use mathlib.Core.Bool.{Bool, true, false, ◌&&◌, ◌||◌, not, and-eq-true_iff}
use mathlib.Core.List.{List, [], ◌∷◌}
use native.Mathlib.Omega.{arith}
use native.Mathlib.Numerals.{add-one}
use lib.Dec.{T, eqb, ltb, leb, eqb→eq, ltb→lt, leb→le}
use lib.ListN.{length, get_or, drop}
use lib.Seq.{drop-cons}
use borrow.Author.Tests.{eq-eqb, eqb-true, eqb-false}
use Rattle.geometry.specs.Pick.{pick}
use Rattle.geometry.proofs.PickLaws.{pick_t, pick_f}
use Rattle.geometry.proofs.Table.{upto, at_index}
use Rattle.drive.specs.declared.senses.Sense.{Sense}
use Rattle.drive.specs.Senses.{other, end_of_medium, senses, matches, meaning_in, meaning_of}

-- past the table's end
abbrev none : Sense
none = record { key = 0; asc = 0; ascq = 0; meaning = other }

abbrev pub entry_at : ℕ → Sense
entry_at k = get_or senses k none

-- one turn of the lookup
pub meaning_step : (l : List Sense) (i : ℕ) (d : Sense) (key asc ascq : ℕ) → i < length l → meaning_in (drop i l) key asc ascq ≡ pick (matches (get_or l i d) key asc ascq) (get_or l i d).meaning (meaning_in (drop (i + 1) l) key asc ascq)
unfolding meaning_in
meaning_step l i d key asc ascq h =
    ap (λ xs. meaning_in xs key asc ascq) (drop-cons l i d h ∙ ap (λ n. get_or l i d ∷ drop n l) (sym (add-one i)))

own_meaning : ℕ → Bool
own_meaning k = eqb (meaning_of (entry_at k).key (entry_at k).asc (entry_at k).ascq) (entry_at k).meaning

pub listed_meaning : (k : ℕ) → k < length senses → meaning_of (entry_at k).key (entry_at k).asc (entry_at k).ascq ≡ (entry_at k).meaning
unfolding own_meaning meaning_in
listed_meaning k h = eqb→eq _ _ (at_index (length senses) own_meaning tt k h)

has_meaning : ℕ → Bool
has_meaning k = ltb other (entry_at k).meaning

pub listed_not_other : (k : ℕ) → k < length senses → (entry_at k).meaning ≡ other → ⊥
unfolding has_meaning
listed_not_other k h e =
    let p : other < (entry_at k).meaning = ltb→lt _ _ (at_index (length senses) has_meaning tt k h) in
    omega arith

-- a triple stands in a list with this meaning
pub record ListedIn (l : List Sense) (key asc ascq m : ℕ) : Type 0 where
  pub index : ℕ
  pub below : index < length l
  pub matching : matches (get_or l index none) key asc ascq ≡ true
  pub meant : (get_or l index none).meaning ≡ m

later : (s : Sense) (rest : List Sense) (key asc ascq m : ℕ) → ListedIn rest key asc ascq m → ListedIn (s ∷ rest) key asc ascq m
later s rest key asc ascq m r =
    record { index = suc r.index; below = omega arith; matching = r.matching; meant = r.meant }

first_or_later : (s : Sense) (rest : List Sense) (key asc ascq m : ℕ) → meaning_in (s ∷ rest) key asc ascq ≡ m → (meaning_in rest key asc ascq ≡ m → ListedIn rest key asc ascq m) → (b : Bool) → matches s key asc ascq ≡ b → ListedIn (s ∷ rest) key asc ascq m
unfolding meaning_in
first_or_later s rest key asc ascq m e in_rest true t =
    record { index = 0; below = omega arith; matching = t; meant = sym (pick_t _ t) ∙ e }
first_or_later s rest key asc ascq m e in_rest false f =
    later s rest key asc ascq m (in_rest (sym (pick_f _ f) ∙ e))

listed_in : (l : List Sense) (key asc ascq m : ℕ) → meaning_in l key asc ascq ≡ m → (m ≡ other → ⊥) → ListedIn l key asc ascq m
unfolding meaning_in
listed_in [] key asc ascq m e n = absurd (n (sym e))
listed_in (s ∷ rest) key asc ascq m e n =
    first_or_later s rest key asc ascq m e (λ found. listed_in rest key asc ascq m found n) (matches s key asc ascq) refl

-- a triple whose meaning is not other is listed
pub listed : (key asc ascq m : ℕ) → meaning_of key asc ascq ≡ m → (m ≡ other → ⊥) → ListedIn senses key asc ascq m
listed key asc ascq m e n = listed_in senses key asc ascq m e n

-- a triple matches only an entry that holds it
pub matching_triple : (s : Sense) (key asc ascq : ℕ) → matches s key asc ascq ≡ true → (s.key ≡ key) × (s.asc ≡ asc) × (s.ascq ≡ ascq)
matching_triple s key asc ascq e =
    let front = (and-eq-true_iff (eqb s.key key && eqb s.asc asc) (eqb s.ascq ascq)).0 e in
    let codes = (and-eq-true_iff (eqb s.key key) (eqb s.asc asc)).0 front.0 in
    (eqb-true _ _ codes.0, eqb-true _ _ codes.1, eqb-true _ _ front.1)

-- the entries at two indexes are one, if their meanings are
abbrev pub same_only : ℕ → ℕ → Bool
same_only k j = not (eqb (entry_at j).meaning (entry_at k).meaning) || eqb j k

same_only_lem : (k j : ℕ) → T (same_only k j) → (entry_at j).meaning ≡ (entry_at k).meaning → j ≡ k
same_only_lem k j t e = eqb→eq j k (rw (eq-eqb (entry_at j).meaning (entry_at k).meaning e) at t)

-- no other entry has this one's meaning
abbrev pub alone : ℕ → Bool
alone k = upto (length senses) (same_only k)

-- so the meaning gives the triple
pub only_triple : (k key asc ascq : ℕ) → k < length senses → T (alone k) → meaning_of key asc ascq ≡ (entry_at k).meaning → ((entry_at k).key ≡ key) × ((entry_at k).asc ≡ asc) × ((entry_at k).ascq ≡ ascq)
only_triple k key asc ascq h t e =
    let r = listed key asc ascq (entry_at k).meaning e (listed_not_other k h) in
    let same = same_only_lem k r.index (at_index (length senses) (same_only k) t r.index r.below) r.meant in
    matching_triple (entry_at k) key asc ascq (subst (λ (i : ℕ). matches (entry_at i) key asc ascq ≡ true) same r.matching)

numbered : ℕ → Bool
numbered k = leb (entry_at k).meaning end_of_medium

-- no meaning is above the last one
pub meaning_bound : (key asc ascq : ℕ) → meaning_of key asc ascq ≤ end_of_medium
unfolding numbered
meaning_bound key asc ascq = go (eqb m other) refl
  where
    m : ℕ
    m = meaning_of key asc ascq

    go : (b : Bool) → eqb m other ≡ b → m ≤ end_of_medium
    go true e = omega (arith, eqb-true m other e)
    go false e =
        let l = listed key asc ascq m refl (eqb-false m other e) in
        subst (λ (n : ℕ). n ≤ end_of_medium) l.meant (leb→le _ _ (at_index (length senses) numbered tt l.index l.below))

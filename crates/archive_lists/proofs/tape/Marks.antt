-- The filemarks among elements: how many there are, the latest, and that more elements change nothing of those before. Assumes nothing.
use Prim.Native.Nat.{ℕ, zero, suc, ◌+◌, ◌≤◌, ◌<◌}
use mathlib.Core.Path.{◌≡◌, refl, sym, ap, subst, ◌∙◌}
use mathlib.Core.Bool.{Bool, true, false, true≢false}
use mathlib.Core.List.{List, [], ◌∷◌, ◌++◌}
use mathlib.Core.Option.{Option}
use native.Mathlib.Nat.{le_refl}
use native.Mathlib.Omega.{arith}
use lib.ListN.{length, get_or}
use Rattle.geometry.proofs.PickLaws.{pick_t, pick_f, pick_by}
use Rattle.frame.specs.declared.element.Kind.TheVariants.{Data, Marker}
use Rattle.archive_lists.specs.Recordings.{Element, block, filemark}
use Rattle.archive_lists.specs.Filemarks.{Item, element, eod, item_at, kind_for, is_marker, filemarks_among, latest_among, NamesLatest}
use Rattle.archive_lists.proofs.tape.StandsLaws.{item_in, item_past, item_more, item_new}

-- whether element number i is a filemark; there is none behind the last
abbrev pub is_filemark : List Element → ℕ → Bool
is_filemark xs i = is_marker (item_at xs i)

-- ---- one element

pub mark_past : (xs : List Element) (i : ℕ) → length xs ≤ i → is_filemark xs i ≡ false
mark_past xs i h = ap is_marker (item_past xs i h)

pub mark_more : (xs ys : List Element) (i : ℕ) → i < length xs → is_filemark (xs ++ ys) i ≡ is_filemark xs i
mark_more xs ys i h = ap is_marker (item_more xs ys i h)

pub mark_new : (xs : List Element) (x : Element) (n : ℕ) → n ≡ length xs → is_filemark (xs ++ x ∷ []) n ≡ is_marker (element x)
mark_new xs x n e = ap is_marker (ap (item_at (xs ++ x ∷ [])) e ∙ item_new xs x)

-- by its kind

pub kind_marker : (xs : List Element) (i : ℕ) → is_filemark xs i ≡ true → kind_for (item_at xs i) ≡ Marker
kind_marker xs i = go (item_at xs i)
  where
    go : (x : Item) → is_marker x ≡ true → kind_for x ≡ Marker
    go (element (block b)) h = absurd (true≢false (sym h))
    go (element filemark) h = refl
    go eod h = absurd (true≢false (sym h))

pub kind_data : (xs : List Element) (i : ℕ) → i < length xs → is_filemark xs i ≡ false → kind_for (item_at xs i) ≡ Data
kind_data xs i l h = go (get_or xs i filemark) (item_in xs i l)
  where
    go : (x : Element) → item_at xs i ≡ element x → kind_for (item_at xs i) ≡ Data
    go (block b) e = ap kind_for e
    go filemark e = absurd (true≢false (sym (ap is_marker e) ∙ h))

-- ---- among the first n

pub filemarks_few : (xs : List Element) (n : ℕ) → filemarks_among xs n ≤ n
unfolding filemarks_among
filemarks_few xs zero = le_refl 0
filemarks_few xs (suc n) = pick_by (λ (m : ℕ). m ≤ suc n) (is_filemark xs n) (λ _. omega (arith, filemarks_few xs n)) (λ _. omega (arith, filemarks_few xs n))

-- lists that are alike so far have them alike
pub filemarks_alike : (xs ys : List Element) (n : ℕ) → ((i : ℕ) → i < n → item_at ys i ≡ item_at xs i) → filemarks_among ys n ≡ filemarks_among xs n
unfolding filemarks_among
filemarks_alike xs ys zero h = refl
filemarks_alike xs ys (suc n) h = rw (h n (omega arith), filemarks_alike xs ys n (λ i l. h i (omega arith)))

pub latest_alike : (xs ys : List Element) (n : ℕ) → ((i : ℕ) → i < n → item_at ys i ≡ item_at xs i) → latest_among ys n ≡ latest_among xs n
unfolding latest_among
latest_alike xs ys zero h = refl
latest_alike xs ys (suc n) h = rw (h n (omega arith), latest_alike xs ys n (λ i l. h i (omega arith)))

-- one more that is a filemark, and one that is none

module _ (xs : List Element) (n : ℕ) where
  pub filemarks_marked : is_filemark xs n ≡ true → filemarks_among xs (suc n) ≡ filemarks_among xs n + 1
  unfolding filemarks_among
  filemarks_marked h = pick_t _ h

  pub filemarks_plain : is_filemark xs n ≡ false → filemarks_among xs (suc n) ≡ filemarks_among xs n
  unfolding filemarks_among
  filemarks_plain h = pick_f _ h

  module _ (P : ℕ → ℕ → Type 0) (name : ℕ) where
    pub latest_marked : is_filemark xs n ≡ true → P n name → NamesLatest (latest_among xs (suc n)) P name
    unfolding latest_among
    latest_marked h x = subst (λ o. NamesLatest o P name) (sym (pick_t _ h)) x

    pub latest_plain : is_filemark xs n ≡ false → NamesLatest (latest_among xs n) P name → NamesLatest (latest_among xs (suc n)) P name
    unfolding latest_among
    latest_plain h x = subst (λ o. NamesLatest o P name) (sym (pick_f _ h)) x

-- the latest is a filemark among them
pub latest_map : (xs : List Element) (n : ℕ) (P Q : ℕ → ℕ → Type 0) (name : ℕ) → ((j : ℕ) → j < n → is_filemark xs j ≡ true → P j name → Q j name) → NamesLatest (latest_among xs n) P name → NamesLatest (latest_among xs n) Q name
unfolding latest_among
latest_map xs zero P Q name h = λ x. x
latest_map xs (suc n) P Q name h =
    pick_by (λ (o : Option ℕ). NamesLatest o P name → NamesLatest o Q name) (is_filemark xs n) (λ e x. h n (omega arith) e x) (λ _ x. latest_map xs n P Q name (λ j l. h j (omega arith)) x)

-- so is a bound of its name
pub latest_low : (xs : List Element) (n : ℕ) (P : ℕ → ℕ → Type 0) (name bound : ℕ) → 0xFFFFFFFF < bound → ((j : ℕ) → j < n → is_filemark xs j ≡ true → P j name → name < bound) → NamesLatest (latest_among xs n) P name → name < bound
unfolding latest_among
latest_low xs zero P name bound none h = λ x. omega arith
latest_low xs (suc n) P name bound none h =
    pick_by (λ (o : Option ℕ). NamesLatest o P name → name < bound) (is_filemark xs n) (λ e x. h n (omega arith) e x) (λ _ x. latest_low xs n P name bound none (λ j l. h j (omega arith)) x)

-- A frame that stands for an item does so however it is read, is passed over once its number is below the expected, and brings its item. Assumes nothing.
use Prim.Native.Nat.{ℕ, zero, suc, ◌+◌, ◌≤◌, ◌<◌}
use mathlib.Core.Path.{◌≡◌, refl, sym, ap, subst, ◌∙◌}
use mathlib.Core.Bool.{false}
use mathlib.Core.List.{List, [], ◌∷◌, ◌++◌}
use native.Mathlib.Nat.{le_of_suc-le-suc, not-suc-le-zero}
use borrow.Author.Tests.{eqb-true, le-ltb}
use lib.Dec.{eqb}
use lib.ListN.{length, take, get_or}
use Rattle.geometry.specs.declared.address.Address.{Address}
use Rattle.geometry.proofs.PickLaws.{pick_by}
use Rattle.frame.specs.Trail.{marked}
use Rattle.frame.specs.declared.trail.Trail.{Trail}
use Rattle.frame.specs.Sent.{ReadsAs}
use Rattle.frame.proofs.AsSent.{data_as_sent}
use Rattle.judgement.specs.Judgement.{passed_over, refused, end, found_said, ends_from, is_earlier_end, is_named_end, judge_frame}
use Rattle.frame.specs.declared.header.Header.{Header}
use Rattle.judgement.proofs.Facts.{FoundAs}
use Rattle.judgement.proofs.JudgeLaws.{below_so, one_below_so, above_so, earlier_so, found_so, found_told}
use Rattle.judgement.proofs.Unread.{found_as_sent}
use Rattle.archive_lists.specs.Recordings.{Element, block, filemark}
use Rattle.archive_lists.specs.Fold.{going, advance}
use Rattle.archive_lists.specs.Filemarks.{Item, element, eod, item_at, kind_for}
use Rattle.archive_lists.proofs.tape.Stands.{Carries, telling, Stands}

-- ---- items

pub item_in : (xs : List Element) (i : ℕ) → i < length xs → item_at xs i ≡ element (get_or xs i filemark)
unfolding item_at
item_in [] i h = absurd (not-suc-le-zero h)
item_in (x ∷ xs) zero h = refl
item_in (x ∷ xs) (suc i) h = item_in xs i (le_of_suc-le-suc h)

pub item_past : (xs : List Element) (i : ℕ) → length xs ≤ i → item_at xs i ≡ eod
unfolding item_at
item_past [] i h = refl
item_past (x ∷ xs) zero h = absurd (not-suc-le-zero h)
item_past (x ∷ xs) (suc i) h = item_past xs i (le_of_suc-le-suc h)

-- accepting more leaves it
pub item_more : (xs ys : List Element) (i : ℕ) → i < length xs → item_at (xs ++ ys) i ≡ item_at xs i
unfolding item_at
item_more [] ys i h = absurd (not-suc-le-zero h)
item_more (x ∷ xs) ys zero h = refl
item_more (x ∷ xs) ys (suc i) h = item_more xs ys i (le_of_suc-le-suc h)

-- and the new one is behind
pub item_new : (xs : List Element) (x : Element) → item_at (xs ++ x ∷ []) (length xs) ≡ element x
unfolding item_at
item_new [] x = refl
item_new (y ∷ xs) x = item_new xs x

-- and so does giving up those behind it
pub item_take : (xs : List Element) (n i : ℕ) → i < n → item_at (take n xs) i ≡ item_at xs i
unfolding item_at
item_take [] zero i h = absurd (not-suc-le-zero h)
item_take [] (suc n) i h = refl
item_take (x ∷ xs) zero i h = absurd (not-suc-le-zero h)
item_take (x ∷ xs) (suc n) zero h = refl
item_take (x ∷ xs) (suc n) (suc i) h = item_take xs n i (le_of_suc-le-suc h)

-- ---- frames

carries_read : (x : Item) {sent read : List ℕ} → ReadsAs sent read → Carries x sent → Carries x read
carries_read (element (block b)) r c = data_as_sent r ∙ c
carries_read (element filemark) r c = tt
carries_read eod r c = tt

pub stands_read : {last pass i : ℕ} {x : Item} {sent read : List ℕ} → Stands last pass x i sent → ReadsAs sent read → Stands last pass x i read
stands_read {x = x} s r = record { found = found_as_sent r s.found; carries = carries_read x r s.carries }

pub stands_long : {last pass i : ℕ} {x : Item} {f : List ℕ} → Stands last pass x i f → length f ≡ 33280
stands_long s = s.found.typed.long

-- from which address on an EOD ends reading
pub ends_telling : (last pass from : ℕ) → ends_from (telling last pass from) ≡ from
unfolding ends_from
ends_telling last pass from = pick_by (λ (n : ℕ). n ≡ from) (eqb from 0) (λ e. sym (eqb-true from 0 e)) (λ _. refl)

-- under whatever a header of this LAST and pass tells
module _ {last pass i : ℕ} {x : Item} {f : List ℕ} (told : Header) (a : ℕ) (last_is : told.last.0 ≡ last) (pass_is : told.pass ≡ pass) (s : Stands last pass x i f) where
  found_here : FoundAs told (record { 0 = i }) (kind_for x) f
  found_here = found_told (telling last pass 0) told (sym last_is) (sym pass_is) s.found

  -- once its number is below the expected
  pub stands_below : is_named_end (kind_for x) told (record { 0 = a }) ≡ false → (n : ℕ) → i < n → judge_frame told (record { 0 = a }) (record { 0 = n }) f ≡ passed_over
  stands_below other n h = below_so told (record { 0 = a }) (record { 0 = n }) f (kind_for x) other found_here.typed (subst (λ (k : ℕ). k < n) (sym found_here.number) h)

  pub stands_above : (n : ℕ) → n < i → judge_frame told (record { 0 = a }) (record { 0 = n }) f ≡ refused 10
  stands_above n h = above_so told (record { 0 = a }) (record { 0 = n }) f (kind_for x) found_here.typed (subst (λ (k : ℕ). n < k) (sym found_here.number) h)

  pub stands_found : is_earlier_end (kind_for x) told (record { 0 = a }) ≡ false → judge_frame told (record { 0 = a }) (record { 0 = i }) f ≡ found_said (kind_for x)
  stands_found late = found_so told (record { 0 = a }) (record { 0 = i }) f (kind_for x) late found_here

-- an EOD below where EODs end reading, and from there on
module _ {last pass i : ℕ} {f : List ℕ} (told : Header) (a : ℕ) (last_is : told.last.0 ≡ last) (pass_is : told.pass ≡ pass) (s : Stands last pass eod i f) where
  pub eod_passed : a < ends_from told → judge_frame told (record { 0 = a }) (record { 0 = i }) f ≡ passed_over
  eod_passed h = let x = found_here told a last_is pass_is s in earlier_so told (record { 0 = a }) (record { 0 = i }) f x.typed x.number h

  pub eod_ends : ends_from told ≤ a → judge_frame told (record { 0 = a }) (record { 0 = i }) f ≡ end
  eod_ends h = stands_found told a last_is pass_is s (le-ltb a (ends_from told) h)

  -- where the header has it, also with a number one below
  pub eod_one_below : (told.eod.0 ≡ 0 → ⊥) → a ≡ told.eod.0 → judge_frame told (record { 0 = a }) (record { 0 = i + 1 }) f ≡ end
  eod_one_below some here = one_below_so told (record { 0 = a }) (record { 0 = i + 1 }) f some here (record { 0 = i }) refl (found_here told a last_is pass_is s)

-- an element is never an earlier end
pub element_late : (x : Element) (told : Header) (a : Address) → is_earlier_end (kind_for (element x)) told a ≡ false
element_late (block b) told a = refl
element_late filemark told a = refl

-- what it brings
abbrev pub trail_behind : Element → Trail → ℕ → Trail
trail_behind (block b) trail a = trail
trail_behind filemark trail a = marked trail (record { 0 = a })

pub advance_found : (x : Element) (f : List ℕ) (a n : ℕ) (got : List Element) (trail : Trail) → Carries (element x) f → advance (found_said (kind_for (element x))) f a n got trail ≡ going (n + 1) (got ++ x ∷ []) (trail_behind x trail a)
advance_found (block b) f a n got trail c = ap (λ (d : List ℕ). going (n + 1) (got ++ block d ∷ []) trail) c
advance_found filemark f a n got trail c = refl

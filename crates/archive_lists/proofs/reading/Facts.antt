-- What the fold of a tape is, address by address; where it ends with xs, it has a part of xs at every address before. Assumes nothing.
use Prim.Native.Nat.{ℕ, zero, suc, ◌+◌, ◌-◌, ◌≤◌, ◌<◌}
use mathlib.Core.Path.{◌≡◌, refl, sym, ap, subst, ◌∙◌}
use mathlib.Core.Bool.{true}
use mathlib.Core.List.{List, [], ◌∷◌, ◌++◌}
use mathlib.Core.Option.{Option, none, some}
use native.Mathlib.Nat.{le_refl}
use native.Mathlib.Numerals.{add-one}
use native.Mathlib.Omega.{arith}
use lib.ListN.{length, take, length-append}
use lib.Seq.{take-length, take-append-le}
use Rattle.geometry.specs.Cartridge.{is_user, past_reserved}
use Rattle.geometry.proofs.PickLaws.{pick_by}
use Rattle.geometry.proofs.Impossible.{never}
use Rattle.frame.specs.Trail.{no_trail}
use Rattle.frame.specs.declared.trail.Trail.{Trail}
use Rattle.judgement.specs.Judgement as judgement
use Rattle.judgement.specs.Judgement.{JudgementSaid, judge_frame}
use Rattle.geometry.proofs.PastReserved.{past_reserved_least}
use Rattle.geometry.proofs.UserFrames.{User, user_ranges}
use Rattle.geometry.proofs.Landing.{past_skips}
use Rattle.frame.specs.declared.header.Header.{Header}
use Rattle.archive_lists.specs.Tape.{Tape, Cartridge}
use Rattle.archive_lists.specs.Recordings.{Element}
use Rattle.archive_lists.proofs.tape.Basics.{none_some}
use Rattle.archive_lists.specs.Fold.{Reader, going, finished, stopped, advance, look, fold_of, whole_of}
use Rattle.archive_lists.proofs.tape.FoldLaws.{fold_none}
use mathlib.Core.Logic.{inl, inr, ⊎_elim}

-- ---- what a fold counts

-- as many as were delivered, and at most one for each address
abbrev pub Counts : ℕ → Reader → Type 0
Counts a (going n got trail) = (length got ≡ n) × (n ≤ a)
Counts a (finished got e) = Unit {0}
Counts a (stopped m) = Unit {0}

advance_counts : (at a : ℕ) (j : JudgementSaid) (f : List ℕ) (n : ℕ) (got : List Element) (trail : Trail) → Counts a (going n got trail) → Counts (suc a) (advance j f at n got trail)
advance_counts at a judgement.passed_over f n got trail c = (c.0, omega (arith, c.1))
advance_counts at a (judgement.refused m) f n got trail c = tt
advance_counts at a judgement.block f n got trail c = (length-append got _ ∙ ap (λ (k : ℕ). k + 1) c.0, omega (arith, c.1))
advance_counts at a judgement.filemark f n got trail c = (length-append got _ ∙ ap (λ (k : ℕ). k + 1) c.0, omega (arith, c.1))
advance_counts at a judgement.end f n got trail c = tt

more_counts : (a : ℕ) (r : Reader) → Counts a r → Counts (suc a) r
more_counts a (going n got trail) c = (c.0, omega (arith, c.1))
more_counts a (finished got e) c = tt
more_counts a (stopped m) c = tt

look_counts : (told : Header) (at a : ℕ) (v : Option (List ℕ)) (r : Reader) → Counts a r → Counts (suc a) (look told at v r)
unfolding look
look_counts told at a none r c = more_counts a r c
look_counts told at a (some f) (going n got trail) c = advance_counts at a (judge_frame told (record { 0 = at }) (record { 0 = n }) f) f n got trail c
look_counts told at a (some f) (finished got e) c = tt
look_counts told at a (some f) (stopped m) c = tt

pub fold_counts : (told : Header) (t : Tape) (a : ℕ) → Counts a (fold_of told t a)
unfolding fold_of
fold_counts told t zero = (refl, le_refl 0)
fold_counts told t (suc a) =
    pick_by (Counts (suc a)) (is_user told.last.0 a) (λ _. look_counts told a a (t a) (fold_of told t a) (fold_counts told t a))
    (λ _. more_counts a (fold_of told t a) (fold_counts told t a))

-- and one for each user frame, of which none is below 10
abbrev pub Spread : ℕ → Reader → Type 0
Spread a (going n got trail) = n ≤ a - 10
Spread a (finished got e) = Unit {0}
Spread a (stopped m) = Unit {0}

more_spread : (a : ℕ) (r : Reader) → Spread a r → Spread (suc a) r
more_spread a (going n got trail) c = omega arith
more_spread a (finished got e) c = tt
more_spread a (stopped m) c = tt

advance_spread : (at a : ℕ) → 10 ≤ a → (j : JudgementSaid) (f : List ℕ) (n : ℕ) (got : List Element) (trail : Trail) → n ≤ a - 10 → Spread (suc a) (advance j f at n got trail)
advance_spread at a l judgement.passed_over f n got trail c = omega arith
advance_spread at a l (judgement.refused m) f n got trail c = tt
advance_spread at a l judgement.block f n got trail c = omega arith
advance_spread at a l judgement.filemark f n got trail c = omega arith
advance_spread at a l judgement.end f n got trail c = tt

look_spread : (told : Header) (at a : ℕ) → 10 ≤ a → (v : Option (List ℕ)) (r : Reader) → Spread a r → Spread (suc a) (look told at v r)
unfolding look
look_spread told at a l none r c = more_spread a r c
look_spread told at a l (some f) (going n got trail) c = advance_spread at a l (judge_frame told (record { 0 = at }) (record { 0 = n }) f) f n got trail c
look_spread told at a l (some f) (finished got e) c = tt
look_spread told at a l (some f) (stopped m) c = tt

user_high : (last a : ℕ) → is_user last a ≡ true → 10 ≤ a
user_high last a u = ⊎_elim (λ h. h.0) (λ h. let x = h.0 in omega arith) (user_ranges last a u)

pub fold_spread : (told : Header) (t : Tape) (a : ℕ) → Spread a (fold_of told t a)
unfolding fold_of
fold_spread told t zero = le_refl 0
fold_spread told t (suc a) =
    pick_by (Spread (suc a)) (is_user told.last.0 a) (λ u. look_spread told a a (user_high told.last.0 a u) (t a) (fold_of told t a) (fold_spread told t a))
    (λ _. more_spread a (fold_of told t a) (fold_spread told t a))

-- ---- a fold on its way to xs

abbrev pub Fits : List Element → Reader → Type 0
Fits xs (going n got trail) = (got ≡ take n xs) × (n ≤ length xs)
Fits xs (finished got e) = got ≡ xs
Fits xs (stopped m) = ⊥

-- the first of a list with one more
first_part : (xs got : List Element) (x : Element) (n : ℕ) → length got ≡ n → got ++ x ∷ [] ≡ take (n + 1) xs → n + 1 ≤ length xs → got ≡ take n xs
first_part xs got x n e p l =
    let whole : take n (got ++ x ∷ []) ≡ got = take-append-le n got (x ∷ []) (omega arith) ∙ ap (λ (k : ℕ). take k got) (sym e) ∙ take-length got in
    sym whole ∙ ap (take n) p ∙ shorter n xs
  where
    shorter : (k : ℕ) (l : List Element) → take k (take (k + 1) l) ≡ take k l
    shorter zero l = refl
    shorter (suc k) [] = ap (λ (m : ℕ). take (suc k) (take m [])) (add-one (suc k))
    shorter (suc k) (y ∷ l) = ap (λ (m : ℕ). take (suc k) (take m (y ∷ l))) (add-one (suc k)) ∙ ap (λ (r : List Element). y ∷ r) (ap (λ (m : ℕ). take k (take m l)) (sym (add-one k)) ∙ shorter k l)

advance_back : (xs : List Element) (at a : ℕ) (j : JudgementSaid) (f : List ℕ) (n : ℕ) (got : List Element) (trail : Trail) → Counts a (going n got trail) → Fits xs (advance j f at n got trail) → Fits xs (going n got trail)
advance_back xs at a judgement.passed_over f n got trail c h = h
advance_back xs at a (judgement.refused m) f n got trail c h = absurd h
advance_back xs at a judgement.block f n got trail c h = (first_part xs got _ n c.0 h.0 h.1, omega (arith, h.1))
advance_back xs at a judgement.filemark f n got trail c h = (first_part xs got _ n c.0 h.0 h.1, omega (arith, h.1))
advance_back xs at a judgement.end f n got trail c h =
    let e : length xs ≡ n = ap length (sym h) ∙ c.0 in
    (h ∙ sym (take-length xs) ∙ ap (λ (k : ℕ). take k xs) e, omega arith)

look_back : (told : Header) (xs : List Element) (at a : ℕ) (v : Option (List ℕ)) (r : Reader) → Counts a r → Fits xs (look told at v r) → Fits xs r
unfolding look
look_back told xs at a none r c h = h
look_back told xs at a (some f) (going n got trail) c h = advance_back xs at a (judge_frame told (record { 0 = at }) (record { 0 = n }) f) f n got trail c h
look_back told xs at a (some f) (finished got e) c h = h
look_back told xs at a (some f) (stopped m) c h = absurd h

step_back : (told : Header) (t : Tape) (xs : List Element) (a : ℕ) → Fits xs (fold_of told t (suc a)) → Fits xs (fold_of told t a)
unfolding fold_of
step_back told t xs a = pick_by (λ (r : Reader). Fits xs r → Fits xs (fold_of told t a)) (is_user told.last.0 a) (λ _ h. look_back told xs a a (t a) (fold_of told t a) (fold_counts told t a) h) (λ _ h. h)

pub fold_back : (told : Header) (t : Tape) (xs : List Element) (a n : ℕ) → Fits xs (fold_of told t (n + a)) → Fits xs (fold_of told t a)
fold_back told t xs a zero h = let e : zero + a ≡ a = omega arith in subst (λ (k : ℕ). Fits xs (fold_of told t k)) e h
fold_back told t xs a (suc n) h =
    let e : suc n + a ≡ suc (n + a) = omega arith in
    fold_back told t xs a n (step_back told t xs (n + a) (subst (λ (k : ℕ). Fits xs (fold_of told t k)) e h))

-- ---- the cartridge that is read, whoever wrote it

pub record ReadTape (told : Header) (t : Tape) : Type 0 where
  pub large : 3000 ≤ told.last.0
  pub small : told.last.0 + 65 < 4294967296
  pub cartridge : Cartridge told.last.0 t

pub finished_list : {xs ys : List Element} {d e : ℕ} → finished xs d ≡ finished ys e → xs ≡ ys
finished_list e = cc

pub finished_at : {xs ys : List Element} {d e : ℕ} → finished xs d ≡ finished ys e → d ≡ e
finished_at e = cc

pub going_finished : {A : Type 0} {n e : ℕ} {got xs : List Element} {trail : Trail} → going n got trail ≡ finished xs e → A
going_finished e = never (cc)

-- nothing of the user's is below 10
pub fold_low : (told : Header) (t : Tape) (a : ℕ) → a ≤ 10 → fold_of told t a ≡ going 0 [] no_trail
unfolding fold_of
fold_low told t a low = fold_none told t 0 a (omega arith) (λ c f l u w _. let high = user_high told.last.0 c w in omega arith)

module _ {told : Header} {t : Tape} (k : ReadTape told t) where
  -- nor from 2,990 to 2,999 or above LAST
  none_between : (c : ℕ) → 2990 ≤ c → c < 3000 → User told.last.0 c → ⊥
  none_between c l h (inl x) = let y = x.1 in omega arith
  none_between c l h (inr x) = let y = x.0 in omega arith

  none_above : (c : ℕ) → told.last.0 + 1 ≤ c → User told.last.0 c → ⊥
  none_above c l (inl h) = let x = h.1 in omega (arith, k.large)
  none_above c l (inr h) = let x = h.1 in omega arith

  pub fold_begins : fold_of told t 10 ≡ going 0 [] no_trail
  fold_begins = fold_low told t 10 (le_refl 10)

  pub fold_crosses : fold_of told t 3000 ≡ fold_of told t 2990
  fold_crosses = fold_none told t 2990 3000 (omega arith) (λ c f l u w _. none_between c l u (user_ranges told.last.0 c w))

  pub fold_above : (a : ℕ) → told.last.0 < a → fold_of told t a ≡ whole_of told t
  fold_above a h = fold_none told t (told.last.0 + 1) a (omega arith) (λ c f l u w _. none_above c l (user_ranges told.last.0 c w))

  -- nothing readable from there on
  pub fold_blank : (a : ℕ) → a ≤ told.last.0 → ((b : ℕ) → a ≤ b → t b ≡ none) → whole_of told t ≡ fold_of told t a
  fold_blank a l blank = fold_none told t a (told.last.0 + 1) (omega arith) (λ c f l u w g. none_some (sym (blank c l) ∙ g))

  -- a jump leaves nothing out
  pub fold_jump : (a : ℕ) → ((b : ℕ) → a ≤ b → b < a + 32 → t b ≡ none) → fold_of told t (past_reserved (a + 32)) ≡ fold_of told t a
  fold_jump a blank =
      fold_none told t (a + 32) (past_reserved (a + 32)) (past_reserved_least (a + 32)) (λ c f l u w _. past_skips told.last.0 (a + 32) c l u w)
      ∙ fold_none told t a (a + 32) (omega arith) (λ c f l u w g. none_some (sym (blank c l u) ∙ g))

-- A reading on a header of the pass under which no EOD below a session's start ends a reading goes with the open view, or ends at an EOD from there on. Assumes nothing.
use Prim.Native.Nat.{ℕ, zero, suc, ◌+◌, ◌-◌, ◌≤◌, ◌<◌}
use mathlib.Core.Path.{◌≡◌, refl, sym, ap, subst, ◌∙◌}
use mathlib.Core.Bool.{Bool, true, false, not, true≢false}
use mathlib.Core.List.{List}
use mathlib.Core.Logic.{◌⊎◌, inl, inr}
use mathlib.Core.Option.{Option, none, some}
use native.Mathlib.Decide.{dec_le, ℕ_discrete}
use native.Mathlib.Nat.{le_refl, eq-or-lt_of_le}
use native.Mathlib.Numerals.{add-one}
use native.Mathlib.Omega.{arith}
use borrow.Author.Tests.{eqb-true, eqb-false, le-ltb}
use lib.Dec.{eqb}
use lib.ListN.{length, take}
use lib.Seq.{take-length, length-take-le}
use Rattle.geometry.specs.Cartridge.{is_user}
use Rattle.geometry.proofs.PickLaws.{pick_f}
use Rattle.geometry.proofs.Impossible.{never}
use Rattle.geometry.proofs.TestLaws.{and_true}
use Rattle.frame.specs.declared.element.Kind.{Kind}
use Rattle.frame.specs.declared.element.Kind.TheVariants.{Data, Marker, Eod}
use Rattle.frame.specs.declared.trail.Trail.{Trail}
use Rattle.judgement.specs.Judgement as judgement
use Rattle.judgement.specs.Judgement.{JudgementSaid, ends_from, is_named_end, judge_frame}
use Rattle.frame.specs.declared.header.Header.{Header}
use Rattle.judgement.proofs.Facts.{FoundAs}
use Rattle.judgement.proofs.JudgeView as view
use Rattle.judgement.proofs.JudgeView.{JudgeView, judge_view}
use Rattle.judgement.proofs.JudgeLaws.{unnamed, below_so, one_below_so, above_so, earlier_so, found_so, found_told, other_pass}
use Rattle.archive_lists.specs.Tape.{Tape, Bears}
use Rattle.archive_lists.specs.Recordings.{Element}
use Rattle.archive_lists.specs.Fold.{Reader, going, finished, stopped, advance, look, fold_of}
use Rattle.archive_lists.proofs.tape.Basics.{none_some}
use Rattle.archive_lists.proofs.tape.Seen.{Has, has}
use Rattle.archive_lists.proofs.tape.Stands.{telling, unending}
use Rattle.archive_lists.proofs.tape.StandsLaws.{ends_telling}
use Rattle.archive_lists.proofs.tape.FoldLaws.{fold_final, fold_user, look_none}
use Rattle.archive_lists.proofs.tape.Closed.{take_take, final_going}
use Rattle.archive_lists.proofs.reading.Facts.{Counts, fold_counts, Fits, fold_back}

-- ---- frames from the start of a session on

-- of another pass, or as the table has it for its number
pub data Sound (last pass : ℕ) (f : List ℕ) : Type 0 where
  alien : length f ≡ 33280 → (Bears pass f → ⊥) → Sound last pass f
  own : (k : Kind) (i : ℕ) → FoundAs (telling last pass 0) (record { 0 = i }) k f → Sound last pass f

abbrev pub Fair : ℕ → ℕ → ℕ → Tape → Type 0
Fair last pass start t = (a : ℕ) (f : List ℕ) → start ≤ a → is_user last a ≡ true → t a ≡ some f → Sound last pass f

-- ---- one frame

module _ {last pass : ℕ} (told : Header) (last_is : told.last.0 ≡ last) (pass_is : told.pass ≡ pass) (a n : ℕ) (early : a < ends_from (unending last pass)) (f : List ℕ) where
  -- judged as in the open view, or as the end
  data Judged : Type 0 where
    alike : judge_frame told (record { 0 = a }) (record { 0 = n }) f ≡ judge_frame (unending last pass) (record { 0 = a }) (record { 0 = n }) f → Judged
    ends : judge_frame told (record { 0 = a }) (record { 0 = n }) f ≡ judgement.end → Bears pass f → Judged

  module _ (k : Kind) (i : ℕ) (h : FoundAs (telling last pass 0) (record { 0 = i }) k f) where
    here : FoundAs told (record { 0 = i }) k f
    here = found_told (telling last pass 0) told (sym last_is) (sym pass_is) h

    there : FoundAs (unending last pass) (record { 0 = i }) k f
    there = found_told (telling last pass 0) (unending last pass) refl refl h

    above : n < i → Judged
    above l =
        alike (above_so told (record { 0 = a }) (record { 0 = n }) f k here.typed (subst (λ (x : ℕ). n < x) (sym here.number) l)
        ∙ sym (above_so (unending last pass) (record { 0 = a }) (record { 0 = n }) f k there.typed (subst (λ (x : ℕ). n < x) (sym there.number) l)))

    passed_over_there : i < n → judge_frame (unending last pass) (record { 0 = a }) (record { 0 = n }) f ≡ judgement.passed_over
    passed_over_there l = below_so (unending last pass) (record { 0 = a }) (record { 0 = n }) f k (unnamed (unending last pass) (record { 0 = a }) early k) there.typed (subst (λ (x : ℕ). x < n) (sym there.number) l)

  bears : (k : Kind) (i : ℕ) → FoundAs (telling last pass 0) (record { 0 = i }) k f → Bears pass f
  bears k i h = h.typed.written

  not_named : (i : ℕ) → FoundAs (telling last pass 0) (record { 0 = i }) Eod f → i < n → (i + 1 ≡ n → ⊥) → {j : JudgementSaid} → JudgeView told (record { 0 = a }) (record { 0 = n }) f j → j ≡ judgement.passed_over
  not_named i h l other (view.wrong_length w) = absurd (w h.typed.long)
  not_named i h l other (view.other_format _ _) = refl
  not_named i h l other (view.other_type _ _) = refl
  not_named i h l other (view.other_partition _ _) = refl
  not_named i h l other (view.other_pass _ _) = refl
  not_named i h l other (view.one_below _ _ q _) = absurd (other (omega (arith, h.number, q)))
  not_named i h l other (view.foreign_below _ q _) = absurd (other (omega (arith, h.number, q)))
  not_named i h l other (view.below _ _ _) = refl
  not_named i h l other (view.above _ _ q) = absurd (omega (arith, h.number, q))
  not_named i h l other (view.earlier _ q _) = absurd (omega (arith, h.number, q))
  not_named i h l other (view.foreign _ _ q _ _) = absurd (omega (arith, h.number, q))
  not_named i h l other (view.found _ _ _ q) = absurd (omega (arith, h.number, q.number))

  below_eod : (i : ℕ) (h : FoundAs (telling last pass 0) (record { 0 = i }) Eod f) → i < n → (b : Bool) → is_named_end Eod told (record { 0 = a }) ≡ b → Dec (i + 1 ≡ n) → Judged
  below_eod i h l false e d = alike (below_so told (record { 0 = a }) (record { 0 = n }) f Eod e (here Eod i h).typed (subst (λ (x : ℕ). x < n) (sym (here Eod i h).number) l) ∙ sym (passed_over_there Eod i h l))
  below_eod i h l true e (no other) = alike (not_named i h l other (judge_view told (record { 0 = a }) (record { 0 = n }) f) ∙ sym (passed_over_there Eod i h l))
  below_eod i h l true e (yes one) =
      let both = and_true (not (eqb told.eod.0 0)) (eqb a told.eod.0) e in
      ends (one_below_so told (record { 0 = a }) (record { 0 = n }) f (named_some (eqb told.eod.0 0) refl both.0) (eqb-true a told.eod.0 both.1) (record { 0 = i }) one (here Eod i h)) (bears Eod i h)
    where
      named_some : (b : Bool) → eqb told.eod.0 0 ≡ b → not b ≡ true → told.eod.0 ≡ 0 → ⊥
      named_some true q z = absurd (true≢false (sym z))
      named_some false q z = eqb-false told.eod.0 0 q

  below : (k : Kind) (i : ℕ) (h : FoundAs (telling last pass 0) (record { 0 = i }) k f) → i < n → Judged
  below Data i h l = alike (below_so told (record { 0 = a }) (record { 0 = n }) f Data refl (here Data i h).typed (subst (λ (x : ℕ). x < n) (sym (here Data i h).number) l) ∙ sym (passed_over_there Data i h l))
  below Marker i h l = alike (below_so told (record { 0 = a }) (record { 0 = n }) f Marker refl (here Marker i h).typed (subst (λ (x : ℕ). x < n) (sym (here Marker i h).number) l) ∙ sym (passed_over_there Marker i h l))
  below Eod i h l = below_eod i h l (is_named_end Eod told (record { 0 = a })) refl (ℕ_discrete (i + 1) n)

  same : (k : Kind) → FoundAs (telling last pass 0) (record { 0 = n }) k f → Judged
  same Data h = alike (found_so told (record { 0 = a }) (record { 0 = n }) f Data refl (here Data n h) ∙ sym (found_so (unending last pass) (record { 0 = a }) (record { 0 = n }) f Data refl (there Data n h)))
  same Marker h = alike (found_so told (record { 0 = a }) (record { 0 = n }) f Marker refl (here Marker n h) ∙ sym (found_so (unending last pass) (record { 0 = a }) (record { 0 = n }) f Marker refl (there Marker n h)))
  same Eod h = go (dec_le (ends_from told) a)
    where
      go : Dec (ends_from told ≤ a) → Judged
      go (yes late) = ends (found_so told (record { 0 = a }) (record { 0 = n }) f Eod (le-ltb a (ends_from told) late) (here Eod n h)) (bears Eod n h)
      go (no soon) =
          alike (earlier_so told (record { 0 = a }) (record { 0 = n }) f (here Eod n h).typed (here Eod n h).number (omega arith)
          ∙ sym (earlier_so (unending last pass) (record { 0 = a }) (record { 0 = n }) f (there Eod n h).typed (there Eod n h).number early))

  judged : Sound last pass f → Judged
  judged (alien long other) = alike (other_pass told (record { 0 = a }) (record { 0 = n }) f long (λ x. other (x ∙ pass_is)) ∙ sym (other_pass (unending last pass) (record { 0 = a }) (record { 0 = n }) f long other))
  judged (own k i h) = go (dec_le i n)
    where
      at : (i ≡ n) ⊎ (i < n) → Judged
      at (inl e) = same k (subst (λ (x : ℕ). FoundAs (telling last pass 0) (record { 0 = x }) k f) e h)
      at (inr l) = below k i h l

      go : Dec (i ≤ n) → Judged
      go (yes l) = at (eq-or-lt_of_le l)
      go (no g) = above k i h (omega arith)

-- ---- the whole tape

fold_other : (told : Header) (t : Tape) (a : ℕ) → is_user told.last.0 a ≡ false → fold_of told t (a + 1) ≡ fold_of told t a
unfolding fold_of
fold_other told t a u = ap (fold_of told t) (add-one a) ∙ pick_f _ u

look_finished : (told : Header) (a : ℕ) (v : Option (List ℕ)) (got : List Element) (e : ℕ) → look told a v (finished got e) ≡ finished got e
unfolding look
look_finished told a none got e = refl
look_finished told a (some f) got e = refl

look_is : (told : Header) (a : ℕ) (f : List ℕ) (n : ℕ) (got : List Element) (trail : Trail) → look told a (some f) (going n got trail) ≡ advance (judge_frame told (record { 0 = a }) (record { 0 = n }) f) f a n got trail
unfolding look
look_is told a f n got trail = refl

-- nothing is taken back
advance_up : (x : JudgementSaid) (f : List ℕ) (a n m : ℕ) (got more : List Element) (trail other : Trail) → advance x f a n got trail ≡ going m more other → n ≤ m
advance_up judgement.passed_over f a n m got more trail other e = let q : n ≡ m = cc in omega arith
advance_up (judgement.refused k) f a n m got more trail other e = never (cc)
advance_up judgement.block f a n m got more trail other e = let q : n + 1 ≡ m = cc in omega arith
advance_up judgement.filemark f a n m got more trail other e = let q : n + 1 ≡ m = cc in omega arith
advance_up judgement.end f a n m got more trail other e = never (cc)

module _ {last pass base m start : ℕ} {xs : List Element} (t : Tape) (told : Header) (last_is : told.last.0 ≡ last) (pass_is : told.pass ≡ pass) (large : 3000 ≤ last) (begin_low : start ≤ last + 1)
    (top : m ≤ length xs) (all : Has xs m (fold_of (unending last pass) t (last + 1))) (begun : Has xs base (fold_of (unending last pass) t start))
    (agrees : fold_of told t start ≡ fold_of (unending last pass) t start) (fair : Fair last pass start t) where
  abbrev ys : List Element
  ys = take m xs

  -- the open view goes on throughout
  data Open (r : Reader) : Type 0 where
    opens : (j : ℕ) (trail : Trail) → j ≤ m → r ≡ going j (take j xs) trail → Open r

  open_by : {r : Reader} (a : ℕ) → a ≤ last + 1 → fold_of (unending last pass) t a ≡ r → Fits ys r → Has xs m (fold_of (unending last pass) t (last + 1)) → Open r
  open_by {r = going j got tr} a l q fits _ =
      let size : length ys ≡ m = length-take-le m xs top in
      let low : j ≤ m = omega (arith, size, fits.1) in
      opens j tr low (ap (λ (g : List Element). going j g tr) (fits.0 ∙ take_take j m xs low))
  open_by {r = finished got e} a l q fits (has trail x) = final_going {r = finished got e} tt (sym (fold_final (unending last pass) t a (last + 1) {r = finished got e} l tt q) ∙ x)
  open_by {r = stopped n} a l q fits h = absurd fits

  fits_at : (a : ℕ) → a ≤ last + 1 → Has xs m (fold_of (unending last pass) t (last + 1)) → Fits ys (fold_of (unending last pass) t a)
  fits_at a l (has trail x) =
      let size : length ys ≡ m = length-take-le m xs top in
      let d : last + 1 ≡ last + 1 - a + a = omega arith in
      fold_back (unending last pass) t ys a (last + 1 - a)
      (subst (λ (i : ℕ). Fits ys (fold_of (unending last pass) t i)) d (subst (Fits ys) (sym x) (sym (ap (λ (i : ℕ). take i ys) (sym size) ∙ take-length ys), omega (arith, size))))

  open_at : (a : ℕ) → a ≤ last + 1 → Open (fold_of (unending last pass) t a)
  open_at a l = open_by a l refl (fits_at a l all) all

  -- a reading on the header, at an address from the start on
  pub data Viewed (a : ℕ) : Type 0 where
    goes : (j : ℕ) (trail : Trail) → base ≤ j → length (take j xs) ≡ j → fold_of (unending last pass) t a ≡ going j (take j xs) trail → fold_of told t a ≡ going j (take j xs) trail → Viewed a
    ended : (j e : ℕ) (f : List ℕ) → base ≤ j → length (take j xs) ≡ j → start ≤ e → is_user last e ≡ true → t e ≡ some f → Bears pass f → fold_of told t a ≡ finished (take j xs) e → Viewed a

  counted : (a j : ℕ) (trail : Trail) → fold_of (unending last pass) t a ≡ going j (take j xs) trail → length (take j xs) ≡ j
  counted a j trail e = let c : Counts a (going j (take j xs) trail) = subst (Counts a) e (fold_counts (unending last pass) t a) in c.0

  first_view : Has xs base (fold_of (unending last pass) t start) → Viewed start
  first_view (has trail e) = goes base trail (le_refl base) (counted start base trail e) e (agrees ∙ e)

  user_told : (a : ℕ) → is_user last a ≡ true → is_user told.last.0 a ≡ true
  user_told a u = subst (λ (n : ℕ). is_user n a ≡ true) (sym last_is) u

  -- one more address
  module _ (a : ℕ) (from : start ≤ a) (within : a ≤ last) where
    going_next : (j : ℕ) (trail : Trail) → base ≤ j → fold_of (unending last pass) t a ≡ going j (take j xs) trail → fold_of told t (a + 1) ≡ fold_of (unending last pass) t (a + 1) → ((k : ℕ) (got : List Element) (tr : Trail) → fold_of (unending last pass) t (a + 1) ≡ going k got tr → j ≤ k) → Viewed (a + 1)
    going_next j trail low q same up = go (open_at (a + 1) (omega arith))
      where
        go : Open (fold_of (unending last pass) t (a + 1)) → Viewed (a + 1)
        go (opens k tr _ e) = let l = up k (take k xs) tr e in goes k tr (omega arith) (counted (a + 1) k tr e) e (same ∙ e)

    at_user : is_user last a ≡ true → (v : Option (List ℕ)) → t a ≡ v → Viewed a → Viewed (a + 1)
    at_user u v tv (ended j e f low size begin user reads is_own q) =
        ended j e f low size begin user reads is_own (fold_user told t a (user_told a u) ∙ ap (look told a (t a)) q ∙ look_finished told a (t a) (take j xs) e)
    at_user u none tv (goes j trail low size o q) =
        let nothing : (told2 : Header) (r : Reader) → look told2 a (t a) r ≡ r = λ told2 r. look_none told2 a (t a) r (λ f e. none_some (sym tv ∙ e)) in
        goes j trail low size (fold_user (unending last pass) t a u ∙ nothing (unending last pass) _ ∙ o) (fold_user told t a (user_told a u) ∙ nothing told _ ∙ q)
    at_user u (some f) tv (goes j trail low size o q) = go (judged told last_is pass_is a j (omega (arith, ends_telling last pass (last + 1))) f (fair a f from u tv))
      where
        next_open : fold_of (unending last pass) t (a + 1) ≡ advance (judge_frame (unending last pass) (record { 0 = a }) (record { 0 = j }) f) f a j (take j xs) trail
        next_open = fold_user (unending last pass) t a u ∙ ap (look (unending last pass) a (t a)) o ∙ ap (λ x. look (unending last pass) a x (going j (take j xs) trail)) tv ∙ look_is (unending last pass) a f j (take j xs) trail

        next_told : fold_of told t (a + 1) ≡ advance (judge_frame told (record { 0 = a }) (record { 0 = j }) f) f a j (take j xs) trail
        next_told = fold_user told t a (user_told a u) ∙ ap (look told a (t a)) q ∙ ap (λ x. look told a x (going j (take j xs) trail)) tv ∙ look_is told a f j (take j xs) trail

        go : Judged told last_is pass_is a j (omega (arith, ends_telling last pass (last + 1))) f → Viewed (a + 1)
        go (alike e) =
            going_next j trail low o (next_told ∙ ap (λ x. advance x f a j (take j xs) trail) e ∙ sym next_open)
            (λ k got tr x. advance_up (judge_frame (unending last pass) (record { 0 = a }) (record { 0 = j }) f) f a j k (take j xs) got trail tr (sym next_open ∙ x))
        go (ends e is_own) = ended j a f low size from u tv is_own (next_told ∙ ap (λ x. advance x f a j (take j xs) trail) e)

    at_other : is_user last a ≡ false → Viewed a → Viewed (a + 1)
    at_other u (goes j trail low size o q) = goes j trail low size (fold_other (unending last pass) t a u ∙ o) (fold_other told t a (subst (λ (n : ℕ). is_user n a ≡ false) (sym last_is) u) ∙ q)
    at_other u (ended j e f low size begin user reads is_own q) = ended j e f low size begin user reads is_own (fold_other told t a (subst (λ (n : ℕ). is_user n a ≡ false) (sym last_is) u) ∙ q)

    view_next : Viewed a → Viewed (a + 1)
    view_next h = go (is_user last a) refl
      where
        go : (b : Bool) → is_user last a ≡ b → Viewed (a + 1)
        go true u = at_user u (t a) refl h
        go false u = at_other u h

  view_by : (n : ℕ) → n + start ≤ last + 1 → Viewed (n + start)
  view_by zero l = let e : start ≡ zero + start = omega arith in subst Viewed e (first_view begun)
  view_by (suc n) l =
      let e : n + start + 1 ≡ suc n + start = omega arith in
      subst Viewed e (view_next (n + start) (omega arith) (omega arith) (view_by n (omega arith)))

  pub view_whole : Viewed (last + 1)
  view_whole = let e : last + 1 - start + start ≡ last + 1 = omega arith in subst Viewed e (view_by (last + 1 - start) (omega arith))

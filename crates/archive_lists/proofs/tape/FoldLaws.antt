-- What the fold makes of a tape that is written frame by frame. Assumes nothing.
use Prim.Native.Nat.{ℕ, zero, suc, ◌+◌, ◌-◌, ◌≤◌, ◌<◌}
use mathlib.Core.Path.{◌≡◌, refl, sym, ap, subst, ◌∙◌}
use mathlib.Core.Bool.{Bool, true, false, true≢false}
use mathlib.Core.List.{List}
use mathlib.Core.Logic.{◌⊎◌, inl, inr}
use mathlib.Core.Option.{Option, none, some}
use native.Mathlib.Nat.{le_refl}
use native.Mathlib.Numerals.{add-one}
use native.Mathlib.Omega.{arith}
use borrow.Author.Tests.{eq-eqb, ne_eqb}
use lib.ListN.{length, take, get_or}
use lib.Seq.{take-suc}
use Rattle.geometry.specs.Pick.{pick}
use Rattle.geometry.specs.Cartridge.{is_user}
use Rattle.geometry.proofs.PickLaws.{pick_t, pick_f, pick_by}
use Rattle.frame.specs.declared.element.Kind.TheVariants.{Eod}
use Rattle.frame.specs.declared.trail.Trail.{Trail}
use Rattle.judgement.specs.Judgement.{passed_over, ends_from, judge_frame}
use Rattle.judgement.proofs.JudgeLaws.{unnamed, judge_alike}
use Rattle.frame.specs.declared.header.Header.{Header}
use Rattle.archive_lists.specs.Tape.{Tape, SameFrames, put}
use Rattle.archive_lists.specs.Recordings.{Element, filemark}
use Rattle.archive_lists.specs.Fold.{Reader, going, finished, stopped, advance, look, fold_of}
use Rattle.archive_lists.specs.Filemarks.{Item, element, eod, item_at, kind_for}
use Rattle.archive_lists.proofs.tape.Basics.{none_some, some_same}
use Rattle.archive_lists.proofs.tape.Seen.{Has, has}
use Rattle.archive_lists.proofs.tape.Stands.{Stands}
use Rattle.archive_lists.proofs.tape.StandsLaws.{item_in, stands_below, stands_found, eod_passed, element_late, trail_behind, advance_found}

-- ---- a tape with one address changed

pub put_same : (t : Tape) (a : ℕ) (v : Option (List ℕ)) → put t a v a ≡ v
unfolding put
put_same t a v = pick_t _ (eq-eqb a a refl)

pub put_other : (t : Tape) (a : ℕ) (v : Option (List ℕ)) (b : ℕ) → (b ≡ a → ⊥) → put t a v b ≡ t b
unfolding put
put_other t a v b h = pick_f _ (ne_eqb b a h)

-- ---- one address

-- a frame that is passed over
pub look_passed : (told : Header) (a : ℕ) (f : List ℕ) (n : ℕ) (got : List Element) (trail : Trail) → judge_frame told (record { 0 = a }) (record { 0 = n }) f ≡ passed_over → look told a (some f) (going n got trail) ≡ going n got trail
unfolding look
look_passed told a f n got trail e = ap (λ j. advance j f a n got trail) e

-- nothing that reads
pub look_none : (told : Header) (a : ℕ) (v : Option (List ℕ)) (r : Reader) → ((f : List ℕ) → v ≡ some f → ⊥) → look told a v r ≡ r
unfolding look
look_none told a none r h = refl
look_none told a (some f) r h = absurd (h f refl)

-- whatever reads is passed over
pub look_quiet : (told : Header) (a : ℕ) (v : Option (List ℕ)) (xs : List Element) (m : ℕ) {r : Reader} → ((f : List ℕ) → v ≡ some f → judge_frame told (record { 0 = a }) (record { 0 = m }) f ≡ passed_over) → Has xs m r → Has xs m (look told a v r)
look_quiet told a none xs m {r} h x = subst (Has xs m) (sym (look_none told a none r (λ f e. none_some e))) x
look_quiet told a (some f) xs m h (has trail e) = has trail (ap (look told a (some f)) e ∙ look_passed told a f m (take m xs) trail (h f refl))

module _ {last pass : ℕ} (told : Header) (a : ℕ) (last_is : told.last.0 ≡ last) (pass_is : told.pass ≡ pass) (xs : List Element) (k : ℕ) (f : List ℕ) (s : Stands last pass (item_at xs k) k f) {r : Reader} where
  -- the next element is delivered
  pub look_next : k < length xs → Has xs k r → Has xs (k + 1) (look told a (some f) r)
  unfolding look
  look_next inside (has trail e) =
      let x = get_or xs k filemark in
      let s' : Stands last pass (element x) k f = subst (λ (y : Item). Stands last pass y k f) (item_in xs k inside) s in
      has (trail_behind x trail a)
      (ap (look told a (some f)) e
      ∙ ap (λ j. advance j f a k (take k xs) trail) (stands_found told a last_is pass_is s' (element_late x told (record { 0 = a })))
      ∙ advance_found x f a k (take k xs) trail s'.carries
      ∙ ap (λ (got : List Element). going (k + 1) got (trail_behind x trail a)) (sym (take-suc xs k filemark inside) ∙ ap (λ (n : ℕ). take n xs) (sym (add-one k))))

  -- one that was delivered is passed over
  pub look_again : a < ends_from told → (n : ℕ) → k < n → Has xs n r → Has xs n (look told a (some f) r)
  look_again early n h x = look_quiet told a (some f) xs n (λ g e. subst (λ (y : List ℕ). judge_frame told (record { 0 = a }) (record { 0 = n }) y ≡ passed_over) (some_same e) (stands_below told a last_is pass_is s (unnamed told (record { 0 = a }) early (kind_for (item_at xs k))) n h)) x

-- EOD with the next number or one below, where it does not end reading
pub look_eod : {last pass : ℕ} (told : Header) (a : ℕ) → told.last.0 ≡ last → told.pass ≡ pass → (xs : List Element) (k m : ℕ) (f : List ℕ) → Stands last pass eod k f → {r : Reader} → a < ends_from told → (k ≡ m) ⊎ (k < m) → Has xs m r → Has xs m (look told a (some f) r)
look_eod told a last_is pass_is xs k m f s early at x =
    look_quiet told a (some f) xs m (λ g e. subst (λ (y : List ℕ). judge_frame told (record { 0 = a }) (record { 0 = m }) y ≡ passed_over) (some_same e) (passed at)) x
  where
    passed : (k ≡ m) ⊎ (k < m) → judge_frame told (record { 0 = a }) (record { 0 = m }) f ≡ passed_over
    passed (inl same) = subst (λ (n : ℕ). judge_frame told (record { 0 = a }) (record { 0 = n }) f ≡ passed_over) same (eod_passed told a last_is pass_is s early)
    passed (inr less) = stands_below told a last_is pass_is s (unnamed told (record { 0 = a }) early Eod) m less

-- ---- the fold

pub fold_user : (told : Header) (t : Tape) (a : ℕ) → is_user told.last.0 a ≡ true → fold_of told t (a + 1) ≡ look told a (t a) (fold_of told t a)
unfolding fold_of
fold_user told t a u = ap (fold_of told t) (add-one a) ∙ pick_t _ u

-- a reading that has ended or was refused stays so
abbrev pub Final : Reader → Type 0
Final (going n got trail) = ⊥
Final (finished got e) = Unit {0}
Final (stopped m) = Unit {0}

look_final : (told : Header) (a : ℕ) (v : Option (List ℕ)) (r : Reader) → Final r → look told a v r ≡ r
unfolding look
look_final told a none r h = refl
look_final told a (some f) (going n got trail) h = absurd h
look_final told a (some f) (finished got e) h = refl
look_final told a (some f) (stopped m) h = refl

fold_final_by : (told : Header) (t : Tape) (a n : ℕ) {r : Reader} → Final r → fold_of told t a ≡ r → fold_of told t (n + a) ≡ r
unfolding fold_of
fold_final_by told t a zero h e = let z : zero + a ≡ a = omega arith in ap (fold_of told t) z ∙ e
fold_final_by told t a (suc n) {r} h e =
    let z : suc n + a ≡ suc (n + a) = omega arith in
    let before : fold_of told t (n + a) ≡ r = fold_final_by told t a n h e in
    ap (fold_of told t) z
    ∙ pick_by (λ (x : Reader). x ≡ r) (is_user told.last.0 (n + a)) (λ _. ap (look told (n + a) (t (n + a))) before ∙ look_final told (n + a) (t (n + a)) r h) (λ _. before)

pub fold_final : (told : Header) (t : Tape) (a b : ℕ) {r : Reader} → a ≤ b → Final r → fold_of told t a ≡ r → fold_of told t b ≡ r
fold_final told t a b l h e = let z : b ≡ b - a + a = omega arith in ap (fold_of told t) z ∙ fold_final_by told t a (b - a) h e

-- an address above changes nothing
pub fold_put : (told : Header) (t : Tape) (a : ℕ) (v : Option (List ℕ)) (b : ℕ) → b ≤ a → fold_of told (put t a v) b ≡ fold_of told t b
unfolding fold_of
fold_put told t a v zero h = refl
fold_put told t a v (suc b) h = rw (put_other t a v b (λ e. omega arith), fold_put told t a v b (omega arith))

-- user frames that read alike are read alike
pub fold_users : (told : Header) (t u : Tape) → SameFrames told.last.0 t u → (b : ℕ) → fold_of told t b ≡ fold_of told u b
unfolding fold_of
fold_users told t u same zero = refl
fold_users told t u same (suc b) = go (fold_users told t u same b) (is_user told.last.0 b) refl
  where
    go : fold_of told t b ≡ fold_of told u b → (x : Bool) → is_user told.last.0 b ≡ x → fold_of told t (suc b) ≡ fold_of told u (suc b)
    go rest true e = rw (same b e, rest)
    go rest false e = pick_f _ e ∙ rest ∙ sym (pick_f _ e)

-- an address that is no user frame changes nothing
pub fold_put_other : (told : Header) (t : Tape) (a : ℕ) (v : Option (List ℕ)) → is_user told.last.0 a ≡ false → (b : ℕ) → fold_of told (put t a v) b ≡ fold_of told t b
fold_put_other told t a v u = fold_users told (put t a v) t (λ b w. put_other t a v b (λ e. true≢false (sym w ∙ ap (is_user told.last.0) e ∙ u)))

pub fold_put_at : (told : Header) (t : Tape) (a : ℕ) (v : Option (List ℕ)) → is_user told.last.0 a ≡ true → fold_of told (put t a v) (a + 1) ≡ look told a v (fold_of told t a)
fold_put_at told t a v u = fold_user told (put t a v) a u ∙ rw (put_same t a v, fold_put told t a v a (le_refl a))

-- addresses at which nothing reads are passed over
module _ (told : Header) (t : Tape) where
  fold_none_by : (a n : ℕ) → ((b : ℕ) (f : List ℕ) → a ≤ b → b < n + a → is_user told.last.0 b ≡ true → t b ≡ some f → ⊥) → fold_of told t (n + a) ≡ fold_of told t a
  unfolding fold_of
  fold_none_by a zero h = let e : zero + a ≡ a = omega arith in rw e
  fold_none_by a (suc n) h =
      let e : suc n + a ≡ suc (n + a) = omega arith in
      rw e (go (is_user told.last.0 (n + a)) refl ∙ fold_none_by a n (λ b f l u. h b f l (omega arith)))
    where
      go : (x : Bool) → is_user told.last.0 (n + a) ≡ x → pick x (look told (n + a) (t (n + a)) (fold_of told t (n + a))) (fold_of told t (n + a)) ≡ fold_of told t (n + a)
      go true u = look_none told (n + a) (t (n + a)) (fold_of told t (n + a)) (λ f e. h (n + a) f (omega arith) (omega arith) u e)
      go false u = refl

  pub fold_none : (a b : ℕ) → a ≤ b → ((c : ℕ) (f : List ℕ) → a ≤ c → c < b → is_user told.last.0 c ≡ true → t c ≡ some f → ⊥) → fold_of told t b ≡ fold_of told t a
  fold_none a b l h =
      let e : b ≡ b - a + a = omega arith in
      ap (fold_of told t) e ∙ fold_none_by a (b - a) (λ c f m u. h c f m (omega arith))

  -- and so are those at which whatever reads is
  fold_quiet_by : (xs : List Element) (m a n : ℕ) → ((b : ℕ) (f : List ℕ) → a ≤ b → b < n + a → is_user told.last.0 b ≡ true → t b ≡ some f → judge_frame told (record { 0 = b }) (record { 0 = m }) f ≡ passed_over)
      → Has xs m (fold_of told t a) → Has xs m (fold_of told t (n + a))
  unfolding fold_of
  fold_quiet_by xs m a zero h x = let e : a ≡ zero + a = omega arith in subst (λ (i : ℕ). Has xs m (fold_of told t i)) e x
  fold_quiet_by xs m a (suc n) h x =
      let e : suc (n + a) ≡ suc n + a = omega arith in
      let before = fold_quiet_by xs m a n (λ b f l u. h b f l (omega arith)) x in
      subst (λ (i : ℕ). Has xs m (fold_of told t i)) e
      (pick_by (Has xs m) (is_user told.last.0 (n + a)) (λ u. look_quiet told (n + a) (t (n + a)) xs m (λ f q. h (n + a) f (omega arith) (omega arith) u q) before) (λ _. before))

  pub fold_quiet : (xs : List Element) (m a b : ℕ) → a ≤ b → ((c : ℕ) (f : List ℕ) → a ≤ c → c < b → is_user told.last.0 c ≡ true → t c ≡ some f → judge_frame told (record { 0 = c }) (record { 0 = m }) f ≡ passed_over)
      → Has xs m (fold_of told t a) → Has xs m (fold_of told t b)
  fold_quiet xs m a b l h x =
      let e : b - a + a ≡ b = omega arith in
      subst (λ (i : ℕ). Has xs m (fold_of told t i)) e (fold_quiet_by xs m a (b - a) (λ c f l u. h c f l (omega arith)) x)

-- ---- what is told counts only by LAST and by the pass, below where EODs end reading

module _ (one two : Header) (same_last : one.last.0 ≡ two.last.0) (same_pass : one.pass ≡ two.pass) (t : Tape) where
  look_alike : (a : ℕ) → a < ends_from one → a < ends_from two → (v : Option (List ℕ)) (r : Reader) → look one a v r ≡ look two a v r
  unfolding look
  look_alike a early_one early_two none r = refl
  look_alike a early_one early_two (some f) (going n got trail) = ap (λ j. advance j f a n got trail) (judge_alike one two (record { 0 = a }) (record { 0 = n }) same_last same_pass early_one early_two f)
  look_alike a early_one early_two (some f) (finished got e) = refl
  look_alike a early_one early_two (some f) (stopped m) = refl

  pub fold_alike : (b : ℕ) → ((a : ℕ) → a < b → (a < ends_from one) × (a < ends_from two)) → fold_of one t b ≡ fold_of two t b
  unfolding fold_of
  fold_alike zero h = refl
  fold_alike (suc b) h =
      ap (λ (n : ℕ). pick (is_user n b) (look one b (t b) (fold_of one t b)) (fold_of one t b)) same_last
      ∙ ap (λ (r : Reader). pick (is_user two.last.0 b) (look one b (t b) r) r) (fold_alike b (λ a l. h a (omega arith)))
      ∙ ap (λ (r : Reader). pick (is_user two.last.0 b) r (fold_of two t b)) (look_alike b (h b (omega arith)).0 (h b (omega arith)).1 (t b) (fold_of two t b))

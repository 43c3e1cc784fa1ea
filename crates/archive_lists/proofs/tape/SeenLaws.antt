-- What a recording's writes, failures and moves leave of what a reading sees. Assumes nothing.
use Prim.Native.Nat.{ℕ, ◌+◌, ◌≤◌, ◌<◌}
use mathlib.Core.Path.{◌≡◌, refl, sym, ap, subst, ◌∙◌}
use mathlib.Core.Bool.{Bool, true, false, true≢false}
use mathlib.Core.List.{List, [], ◌∷◌, ◌++◌}
use mathlib.Core.Logic.{◌⊎◌, inl, inr, ⊎_elim}
use mathlib.Core.Option.{Option, none, some}
use native.Mathlib.Decide.{ℕ_discrete}
use native.Mathlib.Nat.{le_refl, eq-or-lt_of_le}
use native.Mathlib.Omega.{arith}
use borrow.Author.Tests.{leb-true, leb-false}
use lib.Dec.{leb}
use lib.ListN.{length, take, length-append}
use lib.Seq.{take-append-le, length-take-le}
use Rattle.geometry.specs.Cartridge.{is_user}
use Rattle.geometry.proofs.UserFrames.{user_ranges}
use Rattle.judgement.specs.Judgement.{passed_over, ends_from, judge_frame}
use Rattle.archive_lists.specs.Conduct.{Left, as_before, as_new, not_at_all, reads}
use Rattle.archive_lists.specs.Tape.{Tape, Cartridge, put}
use Rattle.archive_lists.specs.Fold.{Reader, going, look, fold_of}
use Rattle.archive_lists.specs.Recordings.{Element}
use Rattle.archive_lists.specs.Filemarks.{Item, item_at}
use Rattle.archive_lists.proofs.tape.Basics.{none_some}
use Rattle.archive_lists.proofs.tape.Seen.{Has, has, Seen, Quiet, Clean, NoneFrom}
use Rattle.archive_lists.proofs.tape.Stands.{unending, Stands}
use Rattle.archive_lists.proofs.tape.StandsLaws.{item_past, item_take, item_more, stands_read, ends_telling}
use Rattle.archive_lists.proofs.tape.FoldLaws.{put_same, put_other, look_quiet, look_next, look_again, look_eod, fold_put_other, fold_put_at, fold_quiet}

-- ---- one element more

-- one more is accepted
pub has_more : (xs : List Element) (x : Element) (m : ℕ) {r : Reader} → m ≤ length xs → Has xs m r → Has (xs ++ x ∷ []) m r
has_more xs x m top (has trail e) = has trail (e ∙ ap (λ (got : List Element). going m got trail) (sym (take-append-le m xs (x ∷ []) top)))

module _ {last pass k edge : ℕ} {ps xs : List Element} {t : Tape} where
  pub seen_accept : (x : Element) → ps ≡ xs → k ≤ length ps → Seen last pass ps xs k edge t → Seen last pass (ps ++ x ∷ []) (xs ++ x ∷ []) k edge t
  seen_accept x all few h = record {
    base = h.base;
    m = h.m;
    floor = h.floor;
    low = inl (⊎_elim (λ l. l) (λ e. omega arith) h.low);
    high = h.high;
    most = omega (arith, length-append ps (x ∷ []), h.most);
    top = omega (arith, length-append xs (x ∷ []), h.top);
    few = omega (arith, length-append ps (x ∷ []), length-append xs (x ∷ []), h.few);
    prefix = λ i _. ap (λ (ys : List Element). item_at (ys ++ x ∷ []) i) all;
    seen = has_more xs x h.m h.top h.seen;
    quiet = h.quiet;
  }

-- the same with what is promised left as it is
pub seen_grows : {last pass k edge : ℕ} {ps xs : List Element} {t : Tape} (x : Element) → Seen last pass ps xs k edge t → Seen last pass ps (xs ++ x ∷ []) k edge t
seen_grows {xs = xs} x h = record {
  base = h.base;
  m = h.m;
  floor = h.floor;
  low = h.low;
  high = h.high;
  most = h.most;
  top = omega (arith, length-append xs (x ∷ []), h.top);
  few = omega (arith, length-append xs (x ∷ []), h.few);
  prefix = λ i l. h.prefix i l ∙ sym (item_more xs (x ∷ []) i (omega (arith, h.few)));
  seen = has_more xs x h.m h.top h.seen;
  quiet = h.quiet;
}

-- giving up shortens the promise to what is on tape
pub seen_gives : {last pass k edge : ℕ} {ps xs : List Element} {t : Tape} → ps ≡ xs → k ≤ length xs → Seen last pass ps xs k edge t → Seen last pass (take k xs) xs k edge t
seen_gives {k = k} {ps} {xs} all fits h = record {
  base = h.base;
  m = h.m;
  floor = h.floor;
  low = inl (⊎_elim (λ l. l) (λ e. omega (arith, ap length all)) h.low);
  high = h.high;
  most = omega (arith, h.high, kept);
  top = h.top;
  few = omega (arith, kept);
  prefix = λ i l. item_take xs k i (omega (arith, kept));
  seen = h.seen;
  quiet = h.quiet;
}
  where
    kept : length (take k xs) ≡ k
    kept = length-take-le k xs fits

-- ---- a tape that is written

pub cartridge_put : (last : ℕ) (t : Tape) (a : ℕ) (v : Option (List ℕ)) → a ≤ last → ((f : List ℕ) → v ≡ some f → length f ≡ 33280) → Cartridge last t → Cartridge last (put t a v)
cartridge_put last t a v low long c = record {
  long = λ b f e. at b f (ℕ_discrete b a) e;
  bounded = λ b h. put_other t a v b (λ e. omega arith) ∙ c.bounded b h;
}
  where
    at : (b : ℕ) (f : List ℕ) → Dec (b ≡ a) → put t a v b ≡ some f → length f ≡ 33280
    at b f (yes e) q = long f (sym (put_same t a v) ∙ ap (put t a v) (sym e) ∙ q)
    at b f (no n) q = c.long b f (sym (put_other t a v b n) ∙ q)

-- the same of another tape, or up to another address
pub seen_as : {last pass k edge to : ℕ} {ps xs : List Element} {t u : Tape} (h : Seen last pass ps xs k edge t)
    → Has xs h.m (fold_of (unending last pass) u to) → Quiet last pass h.base to u → Seen last pass ps xs k to u
seen_as h seen quiet = record {
  base = h.base;
  m = h.m;
  floor = h.floor;
  low = h.low;
  high = h.high;
  most = h.most;
  top = h.top;
  few = h.few;
  prefix = h.prefix;
  seen = seen;
  quiet = quiet;
}

-- a header's address is no user frame's
pub seen_elsewhere : {last pass k edge : ℕ} {ps xs : List Element} {t : Tape} (a : ℕ) (v : Option (List ℕ)) → is_user last a ≡ false → Seen last pass ps xs k edge t → Seen last pass ps xs k edge (put t a v)
seen_elsewhere {last} {pass} {edge = edge} {xs = xs} {t} a v u h =
    seen_as h (subst (Has xs h.m) (sym (fold_put_other (unending last pass) t a v u edge)) h.seen)
    (λ b f l w e. h.quiet b f l w (sym (put_other t a v b (λ q. true≢false (sym w ∙ ap (is_user last) q ∙ u))) ∙ e))

module _ {last pass k : ℕ} {ps xs : List Element} {t : Tape} where
  -- a LOCATE further on
  pub seen_moves : {edge : ℕ} (target : ℕ) → edge ≤ target → Seen last pass ps xs k edge t → Seen last pass ps xs k target t
  seen_moves {edge} target l h =
      seen_as h (fold_quiet (unending last pass) t xs h.m edge target l (λ c f b _ w e. h.quiet c f b w e h.m h.floor) h.seen)
      (λ c f b. h.quiet c f (omega arith))

  module _ (a : ℕ) (large : 3000 ≤ last) (here : is_user last a ≡ true) (h : Seen last pass ps xs k a t) (room : k ≤ length ps) where
    quiet_put : (v : Option (List ℕ)) → Quiet last pass h.base (a + 1) (put t a v)
    quiet_put v b f l u e = h.quiet b f (omega arith) u (sym (put_other t a v b (λ q. omega arith)) ∙ e)

    -- in the open view no EOD on the tape ends reading
    inside : a < ends_from (unending last pass)
    inside = subst (λ (n : ℕ). a < n) (sym (ends_telling last pass (last + 1))) (⊎_elim (λ x. let y = x.1 in omega arith) (λ x. let y = x.1 in omega arith) (user_ranges last a here))

    -- the frame of item k brings a reading to k + 1, whether it had that already or not; EOD brings nothing
    record Reached (v : Option (List ℕ)) : Type 0 where
      to : ℕ
      least : h.m ≤ to
      low : (k + 1 ≤ to) ⊎ (length ps ≤ to)
      high : to ≤ k + 1
      most : to ≤ length ps + 1
      top : to ≤ length xs
      has_it : Has xs to (look (unending last pass) a v (fold_of (unending last pass) t a))

    least_seen : k ≤ h.m
    least_seen = ⊎_elim (λ l. l) (λ q. omega (arith, room)) h.low

    reach : (f : List ℕ) → Stands last pass (item_at ps k) k f → Reached (some f)
    reach f s = go (leb (length ps) k) refl
      where
        element_next : k < length ps → Stands last pass (item_at xs k) k f → (k ≡ h.m) ⊎ (k < h.m) → Reached (some f)
        element_next within x (inl e) = record {
          to = k + 1;
          least = omega arith;
          low = inl (le_refl (k + 1));
          high = le_refl (k + 1);
          most = omega arith;
          top = omega (arith, h.few);
          has_it = look_next (unending last pass) a refl refl xs k f x (omega (arith, h.few)) (subst (λ (n : ℕ). Has xs n (fold_of (unending last pass) t a)) (sym e) h.seen);
        }
        element_next within x (inr l) = record {
          to = h.m;
          least = le_refl h.m;
          low = inl (omega arith);
          high = h.high;
          most = h.most;
          top = h.top;
          has_it = look_again (unending last pass) a refl refl xs k f x inside h.m l h.seen;
        }

        go : (b : Bool) → leb (length ps) k ≡ b → Reached (some f)
        go true e =
            let past : length ps ≤ k = leb-true (length ps) k e in
            record {
              to = h.m;
              least = le_refl h.m;
              low = inr (omega (arith, least_seen));
              high = h.high;
              most = h.most;
              top = h.top;
              has_it = look_eod (unending last pass) a refl refl xs k h.m f (subst (λ (y : Item). Stands last pass y k f) (item_past ps k past) s) inside (eq-or-lt_of_le least_seen) h.seen;
            }
        go false e =
            let within : k < length ps = leb-false (length ps) k e in
            element_next within (subst (λ (y : Item). Stands last pass y k f) (h.prefix k within) s) (eq-or-lt_of_le least_seen)

    put_has : (v : Option (List ℕ)) {n : ℕ} → Has xs n (look (unending last pass) a v (fold_of (unending last pass) t a)) → Has xs n (fold_of (unending last pass) (put t a v) (a + 1))
    put_has v {n} x = subst (Has xs n) (sym (fold_put_at (unending last pass) t a v here)) x

    pub seen_writes : (f : List ℕ) → Stands last pass (item_at ps k) k f → Seen last pass ps xs (k + 1) (a + 1) (put t a (some f))
    seen_writes f s =
        let r = reach f s in
        record {
          base = h.base;
          m = r.to;
          floor = omega (arith, h.floor, r.least);
          low = r.low;
          high = omega (arith, r.high);
          most = r.most;
          top = r.top;
          few = h.few;
          prefix = h.prefix;
          seen = put_has (some f) r.has_it;
          quiet = quiet_put (some f);
        }

    failed_with : (v : Option (List ℕ)) → ((f : List ℕ) → v ≡ some f → judge_frame (unending last pass) (record { 0 = a }) (record { 0 = h.m }) f ≡ passed_over) → Seen last pass ps xs k (a + 1) (put t a v)
    failed_with v passed =
        seen_as h (put_has v (look_quiet (unending last pass) a v xs h.m passed h.seen))
        (quiet_put v)

    -- whatever a failed address reads as
    pub seen_fails : (f : List ℕ) (v : Option (List ℕ)) → Stands last pass (item_at ps k) k f → Left (t a) f v → Seen last pass ps xs k (a + 1) (put t a v)
    seen_fails f v s as_before = failed_with (t a) (λ g e. h.quiet a g (le_refl a) here e h.m h.floor)
    seen_fails f v s (as_new _ (reads read q)) =
        let r = reach read (stands_read s q) in
        record {
          base = h.base;
          m = r.to;
          floor = omega (arith, h.floor, r.least);
          low = ⊎_elim (λ l. inl (omega arith)) inr r.low;
          high = r.high;
          most = r.most;
          top = r.top;
          few = h.few;
          prefix = h.prefix;
          seen = put_has (some read) r.has_it;
          quiet = quiet_put (some read);
        }
    seen_fails f v s not_at_all = failed_with none (λ g e. none_some e)

-- ---- where nothing bears the pass

module _ {last pass : ℕ} {t : Tape} where
  pub clean_elsewhere : {edge : ℕ} (a : ℕ) (v : Option (List ℕ)) → is_user last a ≡ false → Clean last pass edge t → Clean last pass edge (put t a v)
  clean_elsewhere a v u h = record {
    old = h.old;
    old_low = h.old_low;
    none = λ b f o l w e. h.none b f o l w (sym (put_other t a v b (λ q. true≢false (sym w ∙ ap (is_user last) q ∙ u))) ∙ e);
  }

  pub clean_moves : {edge : ℕ} (target : ℕ) → edge ≤ target → Clean last pass edge t → Clean last pass target t
  clean_moves target l h = record { old = h.old; old_low = omega (arith, h.old_low); none = λ b f o m. h.none b f o (omega arith) }

  -- one address is tried
  pub clean_behind : {a : ℕ} (v : Option (List ℕ)) → Clean last pass a t → NoneFrom last pass (put t a v) (a + 1)
  clean_behind {a} v h b f l w e = h.none b f (omega (arith, h.old_low)) (omega arith) w (sym (put_other t a v b (λ q. omega arith)) ∙ e)

  pub clean_put : {a : ℕ} (v : Option (List ℕ)) → Clean last pass a t → Clean last pass (a + 1) (put t a v)
  clean_put v h = record { old = h.old; old_low = omega (arith, h.old_low); none = λ b f _ l. clean_behind v h b f l }

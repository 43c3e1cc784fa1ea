-- What the drive's own writes and failures leave of the frames that it holds, of EOD, and of tape and window. Assumes nothing.
use Prim.Native.Nat.{ℕ, ◌+◌, ◌-◌, ◌≤◌, ◌<◌}
use mathlib.Core.Path.{◌≡◌, refl, sym, ap, subst, ◌∙◌}
use mathlib.Core.Bool.{Bool, true, false, true≢false}
use mathlib.Core.List.{List, [], ◌∷◌, ◌++◌}
use mathlib.Core.Logic.{◌⊎◌, inl, inr, ⊎_elim}
use mathlib.Core.Option.{Option, some}
use native.Mathlib.Decide.{ℕ_discrete}
use native.Mathlib.Omega.{arith}
use lib.ListN.{length}
use Rattle.geometry.specs.Cartridge.{is_header, is_user}
use Rattle.geometry.proofs.Impossible.{never}
use Rattle.geometry.proofs.UserFrames.{ranges, header_not_user}
use Rattle.frame.specs.Header.{header_frame}
use Rattle.frame.specs.Sent.{ReadsAs}
use Rattle.frame.specs.declared.header.Header.{Header}
use Rattle.frame.proofs.Frames.{header_length}
use Rattle.header.specs.Valid.{update_of}
use Rattle.archive_lists.specs.Conduct as conduct
use Rattle.archive_lists.specs.Conduct.{Drive, Written, Left, as_before, as_new, not_at_all, wrote, failing}
use Rattle.archive_lists.specs.Tape.{Tape, Cartridge, put}
use Rattle.recording_state.specs.declared.state.State.{State}
use Rattle.recording_state.specs.declared.state.Stage.TheVariants as S
use Rattle.recording_state.proofs.Stages.{ElementStage}
use Rattle.archive_lists.specs.Recordings.{World, Element, with_drive}
use Rattle.archive_lists.specs.Filemarks.{Item, eod, item_at}
use Rattle.archive_lists.proofs.tape.Closed.{user_within}
use Rattle.archive_lists.proofs.tape.Basics.{none_some, some_same}
use Rattle.archive_lists.proofs.tape.Seen.{Seen, Clean}
use Rattle.archive_lists.proofs.tape.FoldLaws.{put_same, put_other}
use Rattle.archive_lists.proofs.tape.SeenLaws.{cartridge_put, seen_elsewhere, seen_writes, seen_fails, clean_elsewhere, clean_behind}
use Rattle.archive_lists.proofs.tape.Stands.{Stands, Queue}
use Rattle.archive_lists.proofs.tape.StandsLaws.{item_past, stands_read, stands_long}
use Rattle.archive_lists.proofs.recording.HeaderCopies.{Copy, Below}
use Rattle.archive_lists.proofs.recording.Setting.{EodAt}
use Rattle.archive_lists.proofs.recording.Invariant.{total_of, Outgoing, EodPlace, Content}

-- what a tried address reads as
pub left_reads : {before : Option (List ℕ)} {sent f : List ℕ} {v : Option (List ℕ)} → Left before sent v → v ≡ some f → (before ≡ some f) ⊎ ReadsAs sent f
left_reads as_before e = inl e
left_reads {sent = sent} (as_new _ (conduct.reads read r)) e = inr (subst (λ (x : List ℕ). ReadsAs sent x) (some_same e) r)
left_reads not_at_all e = none_some e

-- and so a cartridge stays one
pub cartridge_tried : {last : ℕ} {t : Tape} {f : List ℕ} (a : ℕ) (v : Option (List ℕ)) → Left (t a) f v → a ≤ last → length f ≡ 33280 → Cartridge last t → Cartridge last (put t a v)
cartridge_tried {last} {t} a v left low long c = cartridge_put last t a v low (λ g x. ⊎_elim (λ y. c.long a g y) (λ r. r.long ∙ long) (left_reads left x)) c

-- ---- headers

below_put : (last : ℕ) (h : Header) (t : Tape) (a : ℕ) (v : Option (List ℕ)) → ((f : List ℕ) → v ≡ some f → (t a ≡ some f) ⊎ ReadsAs (header_frame h) f) → Below last h t → Below last h (put t a v)
below_put last h t a v left below b f at = go (ℕ_discrete b a)
  where
    again : t b ≡ some f → (update_of f < h.update) ⊎ ReadsAs (header_frame h) f
    again e = below b f (record { group = at.group; reads = e; valid = at.valid })

    go : Dec (b ≡ a) → (update_of f < h.update) ⊎ ReadsAs (header_frame h) f
    go (yes e) =
        ⊎_elim (λ q. again (ap t e ∙ q)) inr (left f (sym (put_same t a v) ∙ ap (put t a v) (sym e) ∙ at.reads))
    go (no n) = again (sym (put_other t a v b n) ∙ at.reads)

pub header_below : {last : ℕ} (w : World) (v : Option (List ℕ)) → Left (w.drive.tape w.drive.at) (header_frame w.session.copies.header) v → Below last w.session.copies.header w.drive.tape
    → Below last w.session.copies.header (put w.drive.tape w.drive.at v)
header_below {last} w v left = below_put last w.session.copies.header w.drive.tape w.drive.at v (λ f x. left_reads left x)

-- where an element is written no header is
pub element_below : {last : ℕ} (w : World) → is_user last w.drive.at ≡ true → (v : Option (List ℕ)) → Below last w.session.copies.header w.drive.tape → Below last w.session.copies.header (put w.drive.tape w.drive.at v)
element_below {last} w here v below a g at =
    below a g (record { group = at.group; reads = sym (put_other w.drive.tape w.drive.at v a (λ e. header_not_user last a at.group (ap (is_user last) e ∙ here))) ∙ at.reads; valid = at.valid })

-- and so a header's copy stays
pub copy_beside : (last a : ℕ) {h : Header} {t : Tape} {bound : ℕ} → is_user last a ≡ true → (v : Option (List ℕ)) → Copy h t bound → Copy h (put t a v) bound
copy_beside last a {t = t} here v x = record {
  address = x.address;
  frame = x.frame;
  group = x.group;
  low = x.low;
  reads = put_other t a v x.address (λ e. header_not_user last x.address x.group (ap (is_user last) e ∙ here)) ∙ x.reads;
  as_sent = x.as_sent;
}

pub header_low : (last a : ℕ) → 3000 ≤ last → is_header a ≡ true → a ≤ last
header_low last a large h = ⊎_elim (λ x. let y = x.1 in omega arith) (λ x. let y = x.1 in omega arith) (ranges 5 9 2990 2994 a h)

pub not_user : (last a : ℕ) → is_header a ≡ true → (b : Bool) → is_user last a ≡ b → is_user last a ≡ false
not_user last a h true u = absurd (header_not_user last a h u)
not_user last a h false u = u

module _ {last pass k : ℕ} (ps : List Element) (w : World) (e : Drive) (v : Option (List ℕ)) (q : e.tape ≡ put w.drive.tape w.drive.at v) (at : is_header w.drive.at ≡ true) where
  pub header_content : {edge : ℕ} → 3000 ≤ last → Left (w.drive.tape w.drive.at) (header_frame w.session.copies.header) v → Content last pass ps w k edge → Content last pass ps (with_drive w e w.flight) k edge
  header_content {edge} large left c =
      let a = w.drive.at in
      let t = w.drive.tape in
      record {
        tape = subst (Cartridge last) (sym q) (cartridge_tried a v left (header_low last a large at) (header_length w.session.copies.header) c.tape);
        seen = subst (λ x. Seen last pass ps w.notes.accepted k edge x) (sym q) (seen_elsewhere a v (not_user last a at (is_user last a) refl) c.seen);
        stored = c.stored;
      }

module _ {last pass k : ℕ} (n : ℕ) (w : World) (e : Drive) (v : Option (List ℕ)) (q : e.tape ≡ put w.drive.tape w.drive.at v) (at : is_header w.drive.at ≡ true) where
  -- EOD stays where it is
  pub header_eod_place : {none_bears : Type 0} {start : ℕ} → (ElementStage w.session → ⊥) → EodPlace last pass none_bears start n w k → EodPlace last pass none_bears start n (with_drive w e w.flight) k
  header_eod_place no_elements x = record {
    written = λ st _ _. absurd (no_elements st);
    named = λ s.
        let y = x.named s in
        let a = w.session.copies.header.eod.0 in
        record {
          frame = y.frame;
          user = y.user;
          reads = ap (λ (u : Tape). u a) q ∙ put_other w.drive.tape w.drive.at v a (λ z. header_not_user last w.drive.at at (sym (ap (is_user last) z) ∙ y.user)) ∙ y.reads;
          stands = y.stands;
          above = λ p b f l u there.
              y.above p b f l u
              (sym (put_other w.drive.tape w.drive.at v b (λ z. header_not_user last w.drive.at at (sym (ap (is_user last) z) ∙ u))) ∙ sym (ap (λ (x : Tape). x b) q) ∙ there);
        };
  }

-- nothing bears the pass that did not
pub header_clean : {last pass edge : ℕ} (w : World) (t : Tape) (v : Option (List ℕ)) → t ≡ put w.drive.tape w.drive.at v → is_header w.drive.at ≡ true
    → Clean last pass edge w.drive.tape → Clean last pass edge t
header_clean {last} {pass} {edge} w t v q at c =
    subst (Clean last pass edge) (sym q) (clean_elsewhere w.drive.at v (not_user last w.drive.at at (is_user last w.drive.at) refl) c)

-- ---- elements

unclosed : {X : Type 0} (s : State) → ElementStage s → (s.stage ≡ S.ClosingHeaders) ⊎ (s.stage ≡ S.Done) → X
unclosed s st (inl z) = never (cc)
unclosed s st (inr z) = never (cc)

pub most : (b : Bool) (n : ℕ) → total_of b n ≤ n + 1
most false n = omega arith
most true n = omega arith

module _ {last pass k : ℕ} (ps : List Element) (w : World) (f : List ℕ) (rest : List (List ℕ)) (b : w.drive.buffer ≡ f ∷ rest) (free : w.drive.failed ≡ false) (st : ElementStage w.session) where
  -- the frames that the drive holds

  queued : Outgoing last pass ps w k → Stands last pass (item_at ps k) k f × Queue last pass ps (k + 1) rest
  unfolding Queue
  queued x = subst (Queue last pass ps k) b (x.queue st free)

  pub outgoing_written : (v : Option (List ℕ)) → Outgoing last pass ps w k → Outgoing last pass ps (with_drive w (wrote w.drive rest v) w.flight) (k + 1)
  outgoing_written v x = record { queue = λ _ _. (queued x).1; sent = x.sent }

  pub outgoing_failed : (v : Option (List ℕ)) → Outgoing last pass ps w k → Outgoing last pass ps (with_drive w (failing w.drive v) w.flight) k
  outgoing_failed v x = record { queue = λ _ z. absurd (true≢false z); sent = x.sent }

  module _ (here : is_user last w.drive.at ≡ true) (room : k + 1 ≤ total_of w.session.elements.eod (length ps)) where
    -- EOD

    eod_stood : {none_bears : Type 0} → (none_bears → Clean last pass w.drive.at w.drive.tape) → (read : List ℕ) → Stands last pass (item_at ps k) k read → k ≡ length ps → EodAt last pass none_bears (length ps) (put w.drive.tape w.drive.at (some read)) (w.drive.at + 1 - 1)
    eod_stood {none_bears} ahead read s all =
        let back : w.drive.at ≡ w.drive.at + 1 - 1 = omega arith in
        let item : item_at ps k ≡ eod = item_past ps k (omega arith) in
        subst (EodAt last pass none_bears (length ps) (put w.drive.tape w.drive.at (some read))) back (record {
          frame = read;
          user = here;
          reads = put_same w.drive.tape w.drive.at (some read);
          stands = subst (λ (n : ℕ). Stands last pass eod n read) all (subst (λ (x : Item). Stands last pass x k read) item s);
          above = λ p. clean_behind (some read) (ahead p);
        })

    pub eod_written_lem : {none_bears : Type 0} {start : ℕ} → (none_bears → Clean last pass w.drive.at w.drive.tape) → (v : Option (List ℕ)) → Written f v → (w.session.elements.eod ≡ true → Outgoing last pass ps w k) → start ≤ w.drive.at → EodPlace last pass none_bears start (length ps) (with_drive w (wrote w.drive rest v) w.flight) (k + 1)
    eod_written_lem ahead v (conduct.reads read r) x from = record { written = λ _ e all. (eod_stood ahead read (stands_read (queued (x e)).0 r) (omega arith), omega arith); named = unclosed w.session st }

    pub eod_failed_lem : {none_bears : Type 0} {start : ℕ} (v : Option (List ℕ)) → EodPlace last pass none_bears start (length ps) (with_drive w (failing w.drive v) w.flight) k
    eod_failed_lem v = record { written = λ _ _ all. absurd (omega (arith, most w.session.elements.eod (length ps))); named = unclosed w.session st }

    -- tape and window

    module _ {edge : ℕ} (large : 3000 ≤ last) (c : Content last pass ps w k edge) (x : Outgoing last pass ps w k) (edge_here : edge ≡ w.drive.at) where
      seen_here : Seen last pass ps w.notes.accepted k w.drive.at w.drive.tape
      seen_here = subst (λ (a : ℕ). Seen last pass ps w.notes.accepted k a w.drive.tape) edge_here c.seen

      -- at most EOD is to come
      within : k ≤ length ps
      within = omega (arith, most w.session.elements.eod (length ps))

      cartridge_left : {v : Option (List ℕ)} → Left (w.drive.tape w.drive.at) f v → Cartridge last (put w.drive.tape w.drive.at v)
      cartridge_left {v} left = cartridge_tried w.drive.at v left (user_within last w.drive.at large here) (stands_long (queued x).0) c.tape

      pub content_written : (v : Option (List ℕ)) → Written f v → Content last pass ps (with_drive w (wrote w.drive rest v) w.flight) (k + 1) (w.drive.at + 1)
      content_written v (conduct.reads read r) = record {
        tape = cartridge_left (as_new (some read) (conduct.reads read r));
        seen = seen_writes w.drive.at large here seen_here within read (stands_read (queued x).0 r);
        stored = c.stored;
      }

      pub content_failed : (v : Option (List ℕ)) → Left (w.drive.tape w.drive.at) f v → Content last pass ps (with_drive w (failing w.drive v) w.flight) k (w.drive.at + 1)
      content_failed v left = record {
        tape = cartridge_left left;
        seen = seen_fails w.drive.at large here seen_here within f v (queued x).0 left;
        stored = c.stored;
      }

-- one frame more
pub queue_more : (last pass : ℕ) (xs : List Element) (k : ℕ) (fs : List (List ℕ)) (f : List ℕ) → Queue last pass xs k fs → Stands last pass (item_at xs (k + length fs)) (k + length fs) f → Queue last pass xs k (fs ++ f ∷ [])
unfolding Queue
queue_more last pass xs k [] f q s =
    let e : k + 0 ≡ k = omega arith in
    (subst (λ (i : ℕ). Stands last pass (item_at xs i) i f) e s, tt)
queue_more last pass xs k (g ∷ fs) f q s =
    let e : k + length (g ∷ fs) ≡ k + 1 + length fs = omega arith in
    (q.0, queue_more last pass xs (k + 1) fs f q.1 (subst (λ (i : ℕ). Stands last pass (item_at xs i) i f) e s))

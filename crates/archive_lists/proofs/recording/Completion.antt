-- What a recording that reported done leaves, and that a reading opens on it. Assumes nothing.
use Prim.Native.Nat.{ℕ, ◌+◌, ◌^◌, ◌≤◌, ◌<◌}
use mathlib.Core.Path.{◌≡◌, sym, ap, subst, ◌∙◌}
use mathlib.Core.Bool.{true, true≢false, ◌||◌, false}
use mathlib.Core.List.{List}
use mathlib.Core.Logic.{◌⊎◌, inl, inr, ⊎_elim}
use native.Mathlib.Omega.{arith}
use borrow.Author.Tests.{eqb-true, ne_eqb}
use lib.Dec.{eqb}
use lib.ListN.{length}
use Rattle.geometry.specs.Place.{as_address, address}
use Rattle.geometry.specs.Cartridge.{is_user, last_of}
use Rattle.geometry.proofs.TestLaws.{or_true, and_true}
use Rattle.geometry.proofs.PickLaws.{pick_f}
use Rattle.geometry.proofs.Impossible.{never, clash}
use Rattle.judgement.specs.Judgement.{ends_from}
use Rattle.geometry.specs.declared.cartridge.Geometry.{Geometry}
use Rattle.geometry.proofs.UserFrames.{User, user_ranges}
use Rattle.frame.specs.Header.{header_frame}
use Rattle.frame.specs.Sent.{ReadsAs}
use Rattle.frame.specs.declared.header.Header.{Header}
use Rattle.header.specs.Valid.{valid_header, update_of, header_of}
use Rattle.header.specs.Read.{CheckedSaid}
use Rattle.header.proofs.ReadLaws.{valid_taken}
use Rattle.header.proofs.AsRead.{read_valid, read_update, read_fields}
use Rattle.header.proofs.Built.{built_valid, built_update, built_fields}
use Rattle.recording_state.specs.Accept.{is_spent}
use Rattle.recording_state.specs.State.{given_up_of}
use Rattle.archive_lists.specs.Tape.{Tape, Cartridge}
use Rattle.recording_state.specs.declared.state.Stage.TheVariants as S
use Rattle.reading_state.specs.Open as reading
use Rattle.archive_lists.specs.Conduct.{AtRest}
use Rattle.archive_lists.specs.Headers.{HeaderAt, Newest}
use Rattle.archive_lists.specs.Recordings as recordings
use Rattle.archive_lists.specs.Recordings.{World, Element, promised}
use Rattle.archive_lists.proofs.tape.Basics.{none_answered}
use Rattle.archive_lists.proofs.tape.Seen.{Seen}
use Rattle.archive_lists.proofs.tape.Closed.{seen_closed}
use Rattle.archive_lists.proofs.recording.Trailing.{Prior}
use Rattle.archive_lists.proofs.recording.HeaderCopies.{Carried, Copy, Below}
use Rattle.archive_lists.proofs.recording.Invariant.{Course, opening, writing, closing, finished, Content, Live, gave_up, live, rejecting, spent, over, Inv}
use Rattle.archive_lists.proofs.recording.Setting.{Setting, HeadersLeft, Leaves}

-- ---- a copy of the header

module _ {last pass : ℕ} {prior : Prior} {spare : ℕ} (set : Setting last pass) (h : Header) (c : Carried last pass prior spare h) where
  eod_small : h.eod.0 < 2 ^ 32
  eod_small = go (or_true _ _ c.eod_fits)
    where
      low : User last h.eod.0 → h.eod.0 < 2 ^ 32
      low (inl x) = let y = x.1 in omega arith
      low (inr x) = let y = x.1 in omega (arith, set.small)

      go : (eqb h.eod.0 0 ≡ true) ⊎ (is_user last h.eod.0 ≡ true) → h.eod.0 < 2 ^ 32
      go (inl e) = let z = eqb-true h.eod.0 0 e in omega arith
      go (inr e) = low (user_ranges last h.eod.0 e)

  old_small : h.old.0 < 2 ^ 32
  old_small = let l = c.old_low in omega (arith, set.small)

  last_small : h.last.0 < 2 ^ 32
  last_small = omega (arith, c.last_is, set.small)

  update_small : h.update < 2 ^ 32
  update_small = omega (arith, c.count_fits)

  pass_low : h.pass ≤ 65534
  pass_low = omega (arith, c.pass_is, set.low)

  module _ {f : List ℕ} (r : ReadsAs (header_frame h) f) where
    pub copy_valid : valid_header (as_address last) f ≡ true
    copy_valid =
        read_valid r (as_address last)
        ∙ subst (λ (n : ℕ). valid_header (as_address n) (header_frame h) ≡ true) c.last_is
        (built_valid h last_small pass_low eod_small (subst (λ (n : ℕ). (eqb h.eod.0 0 || is_user n h.eod.0) ≡ true) (sym c.last_is) c.eod_fits))

    pub copy_update : update_of f ≡ h.update
    copy_update = read_update r ∙ built_update h update_small

    pub copy_fields : header_of f ≡ h
    copy_fields = read_fields r ∙ built_fields h last_small (omega (arith, pass_low)) eod_small old_small update_small

    copy_pass : (header_of f).pass ≡ pass
    copy_pass = ap (λ (x : Header). x.pass) copy_fields ∙ c.pass_is

    copy_eod : (header_of f).eod.0 ≡ h.eod.0
    copy_eod = ap (λ (x : Header). x.eod.0) copy_fields

  -- it is the newest, and so is every other newest one a copy
  module _ {t : Tape} {bound : ℕ} (y : Copy h t bound) (below : Below last h t) where
    here : HeaderAt last t y.address y.frame
    here = record { group = y.group; reads = y.reads; valid = copy_valid y.as_sent }

    pub copy_newest : Newest last t y.frame
    copy_newest = record {
      address = y.address;
      here = here;
      highest = λ a other at. ⊎_elim (λ l. omega (arith, copy_update y.as_sent)) (λ r. omega (arith, copy_update y.as_sent, copy_update r)) (below a other at);
    }

    newest_copy : (f : List ℕ) → Newest last t f → ReadsAs (header_frame h) f
    newest_copy f n =
        ⊎_elim (λ l. absurd (omega (arith, copy_update y.as_sent, n.highest y.address y.frame here))) (λ r. r) (below n.address f n.here)

    newest_pass : (f : List ℕ) → Newest last t f → (header_of f).pass ≡ pass
    newest_pass f n = copy_pass (newest_copy f n)

    newest_eod : (f : List ℕ) → Newest last t f → (header_of f).eod.0 ≡ h.eod.0
    newest_eod f n = copy_eod (newest_copy f n)

behind : {last pass k edge : ℕ} {ps xs : List Element} {t : Tape} (n : ℕ) → k ≡ n + 1 → edge ≡ last + 1 → Seen last pass ps xs k edge t → Seen last pass ps xs (n + 1) (last + 1) t
behind {last} {pass} {k} {ps = ps} {xs} {t} n q e h = subst (λ (i : ℕ). Seen last pass ps xs i (last + 1) t) q (subst (λ (a : ℕ). Seen last pass ps xs k a t) e h)

-- ---- a copy of the closing header is on tape

module _ {last pass : ℕ} {on_newest none_bears : Type 0} {prior : Prior} {w : World} (set : Setting last pass) (l : Live last pass on_newest none_bears prior w) (shut : (w.session.stage ≡ S.ClosingHeaders) ⊎ (w.session.stage ≡ S.Done))
    {bound : ℕ} (copy : Copy w.session.copies.header w.drive.tape bound) where
  headers_left : on_newest → HeadersLeft last pass none_bears (length l.list) w.drive.tape
  headers_left p = record {
    header = copy.frame;
    newest = copy_newest set w.session.copies.header l.carried copy (l.below p);
    passes = newest_pass set w.session.copies.header l.carried copy (l.below p);
    end_at = w.session.copies.header.eod.0;
    names = newest_eod set w.session.copies.header l.carried copy (l.below p);
    ends = l.eod_place.named shut;
  }

  -- all that is promised is seen, and EOD behind it
  all_seen : Content last pass l.list w l.k l.edge → Course last (length l.list) w l.k l.edge → Seen last pass l.list w.notes.accepted (length l.list + 1) (last + 1) w.drive.tape
  all_seen content (opening s _ _ _) = ⊎_elim (λ z. never (cc)) (λ z. never (cc)) shut
  all_seen content (writing s _ _) = ⊎_elim (λ z. never (cc)) (λ z. never (cc)) shut
  all_seen content (closing _ _ _ k edge _) = behind (length l.list) k edge content.seen
  all_seen content (finished _ _ _ k edge _ _ _ _ _) = behind (length l.list) k edge content.seen

  pub completes_so : on_newest → none_bears → w.notes.unaltered ≡ true → Leaves last pass prior.base none_bears w.drive.tape (promised w.notes) w.notes.accepted
  completes_so newest none unaltered =
      let content = l.content none unaltered in
      let headers = headers_left newest in
      let at = headers.ends in
      subst (λ (xs : List Element). Leaves last pass prior.base none_bears w.drive.tape xs w.notes.accepted) l.promises.is (record {
        cartridge = content.tape;
        headers = headers;
        reads = seen_closed set.large headers.end_at at.frame at.user at.reads at.stands (all_seen content l.course);
        floor = l.floor.1;
      })

-- so it is once done
done_copy : {last n : ℕ} (w : World) {k edge : ℕ} → w.session.stage ≡ S.Done → Course last n w k edge → Copy w.session.copies.header w.drive.tape (last + 1)
done_copy w done (opening s _ _ _) = never (cc)
done_copy w done (writing s _ _) = never (cc)
done_copy w done (closing s _ _ _ _ _) = never (cc)
done_copy w done (finished _ _ _ _ _ _ _ _ _ copy) = copy

module _ {last pass : ℕ} {on_newest none_bears : Type 0} {prior : Prior} (w : World) (set : Setting last pass) where
  pub closes : Inv last pass on_newest none_bears prior w → on_newest → w.notes.reported ≡ true → HeadersLeft last pass none_bears (length (promised w.notes)) w.drive.tape
  closes (live _ l) newest reported = subst (λ (xs : List Element). HeadersLeft last pass none_bears (length xs) w.drive.tape) l.promises.is (headers_left set l (inr (l.reported reported)) (done_copy w (l.reported reported) l.course) newest)
  closes (rejecting _ d) newest reported = absurd (true≢false (sym reported ∙ d.unreported))
  closes (spent _ x) newest reported = absurd (true≢false (sym reported ∙ x.unreported))
  closes (over _ o) newest reported = absurd (true≢false (sym reported ∙ o.unreported))

  pub completes : Inv last pass on_newest none_bears prior w → on_newest → none_bears → w.notes.unaltered ≡ true → w.notes.reported ≡ true → Leaves last pass prior.base none_bears w.drive.tape (promised w.notes) w.notes.accepted
  completes (live wr l) newest none unaltered reported = completes_so set l (inr (l.reported reported)) (done_copy w (l.reported reported) l.course) newest none unaltered
  completes (rejecting _ d) newest none unaltered reported = absurd (true≢false (sym reported ∙ d.unreported))
  completes (spent _ x) newest none unaltered reported = absurd (true≢false (sym reported ∙ x.unreported))
  completes (over _ o) newest none unaltered reported = absurd (true≢false (sym reported ∙ o.unreported))

  -- where a fetch asks, without a tail, a noted target is not above END
  pub aims : Inv last pass on_newest none_bears prior w → w.session.setup.tail ≡ 0 → w.session.ended ≡ false → w.flight ≡ recordings.no_command → w.session.elements.course.locate ≡ true → w.session.elements.course.target.0 < w.session.elements.course.limit.0
  aims (live wr l) none going free t = l.promises.aimed none t
  aims (rejecting _ d) none going free t = none_answered (sym free ∙ d.replied)
  aims (spent _ x) none going free t = clash x.ended going
  aims (over _ o) none going free t = clash o.ended going

  -- what there was before is among what is promised
  pub reported_floor : Inv last pass on_newest none_bears prior w → w.notes.reported ≡ true → prior.base ≤ length (promised w.notes)
  reported_floor (live _ l) reported = subst (λ (xs : List Element). prior.base ≤ length xs) l.promises.is l.floor.1
  reported_floor (rejecting _ d) reported = absurd (true≢false (sym reported ∙ d.unreported))
  reported_floor (spent _ x) reported = absurd (true≢false (sym reported ∙ x.unreported))
  reported_floor (over _ o) reported = absurd (true≢false (sym reported ∙ o.unreported))

-- ---- what the close of a spent session tells

pub spent_first : {last pass : ℕ} {on_newest none_bears : Type 0} {prior : Prior} (w : World) → Inv last pass on_newest none_bears prior w → is_spent w.session ≡ true
    → ((given_up_of w.session).elements.queue.first.0 ≡ length (promised (gave_up w).notes)) × (prior.base ≤ length (promised (gave_up w).notes))
spent_first w (live _ l) e = clash (and_true w.session.ended w.session.spent e).0 l.going
spent_first w (rejecting _ d) e = clash (and_true w.session.ended w.session.spent e).0 d.going
spent_first {prior = prior} w (spent _ x) e =
    let l = x.revives in
    let numbered = l.counted.numbered in
    let size : length l.list ≡ length (promised (gave_up w).notes) = ap length l.promises.is in
    (omega arith, subst (λ (n : ℕ). prior.base ≤ n) size l.floor.1)
spent_first w (over _ o) e = clash (and_true w.session.ended w.session.spent e).1 o.final

-- ---- the drive rests

rests_done : {last n : ℕ} (w : World) {k edge : ℕ} → w.session.stage ≡ S.Done → Course last n w k edge → AtRest w.drive
rests_done w done (opening s _ _ _) = never (cc)
rests_done w done (writing s _ _) = never (cc)
rests_done w done (closing s _ _ _ _ _) = never (cc)
rests_done w done (finished _ _ _ _ _ _ _ _ rests _) = rests

pub reported_rests : {last pass : ℕ} {on_newest none_bears : Type 0} {prior : Prior} (w : World) → Inv last pass on_newest none_bears prior w → w.notes.reported ≡ true → AtRest w.drive
reported_rests w (live _ l) reported = rests_done w (l.reported reported) l.course
reported_rests w (rejecting _ d) reported = absurd (true≢false (sym reported ∙ d.unreported))
reported_rests w (spent _ x) reported = absurd (true≢false (sym reported ∙ x.unreported))
reported_rests w (over _ o) reported = absurd (true≢false (sym reported ∙ o.unreported))

-- ---- what a header that names EOD tells

-- a user frame's address is not 0
pub user_some : (last a : ℕ) → is_user last a ≡ true → a ≡ 0 → ⊥
user_some last a u z = ⊎_elim (λ h. let x = h.0 in omega arith) (λ h. let x = h.0 in omega arith) (user_ranges last a u)

pub ends_named : (h : Header) → (h.eod.0 ≡ 0 → ⊥) → ends_from h ≡ h.eod.0
unfolding ends_from
ends_named h some = pick_f _ (ne_eqb h.eod.0 0 some)

-- ---- a reading opens

pub opens_at : (g : Geometry) (last : ℕ) (t : Tape) (a : ℕ) (h : List ℕ) → last_of g ≡ address last → Cartridge last t → HeaderAt last t a h → (reading.open_of g h).number ≡ 0
unfolding reading.open_of
opens_at g last t a h e cart n = ap (λ (c : CheckedSaid). (reading.open_for c).number) (valid_taken g h e (cart.long a h n.reads) n.valid)

pub opens : (g : Geometry) (last : ℕ) (t : Tape) (h : List ℕ) → last_of g ≡ address last → Cartridge last t → Newest last t h → (reading.open_of g h).number ≡ 0
opens g last t h e cart n = opens_at g last t n.address h e cart n.here

-- Where a closing header of a session that goes on reads, the tape is as after done. Assumes nothing.
use Prim.Native.Nat.{ℕ, ◌+◌, ◌<◌}
use mathlib.Core.Path.{◌≡◌, ap, ◌∙◌}
use mathlib.Core.Bool.{true}
use mathlib.Core.List.{List}
use mathlib.Core.Logic.{◌⊎◌, inl, inr, ⊎_elim}
use native.Mathlib.Omega.{arith}
use lib.ListN.{length}
use Rattle.geometry.specs.declared.cartridge.Geometry.{Geometry}
use Rattle.geometry.proofs.Impossible.{clash}
use Rattle.frame.specs.Header.{header_frame}
use Rattle.frame.specs.Sent.{ReadsAs}
use Rattle.frame.specs.declared.header.Header.{Header}
use Rattle.header.specs.Valid.{header_of, update_of}
use Rattle.recording_state.specs.declared.state.State.{State}
use Rattle.recording_state.specs.declared.state.Stage.TheVariants as S
use Rattle.recording_state.proofs.ListedReplies.{unlisted_refused}
use Rattle.archive_lists.specs.Tape.{Tape}
use Rattle.archive_lists.specs.Headers.{HeaderAt, Newest}
use Rattle.archive_lists.specs.Recordings.{World, promised}
use Rattle.archive_lists.specs.Openings.{on_header, on_none}
use Rattle.archive_lists.proofs.recording.Trailing.{Prior}
use Rattle.archive_lists.proofs.recording.Noted.{noted}
use Rattle.archive_lists.proofs.recording.HeaderCopies.{Copy}
use Rattle.archive_lists.proofs.recording.Setting.{Setting, Leaves}
use Rattle.archive_lists.proofs.recording.Invariant as invariant
use Rattle.archive_lists.proofs.recording.Invariant.{spare_of, Course, Live, Inv, live, rejecting, spent, over}
use Rattle.archive_lists.proofs.recording.ContentMoves.{header_low}
use Rattle.archive_lists.proofs.recording.Completion.{copy_update, copy_fields, copy_newest, completes_so}
use Rattle.archive_cuts.proofs.HeldCopies.{OwnCopy}
use Rattle.archive.specs.Chain.{Start, fresh, added, OnItsNewest, earlier_of}
use Rattle.archive.specs.PowerCut.{IsNewer, GoesOn, ClosingCopy}
use Rattle.archive.proofs.Continued.{kept_on, reads_back, left_clear}
use Rattle.archive.proofs.PowerCut.{begun, intact}

-- a newer header was not there at the opening
not_old : {g : Geometry} {last : ℕ} {s : State} (b : Start g last s) (t : Tape) → OnItsNewest b t → (a : ℕ) (h : List ℕ) → HeaderAt last t a h → IsNewer b h → ⊥
not_old (fresh depth blocks tail (on_header h0) q) t newest a h at newer = omega (arith, newest.highest a h at)
not_old (fresh depth blocks tail on_none q) t none a h at newer = none a h at
not_old (added depth blocks tail u h0 r read q) t newest a h at newer = omega (arith, newest.highest a h at)

-- ---- a session that lives

module _ {last pass : ℕ} {on_newest none_bears : Type 0} {prior : Prior} {w : World} (set : Setting last pass) (l : Live last pass on_newest none_bears prior w) (p : on_newest)
    (a : ℕ) (h : List ℕ) (at : HeaderAt last w.drive.tape a h) (own : OwnCopy last pass prior h) (named : (header_of h).eod.0 ≡ 0 → ⊥) where
  -- one that names an EOD is no opening header
  spare_not : own.spare ≡ 1 → ⊥
  spare_not e = named (ap (λ (x : Header). x.eod.0) (copy_fields set own.header own.carried own.as_sent) ∙ own.carried.unnamed e)

  -- so it is a copy of the one that the session carries
  is_carried : (update_of h < w.session.copies.header.update) ⊎ ReadsAs (header_frame w.session.copies.header) h → ReadsAs (header_frame w.session.copies.header) h
  is_carried (inr r) = r
  is_carried (inl less) =
      let count = copy_update set own.header own.carried own.as_sent in
      absurd (spare_not (omega (arith, count, own.carried.counts, own.carried.newer, l.carried.counts)))

  here_copy : Copy w.session.copies.header w.drive.tape (last + 1)
  here_copy = record { address = a; frame = h; group = at.group; low = let x = header_low last a set.large at.group in omega arith; reads = at.reads; as_sent = is_carried (l.below p a h at) }

  -- and the stage is that of the closing headers, or done
  shut : (w.session.stage ≡ S.ClosingHeaders) ⊎ (w.session.stage ≡ S.Done)
  shut = go l.course
    where
      unnamed : spare_of w.session.stage ≡ 1 → ⊥
      unnamed e = named (ap (λ (x : Header). x.eod.0) (copy_fields set w.session.copies.header l.carried (is_carried (l.below p a h at))) ∙ l.carried.unnamed e)

      go : Course last (length l.list) w l.k l.edge → (w.session.stage ≡ S.ClosingHeaders) ⊎ (w.session.stage ≡ S.Done)
      go (invariant.opening s _ _ _) = absurd (unnamed (ap spare_of s))
      go (invariant.writing s _ _) = absurd (unnamed (ap spare_of s))
      go (invariant.closing s _ _ _ _ _) = inl s
      go (invariant.finished s _ _ _ _ _ _ _ _ _) = inr s

  live_leaves : none_bears → w.notes.unaltered ≡ true → Leaves last pass prior.base none_bears w.drive.tape (promised w.notes) w.notes.accepted
  live_leaves = completes_so set l shut here_copy p

  live_newest : Newest last w.drive.tape h
  unfolding here_copy
  live_newest = copy_newest set w.session.copies.header l.carried here_copy (l.below p)

-- ---- by the invariant

record Left (last pass : ℕ) (none_bears : Type 0) (prior : Prior) (w : World) (h : List ℕ) : Type 0 where
  leaves : Leaves last pass prior.base none_bears w.drive.tape (promised w.notes) w.notes.accepted
  newest : Newest last w.drive.tape h

left_by : {last pass : ℕ} {on_newest none_bears : Type 0} {prior : Prior} (w : World) → Setting last pass → Inv last pass on_newest none_bears prior w → GoesOn w → on_newest → none_bears → w.notes.unaltered ≡ true
    → (a : ℕ) (h : List ℕ) → HeaderAt last w.drive.tape a h → OwnCopy last pass prior h → ((header_of h).eod.0 ≡ 0 → ⊥) → Left last pass none_bears prior w h
left_by w set (live _ l) on p q u a h at own named = record { leaves = live_leaves set l p a h at own named q u; newest = live_newest set l p a h at own named }
left_by w set (rejecting _ d) on p q u a h at own named = absurd (on.lawful d.reply d.replied (unlisted_refused w.session d.reply d.going d.awaits d.off_headers d.unlisted))
left_by w set (spent _ x) on p q u a h at own named = clash x.ended on.going
left_by w set (over _ o) on p q u a h at own named = clash o.ended on.going

pub closing_copy : ClosingCopy
unfolding ClosingCopy
closing_copy g last d s b w recorded newest same none kept on a h at newer named =
    let k = kept_on (begun g last d s b w recorded newest same none kept) recorded.runs in
    let traced = (intact g last d s b w recorded newest same none kept).on_tape.traced a h at in
    let own = ⊎_elim (λ q. absurd (not_old b d.tape newest a h (record { group = at.group; reads = q; valid = at.valid }) newer)) (λ c. c) traced in
    let x = left_by (noted (earlier_of b) true w) k.set k.whole (record { going = on.going; lawful = on.lawful }) newest (same, none) kept a h at own named in
    record { reads_back = reads_back g last s.copies.header.pass (earlier_of b) w recorded.sized.segtrk recorded.sized.trks recorded.sized.is_last x.leaves; newest = x.newest; clear = left_clear (same, none) x.leaves.headers h x.newest }

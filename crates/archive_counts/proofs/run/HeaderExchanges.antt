-- Exchanges in a stage of headers: a LOCATE is carried out, a copy taken, those that are outstanding written, or the first of a group fails.
-- Assumes nothing.
use Prim.Native.Nat.{ℕ, ◌+◌, ◌-◌, ◌≤◌, ◌<◌}
use mathlib.Core.Path.{◌≡◌, refl, ap, ◌∙◌}
use mathlib.Core.Bool.{Bool, true, false}
use mathlib.Core.List.{List, []}
use mathlib.Core.Logic.{◌⊎◌, inl, inr, ⊎_elim}
use native.Mathlib.Omega.{arith}
use Rattle.geometry.specs.Cartridge.{header_address, copy_at}
use Rattle.geometry.proofs.CopyPlaces.{copy_is}
use Rattle.geometry.proofs.HeaderPlaces.{header_from_first}
use Rattle.geometry.proofs.PickLaws.{pick_f}
use Rattle.drive.specs.Command.{CommandSaid, write, locate, read_position}
use Rattle.drive.specs.declared.command.Command.TheVariants.{Write, Locate, ReadPosition}
use Rattle.copies.specs.Copies as copies
use Rattle.copies.specs.Copies.{header_at}
use Rattle.copies.specs.declared.copies.Copies.{Copies}
use Rattle.copies.proofs.CommandView as command
use Rattle.copies.proofs.ReplyView as copying
use Rattle.elements.specs.declared.elements.Elements.{Elements}
use Rattle.recording_state.specs.State.{accepting, following_of, settled_of}
use Rattle.recording_state.specs.Answer.{giving}
use Rattle.recording_state.specs.Due.{decision_by, decision_of}
use Rattle.recording_state.specs.Fetch.{awaits}
use Rattle.recording_state.specs.Reply.{replied_of, completed_of, header_reply_by}
use Rattle.recording_state.specs.Written.{written_frame}
use Rattle.recording_state.specs.declared.state.Setup.{Setup}
use Rattle.recording_state.specs.declared.state.State.{State}
use Rattle.recording_state.specs.declared.state.Stage.{Stage}
use Rattle.recording_state.specs.declared.state.Stage.TheVariants as S
use Rattle.recording_state.proofs.Stages.{HeaderStage}
use Rattle.recording_state.proofs.ReplyView.{by_headers}
use Rattle.archive_lists.specs.Conduct.{Drive, taking, moved}
use Rattle.archive_lists.specs.Recordings.{Element, World, with_session}
use Rattle.archive_counts.proofs.run.Goes.{Account, counting, Goes}
use Rattle.archive_counts.proofs.run.Calm.{Calm, depth_is, exchanged, replied, calm_after, calm_in}
use Rattle.archive_counts.proofs.run.Holding.{Holds, holds_as, holds_taking, holds_moved, failed}
use Rattle.archive_counts.proofs.run.Exchanges.{takes, locates, confirms, meets}
use Rattle.archive_counts.proofs.run.Copying.{Copying, due_write, due_position, due_locate, counted_so, failed_so, onward_more, onward_next, onward_complete, taken_copying, confirmed_copying, failed_copying, confirmed}

-- ---- where they are, and what is due

-- what the stage leaves alone: which of the two it is, and what the session was given and has accepted
pub record Still : Type 0 where
  pub stage : Stage
  pub header : (stage ≡ S.OpeningHeaders) ⊎ (stage ≡ S.ClosingHeaders)
  pub setup : Setup
  pub closed : Bool
  pub elements : Elements
  pub accepted : List Element

abbrev pub at_opening : Setup → Elements → Still
at_opening setup e = record { stage = S.OpeningHeaders; header = inl refl; setup = setup; closed = false; elements = e; accepted = [] }

abbrev pub at_close : Setup → Elements → List Element → Still
at_close setup e xs = record { stage = S.ClosingHeaders; header = inr refl; setup = setup; closed = true; elements = e; accepted = xs }

abbrev pub CalmAt : Still → World → Type 0
CalmAt still w = Calm still.stage still.setup still.closed still.accepted w

-- the drive is at one with the copies
pub record Head (still : Still) (group c o : ℕ) (w : World) : Type 0 where
  pub calm : CalmAt still w
  pub elements_is : w.session.elements ≡ still.elements
  pub copies_are : Copying group c o false w.session.copies
  pub drive_holds : Holds o (header_address group 0 + c) w.drive

-- a LOCATE is noted, wherever the drive stands
pub record HeadSeek (still : Still) (group c : ℕ) (w : World) : Type 0 where
  pub calm : CalmAt still w
  pub elements_is : w.session.elements ≡ still.elements
  pub copies_are : Copying group c 0 true w.session.copies

-- the copies are through, and v's session is what s settles to in the stage that follows
pub record Through (still : Still) (s : State) (v : World) : Type 0 where
  pub settled : v.session ≡ settled_of s
  pub calm : Calm (following_of still.stage) still.setup still.closed still.accepted (with_session v s)
  pub elements_is : s.elements ≡ still.elements

header_decides : (s : State) (x : CommandSaid) → s.exchange.again ≡ false → HeaderStage s → copies.command_of s.setup.depth s.copies ≡ x → decision_of s ≡ giving x
unfolding decision_of
header_decides s x told (inl st) e = pick_f _ told ∙ ap (λ (k : Stage). decision_by k s) st ∙ ap giving e
header_decides s x told (inr st) e = pick_f _ told ∙ ap (λ (k : Stage). decision_by k s) st ∙ ap giving e

-- ---- one exchange

in_headers : (still : Still) (s : State) → s.stage ≡ still.stage → HeaderStage s
in_headers still s q = ⊎_elim (λ k. inl (q ∙ k)) (λ k. inr (q ∙ k)) still.header

module _ {still : Still} where
  -- the LOCATE that is noted
  pub head_locate : {P : World → Type 0} {t : Account} {group c : ℕ} (w : World) → HeadSeek still group c w → c < 5 → ((v : World) → Head still group c 0 v → Goes v t P) → Goes w t P
  head_locate {group = group} {c = c} w h low g =
      let s = w.session in
      let k = h.calm in
      let y = h.copies_are in
      let copy = y.copy_is in
      let st = in_headers still s k.stage_is in
      let x : Copies = copies.located_of s.copies in
      let a = header_at s.copies in
      let place : a.0 ≡ header_address group 0 + c =
      header_from_first s.copies.group s.copies.copy (omega arith) ∙ ap (λ (i : ℕ). header_address i 0 + s.copies.copy) y.group_is ∙ ap (λ (i : ℕ). header_address group 0 + i) copy in
      locates w k (replied s (Locate a) x s.elements) a
      (header_decides s (locate a.0) k.between.told st (due_locate y.locate_is (command.command_view s.setup.depth s.copies)))
      (by_headers (awaits s (Locate a)) _ st)
      (g (exchanged w (replied s (Locate a) x s.elements) (moved w.drive a.0)) (record {
        calm = calm_after w (Locate a) x s.elements (moved w.drive a.0) k;
        elements_is = h.elements_is;
        copies_are = record { group_is = y.group_is; copy_is = copy; out_is = y.out_is; locate_is = refl; least = y.least; most = y.most };
        drive_holds = holds_as place (holds_moved w.drive a.0);
      }))

  -- a copy is taken
  pub head_write : {P : World → Type 0} {t : Account} {group c o : ℕ} (w : World) → Head still group c o w → group ≤ 1 → c < 5 → o ≤ c → o < still.setup.depth
      → ((v : World) → Head still group (c + 1) (o + 1) v → Goes v t P) → Goes w (counting still.stage 1 0 t) P
  head_write w h one low few room g =
      let s = w.session in
      let k = h.calm in
      let y = h.copies_are in
      let copy = y.copy_is in
      let outs = y.out_is in
      let depth = depth_is w k in
      let st = in_headers still s k.stage_is in
      let x : Copies = copies.taken_of s.copies in
      let a = header_at s.copies in
      let f = written_frame s w.window in
      takes w k (replied s (Write a) x s.elements) a
      (header_decides s (write a.0) k.between.told st (due_write y.locate_is (omega arith) (omega arith) (command.command_view s.setup.depth s.copies)))
      (by_headers (awaits s (Write a)) _ st)
      (g (exchanged w (replied s (Write a) x s.elements) (taking w.drive f)) (record {
        calm = calm_after w (Write a) x s.elements (taking w.drive f) k;
        elements_is = h.elements_is;
        copies_are = taken_copying s.copies one low few y;
        drive_holds = holds_as (omega arith) (holds_taking w.drive f h.drive_holds);
      }))

  -- READ POSITION is due when five are written or D are outstanding
  asks : {group c o : ℕ} (w : World) → Head still group c o w → (5 ≤ c) ⊎ (still.setup.depth ≤ o) → decision_of w.session ≡ giving read_position
  asks w h why =
      let s = w.session in
      let k = h.calm in
      let copy = h.copies_are.copy_is in
      let outs = h.copies_are.out_is in
      let depth = depth_is w k in
      header_decides s read_position k.between.told (in_headers still s k.stage_is)
      (due_position h.copies_are.locate_is (⊎_elim (λ q. inl (omega arith)) (λ q. inr (omega arith)) why) (command.command_view s.setup.depth s.copies))

  -- all that are outstanding are written: what then follows is by how far the copies are
  head_confirms : {P : World → Type 0} {t : Account} {group c o : ℕ} (w : World) → Head still group c o w → (5 ≤ c) ⊎ (still.setup.depth ≤ o) → (s : State)
      → header_reply_by (copies.onward_of (confirmed w.session.copies)) (awaits w.session ReadPosition) ≡ accepting s
      → ((d : Drive) → Holds 0 (header_address group 0 + c) d → Goes (exchanged w s d) t P) → Goes w t P
  head_confirms w h why s so g =
      let r = awaits w.session ReadPosition in
      confirms w h.calm s h.drive_holds (asks w h why)
      (by_headers r _ (in_headers still w.session h.calm.stage_is)
      ∙ ap (λ (y : copies.ProgressSaid). header_reply_by y r) (counted_so w.session.copies (copying.counted_view w.session.copies 0)) ∙ so) g

  -- within a group
  pub head_within : {P : World → Type 0} {t : Account} {group c o : ℕ} (w : World) → Head still group c o w → group ≤ 1 → c < 5 → still.setup.depth ≤ o
      → ((v : World) → Head still group c 0 v → Goes v t P) → Goes w t P
  head_within {group = group} {c = c} w h one low full g =
      let s = w.session in
      let x = confirmed s.copies in
      let y : Copying group c 0 false x = confirmed_copying s.copies one (omega arith) h.copies_are in
      let copy = y.copy_is in
      head_confirms w h (inr full) (replied s ReadPosition x s.elements)
      (ap (λ (k : copies.ProgressSaid). header_reply_by k (awaits s ReadPosition)) (onward_more x (omega arith) (copying.onward_view x)))
      (λ d held. g (exchanged w (replied s ReadPosition x s.elements) d)
      (record { calm = calm_after w ReadPosition x s.elements d h.calm; elements_is = h.elements_is; copies_are = y; drive_holds = held }))

  -- behind the first group
  pub head_turns : {P : World → Type 0} {t : Account} {o : ℕ} (w : World) → Head still 0 5 o w → ((v : World) → HeadSeek still 1 0 v → Goes v t P) → Goes w t P
  head_turns w h g =
      let s = w.session in
      let x = confirmed s.copies in
      let y : Copying 0 5 0 false x = confirmed_copying s.copies (omega arith) (omega arith) h.copies_are in
      let copy = y.copy_is in
      head_confirms w h (inl (omega arith)) (replied s ReadPosition (copies.next_group x) s.elements)
      (ap (λ (k : copies.ProgressSaid). header_reply_by k (awaits s ReadPosition)) (onward_next x (omega arith) y.out_is y.group_is (copying.onward_view x)))
      (λ d held. g (exchanged w (replied s ReadPosition (copies.next_group x) s.elements) d) (record {
        calm = calm_after w ReadPosition (copies.next_group x) s.elements d h.calm;
        elements_is = h.elements_is;
        copies_are = record { group_is = refl; copy_is = refl; out_is = y.out_is; locate_is = refl; least = omega arith; most = let q = y.most in omega arith };
      }))

  -- behind the second
  pub head_completes : {P : World → Type 0} {t : Account} {o : ℕ} (w : World) → Head still 1 5 o w → ((s : State) (v : World) → Through still s v → Goes v t P) → Goes w t P
  head_completes w h g =
      let s = w.session in
      let x = confirmed s.copies in
      let y : Copying 1 5 0 false x = confirmed_copying s.copies (omega arith) (omega arith) h.copies_are in
      let k = h.calm in
      let copy = y.copy_is in
      let group = y.group_is in
      let least = y.least in
      let r = completed_of (replied_of (awaits s ReadPosition)) in
      head_confirms w h (inl (omega arith)) (settled_of r)
      (ap (λ (k : copies.ProgressSaid). header_reply_by k (awaits s ReadPosition)) (onward_complete x (omega arith) y.out_is (omega arith) (omega arith) (copying.onward_view x)))
      (λ d held. g r (exchanged w (settled_of r) d) (record {
        settled = refl;
        calm = calm_in (following_of s.stage) (following_of still.stage) s.copies (ap following_of k.stage_is) (calm_after w ReadPosition s.copies s.elements d k);
        elements_is = h.elements_is;
      }))

  -- the first copy of a group fails, with all c that were taken outstanding
  pub head_fails : {P : World → Type 0} {t : Account} {group c : ℕ} (w : World) → Head still group c c w → group ≤ 1 → 1 ≤ c → c ≤ 5 → (5 ≤ c) ⊎ (still.setup.depth ≤ c)
      → ((v : World) → HeadSeek still group 1 v → Goes v t P) → Goes w (counting still.stage 0 1 t) P
  head_fails {group = group} w h one some low why g =
      let s = w.session in
      let y = h.copies_are in
      let copy = y.copy_is in
      let outs = y.out_is in
      let p : ℕ = header_address group 0 in
      let i : ℕ = copy_at s.copies.group p in
      let first : i ≡ 0 = ap (λ (k : ℕ). copy_at k p) y.group_is ∙ copy_is group 0 (omega arith) in
      let before : ℕ = i - copies.oldest_copy s.copies in
      let oldest : copies.oldest_copy s.copies ≡ 0 = omega arith in
      let x : Copies = copies.failed_at s.copies before i in
      let z : Copying group 1 0 true x = failed_copying s.copies before i one low (omega (arith, oldest, first)) first y in
      let r = awaits s ReadPosition in
      let later : i < s.copies.copy = omega (arith, first) in
      meets w h.calm (replied s ReadPosition x s.elements) h.drive_holds some p 0 refl (asks w h why)
      (by_headers r _ (in_headers still s h.calm.stage_is)
      ∙ ap (λ (k : copies.ProgressSaid). header_reply_by k r)
      (failed_so s.copies i (omega (arith, oldest)) later (copying.failed_view s.copies i) ∙ onward_more x (let q = z.copy_is in omega arith) (copying.onward_view x)))
      (g (exchanged w (replied s ReadPosition x s.elements) (failed w.drive))
      (record { calm = calm_after w ReadPosition x s.elements (failed w.drive) h.calm; elements_is = h.elements_is; copies_are = z }))

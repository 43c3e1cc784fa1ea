-- Where the elements of a session are between two exchanges, when it settles, which rule applies, and what a reply makes of it. Assumes nothing.
use Prim.Native.Nat.{ℕ, ◌+◌, ◌-◌, ◌^◌, ◌≤◌, ◌<◌}
use mathlib.Core.Path.{◌≡◌, refl, ap, ◌∙◌}
use mathlib.Core.Bool.{Bool, true, false}
use mathlib.Core.List.{List}
use mathlib.Core.Logic.{inl, inr, ⊎_elim}
use native.Mathlib.Omega.{arith}
use borrow.Author.Tests.{lt-ltb, le-ltb}
use lib.Dec.{ltb}
use Rattle.geometry.specs.Place.{as_address}
use Rattle.geometry.specs.declared.address.Address.{Address}
use Rattle.geometry.proofs.Impossible.{clash}
use Rattle.geometry.proofs.PickLaws.{pick_t, pick_f, pick_by}
use Rattle.write_error.specs.WriteError.{target_address}
use Rattle.drive.specs.Command.{CommandSaid, write, locate, read_position}
use Rattle.elements.specs.Elements.{base_of, limit_of}
use Rattle.elements.specs.Due as due
use Rattle.elements.specs.Reply as reply
use Rattle.elements.specs.declared.course.Course.{Course}
use Rattle.elements.specs.declared.elements.Elements.{Elements}
use Rattle.elements.proofs.DueView as rule
use Rattle.elements.proofs.ReplyView as steps
use Rattle.recording_state.specs.State.{closing_started, eod_due, settled_by, settled_of}
use Rattle.recording_state.specs.Answer.{giving}
use Rattle.recording_state.specs.Due.{element_due_by, decision_by, decision_of}
use Rattle.recording_state.specs.declared.state.Setup.{Setup}
use Rattle.recording_state.specs.declared.state.State.{State}
use Rattle.recording_state.specs.declared.state.Stage.{Stage}
use Rattle.recording_state.specs.declared.state.Stage.TheVariants as S
use Rattle.recording_state.proofs.Stages.{ElementStage}
use Rattle.archive_lists.specs.Recordings.{Element, World}
use Rattle.archive_counts.proofs.run.Calm.{Calm}
use Rattle.archive_counts.proofs.run.Holding.{Holds}

-- ---- where the elements are

-- sizes that an opening takes, and a tape whose addresses are 32-bit numbers
pub record Sizes (setup : Setup) (limit : ℕ) : Type 0 where
  pub deep : 1 ≤ setup.depth
  pub narrow : setup.highest ≤ 63
  pub fits : limit < 2 ^ 32

-- so many that the drive and the window can hold them all
pub record Batch (setup : Setup) (m : ℕ) : Type 0 where
  pub least : 1 ≤ m
  pub deep : m ≤ setup.depth
  pub wide : m ≤ setup.highest + 1

-- p of them are pending, EOD or not, and where the tape ends
pub record PendingIn (limit : ℕ) (eod : Bool) (p : ℕ) (is_eod : Bool) (pending : ℕ) (end : Address) : Type 0 where
  pub eod_is : is_eod ≡ eod
  pub pending_is : pending ≡ p
  pub limit_is : end.0 ≡ limit

abbrev pub Pending : ℕ → Bool → ℕ → Elements → Type 0
Pending limit eod p e = PendingIn limit eod p e.eod e.queue.pending e.course.limit

-- o of them are outstanding, the drive is at one with it, and the next goes to address a
pub record Stand (setup : Setup) (limit : ℕ) (closed eod : Bool) (xs : List Element) (p o a : ℕ) (w : World) : Type 0 where
  pub calm : Calm S.Elements setup closed xs w
  pub pending_are : Pending limit eod p w.session.elements
  pub out_is : w.session.elements.queue.outstanding ≡ o
  pub next_is : w.session.elements.course.next.0 ≡ a
  pub placed : w.session.elements.course.locate ≡ false
  pub drive_holds : Holds o a w.drive

-- a LOCATE of address a is noted, wherever the drive stands
pub record Seek (setup : Setup) (limit : ℕ) (closed eod : Bool) (xs : List Element) (p a : ℕ) (w : World) : Type 0 where
  pub calm : Calm S.Elements setup closed xs w
  pub pending_are : Pending limit eod p w.session.elements
  pub out_is : w.session.elements.queue.outstanding ≡ 0
  pub target_is : w.session.elements.course.target.0 ≡ a
  pub unplaced : w.session.elements.course.locate ≡ true

-- ---- a session that settles

-- something is pending, or close was not called: it stays as it is
pub settled_pending : (s : State) → 0 < s.elements.queue.pending → settled_of s ≡ s
unfolding settled_of
settled_pending s l = pick_t _ (lt-ltb 0 s.elements.queue.pending l)

pub settled_open : (s : State) → ElementStage s → s.closed ≡ false → s.elements.eod ≡ false → settled_of s ≡ s
unfolding settled_of
settled_open s st l not = pick_by (λ (t : State). t ≡ s) (ltb 0 s.elements.queue.pending) (λ _. refl) (λ _. ap (λ (k : Stage). settled_by k s) st ∙ pick_f _ not ∙ pick_f _ l)

-- behind EOD the closing headers, after close EOD, and when all is done nothing
pub settled_eod : (s : State) → ElementStage s → s.elements.queue.pending ≡ 0 → s.elements.eod ≡ true → settled_of s ≡ closing_started s
unfolding settled_of
settled_eod s st none is = pick_f _ (le-ltb 0 s.elements.queue.pending (omega arith)) ∙ ap (λ (k : Stage). settled_by k s) st ∙ pick_t _ is

pub settled_closed : (s : State) → ElementStage s → s.elements.queue.pending ≡ 0 → s.elements.eod ≡ false → s.closed ≡ true → settled_of s ≡ eod_due s
unfolding settled_of
settled_closed s st none not is = pick_f _ (le-ltb 0 s.elements.queue.pending (omega arith)) ∙ ap (λ (k : Stage). settled_by k s) st ∙ pick_f _ not ∙ pick_t _ is

pub settled_done : (s : State) → s.stage ≡ S.Done → settled_of s ≡ s
unfolding settled_of
settled_done s st = pick_by (λ (t : State). t ≡ s) (ltb 0 s.elements.queue.pending) (λ _. refl) (λ _. ap (λ (k : Stage). settled_by k s) st)

-- ---- the rule that applies

pub element_decides : (s : State) (x : CommandSaid) → s.exchange.again ≡ false → ElementStage s → due.due_of s.setup.depth s.setup.tail s.elements ≡ due.send x → decision_of s ≡ giving x
unfolding decision_of
element_decides s x told st e = pick_f _ told ∙ ap (λ (k : Stage). decision_by k s) st ∙ ap element_due_by e

module _ {depth tail : ℕ} {e : Elements} where
  pub due_write : {x : due.DueSaid} → e.course.locate ≡ false → e.queue.outstanding < e.queue.pending → e.queue.outstanding < depth → e.course.next.0 < (limit_of tail e).0 → (e.course.next.0 ≡ 2990 → ⊥)
      → rule.DueView depth tail e x → x ≡ due.send (write e.course.next.0)
  due_write l p d room off (rule.relocating r _) = clash r l
  due_write l p d room off (rule.too_far r _) = clash r l
  due_write l p d room off (rule.resting _ q _) = absurd (omega arith)
  due_write l p d room off (rule.settling _ q _) = absurd (omega arith)
  due_write l p d room off (rule.confirming _ _ (inl q)) = absurd (omega arith)
  due_write l p d room off (rule.confirming _ _ (inr q)) = ⊎_elim (λ g. absurd (off g)) (λ g. absurd (omega arith)) q.1
  due_write l p d room off (rule.full _ _ _ q) = absurd (omega arith)
  due_write l p d room off (rule.jumping _ _ _ _ q) = absurd (off q)
  due_write l p d room off (rule.writing _ _ _ _ _) = refl

  pub due_jump : {x : due.DueSaid} → e.course.locate ≡ false → e.queue.outstanding < e.queue.pending → e.queue.outstanding ≡ 0 → 0 < depth → e.course.next.0 < (limit_of tail e).0 → e.course.next.0 ≡ 2990
      → rule.DueView depth tail e x → x ≡ due.send (locate 3000)
  due_jump l p o d room at (rule.relocating r _) = clash r l
  due_jump l p o d room at (rule.too_far r _) = clash r l
  due_jump l p o d room at (rule.resting _ q _) = absurd (omega arith)
  due_jump l p o d room at (rule.settling _ q _) = absurd (omega arith)
  due_jump l p o d room at (rule.confirming _ _ (inl q)) = absurd (omega arith)
  due_jump l p o d room at (rule.confirming _ _ (inr q)) = let z = q.0 in absurd (omega arith)
  due_jump l p o d room at (rule.full _ _ _ q) = absurd (omega arith)
  due_jump l p o d room at (rule.jumping _ _ _ _ _) = refl
  due_jump l p o d room at (rule.writing _ _ _ _ q) = absurd (q at)

  pub due_position : {x : due.DueSaid} → e.course.locate ≡ false → e.queue.pending ≤ e.queue.outstanding → 0 < e.queue.outstanding → rule.DueView depth tail e x → x ≡ due.send read_position
  due_position l p o (rule.relocating r _) = clash r l
  due_position l p o (rule.too_far r _) = clash r l
  due_position l p o (rule.resting _ _ q) = absurd (omega arith)
  due_position l p o (rule.settling _ _ _) = refl
  due_position l p o (rule.confirming _ q _) = refl
  due_position l p o (rule.full _ q _ _) = absurd (omega arith)
  due_position l p o (rule.jumping _ q _ _ _) = absurd (omega arith)
  due_position l p o (rule.writing _ q _ _ _) = absurd (omega arith)

  pub due_locate : {x : due.DueSaid} → e.course.locate ≡ true → e.course.target.0 < e.course.limit.0 → rule.DueView depth tail e x → x ≡ due.send (locate e.course.target.0)
  due_locate l t (rule.relocating _ _) = refl
  due_locate l t (rule.too_far _ q) = absurd (omega arith)
  due_locate l t (rule.resting r _ _) = clash l r
  due_locate l t (rule.settling r _ _) = clash l r
  due_locate l t (rule.confirming r _ _) = clash l r
  due_locate l t (rule.full r _ _ _) = clash l r
  due_locate l t (rule.jumping r _ _ _ _) = clash l r
  due_locate l t (rule.writing r _ _ _ _) = clash l r

-- below END with the tail kept there is room for what is due, be it EOD or not
below_limit : (tail : ℕ) (e : Elements) (a : ℕ) → a + tail < e.course.limit.0 → a < (limit_of tail e).0
below_limit tail e a l = pick_by (λ (x : Address). a < x.0) e.eod (λ _. omega arith) (λ _. omega arith)

pub room_below : {setup : Setup} {limit : ℕ} {closed eod : Bool} {xs : List Element} {p o a : ℕ} (w : World) → Stand setup limit closed eod xs p o a w → (b : ℕ)
    → b + setup.tail < limit → b < (limit_of w.session.setup.tail w.session.elements).0
room_below w s b room =
    let ends = s.pending_are.limit_is in
    below_limit w.session.setup.tail w.session.elements b (let kept = ap (λ (y : Setup). y.tail) s.calm.setup_is in omega arith)

-- ---- what a reply makes of it

pub failed_so : (tail : ℕ) (e : Elements) (p : Address) (skip : ℕ) {x : reply.SteppedSaid} → (base_of e).0 ≤ p.0 → p.0 < e.course.next.0 → target_address p skip < (limit_of tail e).0
    → steps.FailedView tail e p skip x
    → x ≡ reply.kept (reply.noted_of e p (as_address (target_address p skip)))
failed_so tail e p skip l h room (steps.too_low q) = absurd (omega arith)
failed_so tail e p skip l h room (steps.too_high q) = absurd (omega arith)
failed_so tail e p skip l h room (steps.failed _ _ _) = refl
failed_so tail e p skip l h room (steps.full _ _ q) = absurd (omega arith)

pub counted_so : (e : Elements) {x : reply.SteppedSaid} → steps.CountedView e 0 x → x ≡ reply.kept (reply.confirmed_of e (e.queue.outstanding - 0))
counted_so e (steps.too_many q) = absurd (omega arith)
counted_so e (steps.counted _) = refl

-- the oldest i are on tape
pub record Confirmed (e : Elements) (i : ℕ) (x : Elements) : Type 0 where
  pub pending_is : x.queue.pending ≡ e.queue.pending - i
  pub out_is : x.queue.outstanding ≡ e.queue.outstanding - i
  pub course_is : x.course ≡ e.course
  pub eod_is : x.eod ≡ e.eod

pub confirmed_as : (e : Elements) (i : ℕ) → Confirmed e i (reply.confirmed_of e i)
unfolding reply.confirmed_of
confirmed_as e i = record { pending_is = refl; out_is = refl; course_is = refl; eod_is = refl }

pub confirmed_pending : {limit : ℕ} {eod : Bool} {p : ℕ} (e : Elements) (i q : ℕ) → p - i ≡ q → Pending limit eod p e → Pending limit eod q (reply.confirmed_of e i)
confirmed_pending e i q left x =
    let c = confirmed_as e i in
    record { eod_is = c.eod_is ∙ x.eod_is; pending_is = c.pending_is ∙ ap (λ (k : ℕ). k - i) x.pending_is ∙ left; limit_is = ap (λ (k : Course). k.limit.0) c.course_is ∙ x.limit_is }

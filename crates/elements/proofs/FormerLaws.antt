-- Without a tail the rules are as they were. Assumes nothing.
use Rattle.std.proofs.Common.{◌≡◌, ℕ, ◌-◌, ◌^◌, ◌<◌, Bool, true, false, ◌&&◌, ◌||◌, eqb, ltb, leb, sym, refl, ap, ◌∙◌, mod-eq_of_lt, arith, ltb-false}
use borrow.Author.Tests.{lt-leb}
use Rattle.geometry.specs.Pick.{pick}
use Rattle.geometry.specs.Place as place
use Rattle.geometry.specs.Place.{as_address}
use Rattle.geometry.specs.declared.address.Address.{Address}
use Rattle.geometry.proofs.PickLaws.{pick_t, pick_f, pick_by}
use Rattle.drive.specs.Command.{write, locate, read_position}
use Rattle.write_error.specs.WriteError.{target_address, target_of}
use Rattle.elements.specs.declared.elements.Elements.{Elements}
use Rattle.elements.specs.Elements.{base_of, limit_of}
use Rattle.elements.specs.Due.{DueSaid, send, idle, refused, due_of}
use Rattle.elements.specs.Reply.{SteppedSaid, ending, noted_of, failed_to, failed_of}
use Rattle.elements.specs.Former.{former_due, former_failed_to, former_failed, AsFormerly}

untailed : (e : Elements) → limit_of 0 e ≡ e.course.limit
untailed e = pick_by (λ (a : Address). a ≡ e.course.limit) e.eod (λ _. refl) (λ _. let n : e.course.limit.0 - 0 ≡ e.course.limit.0 = omega arith in ap as_address n)

-- rules 2 to 6 by a limit
behind : ℕ → Elements → Address → DueSaid
behind depth e limit =
    pick (leb e.queue.pending e.queue.outstanding) (pick (eqb e.queue.outstanding 0) idle (send read_position))
    (pick (leb depth e.queue.outstanding || (ltb 0 e.queue.outstanding && (eqb e.course.next.0 2990 || leb limit.0 e.course.next.0))) (send read_position)
    (pick (leb limit.0 e.course.next.0) (refused 9)
    (pick (eqb e.course.next.0 2990) (send (locate 3000))
    (send (write e.course.next.0)))))

due_formerly : (depth : ℕ) (e : Elements) → (e.course.locate ≡ true → e.course.target.0 < e.course.limit.0) → due_of depth 0 e ≡ former_due depth e
unfolding due_of behind
due_formerly depth e near = go e.course.locate refl
  where
    go : (b : Bool) → e.course.locate ≡ b → due_of depth 0 e ≡ former_due depth e
    go true t = pick_t _ t ∙ pick_f _ (lt-leb e.course.limit.0 e.course.target.0 (near t)) ∙ sym (pick_t _ t)
    go false f = pick_f _ f ∙ ap (behind depth e) (untailed e) ∙ sym (pick_f _ f)

-- the target of a 9, where it fits
noted_alike : (e : Elements) (p : Address) (skip : ℕ) → target_address p skip < 2 ^ 32 → (x : place.PlaceSaid) → failed_to e p skip x ≡ former_failed_to e p skip x
noted_alike e p skip fits (place.address t) = refl
noted_alike e p skip fits (place.refused n) = ap (λ (t : ℕ). ending (noted_of e p (as_address t)) n) (capped ∙ sym (mod-eq_of_lt fits))
  where
    capped : pick (ltb (target_address p skip) 4294967295) (target_address p skip) 4294967295 ≡ target_address p skip
    capped = pick_by (λ (t : ℕ). t ≡ target_address p skip) (ltb (target_address p skip) 4294967295) (λ _. refl) (λ high. omega (arith, ltb-false (target_address p skip) 4294967295 high))

failed_formerly : (e : Elements) (p : Address) (skip : ℕ) → target_address p skip < 2 ^ 32 → failed_of 0 e p skip ≡ former_failed e p skip
unfolding failed_of
failed_formerly e p skip fits =
    ap (λ (limit : Address). pick (ltb p.0 (base_of e).0) (ending e 8) (pick (leb e.course.next.0 p.0) (ending e 8) (failed_to e p skip (target_of p skip limit)))) (untailed e)
    ∙ ap (λ (x : SteppedSaid). pick (ltb p.0 (base_of e).0) (ending e 8) (pick (leb e.course.next.0 p.0) (ending e 8) x)) (noted_alike e p skip fits (target_of p skip e.course.limit))

pub as_formerly : AsFormerly
as_formerly = record { due = due_formerly; failed = failed_formerly }

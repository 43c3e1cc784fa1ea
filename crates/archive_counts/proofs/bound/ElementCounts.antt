-- The frames of elements and EOD that the drive has taken, by what the elements tell: with so many taken, an allowance x for write errors and n accepted,
-- taken + pending ≤ n + outstanding + x, and one more where EOD is due. Assumes nothing.
use Prim.Native.Nat.{ℕ, ◌+◌, ◌-◌, ◌%◌, ◌^◌, ◌≤◌, ◌<◌}
use mathlib.Core.Path.{◌≡◌, refl, sym, subst}
use mathlib.Core.Bool.{Bool, true, false}
use native.Mathlib.Nat.{mod-eq_of_lt}
use native.Mathlib.Omega.{arith}
use Rattle.geometry.specs.declared.address.Address.{Address}
use Rattle.frame_bounds.specs.Bounds.{smaller}
use Rattle.frame_bounds.proofs.SmallerLaws.{below_smaller}
use Rattle.elements.specs.Elements as elements
use Rattle.elements.specs.Elements.{base_of}
use Rattle.elements.specs.Reply as reply
use Rattle.elements.specs.declared.course.Course.{Course}
use Rattle.elements.specs.declared.elements.Elements.{Elements}
use Rattle.elements.proofs.ReplyView as steps
use Rattle.archive_counts.proofs.Tallies.{one}

pub record Counts (D W n taken x : ℕ) (e : Elements) : Type 0 where
  pub held : e.queue.outstanding ≤ e.queue.pending
  pub deep : e.queue.outstanding ≤ D
  pub windowed : e.queue.pending ≤ W
  pub tally : taken + e.queue.pending ≤ n + one e.eod + e.queue.outstanding + x

-- a WRITE goes out: something is due, and the drive has room
pub record Room (D : ℕ) (e : Elements) : Type 0 where
  pub due : e.queue.outstanding < e.queue.pending
  pub space : e.queue.outstanding < D

pub counts_bound : {D W n taken x : ℕ} (e : Elements) → Counts D W n taken x e → taken ≤ n + 1 + x
counts_bound {n = n} {taken} {x} e c = go e.eod c.tally
  where
    go : (b : Bool) → taken + e.queue.pending ≤ n + one b + e.queue.outstanding + x → taken ≤ n + 1 + x
    go true t = let h = c.held in omega arith
    go false t = let h = c.held in omega arith

module _ {D W n taken x : ℕ} (e : Elements) (c : Counts D W n taken x e) where
  -- with more errors, more are allowed
  pub counts_more : {fewer y : ℕ} → fewer ≤ taken → x ≤ y → Counts D W n fewer y e
  counts_more p q = record { held = c.held; deep = c.deep; windowed = c.windowed; tally = let t = c.tally in omega arith }

  pub counts_accepted : (mark : Bool) → e.queue.pending < W → W ≤ 64 → Counts D W (n + 1) taken x (elements.accepted_of e mark)
  counts_accepted mark room narrow =
      let small : (e.queue.pending + 1) % 2 ^ 16 ≡ e.queue.pending + 1 = mod-eq_of_lt (omega arith) in
      let held = c.held in
      let tally = c.tally in
      record { held = omega (arith, small); deep = c.deep; windowed = omega (arith, small); tally = omega (arith, small) }

  -- a WRITE answered good
  pub counts_taken : W ≤ 64 → Room D e → Counts D W n (1 + taken) x (reply.taken_of e)
  counts_taken narrow room =
      let windowed = c.windowed in
      let tally = c.tally in
      let due = room.due in
      let space = room.space in
      let small : (e.queue.outstanding + 1) % 2 ^ 16 ≡ e.queue.outstanding + 1 = mod-eq_of_lt (omega arith) in
      record { held = omega (arith, small); deep = omega (arith, small); windowed = windowed; tally = omega (arith, small) }

  -- the oldest are on tape
  pub counts_confirmed : (i : ℕ) → i ≤ e.queue.outstanding → Counts D W n taken x (reply.confirmed_of e i)
  unfolding reply.confirmed_of
  counts_confirmed i l =
      let held = c.held in
      let deep = c.deep in
      let windowed = c.windowed in
      let tally = c.tally in
      record { held = omega arith; deep = omega arith; windowed = omega arith; tally = omega arith }

  -- a write error: all that was outstanding is due again, and that is at most D and at most W
  pub counts_again : (a : Address) → Counts D W n taken (x + smaller D W) (reply.relocated_of e a)
  counts_again a =
      let held = c.held in
      let windowed = c.windowed in
      let most = below_smaller e.queue.outstanding D W c.deep (omega arith) in
      let tally = c.tally in
      record { held = omega arith; deep = omega arith; windowed = windowed; tally = omega arith }

  -- what is not on tape is given up
  pub counts_dropped : e.eod ≡ false → Counts D W n taken x (elements.dropped_of e)
  counts_dropped not =
      let held = c.held in
      let tally : taken + e.queue.pending ≤ n + one false + e.queue.outstanding + x = subst (λ (b : Bool). taken + e.queue.pending ≤ n + one b + e.queue.outstanding + x) not c.tally in
      record { held = omega arith; deep = omega arith; windowed = omega arith; tally = subst (λ (b : Bool). taken + 0 ≤ n + one b + 0 + x) (sym not) (omega arith) }

  -- EOD becomes due, alone
  pub counts_eod : e.queue.pending ≡ 0 → e.eod ≡ false → 1 ≤ W → Counts D W n taken x (elements.eod_due e)
  counts_eod none not some =
      let held = c.held in
      let tally : taken + e.queue.pending ≤ n + one false + e.queue.outstanding + x = subst (λ (b : Bool). taken + e.queue.pending ≤ n + one b + e.queue.outstanding + x) not c.tally in
      let small : (e.queue.pending + 1) % 2 ^ 16 ≡ e.queue.pending + 1 = mod-eq_of_lt (omega arith) in
      record { held = omega (arith, small); deep = c.deep; windowed = omega (arith, small); tally = omega (arith, small) }

-- ---- the elements after a reply, whether the session goes on or ends

-- EOD is due as before
pub record Stepped (D W n taken x : ℕ) (e v : Elements) : Type 0 where
  pub counts : Counts D W n taken x v
  pub eod_is : v.eod ≡ e.eod

stepped : {D W n taken x : ℕ} {e : Elements} → Counts D W n taken x e → Stepped D W n taken x e e
stepped c = record { counts = c; eod_is = refl }

-- where only the course changes
pub same_stepped : {D W n taken x : ℕ} (e : Elements) (k : Course) → Counts D W n taken x e → Stepped D W n taken x e (elements.with_course e k)
same_stepped e k c = record { counts = record { held = c.held; deep = c.deep; windowed = c.windowed; tally = c.tally }; eod_is = refl }

confirmed_eod : (e : Elements) (i : ℕ) → (reply.confirmed_of e i).eod ≡ e.eod
unfolding reply.confirmed_of
confirmed_eod e i = refl

pub counted_stepped : {D W n taken x f : ℕ} {y : reply.SteppedSaid} (e : Elements) → Counts D W n taken x e → steps.CountedView e f y → Stepped D W n taken x e y.elements
counted_stepped {D} {W} {n} {taken} {x} {f} e c = go
  where
    go : {y : reply.SteppedSaid} → steps.CountedView e f y → Stepped D W n taken x e y.elements
    go (steps.too_many _) = stepped c
    go (steps.counted l) =
        record { counts = counts_confirmed e c (e.queue.outstanding - f) (omega arith); eod_is = confirmed_eod e (e.queue.outstanding - f) }

-- p lies between the oldest outstanding frame and the next address, and so at most the outstanding frames are confirmed
pub failed_stepped : {D W n taken fewer x y tail skip : ℕ} {p : Address} {z : reply.SteppedSaid} (e : Elements) → Counts D W n taken x e → fewer ≤ taken → x + smaller D W ≤ y
    → steps.FailedView tail e p skip z → Stepped D W n fewer y e z.elements
failed_stepped {D} {W} {n} {taken} {fewer} {x} {y} {p = p} e c under over = go
  where
    noted : (a : Address) → (base_of e).0 ≤ p.0 → p.0 < e.course.next.0 → Stepped D W n fewer y e (reply.noted_of e p a)
    noted a l h =
        let i = p.0 - (base_of e).0 in
        record { counts = counts_more _ (counts_again _ (counts_confirmed e c i (omega arith)) a) under over; eod_is = confirmed_eod e i }

    go : {tail skip : ℕ} {z : reply.SteppedSaid} → steps.FailedView tail e p skip z → Stepped D W n fewer y e z.elements
    go (steps.too_low _) = stepped (counts_more e c under (omega arith))
    go (steps.too_high _) = stepped (counts_more e c under (omega arith))
    go (steps.failed l h _) = noted _ l h
    go (steps.full l h _) = noted _ l h

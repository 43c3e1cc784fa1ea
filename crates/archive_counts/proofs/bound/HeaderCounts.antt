-- The header frames that the drive has taken, by how far the copies are: with so many taken and an allowance x for write errors, taken is at most the number of
-- copies gone by, and x. Assumes nothing.
use Prim.Native.Nat.{ℕ, ◌+◌, ◌-◌, ◌*◌, ◌≤◌, ◌<◌}
use mathlib.Core.Path.{◌≡◌, ap, sym, ◌∙◌}
use mathlib.Core.Logic.{◌⊎◌, inl, inr}
use native.Mathlib.Omega.{arith}
use Rattle.frame.specs.declared.header.Header.{Header}
use Rattle.frame_bounds.specs.Bounds.{copies_again}
use Rattle.frame_bounds.proofs.SmallerLaws.{below_smaller}
use Rattle.copies.specs.Copies as copies
use Rattle.copies.specs.declared.copies.Copies.{Copies}
use Rattle.copies.proofs.Counts.{CountsOf, start_counts, taken_counts, taken_exact, confirmed_counts, failed_counts}
use Rattle.copies.proofs.ReplyView as copying
use Rattle.recording_state.specs.State.{following_of}
use Rattle.recording_state.specs.declared.state.Stage.{Stage}
use Rattle.recording_state.specs.declared.state.Stage.TheVariants as S

abbrev pub InHeaders : Stage → Type 0
InHeaders k = (k ≡ S.OpeningHeaders) ⊎ (k ≡ S.ClosingHeaders)

-- the copies gone by, in a stage of headers and before it
abbrev pub gone_in : Copies → ℕ
gone_in c = c.group * 5 + c.copy

abbrev pub gone_before : Stage → ℕ
gone_before S.OpeningHeaders = 0
gone_before S.Elements = 10
gone_before S.ClosingHeaders = 10
gone_before S.Done = 20

abbrev pub gone_by : Stage → Copies → ℕ
gone_by S.OpeningHeaders c = gone_before S.OpeningHeaders + gone_in c
gone_by S.Elements c = gone_before S.Elements
gone_by S.ClosingHeaders c = gone_before S.ClosingHeaders + gone_in c
gone_by S.Done c = gone_before S.Done

pub record Counts (D taken x : ℕ) (k : Stage) (c : Copies) : Type 0 where
  pub counts : CountsOf c
  pub deep : c.outstanding ≤ D
  pub tally : taken ≤ gone_by k c + x

-- a WRITE goes out: a copy of the group is left, and the drive has room
pub record Room (D : ℕ) (c : Copies) : Type 0 where
  pub due : c.copy < 5
  pub space : c.outstanding < D

pub gone_in_lem : (k : Stage) (c : Copies) → InHeaders k → gone_by k c ≡ gone_before k + gone_in c
gone_in_lem k c (inl e) = ap (λ (y : Stage). gone_by y c) e ∙ sym (ap (λ (y : Stage). gone_before y + gone_in c) e)
gone_in_lem k c (inr e) = ap (λ (y : Stage). gone_by y c) e ∙ sym (ap (λ (y : Stage). gone_before y + gone_in c) e)

gone_following : (k : Stage) (c : Copies) → InHeaders k → gone_by (following_of k) c ≡ gone_before k + 10
gone_following k c (inl e) = ap (λ (y : Stage). gone_by (following_of y) c) e ∙ sym (ap (λ (y : Stage). gone_before y + 10) e)
gone_following k c (inr e) = ap (λ (y : Stage). gone_by (following_of y) c) e ∙ sym (ap (λ (y : Stage). gone_before y + 10) e)

-- two groups of five in either stage
pub counts_bound : {D taken x : ℕ} (k : Stage) (c : Copies) → Counts D taken x k c → taken ≤ 20 + x
counts_bound S.OpeningHeaders c f = let g = f.counts.groups in let h = f.counts.copies in let t = f.tally in omega arith
counts_bound S.Elements c f = let t = f.tally in omega arith
counts_bound S.ClosingHeaders c f = let g = f.counts.groups in let h = f.counts.copies in let t = f.tally in omega arith
counts_bound S.Done c f = f.tally

pub counts_more : {D taken fewer x y : ℕ} {k : Stage} {c : Copies} → fewer ≤ taken → x ≤ y → Counts D taken x k c → Counts D fewer y k c
counts_more p q f = record { counts = f.counts; deep = f.deep; tally = let t = f.tally in omega arith }

-- the closing headers start where the elements end
pub counts_closing : {D taken x : ℕ} {c : Copies} (h : Header) → Counts D taken x S.Elements c → Counts D taken x S.ClosingHeaders (copies.start_of h)
counts_closing h f = record { counts = start_counts h; deep = omega arith; tally = let t = f.tally in omega arith }

-- ---- the copies after a reply, in a stage of headers

-- c is what they were, and stay where the session ends
pub data Onward (D taken x : ℕ) (k : Stage) (c : Copies) : copies.ProgressSaid → Type 0 where
  more : (v : Copies) → Counts D taken x k v → Onward D taken x k c (copies.more v)
  complete : Counts D taken x (following_of k) c → Onward D taken x k c copies.complete
  refused : (n : ℕ) → Counts D taken x k c → Onward D taken x k c (copies.refused n)

module _ {D : ℕ} (k : Stage) (st : InHeaders k) where
  -- from the copies v, behind what the reply tells
  onward : {taken x : ℕ} {c : Copies} (v : Copies) {y : copies.ProgressSaid} → Counts D taken x k c → Counts D taken x k v → copying.OnwardView v y → Onward D taken x k c y
  onward v f g (copying.unfinished _) = more v g
  onward {taken} {x} v f g (copying.turning l o z) =
      let low = g.counts.copies in
      let written = g.counts.written in
      let tally = g.tally in
      more (copies.next_group v) (record {
        counts = record { groups = omega arith; copies = omega arith; held = omega arith; written = omega arith };
        deep = g.deep;
        tally = omega (arith, gone_in_lem k v st, gone_in_lem k (copies.next_group v) st);
      })
  onward v f g (copying.unwritten _ _ _ _) = refused 12 f
  onward {taken} {x} {c} v f g (copying.through _ _ _ _) =
      let low = g.counts.copies in
      let groups = g.counts.groups in
      let tally = g.tally in
      complete (record { counts = f.counts; deep = f.deep; tally = omega (arith, gone_in_lem k v st, gone_following k c st) })

  module _ {taken x : ℕ} (c : Copies) (f : Counts D taken x k c) where
    pub counts_located : Counts D taken x k (copies.located_of c)
    counts_located =
        let tally = f.tally in
        let g = f.counts in
        record {
          counts = record { groups = g.groups; copies = g.copies; held = g.held; written = g.written };
          deep = f.deep;
          tally = omega (arith, gone_in_lem k c st, gone_in_lem k (copies.located_of c) st);
        }

    -- a WRITE answered good
    pub counts_taken : Room D c → Counts D (1 + taken) x k (copies.taken_of c)
    counts_taken room =
        let exact = taken_exact c f.counts room.due in
        let tally = f.tally in
        record {
          counts = taken_counts c f.counts room.due;
          deep = omega (arith, exact.1, room.space);
          tally = omega (arith, exact.0, gone_in_lem k c st, gone_in_lem k (copies.taken_of c) st);
        }

    pub counted_onward : {n : ℕ} {y : copies.ProgressSaid} → copying.CountedView c n y → Onward D taken x k c y
    counted_onward (copying.too_many _) = refused 8 f
    counted_onward {n} (copying.counted l) =
        let deep = f.deep in
        let tally = f.tally in
        let after = copies.confirmed_of c (c.outstanding - n) in
        onward after f (record {
          counts = confirmed_counts c f.counts (c.outstanding - n) (omega arith);
          deep = omega arith;
          tally = omega (arith, gone_in_lem k c st, gone_in_lem k after st);
        }) (copying.onward_view after)

    -- of the copies that the drive holds all are written again but the spoiled one
    again_most : c.outstanding - 1 ≤ copies_again D
    again_most =
        let low = f.counts.copies in
        let held = f.counts.held in
        let most = below_smaller c.outstanding D 5 f.deep (omega arith) in
        omega arith

    pub failed_onward : {fewer y i : ℕ} {z : copies.ProgressSaid} → fewer ≤ taken → x + copies_again D ≤ y → copying.FailedView c i z → Onward D fewer y k c z
    failed_onward under over (copying.before _) = refused 8 (counts_more under (omega arith) f)
    failed_onward under over (copying.behind _) = refused 8 (counts_more under (omega arith) f)
    failed_onward {i = i} under over (copying.failed low high) =
        let held = f.counts.held in
        let tally = f.tally in
        let again = again_most in
        let after = copies.failed_at c (i - copies.oldest_copy c) i in
        onward after (counts_more under (omega arith) f) (record {
          counts = failed_counts c f.counts i low high;
          deep = omega arith;
          tally = omega (arith, gone_in_lem k c st, gone_in_lem k after st);
        }) (copying.onward_view after)

-- A frame judged by its own number, where every EOD ends reading: what is known of it, and that its kind is one. Assumes nothing.
use Prim.Native.Nat.{ℕ}
use mathlib.Core.Path.{◌≡◌, refl, sym, ap, subst, ◌∙◌}
use mathlib.Core.Bool.{false}
use mathlib.Core.List.{List}
use native.Mathlib.Omega.{arith}
use borrow.Author.Tests.{le-ltb}
use Rattle.geometry.specs.declared.address.Address.{Address}
use Rattle.geometry.specs.declared.address.Seq.{Seq}
use Rattle.frame.specs.declared.element.Kind.{Kind}
use Rattle.frame.specs.declared.element.Kind.TheVariants.{Data, Marker, Eod}
use Rattle.judgement.specs.Judgement.{JudgementSaid, found_said, ends_from, is_earlier_end, is_named_end, judge_frame}
use Rattle.judgement.proofs.Facts.{FoundAs}
use Rattle.judgement.proofs.JudgeLaws.{found_so}
use Rattle.judgement.proofs.JudgeView.{JudgeView, judge_view, found_kind, found_known}
use Rattle.archive_lists.specs.Filemarks.{sequence_number, judged}
use Rattle.archive_lists.proofs.tape.Stands.{telling}
use Rattle.archive_lists.proofs.tape.StandsLaws.{ends_telling}

pub late : (last pass : ℕ) (k : Kind) (a : Address) → is_earlier_end k (telling last pass 0) a ≡ false
late last pass Data a = refl
late last pass Marker a = refl
late last pass Eod a = le-ltb a.0 (ends_from (telling last pass 0)) (omega (arith, ends_telling last pass 0))

-- a header that names no EOD
unnamed : (last pass : ℕ) (k : Kind) (a : Address) → is_named_end k (telling last pass 0) a ≡ false
unnamed last pass Data a = refl
unnamed last pass Marker a = refl
unnamed last pass Eod a = refl

pub judged_so : {last pass n : ℕ} {k : Kind} {f : List ℕ} → FoundAs (telling last pass 0) (record { 0 = n }) k f → judged last pass f ≡ found_said k
judged_so {last} {pass} {n} {k} {f} x =
    ap (λ (m : ℕ). judge_frame (telling last pass 0) (record { 0 = 0 }) (record { 0 = m }) f) x.number
    ∙ found_so (telling last pass 0) (record { 0 = 0 }) (record { 0 = n }) f k (late last pass k (record { 0 = 0 })) x

pub found_back : (last pass : ℕ) (f : List ℕ) (k : Kind) → judged last pass f ≡ found_said k → FoundAs (telling last pass 0) (record { 0 = sequence_number f }) k f
found_back last pass f k e =
    let at : Address = record { 0 = 0 } in
    let number : Seq = record { 0 = sequence_number f } in
    (found_known k (unnamed last pass k at) (subst (λ (j : JudgementSaid). JudgeView (telling last pass 0) at number f j) e (judge_view (telling last pass 0) at number f))).0

pub kind_same : {last pass n m : ℕ} {j k : Kind} {f : List ℕ} → FoundAs (telling last pass 0) (record { 0 = n }) j f → FoundAs (telling last pass 0) (record { 0 = m }) k f → j ≡ k
kind_same {j = j} {k = k} x y = found_kind k j (sym (judged_so x) ∙ judged_so y)

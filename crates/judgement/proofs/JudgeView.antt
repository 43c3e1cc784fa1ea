-- What is known of a frame by how it is judged. Assumes nothing.
use mathlib.Core.Path.{◌≡◌, refl, sym, subst, ◌∙◌}
use mathlib.Core.Bool.{Bool, true, false, not, true≢false}
use mathlib.Core.List.{List}
use mathlib.Core.Logic.{◌⊎◌, inl, inr}
use Prim.Native.Nat.{ℕ, ◌+◌, ◌≤◌, ◌<◌}
use native.Mathlib.Omega.{arith}
use borrow.Author.Tests.{ltb-true, ltb-false, eqb-true, eqb-false, le-ltb}
use lib.Dec.{eqb, ltb}
use lib.ListN.{length, get_or, drop}
use Rattle.geometry.specs.Pick.{pick}
use Rattle.geometry.proofs.PickLaws.{pick_by, pick_f}
use Rattle.geometry.proofs.Impossible.{never}
use Rattle.geometry.proofs.TestLaws.{and_true}
use Rattle.geometry.specs.Place.{as_seq}
use Rattle.buffer.specs.Bytes.{get16, get32}
use Rattle.frame.specs.Aux.{type_of}
use Rattle.frame.specs.declared.element.Kind.{Kind}
use Rattle.frame.specs.declared.element.Kind.TheVariants.{Data, Marker, Eod}
use Rattle.geometry.specs.declared.address.Address.{Address}
use Rattle.geometry.specs.declared.address.Seq.{Seq}
use Rattle.frame.specs.declared.header.Header.{Header}
use Rattle.judgement.specs.Judgement.{JudgementSaid, passed_over, refused, found_said, expected_element, as_table, ends_from, is_earlier_end, is_named_end, is_one_below, judge_table, judge_number, judge_kind, judge_type, judge_aux, judge_frame}
use Rattle.judgement.proofs.Cases.{no_kind}
use Rattle.judgement.proofs.Facts.{Typed, Alike, FoundAs, alike_so, so_alike}

pub data JudgeView (told : Header) (at : Address) (expected : Seq) (frame : List ℕ) : JudgementSaid → Type 0 where
  wrong_length : (length frame ≡ 33280 → ⊥) → JudgeView told at expected frame (refused 1)
  other_format : length frame ≡ 33280 → (get32 (drop 32768 frame) 0 ≡ 0 → ⊥) → JudgeView told at expected frame passed_over
  other_type : length frame ≡ 33280 → ((k : Kind) → get16 (drop 32768 frame) 16 ≡ type_of k → ⊥) → JudgeView told at expected frame passed_over
  other_partition : length frame ≡ 33280 → (get_or (drop 32768 frame) 20 0 ≡ 0 → ⊥) → JudgeView told at expected frame passed_over
  other_pass : length frame ≡ 33280 → (get16 (drop 32768 frame) 22 ≡ told.pass → ⊥) → JudgeView told at expected frame passed_over
  -- an EOD where the header has it, numbered one below
  one_below : {j : JudgementSaid} → is_named_end Eod told at ≡ true → found_said Eod ≡ j → get32 (drop 32768 frame) 44 + 1 ≡ expected.0 → FoundAs told (as_seq (get32 (drop 32768 frame) 44)) Eod frame → JudgeView told at expected frame j
  foreign_below : Typed told Eod frame → get32 (drop 32768 frame) 44 + 1 ≡ expected.0 → (Alike (expected_element Eod told (as_seq (get32 (drop 32768 frame) 44))) (drop 32768 frame) → ⊥) → JudgeView told at expected frame (refused 11)
  below : (k : Kind) → Typed told k frame → get32 (drop 32768 frame) 44 < expected.0 → JudgeView told at expected frame passed_over
  above : (k : Kind) → Typed told k frame → expected.0 < get32 (drop 32768 frame) 44 → JudgeView told at expected frame (refused 10)
  earlier : Typed told Eod frame → get32 (drop 32768 frame) 44 ≡ expected.0 → at.0 < ends_from told → JudgeView told at expected frame passed_over
  foreign : (k : Kind) → Typed told k frame → get32 (drop 32768 frame) 44 ≡ expected.0 → is_earlier_end k told at ≡ false → (Alike (expected_element k told expected) (drop 32768 frame) → ⊥) → JudgeView told at expected frame (refused 11)
  found : (k : Kind) {j : JudgementSaid} → found_said k ≡ j → is_earlier_end k told at ≡ false → FoundAs told expected k frame → JudgeView told at expected frame j

module _ (told : Header) (at : Address) (expected : Seq) (frame : List ℕ) where
  abbrev View : JudgementSaid → Type 0
  View j = JudgeView told at expected frame j

  abbrev aux : List ℕ
  aux = drop 32768 frame

  number_view : (k : Kind) → Typed told k frame → View (judge_number k told at expected aux)
  unfolding judge_number
  number_view k t =
      pick_by View (is_one_below k told at (get32 aux 44) expected) (λ o. let both = and_true (is_named_end k told at) (eqb (get32 aux 44 + 1) expected.0) o in lower k t both.0 (eqb-true _ _ both.1))
      (λ _. pick_by View (ltb (get32 aux 44) expected.0) (λ low. below k t (ltb-true _ _ low))
      (λ low. pick_by View (ltb expected.0 (get32 aux 44)) (λ high. above k t (ltb-true _ _ high))
      (λ high.
      let same : get32 aux 44 ≡ expected.0 = omega (arith, ltb-false (get32 aux 44) expected.0 low, ltb-false expected.0 (get32 aux 44) high) in
      pick_by View (is_earlier_end k told at) (λ e. ends k t same e)
      (λ e. pick_by View (as_table (expected_element k told expected) aux) (λ a. found k refl e (record { typed = t; number = same; alike = so_alike a }))
      (λ a. foreign k t same e (λ b. true≢false (sym (alike_so b) ∙ a)))))))
    where
      lower : (k : Kind) → Typed told k frame → is_named_end k told at ≡ true → get32 aux 44 + 1 ≡ expected.0 → View (judge_table k told (as_seq (get32 aux 44)) aux)
      lower Data t n e = absurd (true≢false (sym n))
      lower Marker t n e = absurd (true≢false (sym n))
      lower Eod t n e =
          pick_by View (as_table (expected_element Eod told (as_seq (get32 aux 44))) aux) (λ a. one_below n refl e (record { typed = t; number = refl; alike = so_alike a }))
          (λ a. foreign_below t e (λ b. true≢false (sym (alike_so b) ∙ a)))

      ends : (k : Kind) → Typed told k frame → get32 aux 44 ≡ expected.0 → is_earlier_end k told at ≡ true → View passed_over
      ends Data t same e = absurd (true≢false (sym e))
      ends Marker t same e = absurd (true≢false (sym e))
      ends Eod t same e = earlier t same (ltb-true _ _ e)

  module _ (long : length frame ≡ 33280) (format : get32 aux 0 ≡ 0) where
    kind_view : (k : Kind) → get16 aux 16 ≡ type_of k → View (judge_kind k told at expected aux)
    unfolding judge_kind
    kind_view k type =
        pick_by View (eqb (get_or aux 20 0) 0)
        (λ p. pick_by View (eqb (get16 aux 22) told.pass)
        (λ w. number_view k (record { long = long; format = format; type = type; partition = eqb-true _ _ p; written = eqb-true _ _ w }))
        (λ w. other_pass long (eqb-false _ _ w)))
        (λ p. other_partition long (eqb-false _ _ p))

    type_view : View (judge_type told at expected aux)
    unfolding judge_type
    type_view =
        pick_by View (eqb (get16 aux 16) (type_of Data)) (λ d. kind_view Data (eqb-true _ _ d))
        (λ d. pick_by View (eqb (get16 aux 16) (type_of Marker)) (λ m. kind_view Marker (eqb-true _ _ m))
        (λ m. pick_by View (eqb (get16 aux 16) (type_of Eod)) (λ e. kind_view Eod (eqb-true _ _ e))
        (λ e. other_type long (no_kind (eqb-false _ _ d) (eqb-false _ _ m) (eqb-false _ _ e)))))

  aux_view : length frame ≡ 33280 → View (judge_aux told at expected aux)
  unfolding judge_aux
  aux_view long = pick_by View (eqb (get32 aux 0) 0) (λ f. type_view long (eqb-true _ _ f)) (λ f. other_format long (eqb-false _ _ f))

  pub judge_view : View (judge_frame told at expected frame)
  unfolding judge_frame
  judge_view = pick_by View (eqb (length frame) 33280) (λ e. aux_view (eqb-true _ _ e)) (λ e. wrong_length (eqb-false _ _ e))

-- so what was found is known by the answer
pub found_kind : (k m : Kind) → found_said m ≡ found_said k → m ≡ k
found_kind Data Data e = refl
found_kind Marker Marker e = refl
found_kind Eod Eod e = refl
found_kind Data Marker e = cc
found_kind Data Eod e = cc
found_kind Marker Data e = cc
found_kind Marker Eod e = cc
found_kind Eod Data e = cc
found_kind Eod Marker e = cc

-- a frame of the right length is refused with 10 or 11
pub refused_known : {told : Header} {at : Address} {expected : Seq} {frame : List ℕ} {m : ℕ} → length frame ≡ 33280 → JudgeView told at expected frame (refused m) → (m ≡ 10) ⊎ (m ≡ 11)
refused_known long (wrong_length h) = absurd (h long)
refused_known long (above _ _ _) = inl refl
refused_known long (foreign _ _ _ _ _) = inr refl
refused_known long (foreign_below _ _ _) = inr refl
refused_known long (one_below _ e _ _) = never (cc)
refused_known long (found Data e _ _) = never (cc)
refused_known long (found Marker e _ _) = never (cc)
refused_known long (found Eod e _ _) = never (cc)

as_kind : (told : Header) (at : Address) (expected : Seq) (frame : List ℕ) (k m : Kind) → found_said m ≡ found_said k → is_earlier_end m told at ≡ false → FoundAs told expected m frame → FoundAs told expected k frame × (is_earlier_end k told at ≡ false)
as_kind told at expected frame k m e late h = let same = found_kind k m e in (rw (← same) h, subst (λ (x : Kind). is_earlier_end x told at ≡ false) same late)

unnamed : (told : Header) (at : Address) (k : Kind) → found_said Eod ≡ found_said k → is_named_end Eod told at ≡ true → is_named_end k told at ≡ false → ⊥
unnamed told at k e named u = true≢false (sym named ∙ subst (λ (x : Kind). is_named_end x told at ≡ false) (sym (found_kind k Eod e)) u)

-- one that is delivered or ends reading, which is no earlier end, elsewhere than where the header has EOD
pub found_known : {told : Header} {at : Address} {expected : Seq} {frame : List ℕ} (k : Kind) → is_named_end k told at ≡ false → JudgeView told at expected frame (found_said k) → FoundAs told expected k frame × (is_earlier_end k told at ≡ false)
found_known Data u (found m e late h) = as_kind _ _ _ _ Data m e late h
found_known Marker u (found m e late h) = as_kind _ _ _ _ Marker m e late h
found_known Eod u (found m e late h) = as_kind _ _ _ _ Eod m e late h
found_known {told = told} {at = at} Data u (one_below named e _ _) = absurd (unnamed told at Data e named u)
found_known {told = told} {at = at} Marker u (one_below named e _ _) = absurd (unnamed told at Marker e named u)
found_known {told = told} {at = at} Eod u (one_below named e _ _) = absurd (unnamed told at Eod e named u)

-- where the header has EOD it is no earlier end
pub named_late : (told : Header) (at : Address) → is_named_end Eod told at ≡ true → is_earlier_end Eod told at ≡ false
unfolding ends_from
named_late told at e =
    let both = and_true (not (eqb told.eod.0 0)) (eqb at.0 told.eod.0) e in
    let same : pick (eqb told.eod.0 0) told.old.0 told.eod.0 ≡ told.eod.0 = pick_f {b = eqb told.eod.0 0} told.old.0 (not_so (eqb told.eod.0 0) both.0) in
    let at_it : at.0 ≡ told.eod.0 = eqb-true _ _ both.1 in
    le-ltb at.0 (pick (eqb told.eod.0 0) told.old.0 told.eod.0) (omega (arith, same, at_it))
  where
    not_so : (b : Bool) → not b ≡ true → b ≡ false
    not_so true e = absurd (true≢false (sym e))
    not_so false e = refl

-- the end: an EOD with the expected number, or one below, and no earlier end
pub end_known : {told : Header} {at : Address} {expected : Seq} {frame : List ℕ} → JudgeView told at expected frame (found_said Eod) → Typed told Eod frame × (get32 (drop 32768 frame) 44 ≤ expected.0) × (is_earlier_end Eod told at ≡ false)
end_known (found m e late h) = let f = as_kind _ _ _ _ Eod m e late h in (f.0.typed, omega (arith, f.0.number), f.1)
end_known {told = told} {at = at} (one_below named _ e h) = (h.typed, omega arith, named_late told at named)

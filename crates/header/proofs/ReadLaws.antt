-- A header that is taken for valid has a header's length and is valid, and a valid one of that length is taken. Assumes nothing.
use mathlib.Core.Path.{◌≡◌, sym, ap, ◌∙◌}
use mathlib.Core.Bool.{true}
use mathlib.Core.List.{List}
use Prim.Native.Nat.{ℕ, ◌≤◌}
use native.Mathlib.Omega.{arith}
use borrow.Author.Tests.{eqb-true, eq-eqb}
use lib.Dec.{eqb}
use lib.ListN.{length}
use Rattle.geometry.specs.Place as place
use Rattle.geometry.specs.Place.{as_address, PlaceSaid}
use Rattle.geometry.specs.Cartridge.{last_of}
use Rattle.geometry.specs.declared.cartridge.Geometry.{Geometry}
use Rattle.geometry.proofs.PickLaws.{pick_t, pick_by}
use Rattle.geometry.proofs.Impossible.{never}
use Rattle.frame.specs.declared.header.Header.{Header}
use Rattle.header.specs.Valid.{valid_header, header_of}
use Rattle.header.specs.Read.{CheckedSaid, valid, refused, header_on, header_for, read_header}

-- what is known of a header that is taken
pub record Taken (last : ℕ) (h : List ℕ) (fields : Header) : Type 0 where
  pub long : length h ≡ 33280
  pub is_valid : valid_header (as_address last) h ≡ true
  pub told : fields ≡ header_of h

module _ (g : Geometry) (h : List ℕ) where
  pub taken_long : {fields : Header} → read_header g h ≡ valid fields → length h ≡ 33280
  unfolding read_header
  taken_long {fields} = pick_by (λ (c : CheckedSaid). c ≡ valid fields → length h ≡ 33280) (eqb (length h) 33280) (λ e _. eqb-true _ _ e) (λ _ e. never (cc))

  pub taken_valid : {fields : Header} {last : ℕ} → last_of g ≡ place.address last → read_header g h ≡ valid fields → Taken last h fields
  unfolding read_header header_on
  taken_valid {fields} {last} e =
      pick_by (λ (c : CheckedSaid). c ≡ valid fields → Taken last h fields) (eqb (length h) 33280)
      (λ long. on (last_of g) e (eqb-true _ _ long))
      (λ _ e. never (cc))
    where
      on : (s : PlaceSaid) → s ≡ place.address last → length h ≡ 33280 → header_for s h ≡ valid fields → Taken last h fields
      on (place.refused n) q long = never (cc)
      on (place.address a) q long =
          let same : a ≡ last = cc in
          pick_by (λ (c : CheckedSaid). c ≡ valid fields → Taken last h fields) (valid_header (as_address a) h)
          (λ v x. record { long = long; is_valid = ap (λ (n : ℕ). valid_header (as_address n) h) (sym same) ∙ v; told = cc })
          (λ _ x. never (cc))

  pub valid_taken : {last : ℕ} → last_of g ≡ place.address last → length h ≡ 33280 → valid_header (as_address last) h ≡ true → read_header g h ≡ valid (header_of h)
  unfolding read_header header_on
  valid_taken e long v = pick_t _ (eq-eqb _ _ long) ∙ ap (λ (s : PlaceSaid). header_for s h) e ∙ pick_t _ v

  -- a refusal has a number
  pub refused_number : {n last : ℕ} → last_of g ≡ place.address last → read_header g h ≡ refused n → 1 ≤ n
  unfolding read_header header_on
  refused_number {n} {last} e =
      pick_by (λ (c : CheckedSaid). c ≡ refused n → 1 ≤ n) (eqb (length h) 33280)
      (λ _ q. pick_by (λ (c : CheckedSaid). c ≡ refused n → 1 ≤ n) (valid_header (as_address last) h) (λ _ x. never (cc)) (λ _ x. let number : 3 ≡ n = cc in omega arith) (sym (ap (λ (s : PlaceSaid). header_for s h) e) ∙ q))
      (λ _ q. let number : 1 ≡ n = cc in omega arith)

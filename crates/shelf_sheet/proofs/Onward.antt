-- Each field ends the sheet or takes the next number. Assumes nothing.
use Rattle.std.proofs.Common.{◌≡◌, ℕ, suc, ◌+◌, ◌-◌, ◌<◌, ◌≤◌, true, ◌&&◌, ◌||◌, eqb, ltb, leb, List, length, get_or, Option, refl, inl, inr, arith, eq-eqb, eqb-true}
use Rattle.geometry.specs.Pick.{pick}
use Rattle.geometry.proofs.PickLaws.{pick_by}
use Rattle.geometry.proofs.TestLaws.{and_true}
use Rattle.buffer.specs.Bytes.{get16, get32}
use Rattle.sheet.specs.declared.sheet.Sheet.{Sheet}
use Rattle.frame.specs.declared.element.Kind.{Kind}
use Rattle.sheet.specs.Answer.{EnteredSaid}
use Rattle.sheet.specs.Step.{highest_number, entry_of, closing, step_of}
use Rattle.sheet.specs.Calls.{enter_of, finish_of}
use Rattle.shelf_sheet.specs.Onward.{Onward}

module _ (s : Sheet) (type number : ℕ) (low : number ≤ highest_number) (l : List ℕ) where
  -- a job's closing, where the sheet behind it is onward
  closing_onward : (after : Sheet) → Onward s after → Onward s (closing s after).sheet
  closing_onward after h = pick_by (λ (r : EnteredSaid). Onward s r.sheet) (leb s.job 99999) (λ _. h) (λ _. inl refl)

  -- each kind of field; that of data and of a marker has the next number
  step_onward : Onward s (step_of s (entry_of s.next type number) l).sheet
  unfolding step_of
  step_onward =
      pick_by after (eqb type 0x8000 && eqb number s.next) (λ t. let same = next_one 0x8000 t in inr (refl, omega arith))
      (λ _. pick_by after (eqb type 0x0200 && eqb number s.next) (λ t. let same = next_one 0x0200 t in closing_onward _ (inr (refl, omega arith)))
      (λ _. pick_by after (eqb type 0x0100 && (eqb number s.next || eqb (number + 1) s.next))
      (λ _. pick_by (λ (r : EnteredSaid). Onward s r.sheet) (ltb s.first s.next) (λ _. closing_onward _ (inl refl)) (λ _. inl refl))
      (λ _. inl refl)))
    where
      after : Option Kind → Type 0
      after e = Onward s (step_of s e l).sheet

      next_one : (other : ℕ) → (eqb type other && eqb number s.next) ≡ true → number ≡ s.next
      next_one other t = eqb-true number s.next (and_true (eqb type other) (eqb number s.next) t).1

pub enter_onward : (s : Sheet) (aux l : List ℕ) → length aux ≡ 512 → length l ≡ 28 → ((i : ℕ) → get_or aux i 0 < 256) → Onward s (enter_of s aux l).sheet
unfolding enter_of
enter_onward s aux l whole line bytes =
    let low : get32 aux 44 ≤ highest_number = omega (arith, bytes 44, bytes 45, bytes 46, bytes 47) in
    rw (eq-eqb _ 512 whole, eq-eqb _ 28 line)
    (pick_by (λ (r : EnteredSaid). Onward s r.sheet) s.ended (λ e. inl e) (λ _. step_onward s (get16 aux 16) (get32 aux 44) low l))

pub finish_onward : (s : Sheet) (l : List ℕ) → length l ≡ 28 → Onward s (finish_of s l).sheet
unfolding finish_of
finish_onward s l line = rw (eq-eqb _ 28 line) (pick_by (λ (r : EnteredSaid). Onward s r.sheet) s.ended (λ e. inl e) (λ _. inl refl))

-- what is left of the numbers, and 0 once the sheet has ended
abbrev pub left : Sheet → ℕ
left s = pick s.ended 0 (suc (highest_number + 1 - s.next))

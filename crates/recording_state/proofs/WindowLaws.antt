-- The blocks of a window after one is stored. Assumes nothing.
use Prim.Native.Nat.{ℕ, ◌+◌, ◌-◌, ◌*◌, ◌≤◌, ◌<◌}
use mathlib.Core.Path.{◌≡◌, refl, sym, ap, ◌∙◌}
use mathlib.Core.Bool.{Bool, true, false}
use mathlib.Core.List.{List, ◌++◌}
use mathlib.Core.Logic.{◌⊎◌, inl, inr, ⊎_elim}
use native.Mathlib.Omega.{arith}
use borrow.Author.Tests.{ltb-true, ltb-false}
use lib.Dec.{ltb}
use lib.ListN.{length, take, drop, get_or, length-drop, length-append, get_or-append}
use lib.Seq.{get_or-append-add, take_at, drop_at, length-take-le, get_or-take, get_or-drop, ext_get_or}
use Rattle.recording_state.specs.Window.{block_at, put_block}

-- A part of n bytes, stored in a list from s on. The length stays a variable: laws over 32,768 itself take seconds to check.
module _ (w b : List ℕ) (s n : ℕ) (room : s + n ≤ length w) (full : length b ≡ n) where
  abbrev stored : List ℕ
  stored = take s w ++ (b ++ drop n (drop s w))

  front_length : length (take s w) ≡ s
  front_length = length-take-le s w (omega arith)

  same_part : take n (drop s stored) ≡ b
  same_part =
      ap (λ (x : List ℕ). take n x) (drop_at (take s w) (b ++ drop n (drop s w)) s front_length)
      ∙ take_at b (drop n (drop s w)) n full

  stored_length : length stored ≡ length w
  stored_length =
      omega (
        arith,
        length-append (take s w) (b ++ drop n (drop s w)),
        length-append b (drop n (drop s w)),
        front_length,
        length-drop n (drop s w),
        length-drop s w,
      )

  before : (m : ℕ) → m < s → get_or stored m 0 ≡ get_or w m 0
  before m below =
      get_or-append (take s w) (b ++ drop n (drop s w)) 0 m (omega (arith, front_length))
      ∙ get_or-take s w m 0 below

  after : (m : ℕ) → s + n ≤ m → get_or stored m 0 ≡ get_or w m 0
  after m above =
      let front = take s w in
      let rest = drop n (drop s w) in
      let k = m - (s + n) in
      let there : m ≡ length front + (length b + k) = omega (arith, front_length) in
      let back : s + (n + k) ≡ m = omega arith in
      ap (λ (x : ℕ). get_or (front ++ (b ++ rest)) x 0) there
      ∙ get_or-append-add front (b ++ rest) (length b + k) 0
      ∙ get_or-append-add b rest k 0
      ∙ get_or-drop n (drop s w) k 0
      ∙ get_or-drop s w (n + k) 0
      ∙ ap (λ (x : ℕ). get_or w x 0) back

  other_part : (t : ℕ) → (t + n ≤ s) ⊎ (s + n ≤ t) → t + n ≤ length w → take n (drop t stored) ≡ take n (drop t w)
  other_part t apart fits =
      let part_length : (v : List ℕ) → t + n ≤ length v → length (take n (drop t v)) ≡ n =
      λ v h. length-take-le n (drop t v) (omega (arith, h, length-drop t v)) in
      let left = part_length stored (omega (arith, stored_length, fits)) in
      ext_get_or 0 _ _ (left ∙ sym (part_length w fits)) (λ m q.
      let inside : m < n = omega (arith, left, q) in
      get_or-take n (drop t stored) m 0 inside
      ∙ get_or-drop t stored m 0
      ∙ ⊎_elim (λ h. before (t + m) (omega arith)) (λ h. after (t + m) (omega arith)) apart
      ∙ sym (get_or-take n (drop t w) m 0 inside ∙ get_or-drop t w m 0))

apart_by : (i j : ℕ) → (i ≡ j → ⊥) → (t : Bool) → ltb i j ≡ t → (i * 32768 + 32768 ≤ j * 32768) ⊎ (j * 32768 + 32768 ≤ i * 32768)
apart_by i j differ true e = let h : i < j = ltb-true i j e in inl (omega arith)
apart_by i j differ false e = let h : j ≤ i = ltb-false i j e in inr (omega (arith, differ))

module _ (w b : List ℕ) (j : ℕ) (room : j * 32768 + 32768 ≤ length w) (full : length b ≡ 32768) where
  -- the stored block is found in its place
  pub put_same_block : block_at (put_block w j b) j ≡ b
  unfolding block_at put_block
  put_same_block = same_part w b (j * 32768) 32768 room full

  pub put_length : length (put_block w j b) ≡ length w
  unfolding put_block
  put_length = stored_length w b (j * 32768) 32768 room full

  -- every other block of the window stays
  pub put_other_block : (i : ℕ) → (i ≡ j → ⊥) → i * 32768 + 32768 ≤ length w → block_at (put_block w j b) i ≡ block_at w i
  unfolding block_at put_block
  put_other_block i differ fits =
      other_part w b (j * 32768) 32768 room full (i * 32768) (apart_by i j differ (ltb i j) refl) fits

-- Lists that agree in a part. Assumes nothing.
use Rattle.std.proofs.Common.{◌≡◌, ℕ, ◌+◌, ◌<◌, List, length, get_or, take, drop, sym, ◌∙◌, arith, length-drop, length-take, get_or-drop, get_or-take, ext_get_or}

-- lists of one length that agree in n elements from k on have that part in common
pub same_part : (a b : List ℕ) (k n : ℕ) → length a ≡ length b → ((i : ℕ) → i < n → get_or a (k + i) 0 ≡ get_or b (k + i) 0) → take n (drop k a) ≡ take n (drop k b)
same_part a b k n e h =
    let long : length (take n (drop k a)) ≡ length (take n (drop k b)) = omega (arith, length-take n (drop k a), length-take n (drop k b), length-drop k a, length-drop k b) in
    ext_get_or 0 (take n (drop k a)) (take n (drop k b)) long
    (λ i p.
    let q : i < n = omega (arith, length-take n (drop k a)) in
    get_or-take n (drop k a) i 0 q ∙ get_or-drop k a i 0 ∙ h i q ∙ sym (get_or-take n (drop k b) i 0 q ∙ get_or-drop k b i 0))

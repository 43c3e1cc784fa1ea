-- What a builder lends of a frame: its first 32,768 bytes for the data, and, once these are filled, the rest to the AUX builder. Assumes nothing.
use Rattle.std.proofs.Common.{◌≡◌, ℕ, ◌-◌, ◌≤◌, List, ◌++◌, length, take, drop, ap, ◌∙◌, append-nil, arith, length-append, length-drop, length-take-le, take_at, drop_at}
use borrow.Rule.Slice.PartMut.{put_mid}
use lib.Seq.{drop-length, length_front}

-- a frame has all the data bytes
pub holds_front : {n : ℕ} → n ≡ 33280 → 32768 ≤ n
holds_front e = omega arith

pub front_length : (frame : List ℕ) → length frame ≡ 33280 → length (take 32768 frame) ≡ 32768
front_length frame long = length-take-le 32768 frame (holds_front long)

-- it keeps its length where they are replaced
pub filled_length : (frame filled : List ℕ) → length frame ≡ 33280 → length filled ≡ length (take 32768 frame) → length (filled ++ drop 32768 frame) ≡ 33280
filled_length frame filled long same = length_front frame filled 32768 same ∙ long

-- and what is left of it is as long as an AUX
pub rest_length : (frame : List ℕ) → length frame ≡ 33280 → length (take (length frame - 32768) (drop 32768 frame)) ≡ 512
rest_length frame e = length-take-le (length frame - 32768) (drop 32768 frame) (omega (arith, length-drop 32768 frame)) ∙ omega arith

-- what a lent `&mut s[n..]` leaves where s is d and then r: the rest replaced whole
tail_put : (n : ℕ) (d r a : List ℕ) → length d ≡ n → put_mid n (length (d ++ r) - n) (d ++ r) a ≡ d ++ a
tail_put n d r a e =
    let k : length (d ++ r) - n ≡ length r = omega (arith, length-append d r) in
    ap (λ (x : List ℕ). x ++ (a ++ drop (length (d ++ r) - n) (drop n (d ++ r)))) (take_at d r n e)
    ∙ ap (λ (x : List ℕ). d ++ (a ++ drop (length (d ++ r) - n) x)) (drop_at d r n e)
    ∙ ap (λ (j : ℕ). d ++ (a ++ drop j r)) k
    ∙ ap (λ (x : List ℕ). d ++ (a ++ x)) (drop-length r)
    ∙ ap (λ (x : List ℕ). d ++ x) (append-nil a)

-- and what it leaves where d and the new rest are known
pub tail_filled : (n : ℕ) {d d' : List ℕ} (r : List ℕ) {a a' : List ℕ} → length d ≡ n → d ≡ d' → a ≡ a' → put_mid n (length (d ++ r) - n) (d ++ r) a ≡ d' ++ a'
tail_filled n {d} {d'} r {a} {a'} long p q = tail_put n d r a long ∙ rw (p, q)

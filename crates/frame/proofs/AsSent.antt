-- What of a frame that was read is as it was sent. Assumes nothing.
use Rattle.std.proofs.Common.{◌≡◌, ℕ, ◌+◌, ◌<◌, ◌≤◌, List, get_or, take, drop, sym, ◌∙◌, arith, lit<, length-drop, get_or-drop}
use Rattle.buffer.specs.Bytes.{get16, get32}
use Rattle.frame.specs.Sent.{ReadsAs}
use Rattle.frame.proofs.Lists.{same_part}
use Rattle.buffer.proofs.Numbers.{same16, same32}

module _ {sent read : List ℕ} (r : ReadsAs sent read) where
  -- fields of the frame, before and behind the bytes that the drive fills in
  pub before16 : (at : ℕ) → at + 1 < 32772 → get16 read at ≡ get16 sent at
  before16 at p = same16 read sent at at (r.before at (omega arith)) (r.before (at + 1) p)

  pub before32 : (at : ℕ) → at + 3 < 32772 → get32 read at ≡ get32 sent at
  before32 at p = same32 read sent at at (r.before at (omega arith)) (r.before (at + 1) (omega arith)) (r.before (at + 2) (omega arith)) (r.before (at + 3) p)

  pub behind16 : (at : ℕ) → 32780 ≤ at → get16 read at ≡ get16 sent at
  behind16 at p = same16 read sent at at (r.behind at p) (r.behind (at + 1) (omega arith))

  pub behind32 : (at : ℕ) → 32780 ≤ at → get32 read at ≡ get32 sent at
  behind32 at p = same32 read sent at at (r.behind at p) (r.behind (at + 1) (omega arith)) (r.behind (at + 2) (omega arith)) (r.behind (at + 3) (omega arith))

  -- the first bytes, and all that are data
  pub front_as_sent : (n : ℕ) → n ≤ 32772 → take n read ≡ take n sent
  front_as_sent n p = same_part read sent 0 n r.long (λ i q. r.before (0 + i) (omega arith))

  pub data_as_sent : take 32768 read ≡ take 32768 sent
  data_as_sent = front_as_sent 32768 (omega arith)

  -- AUX bytes 0 to 3, and from 12 on
  aux_before : (k : ℕ) → k < 4 → get_or (drop 32768 read) k 0 ≡ get_or (drop 32768 sent) k 0
  aux_before k p = get_or-drop 32768 read k 0 ∙ r.before (32768 + k) (omega arith) ∙ sym (get_or-drop 32768 sent k 0)

  pub aux_behind : (k : ℕ) → 12 ≤ k → get_or (drop 32768 read) k 0 ≡ get_or (drop 32768 sent) k 0
  aux_behind k p = get_or-drop 32768 read k 0 ∙ r.behind (32768 + k) (omega arith) ∙ sym (get_or-drop 32768 sent k 0)

  pub aux_before32 : get32 (drop 32768 read) 0 ≡ get32 (drop 32768 sent) 0
  aux_before32 = same32 (drop 32768 read) (drop 32768 sent) 0 0 (aux_before 0 (lit< tt)) (aux_before 1 (lit< tt)) (aux_before 2 (lit< tt)) (aux_before 3 (lit< tt))

  pub aux_behind16 : (at : ℕ) → 12 ≤ at → get16 (drop 32768 read) at ≡ get16 (drop 32768 sent) at
  aux_behind16 at p = same16 (drop 32768 read) (drop 32768 sent) at at (aux_behind at p) (aux_behind (at + 1) (omega arith))

  pub aux_behind32 : (at : ℕ) → 12 ≤ at → get32 (drop 32768 read) at ≡ get32 (drop 32768 sent) at
  aux_behind32 at p = same32 (drop 32768 read) (drop 32768 sent) at at (aux_behind at p) (aux_behind (at + 1) (omega arith)) (aux_behind (at + 2) (omega arith)) (aux_behind (at + 3) (omega arith))

  -- a part of the AUX, n bytes from k on
  pub aux_part : (k n : ℕ) → 12 ≤ k → take n (drop k (drop 32768 read)) ≡ take n (drop k (drop 32768 sent))
  aux_part k n p =
      same_part (drop 32768 read) (drop 32768 sent) k n (omega (arith, length-drop 32768 read, length-drop 32768 sent, r.long)) (λ i q. aux_behind (k + i) (omega arith))

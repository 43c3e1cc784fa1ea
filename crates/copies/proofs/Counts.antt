-- The counts of copies stay in their bounds, so none of them wraps. Assumes nothing.
use Prim.Native.Nat.{ℕ, ◌+◌, ◌-◌, ◌*◌, ◌%◌, ◌^◌, ◌≤◌, ◌<◌}
use mathlib.Core.Path.{◌≡◌}
use native.Mathlib.Omega.{arith}
use Rattle.frame.specs.declared.header.Header.{Header}
use Rattle.copies.specs.declared.copies.Copies.{Copies}
use Rattle.copies.specs.Copies.{start_of, taken_of, confirmed_of, failed_at, oldest_copy}

pub record Counts (group copy outstanding confirmed : ℕ) : Type 0 where
  pub groups : group ≤ 1
  pub copies : copy ≤ 5
  pub held : outstanding ≤ copy
  pub written : confirmed ≤ 5 * group + copy - outstanding

abbrev pub CountsOf : Copies → Type 0
CountsOf c = Counts c.group c.copy c.outstanding c.confirmed

pub start_counts : (h : Header) → CountsOf (start_of h)
start_counts h =
    record { groups = omega arith; copies = omega arith; held = omega arith; written = omega arith }

module _ (c : Copies) (g : CountsOf c) where
  pub taken_counts : c.copy < 5 → CountsOf (taken_of c)
  taken_counts left =
      record { groups = omega arith; copies = omega arith; held = omega arith; written = omega arith }

  pub taken_exact : c.copy < 5 → ((c.copy + 1) % 2 ^ 8 ≡ c.copy + 1) × ((c.outstanding + 1) % 2 ^ 8 ≡ c.outstanding + 1)
  taken_exact left = (omega arith, omega arith)

  pub confirmed_counts : (n : ℕ) → n ≤ c.outstanding → CountsOf (confirmed_of c n)
  confirmed_counts n h =
      record { groups = omega arith; copies = omega arith; held = omega arith; written = omega arith }

  -- of the copies before one that failed, too
  pub confirmed_exact : (n : ℕ) → n ≤ c.outstanding → (c.confirmed + n) % 2 ^ 8 ≡ c.confirmed + n
  confirmed_exact n h = omega arith

  pub failed_counts : (i : ℕ) → oldest_copy c ≤ i → i < c.copy → CountsOf (failed_at c (i - oldest_copy c) i)
  failed_counts i low high =
      record { groups = omega arith; copies = omega arith; held = omega arith; written = omega arith }

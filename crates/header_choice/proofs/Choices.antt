-- The choice between two frames of equal update counts, by the library's comparisons. Assumes nothing.
use mathlib.Core.Path.{◌≡◌, sym, ap, ◌∙◌}
use mathlib.Core.Bool.{Bool}
use mathlib.Core.List.{List}
use Prim.Native.Nat.{ℕ}
use native.Mathlib.Omega.{arith}
use borrow.Author.Tests.{le-ltb}
use lib.Dec.{eqb}
use lib.ListN.{take}
use lib.Pointwise.{pointwise}
use Rattle.std.proofs.Common.{Equal}
use Rattle.std.specs.Ordering.{nat_cmp}
use Rattle.std.specs.Cmp.{ranked}
use Rattle.geometry.specs.Pick.{pick}
use Rattle.geometry.proofs.PickLaws.{pick_f}
use Rattle.buffer.proofs.Agreement.{agree_pointwise}
use Rattle.frame.specs.declared.header.Header.{Header}
use Rattle.header_choice.specs.Choice.{first, neither, newer_of}

pub by_data : (h k : Header) (a b : List ℕ) {r : Bool} → Equal ≡ nat_cmp h.update k.update → r ≡ pointwise eqb (take 32768 a) (take 32768 b) → pick r first (neither 3) ≡ newer_of h k a b
unfolding newer_of
by_data h k a b {r} same alike =
    let equal : h.update ≡ k.update = ranked h.update k.update Equal same in
    ap (λ (t : Bool). pick t first (neither 3)) (alike ∙ sym (agree_pointwise (take 32768 a) (take 32768 b)))
    ∙ sym (pick_f _ (le-ltb k.update h.update (omega arith)) ∙ pick_f _ (le-ltb h.update k.update (omega arith)))

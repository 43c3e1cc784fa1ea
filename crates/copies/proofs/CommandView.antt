-- The command that is due, by cases, each with what is known there. Assumes nothing.
use Prim.Native.Nat.{ℕ, ◌≤◌, ◌<◌}
use mathlib.Core.Path.{◌≡◌}
use mathlib.Core.Bool.{true, false, ◌&&◌, and-eq-true_iff}
use mathlib.Core.Logic.{◌⊎◌, ⊎_elim, inl, inr}
use lib.Dec.{ltb}
use borrow.Author.Tests.{ltb-true, ltb-false}
use Rattle.geometry.proofs.PickLaws.{pick_by}
use Rattle.drive.specs.Command.{CommandSaid, write, locate, read_position}
use Rattle.copies.specs.declared.copies.Copies.{Copies}
use Rattle.copies.specs.Copies.{header_at, command_of}
use Rattle.geometry.proofs.TestLaws.{and_false}

pub data CommandView (depth : ℕ) (c : Copies) : CommandSaid → Type 0 where
  locating : c.locate ≡ true → CommandView depth c (locate (header_at c).0)
  writing : c.locate ≡ false → c.copy < 5 → c.outstanding < depth → CommandView depth c (write (header_at c).0)
  asking : c.locate ≡ false → (5 ≤ c.copy) ⊎ (depth ≤ c.outstanding) → CommandView depth c read_position

pub command_view : (depth : ℕ) (c : Copies) → CommandView depth c (command_of depth c)
unfolding command_of
command_view depth c =
    pick_by (CommandView depth c) c.locate (λ t. locating t)
    (λ f. pick_by (CommandView depth c) (ltb c.copy 5 && ltb c.outstanding depth)
    (λ both. let tests = (and-eq-true_iff (ltb c.copy 5) (ltb c.outstanding depth)).0 both in
    writing f (ltb-true _ _ tests.0) (ltb-true _ _ tests.1))
    (λ fails. asking f (⊎_elim (λ e. inl (ltb-false _ _ e)) (λ e. inr (ltb-false _ _ e)) (and_false (ltb c.copy 5) (ltb c.outstanding depth) fails))))

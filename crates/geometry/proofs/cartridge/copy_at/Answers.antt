-- What is left to find among the copies is found there: each turn takes one copy off.
use Rattle.std.proofs.Common.{◌≡◌, ℕ, ◌-◌, ap, ◌∙◌, arith}
use borrow.Author.Tests.{eq-eqb, ne_eqb}
use Rattle.geometry.specs.Cartridge.{group_copies, copy_from}
use Rattle.geometry.proofs.CopyPlaces.{copy_step}
use Rattle.geometry.proofs.cartridge.copy_at.Goals as goal

pub returns-then-eq : goal.returns-then-eq
returns-then-eq c = grind (arith, copy_step, eq-eqb, c.loop-copy.invariant)

pub loop-copy-preserved : goal.loop-copy-preserved
loop-copy-preserved c = grind (arith, copy_step, ne_eqb, c.loop-copy.invariant)

pub returns : goal.returns
unfolding copy_from
returns c =
    let e : ◌≡◌ {A = ℕ} 5 c.loop-copy.copy = omega arith in
    ap (λ (n : ℕ). copy_from (group_copies - n) c.args.group n c.args.a.0) e ∙ c.loop-copy.invariant

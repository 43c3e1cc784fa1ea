-- An entry of the triple gives its meaning; where one is not, the meaning is in what is left of the table behind it.
use Rattle.std.proofs.Common.{◌∙◌, sym, arith}
use Rattle.geometry.proofs.PickLaws.{pick_t, pick_f}
use Rattle.drive.specs.Senses.{senses}
use Rattle.drive.proofs.SenseLaws.{meaning_step}
use Rattle.drive.proofs.reply.Reply.meaning.Goals as goal

pub returns-then-has : goal.returns-then-has
returns-then-has c =
    sym (pick_t _ (sym c.has.ensures ∙ c.if-has.true))
    ∙ sym (meaning_step senses c.loop-sense.sense-index _ _ _ _ (omega arith))
    ∙ c.loop-sense.invariant

pub loop-sense-preserved : goal.loop-sense-preserved
loop-sense-preserved c =
    sym (pick_f _ (sym c.has.ensures ∙ c.if-has.false))
    ∙ sym (meaning_step senses c.loop-sense.sense-index _ _ _ _ (omega arith))
    ∙ c.loop-sense.invariant

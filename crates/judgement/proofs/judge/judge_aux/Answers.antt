-- Each test of the code is one of the definition's, by the lemmas on its cases.
use Rattle.std.proofs.Common.{◌≡◌, get_or, sym, ◌∙◌, arith}
use Rattle.buffer.specs.Bytes.{get16, get32}
use Rattle.frame.specs.Aux.{type_of}
use Rattle.judgement.proofs.Cases.{format_other, format_same, typed, untyped, partition_other, pass_other}
use Rattle.judgement.proofs.judge.judge_aux.Goals as goal

pub returns-then-be32_at-ne0 : goal.returns-then-be32_at-ne0
returns-then-be32_at-ne0 c =
    let a = c.args in
    let other : get32 a.aux.now 0 ≡ 0 → ⊥ = λ e. omega arith in
    sym (format_other a.told a.at a.expected a.aux.now other)

pub returns-in_default : goal.returns-in_default
returns-in_default c =
    let a = c.args in
    let aux = a.aux.now in
    let format : get32 aux 0 ≡ 0 = omega arith in
    let type : get16 aux 16 ≡ type_of c.in-Ok.kind = sym c.be16_at.ensures ∙ c.in-Ok.ensures in
    let partition : get_or aux 20 0 ≡ 0 = omega arith in
    let other : get16 aux 22 ≡ a.told.pass → ⊥ = λ e. omega arith in
    sym (format_same a.told a.at a.expected aux format ∙ typed a.told a.at a.expected aux c.in-Ok.kind type ∙ pass_other a.told a.at a.expected c.in-Ok.kind aux partition other)

pub returns-in_default-2 : goal.returns-in_default-2
returns-in_default-2 c =
    let a = c.args in
    let aux = a.aux.now in
    let format : get32 aux 0 ≡ 0 = omega arith in
    let type : get16 aux 16 ≡ type_of c.in-Ok.kind = sym c.be16_at.ensures ∙ c.in-Ok.ensures in
    let other : get_or aux 20 0 ≡ 0 → ⊥ = λ e. omega arith in
    sym (format_same a.told a.at a.expected aux format ∙ typed a.told a.at a.expected aux c.in-Ok.kind type ∙ partition_other a.told a.at a.expected c.in-Ok.kind aux other)

pub returns-in_default-3 : goal.returns-in_default-3
returns-in_default-3 c =
    let a = c.args in
    let format : get32 a.aux.now 0 ≡ 0 = omega arith in
    sym (format_same a.told a.at a.expected a.aux.now format ∙ untyped a.told a.at a.expected a.aux.now (λ k e. c.in_default.ensures.1 k (c.be16_at.ensures ∙ e)))

use Rattle.std.proofs.Common.{sym, ◌∙◌}
use Rattle.tup_proc.proofs.Numbers.{no_text, no_numeral, other_numeral, apart}
use Rattle.tup_proc.proofs.number.number.Goals as goal

pub returns-in_default : goal.returns-in_default
returns-in_default c = no_text c.args.digits.now c.in_default.ensures.cases.0

pub returns-in_default-parse : goal.returns-in_default-parse
returns-in_default-parse c = no_numeral c.args.digits.now c.in-Ok.digits.now c.in_default-parse.field-0 c.parse.result c.in-Ok.ensures.cases.0 c.parse.ensures.value.0 c.in_default-parse.is

pub returns-then-ne : goal.returns-then-ne
returns-then-ne c =
    let spelled = c.as_str.ensures.value ∙ c.in_ok-spelled.ensures.ok in
    other_numeral c.args.digits.now c.in-Ok.digits.now c.in-Ok-parse.number c.parse.result c.in-Ok.ensures.cases.0 c.parse.ensures.value.0 c.in-Ok-parse.is
    (λ same. apart c.as_str.result.now c.in-Ok.digits.now (sym c.ne.ensures ∙ c.if-ne.true) (spelled ∙ same ∙ sym c.in-Ok.ensures.cases.0))

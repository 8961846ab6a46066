use Rattle.tup_flags.specs.declared.fault.FlagFault.TheVariants.{Memory}
use Rattle.tup_flags.specs.Expansion.{expand}
use Rattle.tup_rule_line.specs.Flagged.{flag_kind}
use Rattle.tup_query.proofs.Texts.{taken_ok, taken_err}
use Rattle.tup_rule_line.proofs.flagged.flagged.Goals as goal

pub returns-in-Ok : goal.returns-in-Ok
returns-in-Ok c = taken_ok c.args.at.now flag_kind Memory c.in-Ok.pieces (expand c.args.parts.now c.args.text.now) c.in-Ok.ensures.expansion

pub returns-in-Err : goal.returns-in-Err
returns-in-Err c =
    taken_err c.args.at.now flag_kind Memory c.in-Err.fault (expand c.args.parts.now c.args.text.now) c.flag_end.result c.in-Err.ensures.expansion c.flag_end.ensures.refusal c.flag_end.ensures.memory

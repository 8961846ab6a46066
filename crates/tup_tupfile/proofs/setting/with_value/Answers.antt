use Rattle.tup_tupfile.proofs.Conditions.{with_value-ok, with_value-refused}
use Rattle.tup_tupfile.proofs.setting.with_value.Goals as goal

pub returns-in-Ok : goal.returns-in-Ok
returns-in-Ok c = with_value-ok c.args.at.now c.args.state c.args.name.now c.args.more c.args.value _ c.in-Ok.ensures

pub returns-in-Err : goal.returns-in-Err
returns-in-Err c =
    with_value-refused c.args.at.now c.args.state c.args.name.now c.args.more c.args.value c.in-Err.fault c.var_end.result c.var_end.ensures.refusal c.var_end.ensures.memory c.in-Err.ensures

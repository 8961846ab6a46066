use Rattle.tup_path.specs.declared.fault.PathFault.{PathFault}
use Rattle.tup_path.specs.declared.fault.PathFault.TheVariants.{Memory}
use Rattle.tup_path.specs.Resolve.{resolve}
use Rattle.tup_query.proofs.Texts.{taken_ok, taken_err}
use Rattle.tup_rule_line.proofs.folder.led.Goals as goal

pub returns-in-Ok : goal.returns-in-Ok
returns-in-Ok c = taken_ok c.args.at.now (λ (fault : PathFault). c.args.kind) Memory c.in-Ok.path (resolve c.args.dir.now c.args.text.now) c.in-Ok.ensures

pub returns-in-Err : goal.returns-in-Err
returns-in-Err c =
    taken_err c.args.at.now (λ (fault : PathFault). c.args.kind) Memory c.in-Err.fault (resolve c.args.dir.now c.args.text.now) c.path_end.result c.in-Err.ensures c.path_end.ensures.refusal c.path_end.ensures.memory

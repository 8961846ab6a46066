use Rattle.std.proofs.Common.{◌≡◌, None, Some}
use Rattle.std.specs.FinMap as finite
use Rattle.tup_record.specs.declared.run.RunRecord.{RunRecord}
use Rattle.tup_why.specs.Reason.{HasOther}
use Rattle.tup_why.proofs.Checks.{found_is, of_none, of_one}
use Rattle.tup_why.proofs.checking.has_changed.Goals as goal

pub returns-in-Some : goal.returns-in-Some
returns-in-Some c =
    let found = finite.get c.args.nodes.now.runs c.args.number in
    of_one (λ (run : RunRecord). found ≡ Some run) (λ (run : RunRecord). HasOther c.args.nodes.now c.args.rule.now run c.args.path.now) c.in-Some.last.now (found_is found (Some c.in-Some.last.now) c.in-Some.ensures)
    c.has_other.result c.has_other.ensures

pub returns-in-None : goal.returns-in-None
returns-in-None c =
    let found = finite.get c.args.nodes.now.runs c.args.number in
    of_none (λ (run : RunRecord). found ≡ Some run) (λ (run : RunRecord). HasOther c.args.nodes.now c.args.rule.now run c.args.path.now) (found_is found None c.in-None.ensures)

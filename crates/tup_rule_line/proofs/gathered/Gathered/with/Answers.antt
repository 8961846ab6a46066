use Rattle.std.proofs.Common.{◌∙◌, ap}
use Rattle.tup_rule_line.specs.Found.{with_groups}
use Rattle.tup_rule_line.specs.declared.found.Found.{Found}
use Rattle.tup_rule_line.proofs.Sets.{ones_more}
use Rattle.tup_rule_line.proofs.gathered.Gathered.with.Goals as goal

pub returns : goal.returns
returns c =
    let more = c.args.more in
    rw (c.in_ok-gathered.ensures, ones_more c.args.self more.inputs) at c.with_groups.ensures

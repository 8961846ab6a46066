use Rattle.std.proofs.Common.{Option, ◌∙◌, subst}
use Rattle.std.specs.Prelude.{◌≡◌, IfSome}
use Rattle.std.specs.BTreeSet.{BTreeSet, contains}
use Rattle.tup_path.specs.Name.{Names}
use Rattle.tup_path.specs.Order.{by_names}
use Rattle.tup_rule.specs.Rule.{declares}
use Rattle.tup_access.proofs.inputs.Inputs.declare.Goals as goal

pub returns-in-Some : goal.returns-in-Some
returns-in-Some c = λ are.
    c.contains.ensures
    ∙ subst (λ (many : Option (BTreeSet Names)). IfSome many (λ (set : BTreeSet Names). (path : Names) → contains by_names set path ≡ declares c.args.rule.now path)) c.in-Some.is are c.args.path.now

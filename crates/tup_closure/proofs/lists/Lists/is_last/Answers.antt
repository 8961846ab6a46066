use Rattle.std.proofs.Common.{Some, ap, sym, ◌∙◌}
use Rattle.tup_path.specs.Name.{Names}
use Rattle.tup_path.proofs.Same.{same_path-decides}
use Rattle.tup_closure.proofs.lists.Lists.is_last.Goals as goal

pub returns-in-Some : goal.returns-in-Some
returns-in-Some g c = λ same. sym c.in-Some.ensures ∙ ap (λ (p : Names). Some p) ((same_path-decides c.in-Some.known.now c.args.path.now).0 (sym c.eq.ensures ∙ same))

use Rattle.std.proofs.Common.{◌≡◌, List, ◌++◌, ◌∷◌, [], ap, sym, subst, ◌∙◌}
use Rattle.tup_path.specs.Name.{Names}
use Rattle.tup_link.specs.Known.{Knows}
use Rattle.tup_link.proofs.Knowing.{knows_push}
use Rattle.tup_link.proofs.order.Distinct.add.Goals as goal

pub returns-in_ok-push-clause-known : goal.returns-in_ok-push-clause-known
returns-in_ok-push-clause-known c =
    let paths = c.args.self.now.paths in
    let pushed : c.push.new.self ≡ paths ++ c.args.path.now ∷ [] = c.in_ok-push.ensures.ok ∙ ap (λ (p : Names). paths ++ p ∷ []) c.in_ok-clone-2.ensures.cases in
    subst (λ (l : List Names). Knows c.insert.new.self l) (sym pushed)
    (knows_push c.args.self.now.known c.insert.new.self paths c.args.path.now c.in_ok-clone.field-0 c.requires c.in_ok-insert.ensures.updates c.in_ok-clone.ensures.cases)

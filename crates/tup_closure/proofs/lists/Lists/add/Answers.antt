use Rattle.std.proofs.Common.{◌++◌, ◌∷◌, [], List, ap, ◌∙◌}
use Rattle.std.specs.Prelude.{if◌then◌else◌}
use Rattle.std.proofs.lemmas.Result.{on_ok_weaker}
use Rattle.tup_path.specs.Order.{same_path}
use Rattle.tup_closure.proofs.lists.Lists.add.Goals as goal

pub returns-clause-ok : goal.returns-clause-ok
returns-clause-ok g c =
    on_ok_weaker c.add_to_last.result
    (λ pushed q. pushed q ∙ ap (λ (l : List _). if same_path q c.args.path.now then l ++ c.args.value ∷ [] else l) (c.in_ok-turn_to.ensures.lists q))
    (c.add_to_last.ensures.ok c.args.path.now c.in_ok-turn_to.ensures.last)

pub returns-clause-last : goal.returns-clause-last
returns-clause-last g c = on_ok_weaker c.add_to_last.result (λ same. same ∙ c.in_ok-turn_to.ensures.last) c.add_to_last.ensures.last

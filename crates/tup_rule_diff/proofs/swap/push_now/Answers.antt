use Rattle.std.proofs.Common.{◌∙◌, ◌++◌, List, map, ap}
use Rattle.std.proofs.lemmas.Result.{on_ok_weaker}
use Rattle.tup_graph.specs.declared.edit.Edit.{Edit}
use Rattle.tup_graph.specs.Transactions.{flag_edits}
use Rattle.tup_rule_diff.specs.Edits.{own_so}
use Rattle.tup_rule_diff.proofs.swap.push_now.Goals as goal

pub returns-clause-ok : goal.returns-clause-ok
returns-clause-ok c =
    let ran = c.in_ok-push_new_runs.ensures.ok in
    let owns = c.in_ok-push_new_owned.ensures.ok in
    on_ok_weaker c.push_flags.result
    (λ is. (ran.0, owns.0, ran.1, owns.1, is ∙ ap (λ (l : List Edit). l ++ flag_edits c.args.flags.now) (owns.2 ∙ ap (λ (l : List Edit). l ++ map own_so owns.0) ran.2)))
    c.push_flags.ensures.ok

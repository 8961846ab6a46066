use Rattle.std.proofs.Common.{◌++◌, List, length, append-nil, sym, ap, ◌∙◌}
use Rattle.std.proofs.lemmas.Bool.{ltb-false}
use Rattle.std.proofs.lemmas.Option.{slice_get_past}
use Rattle.tup_todo.specs.declared.listing.DueRule.{DueRule}
use Rattle.tup_todo.proofs.Listed.{due_none}
use Rattle.tup_todo.proofs.listing.add_due.Goals as goal

pub returns-in_default : goal.returns-in_default
returns-in_default c =
    let rules = c.args.rules.now in
    let none = slice_get_past rules c.args.number (ltb-false c.args.number (length rules) (sym c.in_default.ensures.lookup.0)) in
    sym (ap (λ (l : List DueRule). c.args.due.now ++ l) (due_none rules c.args.number none) ∙ append-nil c.args.due.now)

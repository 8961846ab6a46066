use Rattle.std.proofs.Common.{List, ℕ, sym, ap, ◌∙◌, ◌++◌}
use Rattle.tup_rule.specs.Makers.{makers_in}
use Rattle.tup_rule.proofs.Making.{makers_in-append}
use Rattle.tup_rule.proofs.by_path.producers_of.Goals as goal

pub returns : goal.returns
returns c =
    let one = c.in_ok-add_makers.ensures ∙ ap (λ (items : List ℕ). items ++ makers_in c.args.makers.now c.as_slice.result.now) c.new-found.ensures.items ∙ ap (makers_in c.args.makers.now) c.as_slice.ensures in
    c.in_ok-add_makers-2.ensures
    ∙ ap (λ (items : List ℕ). items ++ makers_in c.args.makers.now c.as_slice-2.result.now) one
    ∙ ap (λ paths. makers_in c.args.makers.now c.args.rule.now.inputs ++ makers_in c.args.makers.now paths) c.as_slice-2.ensures
    ∙ sym (makers_in-append c.args.makers.now c.args.rule.now.inputs c.args.rule.now.order)

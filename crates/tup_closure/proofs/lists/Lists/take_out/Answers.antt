use Rattle.std.proofs.Common.{Option, List, [], ap, sym, ◌∙◌}
use Rattle.std.specs.Prelude.{unwrap_or}
use Rattle.tup_path.specs.Name.{Names}
use Rattle.tup_closure.specs.Lists.{list_beside}
use Rattle.tup_closure.proofs.Listed.{same_key}
use Rattle.tup_closure.proofs.lists.Lists.take_out.Goals as goal

pub returns-in-Some-clause-list : goal.returns-in-Some-clause-list
returns-in-Some-clause-list g c =
    ap (λ (o : Option (List _)). unwrap_or o []) c.in-Some.ensures.value ∙ ap (λ (o : Option (Names × List _)). list_beside o c.args.self.now.map c.args.path.now) (sym c.requires)

pub returns-in-Some-clause-others : goal.returns-in-Some-clause-others
returns-in-Some-clause-others g c = λ q apart.
    ap (λ (o : Option (Names × List _)). list_beside o c.remove.new.self q) c.requires
    ∙ ap (λ (o : Option (List _)). unwrap_or o []) (c.remove.ensures.updates.2 q (same_key c.args.path.now q ∙ apart))
    ∙ ap (λ (o : Option (Names × List _)). list_beside o c.args.self.now.map q) (sym c.requires)

pub returns-in-None-clause-list : goal.returns-in-None-clause-list
returns-in-None-clause-list g c =
    c.new.ensures ∙ ap (λ (o : Option (List _)). unwrap_or o []) c.in-None.ensures.value
    ∙ ap (λ (o : Option (Names × List _)). list_beside o c.args.self.now.map c.args.path.now) (sym c.requires)

pub returns-in-None-clause-others : goal.returns-in-None-clause-others
returns-in-None-clause-others g c = λ q apart.
    ap (λ (o : Option (Names × List _)). list_beside o c.remove.new.self q) c.requires
    ∙ ap (λ (o : Option (List _)). unwrap_or o []) (c.remove.ensures.updates.2 q (same_key c.args.path.now q ∙ apart))
    ∙ ap (λ (o : Option (Names × List _)). list_beside o c.args.self.now.map q) (sym c.requires)

use Rattle.std.proofs.Common.{Option, List, ap, ◌∙◌}
use Rattle.std.specs.BTreeMap.{get}
use Rattle.tup_path.specs.Name.{Names}
use Rattle.tup_path.specs.Order.{by_names}
use Rattle.tup_closure.specs.Lists.{list_beside}
use Rattle.tup_closure.proofs.Listed.{list_written}
use Rattle.tup_closure.proofs.lists.Lists.put_back.Goals as goal

pub returns-in_ok-insert-in-Some-clause-lists : goal.returns-in_ok-insert-in-Some-clause-lists
returns-in_ok-insert-in-Some-clause-lists g c = λ q.
    let map = c.args.self.now.map in
    ap (λ (o : Option (Names × List _)). list_beside o c.insert.new.self q) c.take.ensures.after
    ∙ list_written c.in-Some.path q c.in-Some.list (get by_names map q) (get by_names c.insert.new.self q) (c.in_ok-insert-in-Some.ensures.updates.0 q)
    ∙ ap (λ (o : Option (Names × List _)). list_beside o map q) c.in-Some.ensures.value

pub returns-in-None-clause-lists : goal.returns-in-None-clause-lists
returns-in-None-clause-lists g c = λ q.
    ap (λ (o : Option (Names × List _)). list_beside o c.args.self.now.map q) (c.take.ensures.after ∙ c.in-None.ensures.value)

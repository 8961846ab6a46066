use Rattle.std.proofs.Common.{Option, List, ap, sym, ◌∙◌}
use Rattle.tup_path.specs.Name.{Names}
use Rattle.tup_closure.specs.Lists.{list_beside}
use Rattle.tup_closure.proofs.Listed.{beside_here, beside_other, flipped}
use Rattle.tup_closure.proofs.lists.Lists.of.Goals as goal

pub returns-then-eq : goal.returns-then-eq
returns-then-eq g c =
    let map = c.args.self.now.map in
    let path = c.args.path.now in
    c.as_slice.ensures ∙ sym (beside_here c.in-Some.known path c.in-Some.list map (flipped path c.in-Some.known ∙ sym c.eq.ensures ∙ c.if-eq.true))
    ∙ ap (λ (o : Option (Names × List _)). list_beside o map path) (sym c.in-Some.is)

pub returns-else-eq : goal.returns-else-eq
returns-else-eq g c =
    let map = c.args.self.now.map in
    let path = c.args.path.now in
    c.other.ensures ∙ sym (beside_other c.in-Some.known path c.in-Some.list map (flipped path c.in-Some.known ∙ sym c.eq.ensures ∙ c.if-eq.false))
    ∙ ap (λ (o : Option (Names × List _)). list_beside o map path) (sym c.in-Some.is)

pub returns-in-None : goal.returns-in-None
returns-in-None g c = c.other-in-None.ensures ∙ ap (λ (o : Option (Names × List _)). list_beside o c.args.self.now.map c.args.path.now) (sym c.in-None.is)

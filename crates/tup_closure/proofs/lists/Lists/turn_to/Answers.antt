use Rattle.std.proofs.Common.{Some, ap, ◌∙◌}
use Rattle.tup_path.specs.Name.{Names}
use Rattle.tup_closure.specs.Lists.{list_beside, list_of}
use Rattle.tup_closure.proofs.Listed.{turned}
use Rattle.tup_closure.proofs.lists.Lists.turn_to.Goals as goal

pub returns-then-is_last-clause-last : goal.returns-then-is_last-clause-last
returns-then-is_last-clause-last g c = c.is_last.ensures c.if-is_last.true

pub returns-clause-lists : goal.returns-clause-lists
returns-clause-lists g c = λ q.
    let out = c.take_out-list in
    let mid = c.put_back.new.self in
    let path = c.args.path.now in
    ap (λ (p : Names). list_beside (Some (p, out.result)) out.new.self.map q) c.in_ok-clone.ensures.cases
    ∙ turned path q out.result out.new.self.last out.new.self.map (list_of mid) out.ensures.none out.ensures.list out.ensures.others
    ∙ c.in_ok-put_back.ensures.lists q

pub returns-clause-last : goal.returns-clause-last
returns-clause-last g c = ap (λ (p : Names). Some p) c.in_ok-clone.ensures.cases

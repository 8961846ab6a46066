use Rattle.std.proofs.Common.{ap, sym, subst}
use Rattle.tup_graph.specs.Late.{AreApart, with_late}
use Rattle.tup_graph.proofs.PutLate.{last_put}
use Rattle.tup_graph.proofs.nodes.Nodes.put_late.Goals as goal

pub left-preserved : goal.left-preserved
left-preserved c =
    let next =
    last_put c.args.self.now c.left.self c.put.new.self c.args.late c.left.left.items c.pop.new.self.items c.in-Some.one c.into_record.result
    c.in-Some.ensures.items c.into_record.ensures c.in_ok-put.ensures.ok c.left.invariant.apart c.left.invariant.same in
    record { apart = next.0; same = next.1 }

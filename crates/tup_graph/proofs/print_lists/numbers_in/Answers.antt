use Rattle.tup_graph.proofs.Printing.{number_found, number_passed}
use Rattle.tup_graph.proofs.print_lists.numbers_in.Goals as goal
use Rattle.tup_graph.proofs.print_lists.numbers_in.Goals.{then-other-print+in_ok-insert, else-other-print}

pub loop-other-preserved : goal.loop-other-preserved
loop-other-preserved c = elim c.if-other-print.branch [
  | then-other-print+in_ok-insert w ↦
      rw w.numbers-is (number_found c.args.list.now c.loop-other.other-index c.args.print (0, 0) c.loop-other.numbers c.loop-other-test.true c.loop-other.invariant w.insert.new.self w.in_ok-insert.ensures.updates.0)
  | else-other-print w ↦
      rw w.numbers-is (number_passed c.args.list.now c.loop-other.other-index c.args.print (0, 0) c.loop-other.numbers c.loop-other-test.true c.loop-other.invariant w.if-other-print.false)
]

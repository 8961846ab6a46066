use Rattle.std.proofs.Common.{rules, ◌∙◌, sym, subst}
use Rattle.tup_top.specs.Printed.{Ends}
use Rattle.tup_top.proofs.Causes.{ends_after, memory_after}
use Rattle.tup_top.proofs.print.print.Goals as goal

pub returns-in-Err-Fault-clause-ends : goal.returns-in-Err-Fault-clause-ends
returns-in-Err-Fault-clause-ends g c =
    let before = g.K.Sink.faults c.args.out.now in
    let now = g.K.Sink.faults c.write.new.self in
    subst (Ends before now c.args.status) (sym c.after_sink_fault.ensures) (ends_after before now c.args.status (c.write.ensures.cause.fault (cc (c.in-Err-Fault.is, c.in-Err-Fault.field-0-is))))

pub returns-in-Ok-clause-prints : goal.returns-in-Ok-clause-prints
returns-in-Ok-clause-prints g c = λ shows. record {
  part = search rules;
  done = search rules;
  all = search rules;
  untold = λ is other. absurd (other is);
}

pub returns-in-Err-Fault-clause-prints : goal.returns-in-Err-Fault-clause-prints
returns-in-Err-Fault-clause-prints g c = λ shows. record {
  part = search rules;
  done = search rules;
  all = search rules;
  untold = λ is other. absurd (other (memory_after c.args.status (sym c.after_sink_fault.ensures ∙ is)));
}

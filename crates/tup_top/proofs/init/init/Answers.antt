use Rattle.std.proofs.Common.{inl, inr, refl, rules}
use Rattle.tup_ledger.specs.Begin.{Begins}
use Rattle.tup_top.specs.Promise.{Lasts}
use Rattle.tup_top.specs.Lines.{begun_line}
use Rattle.tup_top.specs.Status.{status_of_begun}
use Rattle.tup_top.proofs.Causes.{prints_nothing}
use Rattle.tup_top.proofs.Begun.{begun_answered, begun_counts, failed, prints_begun}
use Rattle.tup_top.proofs.init.init.Goals as goal

pub returns-in-Ok-clause-begins : goal.returns-in-Ok-clause-begins
returns-in-Ok-clause-begins g c = λ tells.
    begun_answered (Begins (g.S.Site.world c.args.site.now) (g.S.Site.world c.begin.new.site)) _ _ c.begin.result _ _ c.status_of_begun-status.ensures c.print.ensures.ends (c.begin.ensures.begins tells) tt

pub returns-in-Ok-clause-lasts : goal.returns-in-Ok-clause-lasts
returns-in-Ok-clause-lasts g c = λ tells.
    let site = c.begin.new.site in
    begun_answered (Lasts (g.S.Site.left_since site (g.S.Site.moment site)) (g.S.Site.world site)) _ _ c.begin.result _ _ c.status_of_begun-status.ensures c.print.ensures.ends (c.begin.ensures.durable tells) tt

pub returns-in-Ok-clause-counted_cause : goal.returns-in-Ok-clause-counted_cause
returns-in-Ok-clause-counted_cause g c =
    begun_counts _ _ (g.K.Sink.faults c.args.out.now) (g.K.Sink.faults c.print.new.out) c.begin.result _ _ c.status_of_begun-status.ensures c.print.ensures.ends c.print.ensures.counted c.begin.ensures.cause

pub returns-in-Ok-clause-printed : goal.returns-in-Ok-clause-printed
returns-in-Ok-clause-printed g c = λ shows.
    prints_begun _ _ _ _ c.begin.result _ _ _ c.status_of_begun-status.ensures (search rules) c.print.ensures.ends (c.print.ensures.prints shows)

-- no memory for its line
pub returns-in-Err-clause-counted_cause : goal.returns-in-Err-clause-counted_cause
returns-in-Err-clause-counted_cause g c = failed (g.S.Site.faults c.args.site.now) (g.S.Site.faults c.begin.new.site) c.begin.result c.begin.ensures.cause

pub returns-in-Err-clause-printed : goal.returns-in-Err-clause-printed
returns-in-Err-clause-printed g c = λ _.
    let count = g.K.Sink.faults c.args.out.now in
    let status = status_of_begun c.begin.result in
    record {
      begun = c.begin.result;
      ends = inr (inl refl);
      prints = prints_nothing status (begun_line status) count count (g.K.Sink.held c.args.out.now);
    }

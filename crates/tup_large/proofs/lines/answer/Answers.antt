use Rattle.std.proofs.Common.{◌≡◌, ap, ◌∙◌, length, arith}
use Rattle.std.proofs.lemmas.Grind.{common_steps}
use Rattle.tup_path.proofs.Maps.{no_entries}
use Rattle.tup_large.specs.Shown.{first_other}
use Rattle.tup_large.proofs.Ends.{without_last, of_none}
use Rattle.tup_large.proofs.lines.answer.Goals as goal

pub loop-end-preserved : goal.loop-end-preserved
loop-end-preserved c =
    ap (first_other c.pop.new.self.items) c.of_end-answer.ensures ∙ without_last c.loop-end.ends.items c.pop.new.self.items c.in-Some.end c.loop-end.answer c.in-Some.ensures.items
    ∙ c.loop-end.invariant

pub returns : goal.returns
returns c =
    let idle : length c.loop-end.ends.items ≡ 0 = grind (arith, common_steps, c.in_default.ensures.cases, c.in_default.ensures.variant) in
    of_none c.loop-end.ends.items c.loop-end.answer (no_entries c.loop-end.ends.items idle) ∙ c.loop-end.invariant

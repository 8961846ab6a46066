use Rattle.std.proofs.Common.{Option, sym, subst}
use Rattle.tup_rule_outputs.specs.Fault.{CountsFaults}
use Rattle.tup_rule_outputs.specs.Lost.{Lost}
use Rattle.tup_rule_outputs.proofs.Faults.{counts_lost}
use Rattle.tup_rule_outputs.proofs.Made.{made_now, made_idle}
use Rattle.tup_rule_outputs.proofs.ground.Ground.make.Goals as goal

pub returns-in-None-clause-makes : goal.returns-in-None-clause-makes
returns-in-None-clause-makes g c = made_now _ _ _ _ _ _ _ c.in-None.is c.make_files.ensures.makes

pub returns-in-None-clause-cause : goal.returns-in-None-clause-cause
returns-in-None-clause-cause g c = subst (λ (l : Option Lost). CountsFaults (g.S.Site.faults c.args.self.now.site) (g.S.Site.faults c.make_files.new.self.site) l c.make_files.result) (sym c.in-None.is) c.make_files.ensures.cause

pub returns-in-Some-clause-makes : goal.returns-in-Some-clause-makes
returns-in-Some-clause-makes g c = made_idle _ _ _ _ _ _ c.in-Some.lost c.in-Some.is c.fault.ensures

pub returns-in-Some-clause-cause : goal.returns-in-Some-clause-cause
returns-in-Some-clause-cause g c = counts_lost _ _ _ c.in-Some.lost c.in-Some.is c.fault.ensures

use Rattle.std.proofs.Common.{[], ◌∷◌, refl, ◌∙◌}
use Rattle.tup_site.specs.Crash.{CutStep}
use Rattle.tup_site.specs.declared.change.Change.TheVariants.{Cut}
use Rattle.tup_site.proofs.Going.{cut_goes, noted_then, same_known, with_any_step}
use Rattle.tup_site.proofs.Counted.{done, counted_quiet}
use Rattle.tup_site.proofs.memory_calls.MemSiteSite.db_cut.Goals as goal

pub returns-clause-crash : goal.returns-clause-crash
returns-clause-crash c = cut_goes c.args.self.now c.cut.new.self (c.cut.ensures.beside.first ∙ c.in_ok-begin.ensures.counted.first) c.args.len done (noted_then c.args.self.now c.begin.new.self c.cut.new.self (Cut c.args.len ∷ []) c.in_ok-begin.ensures.noted c.cut.ensures.noted)

pub returns-clause-known : goal.returns-clause-known
returns-clause-known c = same_known c.args.self.now c.cut.new.self (c.cut.ensures.beside.first ∙ c.in_ok-begin.ensures.counted.first) (Cut c.args.len ∷ []) done refl (noted_then c.args.self.now c.begin.new.self c.cut.new.self (Cut c.args.len ∷ []) c.in_ok-begin.ensures.noted c.cut.ensures.noted)

pub returns-in_err-begin-clause-crash : goal.returns-in_err-begin-clause-crash
returns-in_err-begin-clause-crash c = with_any_step c.args.self.now c.begin.new.self (CutStep c.args.len) c.begin.ensures.crash

pub returns-clause-counted : goal.returns-clause-counted
returns-clause-counted c = counted_quiet c.args.self.now c.begin.new.self c.cut.new.self _ c.in_ok-begin.field-0 done c.in_ok-begin.ensures.counted c.cut.ensures.beside tt

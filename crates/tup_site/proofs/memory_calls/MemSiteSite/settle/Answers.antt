use Rattle.std.proofs.Common.{[], ◌∷◌, refl, ◌∙◌}
use Rattle.tup_site.specs.declared.change.Change.TheVariants.{Settled}
use Rattle.tup_site.proofs.Going.{noted_then, same_known, settle_goes, settle_pins}
use Rattle.tup_site.proofs.Counted.{done, counted_quiet}
use Rattle.tup_site.proofs.memory_calls.MemSiteSite.settle.Goals as goal

pub returns-clause-crash : goal.returns-clause-crash
returns-clause-crash c = settle_goes c.args.self.now c.mark.new.self (c.mark.ensures.beside.first ∙ c.in_ok-begin.ensures.counted.first) done (noted_then c.args.self.now c.begin.new.self c.mark.new.self (Settled ∷ []) c.in_ok-begin.ensures.noted c.mark.ensures.noted)

pub returns-clause-known : goal.returns-clause-known
returns-clause-known c = same_known c.args.self.now c.mark.new.self (c.mark.ensures.beside.first ∙ c.in_ok-begin.ensures.counted.first) (Settled ∷ []) done refl (noted_then c.args.self.now c.begin.new.self c.mark.new.self (Settled ∷ []) c.in_ok-begin.ensures.noted c.mark.ensures.noted)

pub returns-clause-durable : goal.returns-clause-durable
returns-clause-durable c = settle_pins c.args.self.now c.mark.new.self (c.mark.ensures.beside.first ∙ c.in_ok-begin.ensures.counted.first) done (noted_then c.args.self.now c.begin.new.self c.mark.new.self (Settled ∷ []) c.in_ok-begin.ensures.noted c.mark.ensures.noted)

pub returns-clause-counted : goal.returns-clause-counted
returns-clause-counted c = counted_quiet c.args.self.now c.begin.new.self c.mark.new.self _ c.in_ok-begin.field-0 done c.in_ok-begin.ensures.counted c.mark.ensures.beside tt

use Rattle.std.proofs.Common.{[], ◌∷◌, refl, ◌∙◌, length}
use Rattle.tup_site.specs.Crash.{WriteStep}
use Rattle.tup_site.specs.Memory.{added}
use Rattle.tup_site.specs.declared.change.Change.TheVariants.{Written}
use Rattle.tup_site.proofs.Going.{noted_then, same_known, with_any_step, write_goes}
use Rattle.tup_site.proofs.Counted.{counted_quiet}
use Rattle.tup_site.proofs.memory_calls.MemSiteSite.db_write.Goals as goal

pub returns-clause-crash : goal.returns-clause-crash
returns-clause-crash c = write_goes c.args.self.now c.write_noted.new.self (c.write_noted.ensures.beside.first ∙ c.in_ok-begin.ensures.counted.first) c.args.at c.args.bytes.now c.write_noted.result (c.requires) (noted_then c.args.self.now c.begin.new.self c.write_noted.new.self (added c.write_noted.result (Written c.args.at c.args.bytes.now ∷ [])) c.in_ok-begin.ensures.noted c.write_noted.ensures.noted)

pub returns-clause-known : goal.returns-clause-known
returns-clause-known c = same_known c.args.self.now c.write_noted.new.self (c.write_noted.ensures.beside.first ∙ c.in_ok-begin.ensures.counted.first) (Written c.args.at c.args.bytes.now ∷ []) c.write_noted.result refl (noted_then c.args.self.now c.begin.new.self c.write_noted.new.self (added c.write_noted.result (Written c.args.at c.args.bytes.now ∷ [])) c.in_ok-begin.ensures.noted c.write_noted.ensures.noted)

pub returns-in_err-begin-clause-crash : goal.returns-in_err-begin-clause-crash
returns-in_err-begin-clause-crash c = with_any_step c.args.self.now c.begin.new.self (WriteStep c.args.at (length c.args.bytes.now)) c.begin.ensures.crash

pub returns-clause-counted : goal.returns-clause-counted
returns-clause-counted c = counted_quiet c.args.self.now c.begin.new.self c.write_noted.new.self _ c.in_ok-begin.field-0 c.write_noted.result c.in_ok-begin.ensures.counted c.write_noted.ensures.beside c.write_noted.ensures.memory

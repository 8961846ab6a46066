use Rattle.std.proofs.Common.{[], refl}
use Rattle.tup_site.proofs.Going.{reads, same_known}
use Rattle.tup_site.proofs.memory.MemSite.begin.Goals as goal

pub returns-clause-crash : goal.returns-clause-crash
returns-clause-crash c = reads c.args.self.now c.begin_noted.new.self c.begin_noted.ensures.counted.first c.begin_noted.result c.begin_noted.ensures.noted

pub returns-clause-known : goal.returns-clause-known
returns-clause-known c = same_known c.args.self.now c.begin_noted.new.self c.begin_noted.ensures.counted.first [] c.begin_noted.result refl c.begin_noted.ensures.noted

use Rattle.tup_site.specs.Crash.{NoStep}
use Rattle.tup_compare.proofs.Quiet.{then_quiet}
use Rattle.tup_compare.proofs.compare.all_files.Goals as goal

pub returns-clause-crash : goal.returns-clause-crash
returns-clause-crash g c = λ tells. then_quiet g.S.Site.moment g.S.Site.left_since c.args.site.now c.list.new.self c.contents.new.site NoStep (c.list.ensures.crash tells) (c.contents.ensures.crash tells)

pub returns-clause-large : goal.returns-clause-large
returns-clause-large g c = λ tells n e. let found = c.contents.ensures.large tells n e in (found.0, found.2)

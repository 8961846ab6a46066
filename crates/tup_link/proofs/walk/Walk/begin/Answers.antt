use Rattle.std.proofs.Common.{sym, ◌∙◌}
use Rattle.tup_link.proofs.Going.{begins_new, begins_known, read_state}
use Rattle.tup_link.proofs.walk.Walk.begin.Goals as goal

pub returns-in-New : goal.returns-in-New
returns-in-New c =
    begins_new c.enter.result c.args.self.now c.enter.new.self c.args.from c.requires.way c.requires.from
    (read_state c.args.self.now c.args.from c.index.result.now c.requires.from c.index.ensures ∙ c.in-New.is) c.enter.ensures

pub returns-in_default : goal.returns-in_default
returns-in_default c =
    begins_known c.args.self.now c.args.from
    (λ e. c.in_default.not-New (sym (read_state c.args.self.now c.args.from c.index.result.now c.requires.from c.index.ensures) ∙ e))

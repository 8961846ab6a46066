use Rattle.std.proofs.Common.{◌∙◌, ap}
use Rattle.tup_strace.specs.Once.{is_among}
use Rattle.tup_strace.proofs.once.Once.contains.Goals as goal

pub returns : goal.returns
returns c = c.contains.ensures ∙ c.self.invariant c.args.path.now ∙ ap (is_among c.args.path.now) c.self.view_is

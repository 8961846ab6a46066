use Rattle.std.proofs.Common.{◌∙◌, ap}
use Rattle.std.specs.FinMap as finite
use Rattle.tup_site.specs.World.{World}
use Rattle.tup_site.proofs.Made.{listed}
use Rattle.tup_site.proofs.memory_calls.MemSiteSite.list.Goals as goal

pub returns-clause-paths : goal.returns-clause-paths
returns-clause-paths c =
    listed c.begin.new.self.files c.loop-path.paths c.loop-path.path-iterator c.into_iter-path-iterator.result c.loop-path.invariant c.in-None.ensures.steps.0
    (c.into_iter-path-iterator.ensures.into_iter_gives ∙ c.keys-path-items.ensures.rest) c.keys-path-items.ensures.ordered
    ∙ ap (λ t. finite.keys t) (ap (λ (w : World). w.tree) c.in_ok-begin.ensures.same)

use Rattle.std.proofs.Common.{◌∙◌}
use Rattle.std.specs.FinMap as finite
use Rattle.tup_refresh.proofs.Ending.{are_refreshed, gone_alike, listed_up}
use Rattle.tup_refresh.proofs.walk.done.Goals as goal

pub returns-clause-refreshed : goal.returns-clause-refreshed
returns-clause-refreshed c = λ sources settings paths is.
    are_refreshed c.args.nodes.now sources settings c.args.walk is c.requires _ c.in_ok-all.ensures c.in_ok-fresh.ensures (c.in_ok-gone.ensures ∙ gone_alike sources c.args.outline.now paths (finite.entries c.args.nodes.now.readings))

pub returns-clause-sorted : goal.returns-clause-sorted
returns-clause-sorted c = record {
  all = listed_up c.args.walk.work.readings _ c.in_ok-all.ensures;
  fresh = listed_up c.args.walk.fresh _ c.in_ok-fresh.ensures;
}

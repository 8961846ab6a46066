use Rattle.std.proofs.Common.{[], ◌∷◌, ap, ◌∙◌}
use Rattle.tup_site.specs.Crash.{FileStep}
use Rattle.tup_site.specs.World.{World}
use Rattle.tup_site.specs.Memory.{known_in, added, tree_in}
use Rattle.tup_site.specs.declared.change.Change.TheVariants.{Put}
use Rattle.tup_site.proofs.Changes.{put_elsewhere}
use Rattle.tup_site.proofs.Going.{kept_same, noted_then, put_goes, put_keeps, with_any_step}
use Rattle.tup_site.proofs.Counted.{counted_more}
use Rattle.tup_site.proofs.memory_calls.MemSiteSite.put.Goals as goal

pub returns-clause-crash : goal.returns-clause-crash
returns-clause-crash c = put_goes c.args.self.now c.put_noted.new.self (c.put_noted.ensures.counted.first ∙ c.in_ok-begin.ensures.counted.first) c.args.path.now c.args.content.now c.put_noted.result (noted_then c.args.self.now c.begin.new.self c.put_noted.new.self (added c.put_noted.result (Put c.args.path.now c.args.content.now ∷ [])) c.in_ok-begin.ensures.noted c.put_noted.ensures.noted)

pub returns-clause-known : goal.returns-clause-known
returns-clause-known c = put_keeps c.args.self.now c.put_noted.new.self (c.put_noted.ensures.counted.first ∙ c.in_ok-begin.ensures.counted.first) c.args.path.now c.args.content.now c.put_noted.result (noted_then c.args.self.now c.begin.new.self c.put_noted.new.self (added c.put_noted.result (Put c.args.path.now c.args.content.now ∷ [])) c.in_ok-begin.ensures.noted c.put_noted.ensures.noted)

pub returns-in_err-begin-clause-crash : goal.returns-in_err-begin-clause-crash
returns-in_err-begin-clause-crash c = with_any_step c.args.self.now c.begin.new.self (FileStep c.args.path.now (known_in c.begin.new.self)) c.begin.ensures.crash

pub returns-in_err-begin-clause-known : goal.returns-in_err-begin-clause-known
returns-in_err-begin-clause-known c = kept_same c.args.self.now c.begin.new.self c.begin.ensures.known

pub returns-clause-others : goal.returns-clause-others
returns-clause-others c =
    put_elsewhere c.put_noted.result (tree_in c.args.self.now) (tree_in c.begin.new.self) (tree_in c.put_noted.new.self) c.args.path.now c.args.content.now (ap (λ (w : World). w.tree) c.in_ok-begin.ensures.same) c.put_noted.ensures.put c.put_noted.ensures.unchanged

pub returns-clause-counted : goal.returns-clause-counted
returns-clause-counted c = counted_more c.args.self.now c.begin.new.self c.put_noted.new.self _ c.in_ok-begin.field-0 c.put_noted.result c.in_ok-begin.ensures.counted c.args.content.now c.begin.ensures.known c.put_noted.ensures.counted

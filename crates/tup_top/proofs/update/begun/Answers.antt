use Rattle.std.proofs.Common.{refl, ap, ◌∙◌}
use Rattle.tup_site.specs.Laws.{earlier_law}
use Rattle.tup_site.specs.World.{World}
use Rattle.tup_mini.specs.Means.{mini_next}
use Rattle.tup_demo.specs.Steady.{world_in}
use Rattle.tup_demo.specs.contracts.steady_calls.SteadySiteSite.TheImpl as steady
use Rattle.tup_top.proofs.Begun.{made_there, settled_keeps}
use Rattle.tup_top.proofs.update.begun.Goals as goal

pub returns-in-Ok-clause-files : goal.returns-in-Ok-clause-files
returns-in-Ok-clause-files c = ap (λ (w : World). w.tree) (c.settle.ensures.same refl) ∙ c.begin.ensures.tree refl

pub returns-in-Ok-clause-store : goal.returns-in-Ok-clause-store
returns-in-Ok-clause-store c =
    ap (λ (w : World). w.store) (c.settle.ensures.same refl) ∙ made_there (world_in c.args.site) (world_in c.begin.new.site) _ c.requires (c.in_ok-begin.ensures.begins refl)

-- a crash leaves what is there
pub returns-in-Ok-clause-kept : goal.returns-in-Ok-clause-kept
returns-in-Ok-clause-kept c =
    settled_keeps steady.ghosts (λ at t u w le left. earlier_law at.site t u w le left) c.begin.new.site c.settle.new.self mini_next (c.settle.ensures.same refl) (c.settle.ensures.crash refl) (c.in_ok-begin.ensures.durable refl) (c.in-Ok.ensures.durable refl)
    (made_there (world_in c.args.site) (world_in c.begin.new.site) _ c.requires (c.in_ok-begin.ensures.begins refl))

use Rattle.std.proofs.Common.{◌++◌, ◌∷◌, [], ap, ◌∙◌}
use Rattle.tup_large.specs.Project.{source}
use Rattle.tup_large.proofs.Each.{one_more}
use Rattle.tup_large.proofs.project.add_sources.Goals as goal

pub loop-number-preserved : goal.loop-number-preserved
loop-number-preserved c =
    one_more (λ number. source c.args.folder.now number ∷ []) c.loop-number.number c.args.files.now.items c.loop-number.files.items c.push.new.self.items c.loop-number.invariant
    (c.in_ok-push.ensures.items ∙ ap (λ file. c.loop-number.files.items ++ file ∷ []) c.in_ok-source.ensures)

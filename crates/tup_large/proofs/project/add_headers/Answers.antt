use Rattle.std.proofs.Common.{◌++◌, ◌∷◌, [], ap, ◌∙◌}
use Rattle.tup_large.specs.Project.{header}
use Rattle.tup_large.proofs.Each.{one_more}
use Rattle.tup_large.proofs.project.add_headers.Goals as goal

pub loop-number-preserved : goal.loop-number-preserved
loop-number-preserved c =
    one_more (λ number. header number ∷ []) c.loop-number.number c.args.files.now.items c.loop-number.files.items c.push.new.self.items c.loop-number.invariant
    (c.in_ok-push.ensures.items ∙ ap (λ file. c.loop-number.files.items ++ file ∷ []) c.in_ok-header.ensures)

use Rattle.std.proofs.Common.{◌≡◌, ◌++◌, ◌∷◌, []}
use Rattle.tup_large.specs.Project.{each, source}
use Rattle.tup_large.proofs.project.add_sources.Given as goal

abbrev pub invariant-loop-number : goal.invariant-loop-number
invariant-loop-number l = l.files.items ≡ l.fn.files.items ++ each (λ number. source l.folder number ∷ []) l.number

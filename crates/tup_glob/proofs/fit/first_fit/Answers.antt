use Rattle.std.proofs.Common.{ap, ◌∙◌, is_some}
use Rattle.std.specs.Str.{chars}
use Rattle.tup_glob.specs.Fit.{fit as fitted}
use Rattle.tup_glob.proofs.Greedy.{rest_here}
use Rattle.tup_glob.proofs.fit.first_fit.Goals as goal

pub returns-in-Some : goal.returns-in-Some
returns-in-Some c =
    (c.places.invariant.1 ∙ rest_here (λ rest. is_some (fitted c.args.symbols.now rest)) (chars c.places.place.now) (ap is_some c.in-Some.ensures), c.in-Some.ensures)

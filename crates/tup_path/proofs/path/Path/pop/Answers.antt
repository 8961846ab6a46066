use Rattle.std.proofs.Common.{◌≡◌, ◌++◌, ◌∷◌, [], arith, ap, sym, ◌∙◌}
use Rattle.std.proofs.lemmas.Grind.{common_steps}
use Rattle.tup_path.specs.Resolve.{above}
use Rattle.tup_path.proofs.Walks.{above_last}
use Rattle.tup_path.proofs.path.Path.pop.Goals as goal
use Rattle.tup_path.proofs.path.Path.pop.Goals.{in-Some, in-None}

pub returns : goal.returns
returns c =
    elim c.match-pop.branch [
      | in-Some w ↦
          let cut : c.args.self.now ≡ c.pop.new.self.items ++ w.in-Some.field-0 ∷ [] = grind (arith, common_steps) in
          rw w.result-is (ap above cut ∙ above_last c.pop.new.self.items w.in-Some.field-0)
      | in-None w ↦
          let top : c.args.self.now ≡ [] = grind (arith, common_steps) in
          let same : c.pop.new.self.items ≡ [] = grind (arith, common_steps) in
          rw w.result-is (ap above top, same ∙ sym top)
    ]

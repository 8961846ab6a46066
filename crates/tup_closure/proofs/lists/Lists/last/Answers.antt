use Rattle.std.proofs.Common.{List, ap, sym}
use Rattle.std.specs.Prelude.{option_map}
use Rattle.tup_path.specs.Name.{Names}
use Rattle.tup_closure.proofs.lists.Lists.last.Goals as goal

pub returns-in-Some : goal.returns-in-Some
returns-in-Some g c = ap (option_map (λ (one : Names × List _). one.0)) (sym c.in-Some.is)

pub returns-in-None : goal.returns-in-None
returns-in-None g c = ap (option_map (λ (one : Names × List _). one.0)) (sym c.in-None.is)

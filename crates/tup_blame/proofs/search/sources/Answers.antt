use Rattle.std.proofs.Common.{List, IsTrue, subst, sym}
use Rattle.std.specs.FinMap as finite
use Rattle.tup_path.specs.Name.{Names, Content}
use Rattle.tup_path.specs.Order.{by_names}
use Rattle.tup_readings.proofs.Working.{from_test}
use Rattle.tup_blame.proofs.search.sources.Goals as goal

pub returns : goal.returns
returns g c = subst (λ (l : List (Names × Content)). IsTrue (finite.is_sorted by_names l)) (sym c.in_ok-into_items.ensures) (from_test (finite.is_sorted by_names (finite.entries c.loop-path.files)) (finite.entries_sorted c.loop-path.files))

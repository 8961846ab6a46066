use Rattle.std.proofs.Common.{T, List, sym, subst}
use Rattle.std.specs.FinMap as finite
use Rattle.std.proofs.lemmas.Result.{MatchResult-weaker}
use Rattle.tup_path.specs.Name.{Names, Content}
use Rattle.tup_path.specs.Order.{by_names}
use Rattle.tup_readings.proofs.Working.{from_test}
use Rattle.tup_language_rows.proofs.folders.Folders.sources.Goals as goal

pub returns : goal.returns
returns c =
    MatchResult-weaker c.into_items.result c.into_items.ensures
    (λ files are. from_test (finite.is_sorted by_names files) (subst (λ (l : List (Names × Content)). T (finite.is_sorted by_names l)) (sym are) (finite.entries_sorted c.replace.result)))
    (λ fault no. tt)

use Rattle.std.proofs.Common.{◌≡◌, ap, ◌∙◌}
use Rattle.std.specs.List.{list_any}
use Rattle.std.specs.Ordering.{eq_by_cmp}
use Rattle.std.proofs.lemmas.List.Elements.{same_from_all_zip}
use Rattle.std.proofs.lemmas.Result.{MatchResult-weaker}
use Rattle.tup_path.specs.Name.{Names}
use Rattle.tup_path.specs.Order.{by_names}
use Rattle.tup_readings.proofs.Indexed.{tupfile_has}
use Rattle.tup_readings.proofs.sources.Sources.tupfiles.Goals as goal

pub returns : goal.returns
returns c =
    let inside = c.self.inside in
    MatchResult-weaker c.clone.result c.clone.ensures.cases
    (λ copy zip dir.
    ap (list_any (eq_by_cmp by_names dir)) (same_from_all_zip (λ (x y : Names). y ≡ x) inside.tupfiles.keys copy.keys zip (λ x y e. e))
    ∙ tupfile_has inside.files.now c.args.self.now c.self.invariant.0 c.self.view_is inside.tupfiles c.self.invariant.2 dir)
    (λ fault no. tt)

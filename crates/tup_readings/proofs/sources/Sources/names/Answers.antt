use Rattle.std.proofs.Common.{◌≡◌, ℕ, List, ◌∙◌}
use Rattle.std.proofs.lemmas.List.Elements.{same_from_all_zip}
use Rattle.std.proofs.lemmas.Result.{MatchResult-weaker}
use Rattle.tup_readings.proofs.Indexed.{index_names, index_none}
use Rattle.tup_readings.proofs.sources.Sources.names.Goals as goal

pub returns-in-Some : goal.returns-in-Some
returns-in-Some c =
    let inside = c.self.inside in
    let set = c.in-Some.names.now in
    MatchResult-weaker c.clone.result c.clone.ensures.cases
    (λ copy zip.
    same_from_all_zip (λ (x y : List ℕ). y ≡ x) set.keys copy.keys zip (λ x y e. e)
    ∙ index_names inside.files.now c.args.self.now c.self.invariant.0 c.self.view_is inside.folders c.self.invariant.1 c.args.dir.now set c.in-Some.ensures.value)
    (λ fault no. tt)

pub returns-in-None : goal.returns-in-None
returns-in-None c =
    let inside = c.self.inside in
    c.new.ensures.empty ∙ index_none inside.files.now c.args.self.now c.self.invariant.0 c.self.view_is inside.folders c.self.invariant.1 c.args.dir.now c.in-None.ensures.value

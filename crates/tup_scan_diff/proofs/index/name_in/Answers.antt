use Rattle.std.proofs.Common.{◌≡◌, ◌∙◌, ◌++◌, ◌∷◌, [], ap, sym}
use Rattle.tup_path.specs.Name.{Names}
use Rattle.tup_path.proofs.Same.{same_path-decides}
use Rattle.tup_scan_diff.proofs.Named.{not_true}
use Rattle.tup_scan_diff.proofs.index.name_in.Goals as goal

pub returns : goal.returns
returns c =
    let folder = c.in-Some.folder.now in
    let name = c.in-Some.name.now in
    let same : folder ≡ c.args.dir.now = (same_path-decides folder c.names-2.result.now).0 (not_true _ (sym c.ne.ensures ∙ c.if-ne.false)) ∙ c.names-2.ensures.names in
    (sym c.names.ensures.names ∙ c.in-Some.ensures.cases.0) ∙ ap (λ (d : Names). d ++ name ∷ []) same

use Rattle.std.proofs.Common.{◌≡◌, ◌≤◌, ◌<◌, ◌||◌, false, length, sym, ap, ◌∙◌, arith, rules}
use Rattle.std.proofs.lemmas.Result.{err_from_is_err_and}
use Rattle.tup_query.specs.Reads.{gives}
use Rattle.tup_query.proofs.Went.{went_then, went_err, went_gives, went_nowhere, went_along}
use Rattle.tup_rule_line.specs.Output.{between}
use Rattle.tup_rule_line.proofs.Ways.{at_last, its_folder, its_top, way_top, way_near, way_more}
use Rattle.tup_rule_line.proofs.way.+is_way_blocked.Goals as goal
use Rattle.tup_rule_line.proofs.way.+is_way_blocked.Goals.{then-above, else-above}

pub returns-in_err-folder : goal.returns-in_err-folder
returns-in_err-folder g t c =
    let p = err_from_is_err_and c.from_residual.result c.from_residual.ensures.1 in
    rw (p.1, p.2) (went_nowhere _ _ _ c.requires)

pub returns-in_default : goal.returns-in_default
returns-in_default g t c =
    let a = c.args in
    let top = its_top a.path.now (sym c.in_default.is ∙ c.in_ok-folder.ensures) in
    went_along _ _ (way_top a.at.now a.drafts.now a.outputs.now a.path.now (between a.at.now.dir a.path.now) top) (went_gives _ _ false c.requires)

pub returns-then-depth : goal.returns-then-depth
returns-then-depth g t c =
    let a = c.args in
    let folder = c.in-Some.folder in
    let near : length folder ≤ length a.at.now.dir = omega (arith, ap length c.dir.ensures) in
    went_along _ _ (way_near a.at.now a.drafts.now a.outputs.now a.path.now folder (sym c.in-Some.is ∙ c.in_ok-folder.ensures) near) (went_gives _ _ false c.requires)

pub is_way_blocked-requires : goal.is_way_blocked-requires
is_way_blocked-requires g t c =
    let its = its_folder c.args.path.now c.in-Some.folder (sym c.in-Some.is ∙ c.in_ok-folder.ensures) in
    let shorter : length c.in-Some.folder < length c.args.path.now = omega (arith, its.1) in
    search rules

pub returns-in_err-above : goal.returns-in_err-above
returns-in_err-above g t c =
    let a = c.args in
    let folder = c.in-Some.folder in
    let deep : length a.at.now.dir < length folder = omega (arith, ap length c.dir.ensures) in
    let p = err_from_is_err_and c.from_residual-in_err-above.result c.from_residual-in_err-above.ensures.1 in
    rw (p.1, p.2)
    (went_along _ _ (way_more a.at.now a.drafts.now a.outputs.now a.path.now folder (sym c.in-Some.is ∙ c.in_ok-folder.ensures) deep)
    (went_err (at_last a.at.now a.drafts.now a.outputs.now folder) c.in_err-above.ensures))

pub returns-in_err-here : goal.returns-in_err-here
returns-in_err-here g t c =
    let a = c.args in
    let folder = c.in-Some.folder in
    let deep : length a.at.now.dir < length folder = omega (arith, ap length c.dir.ensures) in
    let p = err_from_is_err_and c.from_residual-in_err-here.result c.from_residual-in_err-here.ensures.1 in
    rw (p.1, p.2)
    (went_along _ _ (way_more a.at.now a.drafts.now a.outputs.now a.path.now folder (sym c.in-Some.is ∙ c.in_ok-folder.ensures) deep)
    (went_then (at_last a.at.now a.drafts.now a.outputs.now folder) c.in_ok-above.ensures (went_err (λ here. gives (c.in_ok-above.above || here)) c.in_err-here.ensures)))

pub returns : goal.returns
returns g t c =
    let a = c.args in
    let folder = c.in-Some.folder in
    let deep : length a.at.now.dir < length folder = omega (arith, ap length c.dir.ensures) in
    let either : c.if-above.result ≡ (c.in_ok-above.above || c.in_ok-here.here) = elim c.if-above.branch [ then-above w ↦ rw w.if-above.true (cc) | else-above w ↦ rw w.if-above.false (cc) ] in
    went_along _ _ (way_more a.at.now a.drafts.now a.outputs.now a.path.now folder (sym c.in-Some.is ∙ c.in_ok-folder.ensures) deep)
    (went_then (at_last a.at.now a.drafts.now a.outputs.now folder) c.in_ok-above.ensures
    (went_then (λ here. gives (c.in_ok-above.above || here)) c.in_ok-here.ensures
    (went_along _ _ (ap gives (sym either)) (went_gives _ _ c.if-above.result c.in_ok-here.ensures.stopped))))

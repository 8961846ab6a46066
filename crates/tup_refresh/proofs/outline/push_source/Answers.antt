use Rattle.std.proofs.Common.{◌≡◌, true, false, cond, [], ◌∷◌, ◌++◌, ap, sym, ◌∙◌}
use Rattle.std.proofs.lemmas.List.{append-nil}
use Rattle.tup_graph.specs.Graph.{is_owned}
use Rattle.tup_refresh.specs.Outline.{content_in}
use Rattle.tup_refresh.proofs.outline.push_source.Goals as goal

pub returns-in_ok-push-clause-files : goal.returns-in_ok-push-clause-files
returns-in_ok-push-clause-files c =
    let a = c.args in
    let path = a.path.now in
    let unowned : is_owned a.owners.now path ≡ false = sym c.owns.ensures.owned ∙ c.if-not-owns.true in
    c.in_ok-push.ensures.ok ∙ (λ i. a.files.now ++ (c.in_ok-clone.ensures.cases i, c.in_ok-content.ensures i) ∷ [])
    ∙ ap (λ b. a.files.now ++ cond b [] ((path, content_in a.top.now a.config.now path) ∷ [])) (sym unowned)

pub returns-else-not-owns-clause-files : goal.returns-else-not-owns-clause-files
returns-else-not-owns-clause-files c =
    let a = c.args in
    let path = a.path.now in
    let owned : is_owned a.owners.now path ≡ true = sym c.owns.ensures.owned ∙ c.if-not-owns.false in
    sym (ap (λ b. a.files.now ++ cond b [] ((path, content_in a.top.now a.config.now path) ∷ [])) owned ∙ append-nil a.files.now)

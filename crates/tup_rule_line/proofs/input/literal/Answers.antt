use Rattle.std.proofs.Common.{Ok, Err, subst}
use Rattle.std.proofs.lemmas.Result.{err_from_is_err_and}
use Rattle.tup_path.specs.Name.{Names}
use Rattle.tup_lex.specs.declared.kind.ParseKind.TheVariants.{MissingInput}
use Rattle.tup_query.specs.Reads.{and_then}
use Rattle.tup_query.specs.Ask.{kind_at}
use Rattle.tup_rule_line.specs.Folder.{led}
use Rattle.tup_rule_line.specs.Input.{known_input, literal}
use Rattle.tup_query.specs.Went.{Gives}
use Rattle.tup_query.proofs.Went.{went_then, went_err, went_given}
use Rattle.tup_rule_line.proofs.input.literal.Goals as goal

pub returns-in_err-path : goal.returns-in_err-path
unfolding literal
returns-in_err-path g c =
    let a = c.args in
    let p = err_from_is_err_and c.from_residual.result c.from_residual.ensures.1 in
    let failed = subst (λ (dir : Names). Gives (led a.at.now MissingInput dir a.word.now) (Err c.in_err-path.field-0.0)) c.dir.ensures c.in_err-path.ensures in
    rw (p.1, p.2)
    (went_err (λ path. and_then (kind_at path) (λ kind. known_input a.at.now a.drafts.now path kind))
    (went_given _ _ (led a.at.now MissingInput a.at.now.dir a.word.now) (Err c.in_err-path.field-0.0) c.requires failed))

pub returns-in_err-kind : goal.returns-in_err-kind
unfolding literal
returns-in_err-kind g c =
    let a = c.args in
    let p = err_from_is_err_and c.from_residual-in_err-kind.result c.from_residual-in_err-kind.ensures.1 in
    let done = rw c.dir.ensures at c.in_ok-path.ensures in
    rw (p.1, p.2)
    (went_then (λ path. and_then (kind_at path) (λ kind. known_input a.at.now a.drafts.now path kind))
    (went_given _ _ (led a.at.now MissingInput a.at.now.dir a.word.now) (Ok c.in_ok-path.path) c.requires done)
    (went_err (λ kind. known_input a.at.now a.drafts.now c.in_ok-path.path kind) c.in_err-kind.ensures))

pub returns : goal.returns
unfolding literal
returns g c =
    let a = c.args in
    let done = rw c.dir.ensures at c.in_ok-path.ensures in
    went_then (λ path. and_then (kind_at path) (λ kind. known_input a.at.now a.drafts.now path kind))
    (went_given _ _ (led a.at.now MissingInput a.at.now.dir a.word.now) (Ok c.in_ok-path.path) c.requires done)
    (went_then (λ kind. known_input a.at.now a.drafts.now c.in_ok-path.path kind) c.in_ok-kind.ensures
    (went_given _ _ (known_input a.at.now a.drafts.now c.in_ok-path.path c.in_ok-kind.kind) c.known_input.result c.in_ok-kind.ensures.stopped c.known_input.ensures))

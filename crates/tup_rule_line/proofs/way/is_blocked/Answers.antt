use Rattle.std.proofs.Common.{◌≡◌, Bool, true, false, ◌||◌, if◌then◌else◌, List, Ok, Err, codes, ap, sym, ◌∙◌}
use Rattle.std.proofs.lemmas.Result.{err_from_is_err_and}
use Rattle.tup_path.specs.Name.{Names}
use Rattle.tup_lex.specs.declared.kind.ParseKind.TheVariants.{ForeignOutput}
use Rattle.tup_query.specs.Reads.{gives, and_then}
use Rattle.tup_query.specs.Ask.{kind_at}
use Rattle.tup_query.specs.Spot.{refused}
use Rattle.tup_query.proofs.Went.{went_then, went_err, went_given, went_gives, went_along, went_refuses, went_ok, went_bad}
use Rattle.tup_rule_line.specs.Folder.{led}
use Rattle.tup_rule_line.specs.Input.{is_file}
use Rattle.tup_rule_line.specs.Output.{is_blocked, is_taken}
use Rattle.tup_rule_line.proofs.Ways.{by_tupfile, unless_tupfile, at_folder, is_here}
use Rattle.tup_rule_line.proofs.way.is_blocked.Goals as goal

pub returns-in_err-tupfile : goal.returns-in_err-tupfile
unfolding is_blocked
returns-in_err-tupfile g c =
    let a = c.args in
    let p = err_from_is_err_and c.from_residual.result c.from_residual.ensures.1 in
    rw (p.1, p.2) (went_bad _ _ (led a.at.now ForeignOutput a.folder.now (codes "Tupfile")) (by_tupfile a.at.now a.drafts.now a.outputs.now a.folder.now) _ c.requires c.in_err-tupfile.ensures)

pub returns-in_err-stands : goal.returns-in_err-stands
unfolding is_blocked
returns-in_err-stands g c =
    let a = c.args in
    let p = err_from_is_err_and c.from_residual-in_err-stands.result c.from_residual-in_err-stands.ensures.1 in
    rw (p.1, p.2)
    (went_ok (led a.at.now ForeignOutput a.folder.now (codes "Tupfile")) (by_tupfile a.at.now a.drafts.now a.outputs.now a.folder.now) c.in_ok-tupfile.ensures
    (went_err (unless_tupfile a.at.now a.drafts.now a.outputs.now a.folder.now) c.in_err-stands.ensures))

pub returns-then-is_file : goal.returns-then-is_file
unfolding is_blocked
returns-then-is_file g c =
    let a = c.args in
    let file : is_file c.in_ok-stands.stands ≡ true = cc in
    went_ok (led a.at.now ForeignOutput a.folder.now (codes "Tupfile")) (by_tupfile a.at.now a.drafts.now a.outputs.now a.folder.now) c.in_ok-tupfile.ensures
    (went_then (unless_tupfile a.at.now a.drafts.now a.outputs.now a.folder.now) c.in_ok-stands.ensures
    (went_along _ _ (ap (λ b. if b then refused a.at.now ForeignOutput else at_folder a.drafts.now a.outputs.now a.folder.now) file)
    (went_refuses _ _ _ _ _ c.in_ok-stands.ensures.stopped c.refuse.ensures)))

pub returns-in_err-kind : goal.returns-in_err-kind
unfolding is_blocked
returns-in_err-kind g c =
    let a = c.args in
    let none : is_file c.in_ok-stands.stands ≡ false = cc in
    let p = err_from_is_err_and c.from_residual-in_err-kind.result c.from_residual-in_err-kind.ensures.1 in
    rw (p.1, p.2)
    (went_ok (led a.at.now ForeignOutput a.folder.now (codes "Tupfile")) (by_tupfile a.at.now a.drafts.now a.outputs.now a.folder.now) c.in_ok-tupfile.ensures
    (went_then (unless_tupfile a.at.now a.drafts.now a.outputs.now a.folder.now) c.in_ok-stands.ensures
    (went_along _ _ (ap (λ b. if b then refused a.at.now ForeignOutput else at_folder a.drafts.now a.outputs.now a.folder.now) none)
    (went_err (is_here a.drafts.now a.outputs.now a.folder.now) c.in_err-kind.ensures))))

pub returns : goal.returns
unfolding is_blocked
returns g c =
    let a = c.args in
    let none : is_file c.in_ok-stands.stands ≡ false = cc in
    went_ok (led a.at.now ForeignOutput a.folder.now (codes "Tupfile")) (by_tupfile a.at.now a.drafts.now a.outputs.now a.folder.now) c.in_ok-tupfile.ensures
    (went_then (unless_tupfile a.at.now a.drafts.now a.outputs.now a.folder.now) c.in_ok-stands.ensures
    (went_along _ _ (ap (λ b. if b then refused a.at.now ForeignOutput else at_folder a.drafts.now a.outputs.now a.folder.now) none)
    (went_then (is_here a.drafts.now a.outputs.now a.folder.now) c.in_ok-kind.ensures
    (went_along _ _ (ap gives (sym c.is_no_folder.ensures)) (went_gives _ _ c.is_no_folder.result c.in_ok-kind.ensures.stopped)))))

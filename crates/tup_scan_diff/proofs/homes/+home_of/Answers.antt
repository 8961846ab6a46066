use Rattle.std.proofs.Common.{sym, subst, ◌∙◌}
use Rattle.std.proofs.lemmas.Result.{IfOk-weaker}
use Rattle.tup_scan_diff.specs.Homes.{IsHomeOf}
use Rattle.tup_scan_diff.specs.Index.{IsParted}
use Rattle.tup_scan_diff.proofs.Homing.{home_found, home_here, top_without}
use Rattle.tup_scan_diff.proofs.homes.+home_of.Goals as goal

pub returns-then-contains-clause-home : goal.returns-then-contains-clause-home
returns-then-contains-clause-home t c = λ sources are. home_here sources c.args.tupfiles.now are c.args.dir (sym c.contains.ensures ∙ c.if-contains.true)

pub returns-in_default-clause-home : goal.returns-in_default-clause-home
returns-in_default-clause-home t c = λ sources are.
    top_without sources c.args.tupfiles.now are c.args.dir (sym c.contains.ensures ∙ c.if-contains.false) (subst (IsParted c.args.dir) c.in_default.is c.in_ok-above.ensures.parted)

pub returns-clause-home : goal.returns-clause-home
returns-clause-home t c = λ sources are.
    IfOk-weaker c.home_of.result (IsHomeOf sources c.in-Some.above) (IsHomeOf sources c.args.dir)
    (home_found sources c.args.tupfiles.now are c.args.dir (sym c.contains.ensures ∙ c.if-contains.false) c.in-Some.above c.in-Some.field-0-1 (subst (IsParted c.args.dir) c.in-Some.is c.in_ok-above.ensures.parted))
    (c.home_of.ensures.home sources are)

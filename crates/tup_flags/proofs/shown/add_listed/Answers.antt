use Rattle.std.proofs.Common.{ap, sym, ◌∙◌}
use Rattle.std.proofs.lemmas.List.{nil_from_length}
use Rattle.tup_flags.specs.Shown.{listed}
use Rattle.tup_flags.proofs.Listed.{listed-first, grown-none, grown-as, both-grown, both-refused}
use Rattle.tup_flags.proofs.shown.add_listed.Goals as goal

pub returns-in_default-clause-grown : goal.returns-in_default-clause-grown
returns-in_default-clause-grown c =
    grown-as _ _ _ _ (sym (ap (listed c.args.dir.now c.args.side) (nil_from_length c.args.paths.now c.in_default.ensures.cases))) (grown-none c.args.answer.now)

pub returns-clause-grown : goal.returns-clause-grown
returns-clause-grown c =
    let dir = c.args.dir.now in
    let whole = ap (listed dir c.args.side) c.in-Some.ensures.cases.0 ∙ listed-first dir c.args.side c.in-Some.first.now c.in-Some.others.now in
    both-grown c.add_further.result _ _ _ _ _ _ whole c.in_ok-add_shown.ensures.grown c.add_further.ensures.grown

pub returns-clause-refused : goal.returns-clause-refused
returns-clause-refused c =
    let dir = c.args.dir.now in
    let whole = ap (listed dir c.args.side) c.in-Some.ensures.cases.0 ∙ listed-first dir c.args.side c.in-Some.first.now c.in-Some.others.now in
    both-refused c.add_further.result _ _ _ _ _ whole c.in_ok-add_shown.ensures.grown c.add_further.ensures.refused

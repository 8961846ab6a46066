use Rattle.std.proofs.Common.{[], Ok, inr, sym, ap, subst, ◌∙◌}
use Rattle.tup_path.specs.Gives.{GivesUnless}
use Rattle.tup_access.specs.declared.fault.AccessFault.TheVariants.{Memory}
use Rattle.tup_access.specs.declared.verdict.Access.{Access}
use Rattle.tup_core.proofs.AskLaws.{given_is, none_made, open_yes, open_no}
use Rattle.tup_core.proofs.outputs.access_among.Goals as goal

pub returns-in-Yes : goal.returns-in-Yes
returns-in-Yes c =
    let given = given_is c.in_ok-path.field-0 _ (c.in_ok-path.ensures [] (none_made c.new-none.result c.new-none.ensures.empty) (c.few-few.ensures c.args.rule.now)) in
    subst (λ (a : Access). GivesUnless c.access_to.result Memory (Ok a))
    (sym (open_yes c.args.rules.now c.args.rule.now c.args.asked c.args.text.now c.in-Yes.path (given ∙ c.in-Yes.is))) c.access_to.ensures

pub returns : goal.returns
returns c =
    let given = given_is c.in_ok-path.field-0 _ (c.in_ok-path.ensures [] (none_made c.new-none.result c.new-none.ensures.empty) (c.few-few.ensures c.args.rule.now)) in
    inr (ap Ok (sym (open_no c.args.rules.now c.args.rule.now c.args.asked c.args.text.now c.in-No.verdict (given ∙ c.in-No.is))))

use Rattle.std.proofs.Common.{◌∙◌, List, Some, ap, sym, refl, subst}
use Rattle.std.specs.Prelude.{reverse}
use Rattle.tup_path.specs.Name.{Names}
use Rattle.tup_why.specs.Steps.{StepsTo}
use Rattle.tup_why.specs.declared.cause.Cause.{Cause}
use Rattle.tup_why.specs.declared.cause.Cause.TheVariants.{New, Changed, ReadsNew, Waits, Unfinished}
use Rattle.tup_why.specs.declared.reason.Link.{Link}
use Rattle.tup_why.specs.declared.reason.Link.TheVariants.{Reads, Writes}
use Rattle.tup_why.specs.declared.reason.Root.TheVariants.{Changed as ChangedRoot}
use Rattle.tup_why.specs.declared.reasons.Step.TheVariants.{Begins}
use Rattle.tup_why.proofs.Chains.{not_in_table, reversed_one, reversed_two, steps_by}
use Rattle.tup_why.proofs.reasons.Reasons.step.Goals as goal

-- the table has no cause of the rule
pub returns-in-None-clause-step : goal.returns-in-None-clause-step
returns-in-None-clause-step c = λ g plan number are goes. not_in_table g plan c.args.self.now are c.args.at (sym c.in-None.ensures.value)

-- it has one: `steps_by` at that cause, and the links of the step, the last first
pub returns-in-Some-New-clause-step : goal.returns-in-Some-New-clause-step
returns-in-Some-New-clause-step c = λ g plan number are goes.
    let links = c.args.links.now.items in
    let it = c.in-Some-New in
    steps_by g plan c.args.self.now are c.args.at number links links New (sym it.ensures.value ∙ ap (λ (cause : Cause). Some cause) it.field-0-is) refl goes

pub returns-in-Some-Unfinished-clause-step : goal.returns-in-Some-Unfinished-clause-step
returns-in-Some-Unfinished-clause-step c = λ g plan number are goes.
    let links = c.args.links.now.items in
    let it = c.in-Some-Unfinished in
    steps_by g plan c.args.self.now are c.args.at number links links Unfinished (sym it.ensures.value ∙ ap (λ (cause : Cause). Some cause) it.field-0-is) refl goes

pub returns-in_ok-clone-in-Some-Changed-clause-step : goal.returns-in_ok-clone-in-Some-Changed-clause-step
returns-in_ok-clone-in-Some-Changed-clause-step c = λ g plan number are goes.
    let links = c.args.links.now.items in
    let it = c.in-Some-Changed in
    subst (λ (path : Names). StepsTo g plan c.args.at number (reverse c.push.new.self.items) (Begins (ChangedRoot path))) (sym c.in_ok-clone-in-Some-Changed.ensures.cases)
    (steps_by g plan c.args.self.now are c.args.at number links c.push.new.self.items (Changed it.path) (sym it.ensures.value ∙ ap (λ (cause : Cause). Some cause) it.field-0-is)
    (ap (λ (l : List Link). reverse l) c.in_ok-push-in-Some-Changed.ensures.items ∙ reversed_one links (Reads c.args.at)) goes)

pub returns-in_ok-add_read-in-Some-ReadsNew-clause-step : goal.returns-in_ok-add_read-in-Some-ReadsNew-clause-step
returns-in_ok-add_read-in-Some-ReadsNew-clause-step c = λ g plan number are goes.
    let links = c.args.links.now.items in
    let it = c.in-Some-ReadsNew in
    steps_by g plan c.args.self.now are c.args.at number links c.add_read.new.links.items (ReadsNew it.maker it.path) (sym it.ensures.value ∙ ap (λ (cause : Cause). Some cause) it.field-0-is)
    (ap (λ (l : List Link). reverse l) c.in_ok-add_read-in-Some-ReadsNew.ensures.added ∙ reversed_two links (Reads c.args.at) (Writes it.path)) goes

pub returns-in_ok-add_read-in-Some-Waits-clause-step : goal.returns-in_ok-add_read-in-Some-Waits-clause-step
returns-in_ok-add_read-in-Some-Waits-clause-step c = λ g plan number are goes.
    let links = c.args.links.now.items in
    let it = c.in-Some-Waits in
    steps_by g plan c.args.self.now are c.args.at number links c.add_read-in-Some-Waits.new.links.items (Waits it.maker it.path) (sym it.ensures.value ∙ ap (λ (cause : Cause). Some cause) it.field-0-is)
    (ap (λ (l : List Link). reverse l) c.in_ok-add_read-in-Some-Waits.ensures.added ∙ reversed_two links (Reads c.args.at) (Writes it.path)) goes

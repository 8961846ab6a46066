use Rattle.std.proofs.Common.{◌≡◌, ◌∙◌, List, [], map, sym, subst}
use Rattle.std.proofs.lemmas.Bool.{eqb-true}
use Rattle.std.specs.Prelude.{vec_len}
use Rattle.std.proofs.lemmas.List.{nil_from_length}
use Rattle.tup_tell.specs.Parted.{AreCutOff, AreTold}
use Rattle.tup_tell.specs.declared.event.Event.{Event}
use Rattle.tup_tell.specs.declared.event.Event.TheVariants.{Read}
use Rattle.tup_tell.proofs.Parting.{none_at_all}
use Rattle.tup_top.proofs.Reported.{told_none}
use Rattle.tup_top.proofs.telling.hear_read.Goals as goal

-- nobody is there to be told

pub returns-then-is_empty-clause-all : goal.returns-then-is_empty-clause-all
returns-then-is_empty-clause-all g c = λ _.
    let list = c.args.tellers.now in
    let none : list.items ≡ [] = nil_from_length list.items (sym list.ok.0 ∙ eqb-true (vec_len list) 0 (sym c.is_empty.ensures ∙ c.if-is_empty.true)) in
    told_none g.T.Reporter.told g.T.Reporter.faults (map Read c.args.folders.now) list.items list.items c.nobody.result.items none none c.nobody.ensures

-- all are told

pub returns-in-Ok-clause-all : goal.returns-in-Ok-clause-all
returns-in-Ok-clause-all g c = λ all.
    let told = λ (events : List Event). AreTold g.T.Reporter.told g.T.Reporter.faults events c.args.tellers.now.items c.tell.new.reporters.items c.tell.result.failed.items in
    subst told (c.as_slice.ensures.value ∙ c.in-Ok.ensures) (c.tell.ensures.all all)

pub returns-in-Ok-clause-cut_off : goal.returns-in-Ok-clause-cut_off
returns-in-Ok-clause-cut_off g c = λ cut.
    let told = λ (events : List Event). AreCutOff g.T.Reporter.told g.T.Reporter.faults events c.args.tellers.now.items c.tell.new.reporters.items c.tell.result.failed.items in
    subst told (c.as_slice.ensures.value ∙ c.in-Ok.ensures) (c.tell.ensures.cut_off cut)

-- there was no memory for the events

pub returns-in-Err-clause-cut_off : goal.returns-in-Err-clause-cut_off
returns-in-Err-clause-cut_off g c = λ _.
    let tellers = c.args.tellers.now.items in
    none_at_all g.T.Reporter.told g.T.Reporter.faults (map Read c.args.folders.now) tellers c.nobody-in-Err.result.items c.nobody-in-Err.ensures

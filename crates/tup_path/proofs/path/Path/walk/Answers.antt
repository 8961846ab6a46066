use Rattle.std.proofs.Common.{[], inr, sym, ap, ◌∙◌, rules, arith}
use Rattle.std.proofs.lemmas.Str.Pattern.{split_parts}
use Rattle.tup_path.specs.Resolve.{parts, walk}
use Rattle.tup_path.proofs.Walks.{walk_on}
use Rattle.tup_path.proofs.Cuts.{parts_first, parts_last, walk_stops}
use Rattle.tup_path.proofs.path.Path.walk.Goals as goal

pub returns-in_err-step : goal.returns-in_err-step
returns-in_err-step c =
    let l = c.parts in
    let cut = rw c.in-Some.is at (split_parts 47 l.rest.now c.split_once.result c.split_once.ensures.cases (omega arith)) in
    let turn = l.invariant.0 ∙ ap (walk l.path) (parts_first l.rest.now c.in-Some.part.now c.in-Some.more.now cut.0 cut.1) in
    walk_stops c.from_residual.result _ l.path c.in-Some.part.now (parts c.in-Some.more.now) c.in_err-step.field-0.0 turn (grind arith) c.in_err-step.ensures

pub parts-preserved : goal.parts-preserved
parts-preserved c =
    let l = c.parts in
    let cut = rw c.in-Some.is at (split_parts 47 l.rest.now c.split_once.result c.split_once.ensures.cases (omega arith)) in
    let turn = l.invariant.0 ∙ ap (walk l.path) (parts_first l.rest.now c.in-Some.part.now c.in-Some.more.now cut.0 cut.1) in
    (turn ∙ walk_on l.path c.step.new.self c.in-Some.part.now (parts c.in-Some.more.now) (grind arith), search rules)

pub returns-in_err-step-2 : goal.returns-in_err-step-2
returns-in_err-step-2 c =
    let l = c.parts in
    let none = rw c.in_default.is at (split_parts 47 l.rest.now c.split_once.result c.split_once.ensures.cases (omega arith)) in
    let turn = l.invariant.0 ∙ ap (walk l.path) (parts_last l.rest.now none) in
    walk_stops c.from_residual-in_err-step-2.result _ l.path l.rest.now [] c.in_err-step-2.field-0.0 turn (grind arith) c.in_err-step-2.ensures

pub returns : goal.returns
returns c =
    let l = c.parts in
    let none = rw c.in_default.is at (split_parts 47 l.rest.now c.split_once.result c.split_once.ensures.cases (omega arith)) in
    let turn = l.invariant.0 ∙ ap (walk l.path) (parts_last l.rest.now none) in
    inr (sym (turn ∙ walk_on l.path c.step-2.new.self l.rest.now [] (grind arith)))

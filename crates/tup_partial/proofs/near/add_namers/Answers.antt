use Rattle.std.proofs.Common.{◌≡◌, ◌≤◌, ℕ, List, [], Option, None, Some, length, refl, ap, sym, subst, ◌∙◌}
use Rattle.std.specs.Prelude.{option_map, slice_get, unwrap_or}
use Rattle.std.proofs.lemmas.Option.{MatchOption-at_none, slice_get_past, slice_get_read}
use Rattle.std.proofs.lemmas.Result.{on_ok_weaker}
use Rattle.tup_path.specs.Name.{Names}
use Rattle.tup_rule.specs.declared.rule.Rule.{Rule}
use Rattle.tup_graph.specs.Graph.{GraphState, outputs_of}
use Rattle.tup_closure.specs.Grows.{Grows}
use Rattle.tup_closure.proofs.Growing.{grows_nothing}
use Rattle.tup_readers.specs.Index.{HasNamed}
use Rattle.tup_partial.specs.Near.{IsIn, NamesOneOf}
use Rattle.tup_partial.proofs.Naming.{one_of_none}
use Rattle.tup_partial.proofs.near.add_namers.Goals as goal

-- the outputs of a rule that was found, and of none
found_outputs : (g : GraphState) (rules : List Rule) (number : ℕ) (found : Option Rule) → rules ≡ g.rules → slice_get rules number ≡ found → unwrap_or (option_map (λ (rule : Rule). rule.outputs) found) [] ≡ outputs_of g number
found_outputs g rules number found same is =
    ap (λ (o : Option Rule). unwrap_or (option_map (λ (rule : Rule). rule.outputs) o) []) (sym is ∙ ap (λ (l : List Rule). slice_get l number) same)

pub returns-in-Some-clause-found : goal.returns-in-Some-clause-found
returns-in-Some-clause-found c =
    let g = c.args.graph.now in
    let rules = c.rules.result.now in
    let rule = c.in-Some.rule.now in
    let here = c.in-Some.ensures.lookup.3 in
    let same = found_outputs g rules c.args.number (Some rule) (c.rules.ensures ∙ ap (λ (h : GraphState). h.rules) c.nodes.ensures)
    (slice_get_read rules (length rules) c.args.number rule refl here.0 (here.1 rule)) in
    on_ok_weaker c.add_namers_of.result (subst (λ (paths : List Names). Grows (NamesOneOf g paths) (IsIn c.args.found.now) (IsIn c.add_namers_of.new.found)) (c.as_slice.ensures ∙ same)) c.add_namers_of.ensures.found

pub returns-in-None-clause-found : goal.returns-in-None-clause-found
returns-in-None-clause-found c =
    let g = c.args.graph.now in
    let rules = c.rules.result.now in
    let past = MatchOption-at_none (length rules ≤ c.args.number) _ c.in-None.is c.get.ensures.lookup.3 in
    let none = found_outputs g rules c.args.number None (c.rules.ensures ∙ ap (λ (h : GraphState). h.rules) c.nodes.ensures) (slice_get_past rules c.args.number past) in
    subst (λ (paths : List Names). Grows (NamesOneOf g paths) (IsIn c.args.found.now) (IsIn c.args.found.now)) none (grows_nothing (one_of_none (λ (path : Names) (n : ℕ). HasNamed g n path)))

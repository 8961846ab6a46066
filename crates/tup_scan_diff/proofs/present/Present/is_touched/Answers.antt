use Rattle.std.proofs.Common.{◌≡◌, ◌∙◌, List, Some, rules, sym, subst}
use Rattle.std.specs.Prelude.{Decides}
use Rattle.std.specs.FinMap as finite
use Rattle.std.proofs.lemmas.Bool.{true≢false}
use Rattle.tup_scan_diff.specs.Present.{graph_of}
use Rattle.tup_scan_diff.specs.Touched.{AsksOther, WroteOther}
use Rattle.tup_scan_diff.proofs.Rooted.{asks_touch, rule_at, writes_touch}
use Rattle.tup_scan_diff.proofs.present.Present.is_touched.Goals as goal

pub returns-then-asks_other : goal.returns-then-asks_other
returns-then-asks_other c =
    let g = graph_of c.args.self.now in
    let rule = c.in-Some.rule.now in
    let run = c.in-Some-run_of.run'.now in
    let here = rule_at c.args.self.now.nodes.now.rules c.rules.result.now c.args.number rule c.rules.ensures c.in-Some.ensures.lookup.3 in
    let ran : finite.get c.args.self.now.nodes.now.runs c.args.number ≡ Some run = search rules in
    asks_touch g c.args.number rule run here ran (subst (λ (l : List _). AsksOther g rule l) c.as_slice.ensures (c.asks_other.ensures.0 c.if-asks_other.true))

pub returns : goal.returns
returns c =
    let g = graph_of c.args.self.now in
    let rule = c.in-Some.rule.now in
    let run = c.in-Some-run_of.run'.now in
    let here = rule_at c.args.self.now.nodes.now.rules c.rules.result.now c.args.number rule c.rules.ensures c.in-Some.ensures.lookup.3 in
    let ran : finite.get c.args.self.now.nodes.now.runs c.args.number ≡ Some run = search rules in
    writes_touch g c.args.number rule run here ran c.wrote_other.result
    (λ h. true≢false (sym (c.asks_other.ensures.1 (subst (λ (l : List _). AsksOther g rule l) (sym c.as_slice.ensures) h)) ∙ c.if-asks_other.false))
    (subst (λ (l : List _). Decides c.wrote_other.result (WroteOther g l)) c.as_slice-2.ensures c.wrote_other.ensures)

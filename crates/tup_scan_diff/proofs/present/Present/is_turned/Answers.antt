use Rattle.std.proofs.Common.{◌≡◌, List, Some, rules, subst}
use Rattle.std.specs.Prelude.{Decides}
use Rattle.std.specs.FinMap as finite
use Rattle.tup_scan_diff.specs.Turned.{AsksTurned}
use Rattle.tup_scan_diff.proofs.Rooted.{rule_at, turned_run}
use Rattle.tup_scan_diff.proofs.present.Present.is_turned.Goals as goal

pub returns : goal.returns
returns c =
    let present = c.args.self.now in
    let rule = c.in-Some.rule.now in
    let run = c.in-Some-run_of.run'.now in
    let here = rule_at present.nodes.now.rules c.rules.result.now c.args.number rule c.rules.ensures c.in-Some.ensures.lookup.3 in
    let ran : finite.get present.nodes.now.runs c.args.number ≡ Some run = search rules in
    turned_run present c.args.number rule run c.asks_turned.result here ran
    (subst (λ (l : List _). Decides c.asks_turned.result (AsksTurned present rule l)) c.as_slice.ensures c.asks_turned.ensures)

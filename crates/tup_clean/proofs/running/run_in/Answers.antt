use Rattle.std.proofs.Common.{◌≡◌, ℕ, subst, sym, ◌∙◌}
use Rattle.tup_access.specs.Access.{access}
use Rattle.tup_access.specs.Answered.{HasSeen}
use Rattle.tup_access.specs.declared.verdict.Access.TheVariants.{No}
use Rattle.tup_clean.specs.declared.view.Sight.{Sight}
use Rattle.tup_clean.proofs.Denying.{denied_text, judged_ends, judged_denied}
use Rattle.tup_clean.proofs.running.run_in.Goals as goal

pub returns-in_ok-judge-in-Ok-clause-judged : goal.returns-in_ok-judge-in-Ok-clause-judged
returns-in_ok-judge-in-Ok-clause-judged g c = λ told.
    let reports = c.in-Ok.ensures.reports in
    let sight = c.args.view.now.sight in
    let seen = subst (λ (n : ℕ). HasSeen sight.rules.now sight.rule.now sight.tree.now n c.in-Ok.report.asks c.perform.new.view.asked) c.requires.unasked reports.came_by.1 in
    judged_ends _ sight.rules.now sight.rule.now sight.tree.now c.in-Ok.report.asks _ seen c.in-Ok.report.dir c.in-Ok.report.text c.in-Ok.report.ended c.ended.result.now _ _
    reports.dir_is reports.text_is (c.in-Ok.report.means told) c.ended.ensures c.in_ok-judge-in-Ok.ensures

pub returns-in-Err-Denied-clause-judged : goal.returns-in-Err-Denied-clause-judged
returns-in-Err-Denied-clause-judged g c = λ told.
    let was = rw c.in-Err-Denied.field-0-is at c.in-Err-Denied.ensures.refuses in
    let view = c.perform.new.view in
    let kept = sym c.take.ensures.value ∙ c.unwrap-verdict.ensures in
    let sight = c.args.view.now.sight in
    let seen = subst (λ (n : ℕ). HasSeen sight.rules.now sight.rule.now sight.tree.now n was.asks view.asked) c.requires.unasked was.came_by.1 in
    let denied = view.denies c.unwrap-verdict.result.0 c.unwrap-verdict.result.1 kept in
    let here = subst (λ (s : Sight). access s.rules.now s.rule.now view.asked c.unwrap-verdict.result.0 ≡ No c.unwrap-verdict.result.1) was.came_by.0 denied in
    judged_denied _ sight.rules.now sight.rule.now sight.tree.now was.asks _ seen c.unwrap-verdict.result.0 was.last c.unwrap-verdict.result.1 _
    (was.means told) (denied_text view.denied c.unwrap-verdict.result was.last _ kept was.refused) here c.new.ensures

use Rattle.std.proofs.Common.{rules, true, ◌≡◌, sym, ◌∙◌}
use Rattle.std.proofs.lemmas.Bool.{not-false}
use Rattle.tup_demo.proofs.Passing.{is_among, put_never_fails}
use Rattle.tup_demo.proofs.steady_calls.SteadySiteSite.put.Goals as goal

pub returns-clause-cause : goal.returns-clause-cause
returns-clause-cause c =
    let is : c.contains.result ≡ true = search (rules, not-false) in
    let old = c.args.self.now in
    let known = old.knows c.args.content.now (is_among c.deref.result.now old.contents.items c.args.content.now c.deref.ensures.value (sym c.contains.ensures.value ∙ is)) in
    put_never_fails old.site c.put.new.self c.args.content.now c.put.result old.is_calm known c.put.ensures.counted

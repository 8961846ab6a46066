use Rattle.std.proofs.Common.{◌≡◌, true, false, cond, [], ap, sym, ◌∙◌}
use Rattle.std.specs.Prelude.{unwrap_or}
use Rattle.std.proofs.lemmas.Result.{IfOk-weaker}
use Rattle.tup_path.specs.Order.{same_path}
use Rattle.tup_refresh.proofs.outline.content_at.Goals as goal

pub returns-then-eq : goal.returns-then-eq
returns-then-eq c =
    let at : same_path c.args.path.now c.args.top.now ≡ true = sym c.eq.ensures ∙ c.if-eq.true in
    IfOk-weaker c.content_of.result _ _ (λ content is. is ∙ sym (ap (λ b. cond b (unwrap_or c.args.config.now []) []) at)) c.content_of.ensures

pub returns : goal.returns
returns c =
    let elsewhere : same_path c.args.path.now c.args.top.now ≡ false = sym c.eq.ensures ∙ c.if-eq.false in
    c.new-2.ensures ∙ c.new.ensures.items ∙ sym (ap (λ b. cond b (unwrap_or c.args.config.now []) []) elsewhere)

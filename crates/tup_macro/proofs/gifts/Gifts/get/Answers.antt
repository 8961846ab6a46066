use Rattle.std.proofs.Common.{sym, ◌∙◌}
use Rattle.tup_macro.proofs.Giving.{members-seen, seen-shown}
use Rattle.tup_macro.proofs.gifts.Gifts.get.Goals as goal

pub returns : goal.returns
returns g c =
    let eq = g.K.PartialEq.eq in
    seen-shown (λ r. r.now) c.get.result ∙ sym (members-seen eq c.args.key.now c.self.inside.given.entries c.args.self.now _ c.self.view_is c.get.ensures.value)

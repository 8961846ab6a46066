use Rattle.std.proofs.Common.{◌≡◌, ◌∷◌, [], ◌∙◌, ap, rules}
use Rattle.tup_macro.proofs.Giving.{seen, seen-begun, absent-seen}
use Rattle.tup_macro.proofs.gifts.Gifts.begin.Goals as goal

pub returns-clause-given : goal.returns-clause-given
returns-clause-given g c =
    let eq = g.K.PartialEq.eq in
    let kept = c.self.inside.given in
    let one : c.insert.new.self.keys ≡ c.args.path ∷ [] = search rules in
    let absent = absent-seen eq c.args.key kept.entries c.args.self.now c.self.view_is c.requires in
    ap seen c.in_ok-insert-2.ensures.entries ∙ seen-begun eq kept c.args.self.now c.args.key c.insert.new.self c.args.path c.self.view_is absent one

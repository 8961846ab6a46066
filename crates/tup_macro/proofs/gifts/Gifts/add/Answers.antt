use Rattle.std.proofs.Common.{◌≡◌, ◌++◌, ◌∷◌, [], ◌∙◌, ap, subst, sym, refl, rules, None, Err, OnOk}
use Rattle.tup_macro.proofs.Giving.{seen, members-seen, seen-kept, seen-given}
use Rattle.tup_macro.specs.Gifts.{members_of, with_gift}
use Rattle.tup_macro.specs.declared.fault.MacroFault.TheVariants.{Memory}
use Rattle.tup_macro.proofs.gifts.Gifts.add.Goals as goal

pub begin-requires : goal.begin-requires
begin-requires g c =
    members-seen g.K.PartialEq.eq c.args.key c.self.inside.given.entries _ None (ap (λ kept. seen kept.entries) (sym c.get_mut.follows.holds-at-none)) c.in_default.ensures.value

pub returns-in_default-clause-given : goal.returns-in_default-clause-given
returns-in_default-clause-given g c =
    let eq = g.K.PartialEq.eq in
    let absent : members_of eq c.args.self.now c.args.key ≡ None = members-seen eq c.args.key c.self.inside.given.entries c.args.self.now None c.self.view_is c.in_default.ensures.value in
    let same = ap (λ kept. seen kept.entries) c.get_mut.follows.holds-at-none ∙ c.self.view_is in
    rw absent (subst (λ gifts. OnOk c.begin.result (c.begin.new.self ≡ gifts ++ (c.args.key, c.args.path ∷ []) ∷ [])) same c.begin.ensures.given)

pub returns-in_err-insert-clause-refused : goal.returns-in_err-insert-clause-refused
returns-in_err-insert-clause-refused g c =
    let memory : c.from_residual.result ≡ Err Memory = search rules in
    let kept = seen-kept g.K.PartialEq.eq c.args.key c.self.inside.given.entries c.in-Some.members.now c.insert.new.self (sym c.in-Some.ensures.value) c.in_err-insert.ensures.err in
    rw memory (refl, ap seen (c.get_mut.follows.holds c.insert.new.self).0 ∙ kept ∙ c.self.view_is)

pub returns-clause-given : goal.returns-clause-given
returns-clause-given g c =
    ap seen (c.get_mut.follows.holds c.insert.new.self).0
    ∙ seen-given g.K.PartialEq.eq c.args.key c.self.inside.given.entries c.in-Some.members.now c.insert.new.self c.args.path (sym c.in-Some.ensures.value) c.in_ok-insert.ensures.keys
    ∙ ap (λ gifts. with_gift g.K.PartialEq.eq gifts c.args.key c.args.path) c.self.view_is

use Rattle.std.proofs.Common.{◌≡◌, sym, refl, rules, None, Some, Err}
use Rattle.tup_macro.proofs.Giving.{members-seen}
use Rattle.tup_macro.specs.Gifts.{members_of}
use Rattle.tup_macro.specs.declared.fault.MacroFault.TheVariants.{Memory}
use Rattle.tup_macro.proofs.gifts.Gifts.members.Goals as goal

pub returns-in_err-listed-in-Some-clause-refused : goal.returns-in_err-listed-in-Some-clause-refused
returns-in_err-listed-in-Some-clause-refused g c =
    let eq = g.K.PartialEq.eq in
    let there : members_of eq c.args.self.now c.args.key.now ≡ Some c.in-Some.members.now.keys =
    members-seen eq c.args.key.now c.self.inside.given.entries c.args.self.now (Some c.in-Some.members.now) c.self.view_is c.in-Some.ensures.value in
    let memory : c.from_residual.result ≡ Err Memory = search rules in
    rw (memory, there) (refl, refl)

pub returns-in_ok-listed-in-Some-clause-members : goal.returns-in_ok-listed-in-Some-clause-members
returns-in_ok-listed-in-Some-clause-members g c =
    let eq = g.K.PartialEq.eq in
    let there : members_of eq c.args.self.now c.args.key.now ≡ Some c.in-Some.members.now.keys =
    members-seen eq c.args.key.now c.self.inside.given.entries c.args.self.now (Some c.in-Some.members.now) c.self.view_is c.in-Some.ensures.value in
    rw (there, c.in_ok-listed-in-Some.ensures.listed) refl

pub returns-in-None-clause-members : goal.returns-in-None-clause-members
returns-in-None-clause-members g c =
    let eq = g.K.PartialEq.eq in
    sym (members-seen eq c.args.key.now c.self.inside.given.entries c.args.self.now None c.self.view_is c.in-None.ensures.value)

use Rattle.std.proofs.Common.{ap, ◌∙◌}
use Rattle.tup_vars.specs.Table.{look, named}
use Rattle.tup_vars.proofs.Tables.{look-named, grown-named, same-named, begun-named}
use Rattle.tup_vars.proofs.table.Table.extend.Goals as goal

pub returns-in-Some-clause-ok : goal.returns-in-Some-clause-ok
returns-in-Some-clause-ok c =
    grown-named c.args.name.now c.self.inside.entries.entries _ c.args.self.now c.in-Some.value.now c.args.more.now c.push_str.new.self c.self.view_is c.in-Some.ensures.value (c.get_mut.follows.holds c.push_str.new.self).0
    c.push_str.result c.push_str.ensures.ok

pub returns-in-Some-clause-err : goal.returns-in-Some-clause-err
returns-in-Some-clause-err c =
    same-named c.args.name.now c.self.inside.entries.entries _ c.args.self.now c.in-Some.value.now c.args.more.now c.push_str.new.self c.self.view_is c.in-Some.ensures.value (c.get_mut.follows.holds c.push_str.new.self).0
    c.push_str.result c.push_str.ensures.err

pub returns-in_ok-from_str-in-None-clause-ok : goal.returns-in_ok-from_str-in-None-clause-ok
returns-in_ok-from_str-in-None-clause-ok c =
    let same = ap (λ kept. named kept.entries) c.get_mut.follows.holds-at-none ∙ c.self.view_is in
    let none = c.in-None.ensures.value ∙ look-named c.args.name.now c.self.inside.entries.entries ∙ ap (λ t. look t c.args.name.now) c.self.view_is in
    begun-named c.put.result c.args.name.now c.in_ok-from_str-in-None.field-0 c.args.more.now _ c.args.self.now c.put.new.self same none c.in_ok-from_str-in-None.ensures c.put.ensures.ok

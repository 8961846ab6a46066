use Rattle.std.proofs.Common.{◌∙◌, ap}
use Rattle.tup_stamp.specs.Stamp.{stamp}
use Rattle.tup_stamp.specs.declared.Stamp.{Stamp}
use Rattle.tup_site.specs.Held.{under, may_take}
use Rattle.tup_site.specs.Memory.{known_in}
use Rattle.tup_site.proofs.Held.{joins_just}
use Rattle.tup_site.proofs.memory.MemSite.may_join.Goals as goal

pub returns : goal.returns
returns c =
    let site = c.args.self.now in
    joins_just site.known.contents.entries (known_in site) c.args.content.now c.may_take.result site.is_held
    (c.may_take.ensures ∙ ap (λ (s : Stamp). may_take (under site.known.contents.entries s) c.args.content.now) (c.stamp_of.ensures ∙ ap stamp c.as_slice.ensures))

use Rattle.std.proofs.Common.{◌≡◌, Some, option_map, sym, ap, ◌∙◌}
use Rattle.std.specs.FinMap as finite
use Rattle.tup_stamp.specs.Stamp.{stamp}
use Rattle.tup_stale.proofs.looking.has_file.Goals as goal

pub returns-clause-none : goal.returns-clause-none
returns-clause-none g c = λ tells.
    let tree = (g.S.Site.world c.args.site.now).tree in
    let found : finite.get tree c.args.path.now ≡ Some c.in-Some.content = sym (c.in_ok-content.ensures.content tells) ∙ c.in-Some.is in
    c.in_ok-refuse_users.ensures.none tree (ap (option_map stamp) found ∙ ap Some (sym (c.stamp_of.ensures ∙ ap stamp c.as_slice.ensures)))

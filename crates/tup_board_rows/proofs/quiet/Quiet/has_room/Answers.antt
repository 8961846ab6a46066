use Rattle.std.proofs.Common.{◌≡◌, List, Result, sym, ap, ◌∙◌, subst}
use Rattle.std.specs.FinMap as finite
use Rattle.std.specs.Result.{IfOk}
use Rattle.tup_path.specs.Name.{Names}
use Rattle.tup_site.specs.World.{World}
use Rattle.tup_site.specs.Memory.{tree_in}
use Rattle.tup_site.specs.declared.memory.MemSite.{MemSite}
use Rattle.tup_site.specs.declared.fault.SiteFailed.{SiteFailed}
use Rattle.tup_board_rows.proofs.Placed.{place_is}
use Rattle.tup_board_rows.proofs.quiet.Quiet.has_room.Goals as goal

pub returns-clause-place : goal.returns-clause-place
returns-clause-place c = λ is.
    let was = tree_in c.args.self.now.site in
    let listed : c.in_ok-paths.paths ≡ finite.keys was =
    subst (λ (r : Result (List Names) SiteFailed). IfOk r (λ paths. paths ≡ finite.keys was)) (sym c.told.ensures.same ∙ c.in_ok-paths.was) c.list-paths.ensures.paths in
    let keys = c.as_slice.ensures ∙ listed ∙ ap (λ (w : World). finite.keys w.tree) (sym c.list-paths.ensures.same) ∙ ap (λ (s : MemSite). finite.keys (tree_in s)) (sym c.told.ensures.site) in
    place_is (tree_in c.told.new.self.site) c.as_slice.result.now c.args.path.now keys (c.may_stand.ensures.0 is)

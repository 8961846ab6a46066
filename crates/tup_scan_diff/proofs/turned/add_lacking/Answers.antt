use Rattle.std.proofs.Common.{List, ◌∷◌, [], sym, subst, map}
use Rattle.std.specs.Map.Iter.{deref}
use Rattle.std.proofs.lemmas.List.{map-append}
use Rattle.tup_path.specs.Name.{Names}
use Rattle.tup_path.specs.Order.{by_names}
use Rattle.tup_scan_diff.specs.Sets.{GrowsBy}
use Rattle.tup_scan_diff.specs.Turned.{IsLacking}
use Rattle.tup_scan_diff.proofs.Folders.{lacking_more}
use Rattle.tup_scan_diff.proofs.turned.add_lacking.Goals as goal

pub loop-path-preserved : goal.loop-path-preserved
loop-path-preserved c =
    subst (λ (l : List Names). GrowsBy by_names (IsLacking c.args.other.now l) c.args.paths.now c.add_if_lacking.new.paths) (sym (map-append deref c.loop-path.yielded (c.in-Some.path ∷ [])))
    (lacking_more c.args.other.now (map deref c.loop-path.yielded) c.in-Some.path.now c.args.paths.now c.loop-path.paths c.add_if_lacking.new.paths c.loop-path.invariant c.in_ok-add_if_lacking.ensures.added)

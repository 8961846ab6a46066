use Rattle.std.proofs.Common.{Some, sym, ap, ◌∙◌}
use Rattle.std.specs.Map.Iter.{deref_pair}
use Rattle.std.specs.Option.{option_map}
use Rattle.tup_path.specs.Name.{Names}
use Rattle.tup_path.proofs.Same.{same_path-decides}
use Rattle.tup_scan_diff.proofs.stamps.seen_there.Goals as goal

pub returns-in-Some : goal.returns-in-Some
returns-in-Some c =
    ap (option_map deref_pair) c.in-Some.is
    ∙ ap (λ (p : Names). Some (p, c.in-Some.stamp.now)) ((same_path-decides c.in-Some.known.now c.args.path.now).0 (sym c.eq.ensures ∙ c.if-eq.true))

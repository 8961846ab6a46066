use Rattle.std.proofs.Common.{List, ℕ, subst}
use Rattle.std.specs.Prelude.{Contains}
use Rattle.tup_path.specs.Order.{by_bytes}
use Rattle.tup_scan_diff.specs.Sets.{GrowsBy}
use Rattle.tup_scan_diff.proofs.Named.{all_names}
use Rattle.tup_scan_diff.proofs.present.Present.name_set.Goals as goal

pub returns-clause-names : goal.returns-clause-names
returns-clause-names c =
    all_names c.args.self.now c.requires.present.0 c.requires.present.1 c.args.reader.now c.args.dir.now c.new-names.result c.add_names.new.names c.add_outputs.new.names c.new-names.ensures.empty
    (subst (λ (l : List (List ℕ)). GrowsBy by_bytes (Contains l) c.new-names.result c.add_names.new.names) c.of.ensures c.in_ok-add_names.ensures.names)
    c.in_ok-add_outputs.ensures.names

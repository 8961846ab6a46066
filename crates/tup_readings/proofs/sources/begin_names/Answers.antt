use Rattle.std.proofs.Common.{ℕ, List, Option, sym, ap, ◌∙◌}
use Rattle.std.specs.Prelude.{option_map}
use Rattle.std.specs.BTreeMap.{get}
use Rattle.std.specs.BTreeSet.{BTreeSet, insert_key}
use Rattle.tup_path.specs.Order.{by_bytes, by_names}
use Rattle.tup_readings.specs.Index.{or_none}
use Rattle.tup_readings.proofs.Indexed.{name_added}
use Rattle.tup_readings.proofs.sources.begin_names.Goals as goal

pub returns : goal.returns
returns c =
    let dir = c.args.dir in
    let old = c.args.folders.now in
    λ other. name_added dir other c.args.name (get by_names old other) (get by_names c.insert-2.new.self other) c.insert.new.self
    (c.in_ok-insert-2.ensures.updates.0 other)
    (λ same.
    c.in_ok-insert.ensures.keys ∙ ap (λ (keys : List (List ℕ)). insert_key by_bytes keys c.args.name) c.new-names.ensures.empty
    ∙ ap (λ (found : Option (BTreeSet (List ℕ))). insert_key by_bytes (or_none (option_map (λ (s : BTreeSet (List ℕ)). s.keys) found)) c.args.name)
    (sym (ap (get by_names old) same ∙ c.requires)))

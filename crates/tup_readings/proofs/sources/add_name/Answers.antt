use Rattle.std.proofs.Common.{◌≡◌, ℕ, List, ◌∷◌, [], ◌++◌, Option, true, is_some, refl, sym, ap, ◌∙◌}
use Rattle.std.specs.Prelude.{option_map}
use Rattle.std.specs.BTreeMap.{get}
use Rattle.std.specs.BTreeSet.{BTreeSet, insert_key}
use Rattle.tup_path.specs.Order.{by_bytes, by_names}
use Rattle.tup_readings.specs.Index.{or_none}
use Rattle.tup_readings.proofs.Indexed.{all_above, file_added, name_added}
use Rattle.tup_readings.proofs.sources.add_name.Goals as goal

pub returns : goal.returns
returns c =
    let dir = c.args.dir in
    let name = c.args.name in
    let old = c.args.folders.now in
    let set = c.insert.new.self in
    let there : is_some (get by_names old dir) ≡ true = ap is_some (sym c.in-Some.ensures.value) in
    file_added (dir ++ name ∷ []) dir name old old (c.get_mut.follows.lender set) refl (all_above old dir there)
    (λ other. name_added dir other name (get by_names old other) (get by_names (c.get_mut.follows.lender set) other) set
    (((c.get_mut.follows.holds set).3 there).0 other)
    (λ same.
    c.in_ok-insert.ensures.keys
    ∙ ap (λ (found : Option (BTreeSet (List ℕ))). insert_key by_bytes (or_none (option_map (λ (s : BTreeSet (List ℕ)). s.keys) found)) name)
    (c.in-Some.ensures.value ∙ ap (get by_names old) (sym same))))

use Rattle.std.proofs.Common.{Some, is_some, subst, sym, ap, ◌∙◌}
use Rattle.std.specs.BTreeMap.{get}
use Rattle.tup_path.specs.Order.{by_names}
use Rattle.tup_readings.specs.Index.{IsParted, names_of, or_none}
use Rattle.tup_readings.proofs.Indexed.{none_there, nothing_added, folder_added, folder_there}
use Rattle.tup_readings.proofs.sources.+add_folders.Goals as goal

pub returns-in_default : goal.returns-in_default
returns-in_default t c =
    let top = subst (IsParted c.args.path.now) c.in_default.is c.in_ok-dir.ensures in
    λ dir. nothing_added c.args.path.now dir (Some (or_none (names_of c.args.folders.now dir))) (names_of c.args.folders.now dir) top

pub returns-in_ok-insert : goal.returns-in_ok-insert
returns-in_ok-insert t c =
    let parted = subst (IsParted c.args.path.now) c.in-Some.is c.in_ok-dir.ensures in
    let mid = c.add_folders.new.folders in
    let a = c.contains_key.ensures in
    let b = c.if-not-contains_key.true in
    λ dir. folder_added c.args.path.now c.in-Some.dir dir c.in-Some.field-0-1 (names_of c.args.folders.now dir) (get by_names mid dir) (get by_names c.insert.new.self dir) c.new.result parted
    (c.in_ok-add_folders.ensures dir) (λ same. ap (get by_names mid) same ∙ none_there (get by_names mid c.in-Some.dir) (sym a ∙ b)) (c.in_ok-insert.ensures.updates.0 dir) c.new.ensures.empty

pub returns-else-not-contains_key : goal.returns-else-not-contains_key
returns-else-not-contains_key t c =
    let parted = subst (IsParted c.args.path.now) c.in-Some.is c.in_ok-dir.ensures in
    let mid = c.add_folders.new.folders in
    let a = c.contains_key.ensures in
    let b = c.if-not-contains_key.false in
    λ dir. folder_there c.args.path.now c.in-Some.dir dir c.in-Some.field-0-1 (names_of c.args.folders.now dir) (get by_names mid dir) parted
    (c.in_ok-add_folders.ensures dir) (λ same. ap (λ d. is_some (get by_names mid d)) same ∙ sym a ∙ b)

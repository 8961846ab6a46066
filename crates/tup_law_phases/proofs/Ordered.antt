-- What a refresh gives is in the order of folders, and so are the rules to which it links.
use Rattle.std.proofs.Common.{◌≡◌, ◌⊎◌, inl, inr, zero, suc, true, false, List, [], ◌∷◌, ◌++◌, map, Result, Ok, Err, Contains, refl, sym, ap, ◌∙◌, subst}
use Rattle.std.specs.FinMap as finite
use Rattle.std.specs.FinMap.Entries.{below_all}
use Rattle.std.specs.List.{AllByRecursion, IsDistinct}
use Rattle.std.specs.Ordering.{is_eq, is_lt}
use Rattle.std.specs.declared.cmp.Ordering.{Ordering}
use Rattle.std.specs.declared.cmp.Ordering.TheVariants.{Less, Equal, Greater}
use Rattle.std.proofs.lemmas.Bool.{and_parts, false≢true, true≢false}
use Rattle.std.proofs.lemmas.List.Elements.{Contains-append_cases}
use Rattle.std.proofs.lemmas.Option.{same_Some, none-some}
use Rattle.tup_path.specs.Name.{Names}
use Rattle.tup_path.specs.Order.{by_names, same_path, same_path-by_names}
use Rattle.tup_path.specs.Tree.{Tree}
use Rattle.tup_path.proofs.Same.{by_names-decides}
use Rattle.tup_rule.specs.declared.draft.Draft.{Draft}
use Rattle.tup_rule.specs.declared.question.Reading.{Reading}
use Rattle.tup_rule.specs.declared.rule.Rule.{Rule}
use Rattle.tup_vars.specs.Table.{Entries}
use Rattle.tup_vars.specs.declared.fault.ConfigFault.{ConfigFault}
use Rattle.tup_readings.specs.Sources.{settings_of}
use Rattle.tup_link.specs.Groups.{members}
use Rattle.tup_link.specs.Linked.{Members, rule_of, rules_of}
use Rattle.tup_link.specs.Placed.{Placed, drafts_of, placed, placed_in}
use Rattle.tup_project.specs.Project.{AreLinked}
use Rattle.tup_graph.specs.Graph.{GraphState}
use Rattle.tup_readers.proofs.Entries.{front_or_behind, none_in}
use Rattle.tup_rule_diff.specs.Edits.{dir_of}
use Rattle.tup_rule_diff.specs.Order.{AreByFolder}
use Rattle.tup_refresh.specs.declared.refreshed.Refreshed.{Refreshed}
use Rattle.tup_refresh.specs.Refresh.{AreSorted, IsRefresh, IsRefreshWith}
use Rattle.tup_law_graph.proofs.Lists.{at_place, in_flat_map, in_map}

-- ---- folders in order

less_apart : (o : Ordering) → is_lt o ≡ true → is_eq o ≡ false
less_apart Less less = refl
less_apart Equal less = absurd (false≢true less)
less_apart Greater less = absurd (false≢true less)

less_no_greater : (o : Ordering) → is_lt o ≡ true → o ≡ Greater → ⊥
less_no_greater Less less e = cc
less_no_greater Equal less e = false≢true less
less_no_greater Greater less e = false≢true less

not_after_itself : (dir : Names) → by_names dir dir ≡ Greater → ⊥
not_after_itself dir e = true≢false (sym ((by_names-decides dir dir).1 refl) ∙ ap is_eq e)

-- folders behind another one
each_behind : (dir : Names) (list : List (Names × Reading)) (read : Names × Reading) → below_all by_names dir list ≡ true → Contains list read → is_lt (by_names dir read.0) ≡ true
each_behind dir [] read below h = absurd (none_in read h)
each_behind dir (first ∷ list) read below h = by (front_or_behind first read list h) (and_parts (is_lt (by_names dir first.0)) (below_all by_names dir list) below) (each_behind dir list read)
  where
    by : (first ≡ read) ⊎ Contains list read → (is_lt (by_names dir first.0) ≡ true) × (below_all by_names dir list ≡ true) → (below_all by_names dir list ≡ true → Contains list read → is_lt (by_names dir read.0) ≡ true)
        → is_lt (by_names dir read.0) ≡ true
    by (inl same) parts later = subst (λ (r : Names × Reading). is_lt (by_names dir r.0) ≡ true) same parts.0
    by (inr behind) parts later = later parts.1 behind

all_other : (dir : Names) (list : List (Names × Reading)) → below_all by_names dir list ≡ true → AllByRecursion (λ other. same_path dir other ≡ false) (map dir_of list)
all_other dir [] below = tt
all_other dir (first ∷ list) below =
    let parts = and_parts (is_lt (by_names dir first.0)) (below_all by_names dir list) below in
    (same_path-by_names dir first.0 ∙ less_apart (by_names dir first.0) parts.0, all_other dir list parts.1)

distinct : (list : List (Names × Reading)) → finite.is_sorted by_names list ≡ true → IsDistinct same_path (map dir_of list)
unfolding IsDistinct
distinct [] up = tt
distinct (first ∷ list) up =
    let parts = and_parts (below_all by_names first.0 list) (finite.is_sorted by_names list) up in
    (all_other first.0 list parts.0, distinct list parts.1)

-- ---- rules

module _ (group_has : Members) where
  -- a rule of a folder, or of one behind it
  not_before : (dir : Names) (drafts : List Draft) (more : List (Names × Reading)) (one : Placed) → below_all by_names dir more ≡ true → Contains (map (placed_in dir) drafts ++ placed more) one → by_names dir one.dir ≡ Greater → ⊥
  not_before dir drafts more one below h after = elim (Contains-append_cases (map (placed_in dir) drafts) (placed more) one h) [
    | inl here ↦ (let draft = in_map (placed_in dir) drafts one here in not_after_itself dir (ap (λ (p : Placed). by_names dir p.dir) draft.2 ∙ after))
    | inr there ↦
        let folder = in_flat_map (λ (read : Names × Reading). map (placed_in read.0) read.1.drafts) more one there in
        let draft = in_map (placed_in folder.0.0) folder.0.1.drafts one folder.2 in
        less_no_greater (by_names dir folder.0.0) (each_behind dir more folder.0 below folder.1) (ap (λ (p : Placed). by_names dir p.dir) draft.2 ∙ after)
  ]

  folder_by_folder : (dir : Names) (drafts : List Draft) (more : List (Names × Reading)) → below_all by_names dir more ≡ true → AreByFolder (map (rule_of group_has) (placed more))
      → AreByFolder (map (rule_of group_has) (map (placed_in dir) drafts ++ placed more))
  folder_by_folder dir [] more below rest number rule next here there after = rest number rule next here there after
  folder_by_folder dir (draft ∷ drafts) more below rest zero rule next here there after =
      let one = in_map (rule_of group_has) (map (placed_in dir) drafts ++ placed more) next (at_place (map (rule_of group_has) (map (placed_in dir) drafts ++ placed more)) 0 next there) in
      let first : rule_of group_has (placed_in dir draft) ≡ rule = same_Some (rule_of group_has (placed_in dir draft)) rule here in
      not_before dir drafts more one.0 below one.1 (ap (λ (r : Rule). by_names dir r.dir) one.2 ∙ ap (λ (r : Rule). by_names r.dir next.dir) first ∙ after)
  folder_by_folder dir (draft ∷ drafts) more below rest (suc number) rule next here there after = folder_by_folder dir drafts more below rest number rule next here there after

  by_folder : (list : List (Names × Reading)) → finite.is_sorted by_names list ≡ true → AreByFolder (map (rule_of group_has) (placed list))
  by_folder [] up number rule next here there after = none-some rule here
  by_folder (read ∷ more) up number rule next here there after =
      let parts = and_parts (below_all by_names read.0 more) (finite.is_sorted by_names more) up in
      folder_by_folder read.0 read.1.drafts more parts.0 (by_folder more parts.1) number rule next here there after

linked_by_folder : (list : List (Names × Reading)) (rules : List Rule) → finite.is_sorted by_names list ≡ true → AreLinked list rules → AreByFolder rules
unfolding rules_of
linked_by_folder list rules up linked = subst AreByFolder (sym linked.are) (by_folder (members (drafts_of (placed list))) list up)

pub sorted_may_be_swapped : (given : Refreshed) (rules : List Rule) → AreSorted given → AreLinked given.all rules → IsDistinct same_path (map dir_of given.fresh) × AreByFolder rules
sorted_may_be_swapped given rules up linked = (distinct given.fresh up.fresh, linked_by_folder given.all rules up.all linked)

pub may_be_swapped : (g : GraphState) (sources : Tree) (given : Refreshed) (rules : List Rule) → IsRefresh g sources (Ok given) → AreLinked given.all rules → IsDistinct same_path (map dir_of given.fresh) × AreByFolder rules
may_be_swapped g sources given rules refreshed linked = by (settings_of sources) refreshed
  where
    by : (found : Result Entries ConfigFault) → IsRefreshWith g sources found (Ok given) → IsDistinct same_path (map dir_of given.fresh) × AreByFolder rules
    by (Ok settings) is = sorted_may_be_swapped given rules (record { all = is.read.0; fresh = is.sorted }) linked
    by (Err fault) (inl wrong) = absurd (cc)
    by (Err fault) (inr wrong) = absurd (cc)

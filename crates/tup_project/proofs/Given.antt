-- The rules that the readings of all folders come to: each makes what no rule before it makes, where the rules of its folder alone may.
use Rattle.std.proofs.Common.{◌≡◌, inl, inr, Bool, true, false, cond, ◌||◌, List, [], ◌∷◌, ◌++◌, map, Some, None, Result, Ok, Err, IsTrue, refl, sym, ap, ◌∙◌, subst, append_assoc, append-nil}
use Rattle.std.specs.Bool.{passes}
use Rattle.std.specs.FinMap as finite
use Rattle.std.specs.FinMap.Entries.{below_all}
use Rattle.std.specs.Ordering.{is_eq, is_lt, eq_by_cmp}
use Rattle.std.specs.declared.cmp.Ordering.{Ordering}
use Rattle.std.specs.declared.cmp.Ordering.TheVariants.{Less, Equal, Greater}
use Rattle.std.proofs.lemmas.Bool.{and_parts}
use Rattle.std.proofs.lemmas.List.{map-append}
use Rattle.std.proofs.lemmas.List.Elements.{All-weaker}
use Rattle.std.proofs.lemmas.List.Folds.{list_any-append, list_any_none}
use Rattle.tup_path.specs.Name.{Names}
use Rattle.tup_path.specs.Order.{by_names, same_path, same_path-by_names}
use Rattle.tup_path.specs.Tree.{Tree, IsTree}
use Rattle.tup_path.proofs.Same.{same_path-decides}
use Rattle.tup_rule.specs.declared.draft.Draft.{Draft}
use Rattle.tup_rule.specs.declared.question.Reading.{Reading}
use Rattle.tup_rule.specs.declared.rule.Rule.{Rule}
use Rattle.tup_rule.specs.Rule.{among, writes, is_generated}
use Rattle.tup_clean.specs.Buildable.{IsBuildable}
use Rattle.tup_vars.specs.Table.{Entries}
use Rattle.tup_vars.specs.declared.fault.ConfigFault.{ConfigFault}
use Rattle.tup_rule_line.specs.State.{is_made}
use Rattle.tup_readings.specs.Readings.{AreAllReadings, AreReadWith, IsOutcome}
use Rattle.tup_readings.specs.Sources.{has_tupfile, settings_of}
use Rattle.tup_readings.proofs.One.{of_tupfiles}
use Rattle.tup_link.specs.Groups.{members}
use Rattle.tup_link.specs.Linked.{Members, rule_of, rules_of}
use Rattle.tup_link.specs.Placed.{placed_in, placed, drafts_of}
use Rattle.tup_project.specs.Project.{AreLinked}
use Rattle.tup_project.proofs.Making.{MakesHere, AllMakeHere, all_keep}
use Rattle.tup_project.proofs.Standing.{home_of, home_above_it, IsNew, AreNew, new_append, can_stand}

-- ---- paths and their order

apart : (one other : Names) → (one ≡ other → ⊥) → same_path one other ≡ false
apart one other differ = by (same_path one other) refl
  where
    by : (b : Bool) → same_path one other ≡ b → b ≡ false
    by false e = refl
    by true e = absurd (differ ((same_path-decides one other).0 e))

less_apart : (o : Ordering) → is_lt o ≡ true → is_eq o ≡ false
less_apart Less less = refl
less_apart Equal less = cc
less_apart Greater less = refl

module _ (sources : Tree) (group_has : Members) where
  abbrev rules_here : Names → List Draft → List Rule
  rules_here dir drafts = map (rule_of group_has) (map (placed_in dir) drafts)

  generated_here : (dir : Names) (drafts : List Draft) (path : Names) → is_generated (rules_here dir drafts) path ≡ is_made drafts path
  generated_here dir [] path = refl
  generated_here dir (draft ∷ more) path = ap (λ b. among path draft.outputs || b) (generated_here dir more path)

  -- none of some rules makes a file that a folder's rules alone may make
  abbrev IsApart : List Rule → Names → Type 0
  IsApart rules dir = (path : Names) → home_of sources path ≡ Some dir → is_generated rules path ≡ false

  -- ---- the rules of one folder

  one_more : (before : List Rule) (dir : Names) (made : List Draft) (draft : Draft)
      → before ++ rules_here dir (made ++ draft ∷ []) ≡ (before ++ rules_here dir made) ++ rule_of group_has (placed_in dir draft) ∷ []
  one_more before dir made draft =
      ap (λ (rules : List Rule). before ++ rules)
      (ap (map (rule_of group_has)) (map-append (placed_in dir) made (draft ∷ [])) ∙ map-append (rule_of group_has) (map (placed_in dir) made) (placed_in dir draft ∷ []))
      ∙ sym (append_assoc before (rules_here dir made) (rule_of group_has (placed_in dir draft) ∷ []))

  folder_new : (before : List Rule) (dir : Names) (made drafts : List Draft) → IsApart before dir → has_tupfile sources dir ≡ true → AllMakeHere sources dir made drafts
      → AreNew sources (before ++ rules_here dir made) (rules_here dir drafts)
  folder_new before dir made [] none has all = tt
  folder_new before dir made (draft ∷ more) none has ((here, flat), rest) = (
    (All-weaker (MakesHere sources dir made) (IsNew sources (before ++ rules_here dir made) (rule_of group_has (placed_in dir draft))) new draft.outputs here, flat),
    subst (λ (rules : List Rule). AreNew sources rules (rules_here dir more)) (one_more before dir made draft) (folder_new before dir (made ++ draft ∷ []) more none has rest),
  )
    where
      -- of the rules so far those of the folder make what the folder's rules alone may make
      made_so_far : (path : Names) → home_of sources path ≡ Some dir → is_generated (before ++ rules_here dir made) path ≡ is_made made path
      made_so_far path home =
          list_any-append (λ (rule : Rule). writes rule path) before (rules_here dir made)
          ∙ ap (λ b. b || is_generated (rules_here dir made) path) (none path home)
          ∙ generated_here dir made path

      new : (path : Names) → MakesHere sources dir made path → IsNew sources (before ++ rules_here dir made) (rule_of group_has (placed_in dir draft)) path
      new path makes = record {
        has = has;
        home = makes.home;
        no_file = makes.no_file;
        no_source = makes.no_source;
        no_folder = makes.no_folder;
        new = made_so_far path makes.home ∙ makes.new;
        apart = λ other generated home. makes.apart other (sym (made_so_far other home) ∙ generated) (home_above_it sources other dir home);
      }

  elsewhere : (dir other : Names) → same_path dir other ≡ false → (made drafts : List Draft) → AllMakeHere sources dir made drafts → IsApart (rules_here dir drafts) other
  elsewhere dir other far made [] all path home = refl
  elsewhere dir other far made (draft ∷ more) ((here, flat), rest) path home =
      ap (λ b. b || is_generated (rules_here dir more) path)
      (list_any_none (same_path path) draft.outputs (All-weaker (MakesHere sources dir made) (λ output. same_path path output ≡ false) not_there draft.outputs here))
      ∙ elsewhere dir other far (made ++ draft ∷ []) more rest path home
    where
      not_there : (output : Names) → MakesHere sources dir made output → same_path path output ≡ false
      not_there output makes = apart path output (λ same.
          let both : Some dir ≡ Some other = sym makes.home ∙ ap (home_of sources) (sym same) ∙ home in
          let here : dir ≡ other = cc in
          let wrong : true ≡ false = sym ((same_path-decides dir other).1 here) ∙ far in
          cc)

  -- ---- the rules of all folders

  -- a folder's reading keeps to its folder
  abbrev Keeps : Names × Reading → Type 0
  Keeps read = (has_tupfile sources read.0 ≡ true) × AllMakeHere sources read.0 [] read.1.drafts

  abbrev AllKeep : List (Names × Reading) → Type 0
  AllKeep [] = Unit {0}
  AllKeep (read ∷ more) = Keeps read × AllKeep more

  abbrev AllApart : List Rule → List (Names × Reading) → Type 0
  AllApart rules [] = Unit {0}
  AllApart rules (read ∷ more) = IsApart rules read.0 × AllApart rules more

  apart_from_none : (list : List (Names × Reading)) → AllApart [] list
  apart_from_none [] = tt
  apart_from_none (read ∷ more) = (λ path home. refl, apart_from_none more)

  apart_then : (before : List Rule) (read : Names × Reading) (more : List (Names × Reading)) → Keeps read → below_all by_names read.0 more ≡ true → AllApart before more
      → AllApart (before ++ rules_here read.0 read.1.drafts) more
  apart_then before read [] keeps below all = tt
  apart_then before read (next ∷ more) keeps below (none, rest) =
      let parts = and_parts (is_lt (by_names read.0 next.0)) (below_all by_names read.0 more) below in
      let far : same_path read.0 next.0 ≡ false = same_path-by_names read.0 next.0 ∙ less_apart (by_names read.0 next.0) parts.0 in (
        λ path home. list_any-append (λ (rule : Rule). writes rule path) before (rules_here read.0 read.1.drafts)
            ∙ ap (λ b. b || is_generated (rules_here read.0 read.1.drafts) path) (none path home)
            ∙ elsewhere read.0 next.0 far [] read.1.drafts keeps.1 path home,
        apart_then before read more keeps parts.1 rest,
      )

  all_new : (before : List Rule) (list : List (Names × Reading)) → finite.is_sorted by_names list ≡ true → AllKeep list → AllApart before list → AreNew sources before (map (rule_of group_has) (placed list))
  all_new before [] up keep far = tt
  all_new before (read ∷ more) up (here, rest) (none, others) =
      let parts = and_parts (below_all by_names read.0 more) (finite.is_sorted by_names more) up in
      let rules = rules_here read.0 read.1.drafts in
      subst (AreNew sources before) (sym (map-append (rule_of group_has) (map (placed_in read.0) read.1.drafts) (placed more)))
      (new_append sources before rules (map (rule_of group_has) (placed more))
      (subst (λ (b : List Rule). AreNew sources b rules) (append-nil before) (folder_new before read.0 [] read.1.drafts none here.0 here.1))
      (all_new (before ++ rules) more parts.1 rest (apart_then before read more here parts.0 others)))

  -- ---- each reading of a list is that of its folder

  below_none : (dir : Names) (list : List (Names × Reading)) → below_all by_names dir list ≡ true → finite.find by_names dir list ≡ None
  below_none dir [] below = refl
  below_none dir (next ∷ more) below =
      let parts = and_parts (is_lt (by_names dir next.0)) (below_all by_names dir more) below in
      ap (λ b. cond b (Some next.1) (finite.find by_names dir more)) (less_apart (by_names dir next.0) parts.0) ∙ below_none dir more parts.1

  each_keeps : (list : List (Names × Reading)) → finite.is_sorted by_names list ≡ true → ((dir : Names) (left : Reading) → finite.find by_names dir list ≡ Some left → Keeps (dir, left)) → AllKeep list
  each_keeps [] up keep = tt
  each_keeps (read ∷ more) up keep =
      let parts = and_parts (below_all by_names read.0 more) (finite.is_sorted by_names more) up in
      (keep read.0 read.1 first, each_keeps more parts.1 (λ dir left e. keep dir left (later parts.0 dir left e)))
    where
      first : finite.find by_names read.0 (read ∷ more) ≡ Some read.1
      first = ap (λ b. cond b (Some read.1) (finite.find by_names read.0 more)) (sym (same_path-by_names read.0 read.0) ∙ (same_path-decides read.0 read.0).1 refl)

      later : below_all by_names read.0 more ≡ true → (dir : Names) (left : Reading) → finite.find by_names dir more ≡ Some left → finite.find by_names dir (read ∷ more) ≡ Some left
      later below dir left e = by (eq_by_cmp by_names dir read.0) refl
        where
          by : (b : Bool) → eq_by_cmp by_names dir read.0 ≡ b → cond b (Some read.1) (finite.find by_names dir more) ≡ Some left
          by false at = e
          by true at =
              let here : dir ≡ read.0 = (same_path-decides dir read.0).0 (same_path-by_names dir read.0 ∙ at) in
              let none : None ≡ Some left = sym (ap (λ d. finite.find by_names d more) here ∙ below_none read.0 more below) ∙ e in
              cc

-- ---- the whole

module _ (sources : Tree) (readings : List (Names × Reading)) (rules : List Rule) where
  read_new : (settings : Entries) → IsTrue (finite.is_sorted by_names readings) → AreAllReadings sources settings (finite.from_sorted readings) → AreLinked readings rules → AreNew sources [] rules
  unfolding rules_of
  read_new settings up all linked =
      let group_has = members (drafts_of (placed readings)) in
      let keep = all_keep sources settings all.some.0 (finite.from_sorted readings) all.some.1 in
      let each : (dir : Names) (left : Reading) → finite.find by_names dir readings ≡ Some left → Keeps sources group_has (dir, left) = λ dir left e.
      let got = finite.get-from_sorted by_names readings dir (passes _ up) ∙ e in
      (of_tupfiles sources settings all.some.0 (finite.from_sorted readings) all.some.1 dir left got, keep dir left got) in
      subst (AreNew sources []) (sym linked.are)
      (all_new sources group_has [] readings up (each_keeps sources group_has readings up each) (apart_from_none sources group_has readings))

  pub linked_stand : IsOutcome sources (Ok readings) → AreLinked readings rules → IsTree sources → IsBuildable sources rules
  linked_stand read linked tree = can_stand sources rules (by (settings_of sources) read) tree linked.order
    where
      by : (found : Result Entries ConfigFault) → AreReadWith sources found (Ok readings) → AreNew sources [] rules
      by (Ok settings) is = read_new settings is.0 is.1 linked
      by (Err fault) (inl wrong) = cc
      by (Err fault) (inr wrong) = cc

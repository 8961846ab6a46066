-- What a rule of a project declares is a source, or an output of one of its rules.
use Rattle.std.proofs.Common.{◌≡◌, ◌⊎◌, inl, inr, ℕ, Bool, true, false, cond, List, [], ◌∷◌, ◌++◌, map, flat_map, fold, Option, Some, None, Result, Ok, Err, All, Contains, IsTrue, IsSome, is_some, if◌then◌else◌, refl, sym, ap, ◌∙◌, subst}
use Rattle.std.specs.BTreeSet.{insert_key}
use Rattle.std.specs.Bool.{passes}
use Rattle.std.specs.FinMap as finite
use Rattle.std.specs.List.{cons_option}
use Rattle.std.specs.Result.{result_ok}
use Rattle.std.proofs.lemmas.Bool.{true≢false, or_cases}
use Rattle.std.proofs.lemmas.List.Elements.{All-cons, All-contains, All-contains_itself, All-head, All-nil, All-tail, Contains-push_cases}
use Rattle.std.proofs.lemmas.List.Folds.{Any-from_list_any}
use Rattle.std.proofs.lemmas.Map.Views.{All-insert_key}
use Rattle.tup_path.specs.Name.{Names}
use Rattle.tup_path.specs.Order.{by_names, same_path}
use Rattle.tup_path.specs.Resolve.{above}
use Rattle.tup_path.specs.Tree.{Tree}
use Rattle.tup_rule.specs.Rule.{among, declares, is_generated}
use Rattle.tup_rule.specs.declared.draft.Draft.{Draft}
use Rattle.tup_rule.specs.declared.draft.GroupRef.{GroupRef}
use Rattle.tup_rule.specs.declared.question.Kind.{Kind}
use Rattle.tup_rule.specs.declared.question.Kind.TheVariants.{Nothing, File, Dir}
use Rattle.tup_rule.specs.declared.question.Question.{Question}
use Rattle.tup_rule.specs.declared.question.Reading.{Reading}
use Rattle.tup_rule.specs.declared.question.Told.{Told}
use Rattle.tup_rule.specs.declared.rule.Rule.{Rule}
use Rattle.tup_rule.proofs.Laws.{is_generated-at}
use Rattle.tup_clean.proofs.Among.{Contains-among, among-Contains}
use Rattle.tup_vars.specs.Table.{Entries}
use Rattle.tup_vars.specs.declared.fault.ConfigFault.{ConfigFault}
use Rattle.tup_query.specs.Log.{Says}
use Rattle.tup_query.proofs.Runs.{ran_outcome}
use Rattle.tup_rule_line.specs.Folder.{name_in}
use Rattle.tup_rule_line.specs.Glob.{names_among}
use Rattle.tup_rule_line.specs.Sound.{told_at, AreSound, IsSound, MayTake}
use Rattle.tup_rule_line.specs.State.{is_made}
use Rattle.tup_rule_line.proofs.Soundness.{name_in-own}
use Rattle.tup_tupfile.specs.Reading.{reading}
use Rattle.tup_tupfile.proofs.Soundness.{reading-sound}
use Rattle.tup_readings.specs.Answers.{Readings, answer, drafts_of, made_kind, other_drafts}
use Rattle.tup_readings.specs.Readings.{AreAllReadings, AreReadWith, AreSomeReadings, IsReadingOver}
use Rattle.tup_readings.specs.Sources.{has_below, home, is_source, settings_of}
use Rattle.tup_readings.proofs.One.{of_tupfiles, reading_in, readings_agree}
use Rattle.tup_link.specs.Groups.{given_to, gives_to, members}
use Rattle.tup_link.specs.Linked.{Members, rule_of, rules_of, with_path, with_paths}
use Rattle.tup_link.specs.Placed.{Placed, placed, placed_in, drafts_of as all_drafts}
use Rattle.tup_project.specs.Project.{AreLinked, ComeTo}
use Rattle.tup_project.proofs.Making.{all_keep, names_files}
use Rattle.tup_graph.specs.Answers.{IsDrafted}
use Rattle.tup_readers.proofs.Entries.{behind_front, front_or_behind, in_front, none_in}
use Rattle.tup_scan_diff.proofs.Editing.{entry_found, found_entry}
use Rattle.tup_law_graph.specs.Linking.{DeclareWhatIsThere}
use Rattle.tup_law_graph.proofs.Lists.{at_place, flat_map_in, in_flat_map, in_map, map_in, place_of}

-- ---- outputs of drafts, and paths behind others

-- the outputs of some drafts
drafted : (drafts : List Draft) (path : Names) → is_made drafts path ≡ true → IsDrafted drafts path
drafted drafts path e =
    let found = Any-from_list_any (λ (draft : Draft). among path draft.outputs) drafts e in
    (found.1, (found.0, found.2, found.3), Contains-among path found.1.outputs found.4)

-- a fact of each file in a folder is one of its names
named : (P : List ℕ → Type 0) (dir : Names) (paths : List Names) → ((name : List ℕ) → Contains paths (dir ++ name ∷ []) → P name) → All P (names_among dir paths)
named P dir [] each = All-nil P
named P dir (path ∷ paths) each = by (named P dir paths (λ name h. each name (behind_front path (dir ++ name ∷ []) paths h))) (name_in dir path) refl
  where
    by : All P (names_among dir paths) → (found : Option (List ℕ)) → name_in dir path ≡ found → All P (cons_option found (names_among dir paths))
    by rest None e = rest
    by rest (Some name) e = All-cons P name (names_among dir paths) (each name (subst (Contains (path ∷ paths)) (name_in-own dir path name e) (in_front path paths))) rest

-- what a group has is given to it
all_put : (P : Names → Type 0) (some paths : List Names) → All P some → All P paths → All P (fold (insert_key by_names) some paths)
all_put P some [] old new = old
all_put P some (path ∷ paths) old new = all_put P (insert_key by_names some path) paths (All-insert_key by_names path P some old (All-head P path paths new)) (All-tail P path paths new)

member_given : (drafts : List Draft) (group : GroupRef) (path : Names) → Contains (members drafts group) path → Contains (given_to group drafts) path
unfolding members
member_given drafts group path h =
    All-contains (Contains (given_to group drafts)) (members drafts group) path
    (all_put (Contains (given_to group drafts)) [] (given_to group drafts) (All-nil (Contains (given_to group drafts))) (All-contains_itself (given_to group drafts))) h

-- paths behind others
in_paths : (paths others : List Names) (path : Names) → Contains (with_paths paths others) path → Contains paths path ⊎ Contains others path
in_paths paths [] path h = inl h
in_paths paths (first ∷ others) path h = by (in_paths (with_path paths first) others path h)
  where
    in_one : (b : Bool) → Contains (cond b paths (paths ++ first ∷ [])) path → Contains paths path ⊎ Contains (first ∷ others) path
    in_one true there = inl there
    in_one false there = elim (Contains-push_cases paths first path there) [ inl before ↦ inl before | inr is ↦ inr (subst (Contains (first ∷ others)) is (in_front first others)) ]

    by : Contains (with_path paths first) path ⊎ Contains others path → Contains paths path ⊎ Contains (first ∷ others) path
    by (inl there) = in_one (among first paths) there
    by (inr later) = inr (behind_front first path others later)

-- what was read of a folder before is read of it in the end
pub reading_stays : (sources : Tree) (settings : Entries) (all before : Readings) → AreAllReadings sources settings all → AreSomeReadings sources settings before → (dir : Names) (left : Reading) → finite.get before dir ≡ Some left → finite.get all dir ≡ Some left
reading_stays sources settings all before are some dir left e = by (finite.get all dir) refl
  where
    by : (now : Option Reading) → finite.get all dir ≡ now → finite.get all dir ≡ Some left
    by (Some other) here = here ∙ ap Some (readings_agree sources settings all before are.some some dir other left here e)
    by None none = absurd (true≢false (sym (are.all dir (of_tupfiles sources settings some.0 before some.1 dir left e)) ∙ ap is_some none))

module _ (sources : Tree) (settings : Entries) (list : List (Names × Reading)) (up : IsTrue (finite.is_sorted by_names list)) (all : AreAllReadings sources settings (finite.from_sorted list)) where
  abbrev readings : Readings
  readings = finite.from_sorted list

  listed : (dir : Names) (left : Reading) → finite.get readings dir ≡ Some left → Contains list (dir, left)
  listed dir left e = subst (λ (l : List (Names × Reading)). Contains l (dir, left)) (finite.entries-from_sorted by_names list (passes _ up)) (entry_found readings dir left e)

  found : (dir : Names) (left : Reading) → Contains list (dir, left) → finite.get readings dir ≡ Some left
  found dir left h = found_entry readings dir left (subst (λ (l : List (Names × Reading)). Contains l (dir, left)) (sym (finite.entries-from_sorted by_names list (passes _ up))) h)

  -- an output of one of the readings
  abbrev IsMade : Names → Type 0
  IsMade path = (read : Names × Reading) × Contains list read × IsDrafted read.1.drafts path

  -- a source, or such an output
  abbrev IsThere : Names → Type 0
  IsThere path = IsSome (finite.get sources path) ⊎ IsMade path

  -- ---- what a reading was told, over those before it

  module _ (before : Readings) (some : AreSomeReadings sources settings before) (reader : Names) where
    abbrev answers : Question → Told
    answers = answer sources settings before reader

    -- what stands at a path where there is neither a source nor a folder of sources
    abbrev made_in : Names → Option Names → Kind
    made_in path up = elim up as (λ _. Kind) [ Some dir ↦ made_kind sources before reader dir path | None ↦ Nothing ]

    -- a file that is told is there
    made_there : (path : Names) (up : Option Names) → made_in path up ≡ File → IsMade path
    made_there path None e = absurd (let wrong : Nothing ≡ File = e in cc)
    made_there path (Some dir) e = at (home sources dir) e
      where
        as_file : (b : Bool) → cond b File Nothing ≡ File → b ≡ true
        as_file true e = refl
        as_file false e = absurd (let wrong : Nothing ≡ File = e in cc)

        other : (folder : Names) (now : Option Reading) → finite.get before folder ≡ now → cond (is_made (elim now as (λ _. List Draft) [ Some left ↦ left.drafts | None ↦ [] ]) path) File Nothing ≡ File → IsMade path
        other folder None none e = absurd (let wrong : Nothing ≡ File = e in cc)
        other folder (Some left) here e =
            ((folder, left), listed folder left (reading_stays sources settings readings before all some folder left here), drafted left.drafts path (as_file (is_made left.drafts path) e))

        own : (folder : Names) (b : Bool) → cond (is_made (cond b [] (drafts_of before folder)) path) File Nothing ≡ File → IsMade path
        own folder true e = absurd (let wrong : Nothing ≡ File = e in cc)
        own folder false e = other folder (finite.get before folder) refl e

        -- it is one of the rules of the home of its folder
        at : (found : Option Names) → cond (is_made (elim found as (λ _. List Draft) [ Some folder ↦ other_drafts before reader folder | None ↦ [] ]) path) File Nothing ≡ File → IsMade path
        at None e = absurd (let wrong : Nothing ≡ File = e in cc)
        at (Some folder) e = own folder (same_path reader folder) e

    file_there : (path : Names) → told_at answers path ≡ File → IsThere path
    file_there path e = by (is_source sources path) refl (has_below (finite.keys sources) path) e
      where
        by : (source : Bool) → is_source sources path ≡ source → (folder : Bool) → cond source File (cond folder Dir (made_in path (result_ok (above path)))) ≡ File → IsThere path
        by true is folder e = inl is
        by false is true e = absurd (let wrong : Dir ≡ File = e in cc)
        by false is false e = inr (made_there path (result_ok (above path)) e)

    module _ (left : Reading) (here : Contains list (reader, left)) where
      takes_there : (earlier : List Draft) (path : Names) → ((draft : Draft) → Contains earlier draft → Contains left.drafts draft) → MayTake answers earlier path → IsThere path
      takes_there earlier path among_all (inl file) = file_there path file
      takes_there earlier path among_all (inr made) = (let by = drafted earlier path made in inr ((reader, left), here, (by.0, among_all by.0 by.1, by.2)))

      each_takes : (earlier drafts : List Draft) (draft : Draft) → AreSound answers reader earlier drafts → Contains drafts draft → ((one : Draft) → Contains earlier one → Contains left.drafts one)
          → ((one : Draft) → Contains drafts one → Contains left.drafts one) → (path : Names) → Contains draft.inputs path ⊎ Contains draft.order path → IsThere path
      each_takes earlier [] draft sound h before_in in_all path has = absurd (none_in draft h)
      each_takes earlier (first ∷ more) draft (is, rest) h before_in in_all path has = by (front_or_behind first draft more h) (λ later. each_takes (earlier ++ first ∷ []) more draft rest later pushed_in later_in path has)
        where
          pushed_in : (one : Draft) → Contains (earlier ++ first ∷ []) one → Contains left.drafts one
          pushed_in one there = elim (Contains-push_cases earlier first one there) [ inl old ↦ before_in one old | inr same ↦ subst (Contains left.drafts) same (in_all first (in_front first more)) ]

          later_in : (one : Draft) → Contains more one → Contains left.drafts one
          later_in one there = in_all one (behind_front first one more there)

          mine : IsSound answers reader earlier draft → Contains draft.inputs path ⊎ Contains draft.order path → IsThere path
          mine sound (inl input) = takes_there earlier path before_in (All-contains (MayTake answers earlier) draft.inputs path sound.inputs input)
          mine sound (inr order) = takes_there earlier path before_in (All-contains (MayTake answers earlier) draft.order path sound.order order)

          by : (first ≡ draft) ⊎ Contains more draft → (Contains more draft → IsThere path) → IsThere path
          by (inl same) further = mine (subst (IsSound answers reader earlier) same is) has
          by (inr later) further = further later

      over_takes : IsReadingOver sources settings before reader left → (draft : Draft) → Contains left.drafts draft → (path : Names) → Contains draft.inputs path ⊎ Contains draft.order path → IsThere path
      over_takes over draft h path has =
          let says : Says answers over.log = λ question told e. sym (over.answered question told e).1 in
          each_takes [] left.drafts draft (reading-sound answers reader (names_files sources settings before reader (all_keep sources settings some.0 before some.1)) left.drafts (ran_outcome [] over.log (reading reader) (Ok left.drafts) answers over.ran says)) h
          (λ one none. absurd (none_in one none)) (λ one there. there) path has

  draft_takes : (read : Names × Reading) → Contains list read → (draft : Draft) → Contains read.1.drafts draft → (path : Names) → Contains draft.inputs path ⊎ Contains draft.order path → IsThere path
  draft_takes read h draft drawn path has =
      let at = reading_in sources settings readings all.some read.0 read.1 (found read.0 read.1 h) in
      over_takes at.before (at.order, at.are) read.0 read.1 h at.over draft drawn path has

  -- ---- rules

  in_placed : (one : Placed) → Contains (placed list) one → (read : Names × Reading) × Contains list read × Contains read.1.drafts one.draft
  in_placed one h =
      let folder = in_flat_map (λ (read : Names × Reading). map (placed_in read.0) read.1.drafts) list one h in
      let draft = in_map (placed_in folder.0.0) folder.0.1.drafts one folder.2 in
      (folder.0, folder.1, subst (λ (p : Placed). Contains folder.0.1.drafts p.draft) draft.2 draft.1)

  -- a member of a group is an output of a reading
  member_made : (group : GroupRef) (path : Names) → Contains (members (all_drafts (placed list)) group) path → IsMade path
  member_made group path h = by (in_flat_map (λ (draft : Draft). if gives_to group draft then draft.outputs else []) (all_drafts (placed list)) path (member_given (all_drafts (placed list)) group path h))
    where
      as_output : (draft : Draft) (b : Bool) → Contains (cond b draft.outputs []) path → Contains draft.outputs path
      as_output draft true out = out
      as_output draft false out = absurd (none_in path out)

      by : (draft : Draft) × Contains (all_drafts (placed list)) draft × Contains (if gives_to group draft then draft.outputs else []) path → IsMade path
      by (draft, there, out) =
          (let one = in_map (λ (p : Placed). p.draft) (placed list) draft there in
          let read = in_placed one.0 one.1 in
          (read.0, read.1, (draft, subst (Contains read.0.1.drafts) one.2 read.2, as_output draft (gives_to group draft) out)))

  abbrev group_has : Members
  group_has = members (all_drafts (placed list))

  rule_takes : (one : Placed) → Contains (placed list) one → (path : Names) → declares (rule_of group_has one) path ≡ true → IsThere path
  rule_takes one h path declared = elim (or_cases (among path one.draft.inputs) (among path (with_paths one.draft.order (flat_map group_has one.draft.groups))) declared) [
    | inl input ↦ from (inl (Contains-among path one.draft.inputs input))
    | inr order ↦ elim (in_paths one.draft.order (flat_map group_has one.draft.groups) path (Contains-among path (with_paths one.draft.order (flat_map group_has one.draft.groups)) order)) [
      | inl mine ↦ from (inr mine)
      | inr taken ↦ (let group = in_flat_map group_has one.draft.groups path taken in inr (member_made group.0 path group.2))
    ]
  ]
    where
      from : Contains one.draft.inputs path ⊎ Contains one.draft.order path → IsThere path
      from has = let read = in_placed one h in draft_takes read.0 read.1 one.draft read.2 path has

  made_generated : (path : Names) → IsMade path → is_generated (map (rule_of group_has) (placed list)) path ≡ true
  made_generated path (read, h, (draft, there, out)) =
      let one = placed_in read.0 draft in
      let in_all = flat_map_in (λ (r : Names × Reading). map (placed_in r.0) r.1.drafts) list read one h (map_in (placed_in read.0) read.1.drafts draft there) in
      let place = place_of (map (rule_of group_has) (placed list)) (rule_of group_has one) (map_in (rule_of group_has) (placed list) one in_all) in
      is_generated-at (map (rule_of group_has) (placed list)) path place.0 (rule_of group_has one) place.1 (among-Contains path draft.outputs out)

  declare_there : DeclareWhatIsThere sources (map (rule_of group_has) (placed list))
  declare_there number rule path here declared =
      by (in_map (rule_of group_has) (placed list) rule (at_place (map (rule_of group_has) (placed list)) number rule here))
    where
      by : (one : Placed) × Contains (placed list) one × (rule_of group_has one ≡ rule) → IsSome (finite.get sources path) ⊎ (is_generated (map (rule_of group_has) (placed list)) path ≡ true)
      by (one, h, is) = elim (rule_takes one h path (subst (λ (r : Rule). declares r path ≡ true) (sym is) declared)) [
        | inl source ↦ inl source
        | inr made ↦ inr (made_generated path made)
      ]

  linked_there : (rules : List Rule) → AreLinked list rules → DeclareWhatIsThere sources rules
  unfolding rules_of
  linked_there rules linked = subst (DeclareWhatIsThere sources) (sym linked.are) declare_there

pub come_there : (sources : Tree) (rules : List Rule) → ComeTo sources (Ok rules) → DeclareWhatIsThere sources rules
come_there sources rules (list, read, linked) = by (settings_of sources) read
  where
    by : (given : Result Entries ConfigFault) → AreReadWith sources given (Ok list) → DeclareWhatIsThere sources rules
    by (Ok settings) is = linked_there sources settings list is.0 is.1 rules linked
    by (Err fault) (inl wrong) = absurd (cc)
    by (Err fault) (inr wrong) = absurd (cc)

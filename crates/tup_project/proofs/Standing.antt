-- Rules of which each makes what no rule before it makes, where nothing stands. The home of an output's folder is the folder of its
-- maker: so no path has two makers, and what lies below an output or above it has the same home.
use Rattle.std.proofs.Common.{◌≡◌, ◌⊎◌, inl, inr, ℕ, zero, suc, ◌+◌, ◌<◌, true, false, List, [], ◌∷◌, ◌++◌, length, take, codes, Option, Some, None, IsSome, All, refl, sym, ap, ◌∙◌, subst, append_assoc, append-nil, arith, length-append}
use Rattle.std.specs.Prelude.{option_and_then}
use Rattle.std.specs.FinMap as finite
use Rattle.std.specs.List.{Contains, IsDistinct, slice_get}
use Rattle.std.specs.Ordering.{eq_by_cmp}
use Rattle.std.specs.Result.{result_ok}
use Rattle.std.proofs.lemmas.Bool.{both_ways, cases_order}
use Rattle.std.proofs.lemmas.List.{append_cancel_left, get_or-take, length-take, nil_from_length}
use Rattle.std.proofs.lemmas.List.Elements.{All-contains}
use Rattle.std.proofs.lemmas.List.Folds.{list_any_at}
use Rattle.std.proofs.lemmas.Map.Views.{Contains-from_any}
use Rattle.std.proofs.lemmas.Option.{get_or_from_slice_get, none-some, same_Some, slice_get_within}
use Rattle.tup_path.specs.Name.{Names}
use Rattle.tup_path.specs.Order.{by_names, same_path, same_path-by_names}
use Rattle.tup_path.specs.Resolve.{above}
use Rattle.tup_path.specs.Tree.{Tree, IsTree, IsBelow}
use Rattle.tup_path.proofs.Same.{same_path-decides}
use Rattle.tup_rule.specs.declared.rule.Rule.{Rule}
use Rattle.tup_rule.specs.Rule.{writes, is_generated}
use Rattle.tup_clean.specs.Buildable.{IsOutputAt, IsBuildable, NoneWaitsForItself}
use Rattle.tup_clean.proofs.Among.{among-Contains}
use Rattle.tup_rule_line.specs.Sound.{AreFlat}
use Rattle.tup_rule_line.proofs.Below.{below_so}
use Rattle.tup_readings.specs.Sources.{is_source, has_below, has_tupfile, home, is_below, tupfile}
use Rattle.tup_readings.proofs.Below.{last_item, above_named}
use Rattle.tup_readings.proofs.Homes.{IsAtOrAbove, at_or_above_named, IsHome, home_is, is_home}
use Rattle.tup_readings.proofs.Indexed.{none_there}

-- ---- paths

not_empty : (dir : Names) (name : List ℕ) → dir ++ name ∷ [] ≡ [] → ⊥
not_empty [] name e = cc
not_empty (first ∷ dir) name e = cc

-- what is at or above a folder is above its files
above_file : (folder dir : Names) (name : List ℕ) → IsAtOrAbove folder dir → IsBelow folder (dir ++ name ∷ [])
above_file folder dir name (rest, is) = (rest ++ name ∷ [], not_empty rest name, ap (λ (d : Names). d ++ name ∷ []) is ∙ append_assoc folder rest (name ∷ []))

-- what is above a file is at or above its folder
above_folder : (folder dir : Names) (name : List ℕ) → IsBelow folder (dir ++ name ∷ []) → IsAtOrAbove folder dir
above_folder folder dir name (rest, some, is) = elim (at_or_above_named folder dir name (rest, is)) [
  | inl same ↦
      let whole : folder ++ [] ≡ folder ++ rest = append-nil folder ∙ same ∙ is in
      absurd (some (sym (append_cancel_left folder [] rest whole)))
  | inr above ↦ above
]

-- of two folders at or above a path one is at or above the other
on_one_way : (one other rest more : Names) → one ++ rest ≡ other ++ more → IsAtOrAbove one other ⊎ IsBelow other one
on_one_way [] other rest more e = inl (other, refl)
on_one_way (name ∷ one) [] rest more e = inr (name ∷ one, (λ none. cc), refl)
on_one_way (name ∷ one) (first ∷ other) rest more e =
    let same : name ≡ first = cc in
    let tails : one ++ rest ≡ other ++ more = cc in
    elim (on_one_way one other rest more tails) [
      | inl above ↦ inl (above.0, ap (λ n. n ∷ other) (sym same) ∙ ap (λ (d : Names). name ∷ d) above.1)
      | inr below ↦ inr (below.0, below.1, ap (λ n. n ∷ one) same ∙ ap (λ (d : Names). first ∷ d) below.2)
    ]

module _ (sources : Tree) where
  -- a file below which a source lies
  source_below : (path file : Names) → IsSome (finite.get sources file) → IsBelow path file → has_below (finite.keys sources) path ≡ true
  source_below path file some below =
      let has : Contains (finite.keys sources) file = Contains-from_any same file (finite.keys sources) (sym (finite.contains_key-keys sources file) ∙ some) in
      list_any_at (is_below path) (finite.keys sources) has.0 file has.1 (ap (is_below path) has.2 ∙ below_so path file below)
    where
      same : (x y : Names) → eq_by_cmp by_names x y ≡ true → x ≡ y
      same x y e = (same_path-decides x y).0 (same_path-by_names x y ∙ e)

  -- ---- the folder whose rules alone may make a path: the home of the path's folder

  abbrev pub home_of : Names → Option Names
  home_of path = option_and_then (home sources) (result_ok (above path))

  home_of_named : (up : Names) (name : List ℕ) → home_of (up ++ name ∷ []) ≡ home sources up
  home_of_named up name = ap (option_and_then (home sources)) (above_named up name)

  -- a path by its folder and the folder's home
  pub record StandsIn (path dir : Names) : Type 0 where
    pub up : Names
    pub name : List ℕ
    pub is : path ≡ up ++ name ∷ []
    pub home : IsHome sources up dir

  pub stands_in : (path dir : Names) → home_of path ≡ Some dir → StandsIn path dir
  stands_in path dir e = by (last_item path)
    where
      by : (path ≡ []) ⊎ ((up : Names) × (name : List ℕ) × (path ≡ up ++ name ∷ [])) → StandsIn path dir
      by (inl top) = let none : None ≡ Some dir = sym (ap home_of top) ∙ e in cc
      by (inr (up, name, is)) = record { up = up; name = name; is = is; home = home_is sources up dir (sym (home_of_named up name) ∙ sym (ap home_of is) ∙ e) }

  -- a path below a folder that has a Tupfile while none on the way has: the rules of the folder alone may make it
  pub home_on_way : (dir path : Names) → has_tupfile sources dir ≡ true → IsBelow dir path
      → ((folder : Names) → IsBelow dir folder → IsBelow folder path → has_tupfile sources folder ≡ false) → home_of path ≡ Some dir
  home_on_way dir path has below free = by (last_item path)
    where
      by : (path ≡ []) ⊎ ((up : Names) × (name : List ℕ) × (path ≡ up ++ name ∷ [])) → home_of path ≡ Some dir
      by (inl top) =
          let long : length path ≡ length dir + length below.0 = ap length below.2 ∙ length-append dir below.0 in
          let none : length path ≡ 0 = ap length top in
          absurd (below.1 (nil_from_length below.0 (omega (arith, long, none))))
      by (inr (up, name, is)) =
          ap home_of is ∙ home_of_named up name
          ∙ is_home sources up dir (record {
            above = above_folder dir up name (subst (IsBelow dir) is below);
            has = has;
            nearest = λ other lower upper. free other lower (subst (IsBelow other) (sym is) (above_file other up name upper));
          })

  -- a folder's rules make what stands below it
  pub home_above_it : (path dir : Names) → home_of path ≡ Some dir → IsBelow dir path
  home_above_it path dir e =
      let stands = stands_in path dir e in
      subst (IsBelow dir) (sym stands.is) (above_file dir stands.up stands.name stands.home.above)

  -- two paths that rules may make, of which one lies below the other, no source lying below that: they are of one folder
  same_home : (path file dir other : Names) → home_of path ≡ Some dir → home_of file ≡ Some other → has_below (finite.keys sources) file ≡ false → IsBelow file path → other ≡ dir
  same_home path file dir other e f free below = by (on_one_way file dir above_up.0 stands.home.above.0 (sym above_up.1 ∙ stands.home.above.1))
    where
      stands : StandsIn path dir
      stands = stands_in path dir e

      under : StandsIn file other
      under = stands_in file other f

      above_up : IsAtOrAbove file stands.up
      above_up = above_folder file stands.up stands.name (subst (IsBelow file) stands.is below)

      by : IsAtOrAbove file dir ⊎ IsBelow dir file → other ≡ dir
      by (inl over) = absurd (both_ways (has_below (finite.keys sources) file) free (source_below file (tupfile dir) stands.home.has (above_file file dir (codes "Tupfile") over)))
      by (inr lower) =
          let up_above : IsAtOrAbove under.up stands.up = (
            under.name ∷ above_up.0,
            above_up.1 ∙ ap (λ (d : Names). d ++ above_up.0) under.is ∙ append_assoc under.up (under.name ∷ []) above_up.0,
          ) in
          let here : home sources under.up ≡ Some dir = is_home sources under.up dir (record {
            above = above_folder dir under.up under.name (subst (IsBelow dir) under.is lower);
            has = stands.home.has;
            nearest = λ folder down up. stands.home.nearest folder down (through folder under.up stands.up up up_above);
          }) in
          let both : Some other ≡ Some dir = sym (is_home sources under.up other under.home) ∙ here in
          cc
        where
          through : (one two three : Names) → IsAtOrAbove one two → IsAtOrAbove two three → IsAtOrAbove one three
          through one two three (rest, is) (more, e) = (rest ++ more, e ∙ ap (λ (d : Names). d ++ more) is ∙ append_assoc one rest more)

  -- ---- rules of which each makes what no rule before it makes

  -- an output of a rule
  pub record IsNew (before : List Rule) (rule : Rule) (path : Names) : Type 0 where
    pub has : has_tupfile sources rule.dir ≡ true
    pub home : home_of path ≡ Some rule.dir
    pub no_file : (folder : Names) → IsBelow rule.dir folder → IsBelow folder path → is_source sources folder ≡ false
    pub no_source : is_source sources path ≡ false
    pub no_folder : has_below (finite.keys sources) path ≡ false
    pub new : is_generated before path ≡ false
    pub apart : (other : Names) → is_generated before other ≡ true → home_of other ≡ Some rule.dir → (IsBelow other path → ⊥) × (IsBelow path other → ⊥)

  -- each of some rules behind others makes only such
  abbrev pub AreNew : List Rule → List Rule → Type 0
  AreNew before [] = Unit {0}
  AreNew before (rule ∷ more) = (All (IsNew before rule) rule.outputs × (IsDistinct same_path rule.outputs × AreFlat rule.outputs)) × AreNew (before ++ rule ∷ []) more

  pub new_append : (before rules more : List Rule) → AreNew before rules → AreNew (before ++ rules) more → AreNew before (rules ++ more)
  new_append before [] more are rest = subst (λ (b : List Rule). AreNew b more) (append-nil before) rest
  new_append before (rule ∷ rules) more (here, are) rest =
      (here, new_append (before ++ rule ∷ []) rules more are (subst (λ (b : List Rule). AreNew b more) (sym (append_assoc before (rule ∷ []) rules)) rest))

  at_place : (before rules : List Rule) (at : ℕ) (rule : Rule) → AreNew before rules → slice_get rules at ≡ Some rule → All (IsNew (before ++ take at rules) rule) rule.outputs
  at_place before [] at rule are e = absurd (nowhere at e)
    where
      nowhere : (at : ℕ) → slice_get {X = Rule} [] at ≡ Some rule → ⊥
      nowhere zero e = cc
      nowhere (suc at) e = cc
  at_place before (first ∷ rules) zero rule ((here, once), are) e =
      let same : first ≡ rule = cc in
      subst (λ (b : List Rule). All (IsNew b rule) rule.outputs) (sym (append-nil before)) (subst (λ (r : Rule). All (IsNew before r) r.outputs) same here)
  at_place before (first ∷ rules) (suc at) rule (here, are) e =
      subst (λ (b : List Rule). All (IsNew b rule) rule.outputs) (append_assoc before (first ∷ []) (take at rules)) (at_place (before ++ first ∷ []) rules at rule are e)

  once_at : (before rules : List Rule) (at : ℕ) (rule : Rule) → AreNew before rules → slice_get rules at ≡ Some rule → IsDistinct same_path rule.outputs
  once_at before [] zero rule are e = absurd (none-some rule e)
  once_at before [] (suc at) rule are e = absurd (none-some rule e)
  once_at before (first ∷ rules) zero rule ((here, (once, flat)), are) e = subst (λ (r : Rule). IsDistinct same_path r.outputs) (same_Some first rule e) once
  once_at before (first ∷ rules) (suc at) rule (here, are) e = once_at (before ++ first ∷ []) rules at rule are e

  flat_at : (before rules : List Rule) (at : ℕ) (rule : Rule) → AreNew before rules → slice_get rules at ≡ Some rule → AreFlat rule.outputs
  flat_at before [] zero rule are e = absurd (none-some rule e)
  flat_at before [] (suc at) rule are e = absurd (none-some rule e)
  flat_at before (first ∷ rules) zero rule ((here, (once, flat)), are) e = subst (λ (r : Rule). AreFlat r.outputs) (same_Some first rule e) flat
  flat_at before (first ∷ rules) (suc at) rule (here, are) e = flat_at (before ++ first ∷ []) rules at rule are e

  module _ (rules : List Rule) (are : AreNew [] rules) where
    new_at : (at : ℕ) (path : Names) (output : IsOutputAt rules at path) → IsNew (take at rules) output.0 path
    new_at at path (rule, here, has) = All-contains (IsNew (take at rules) rule) rule.outputs path (at_place [] rules at rule are here) has

    -- what a rule makes is made before each later place
    made_by_then : (at other : ℕ) (path : Names) → IsOutputAt rules at path → at < other → is_generated (take other rules) path ≡ true
    made_by_then at other path (rule, here, has) less =
        let within : at < length rules = slice_get_within rules at rule here in
        let there : at < length (take other rules) = omega (arith, length-take other rules) in
        list_any_at (λ (r : Rule). writes r path) (take other rules) at rule there
        (ap (λ (r : Rule). writes r path) (get_or-take other rules at rule less ∙ get_or_from_slice_get rules at rule rule here) ∙ among-Contains path rule.outputs has)

    not_twice : (at other : ℕ) (path : Names) → IsOutputAt rules at path → IsOutputAt rules other path → at < other → ⊥
    not_twice at other path one again less = both_ways (is_generated (take other rules) path) (new_at other path again).new (made_by_then at other path one less)

    one_place : (at other : ℕ) (path : Names) → IsOutputAt rules at path → IsOutputAt rules other path → at ≡ other
    one_place at other path one again = elim (cases_order at other) [
      | inl same ↦ same
      | inr apart ↦ elim apart [
        | inl less ↦ absurd (not_twice at other path one again less)
        | inr more ↦ absurd (not_twice other at path again one more)
      ]
    ]

    above_no_source : (at : ℕ) (path file : Names) → IsOutputAt rules at path → IsSome (finite.get sources file) → IsBelow path file → ⊥
    above_no_source at path file output some below = both_ways (has_below (finite.keys sources) path) (new_at at path output).no_folder (source_below path file some below)

    -- a file of the sources above an output stands above the output's Tupfile, or on the way from there
    below_no_source : IsTree sources → (at : ℕ) (path file : Names) → IsOutputAt rules at path → IsSome (finite.get sources file) → IsBelow file path → ⊥
    below_no_source tree at path file output some below =
        let new = new_at at path output in
        let dir = (output.0).dir in
        let lower = home_above_it path dir new.home in
        elim (on_one_way file dir below.0 lower.0 (sym below.2 ∙ lower.2)) [
          | inl over ↦ tree.no_file_above file (tupfile dir) some new.has (above_file file dir (codes "Tupfile") over)
          | inr under ↦ both_ways (is_source sources file) (new.no_file file under below) some
        ]

    -- two outputs of one rule, and one of a later rule, of which one lies below the other
    not_in_rule : (at : ℕ) (path file : Names) → IsOutputAt rules at path → IsOutputAt rules at file → IsBelow file path → ⊥
    not_in_rule at path file (rule, here, has) (same, there, also) below =
        let one : rule ≡ same = same_Some rule same (sym here ∙ there) in
        flat_at [] rules at rule are here file path
        (among-Contains file rule.outputs (subst (λ (r : Rule). Contains r.outputs file) (sym one) also)) (among-Contains path rule.outputs has) below

    below_no_output : (at other : ℕ) (path file : Names) → IsOutputAt rules at path → IsOutputAt rules other file → IsBelow file path → ⊥
    below_no_output at other path file output over below = elim (cases_order at other) [
      | inl same ↦ not_in_rule at path file output (subst (λ (n : ℕ). IsOutputAt rules n file) (sym same) over) below
      | inr apart ↦ elim apart [
        | inl less ↦ (upper.apart path (made_by_then at other path output less) (lower.home ∙ ap (λ d. Some d) (sym dirs))).1 below
        | inr more ↦ (lower.apart file (made_by_then other at file over more) (upper.home ∙ ap (λ d. Some d) dirs)).0 below
      ]
    ]
      where
        lower : IsNew (take at rules) output.0 path
        lower = new_at at path output

        upper : IsNew (take other rules) over.0 file
        upper = new_at other file over

        dirs : (over.0).dir ≡ (output.0).dir
        dirs = same_home path file (output.0).dir (over.0).dir lower.home upper.home upper.no_folder below

    pub can_stand : IsTree sources → NoneWaitsForItself rules → IsBuildable sources rules
    can_stand tree order = record {
      not_top = λ at path output top. let stands = stands_in path (output.0).dir (new_at at path output).home in not_empty stands.up stands.name (sym stands.is ∙ top);
      once = λ at rule here. once_at [] rules at rule are here;
      no_source = λ at path output. none_there (finite.get sources path) (new_at at path output).no_source;
      one_maker = one_place;
      not_above_source = above_no_source;
      not_below_source = below_no_source tree;
      not_below_output = below_no_output;
      none_waits = order;
    }

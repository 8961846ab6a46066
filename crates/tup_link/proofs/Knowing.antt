-- Sets of paths and of commands, one more at a time.
use Rattle.std.proofs.Common.{◌≡◌, ℕ, ◌+◌, ◌<◌, nat_eq, Bool, true, false, cond, not, ◌||◌, ◌&&◌, List, [], ◌∷◌, ◌++◌, length, take, get_or, refl, sym, ap, subst, ◌∙◌}
use Rattle.std.specs.BTreeSet.{BTreeSet, contains, Updates}
use Rattle.std.specs.BTreeMap.{is_at}
use Rattle.std.specs.List.{list_any, flat_map, AllZip}
use Rattle.std.specs.Ordering.{ordering_then, is_eq}
use Rattle.std.specs.declared.cmp.Ordering.{Ordering}
use Rattle.std.specs.declared.cmp.Ordering.TheVariants.{Less, Equal, Greater}
use Rattle.std.specs.Str.{bytes_eq}
use Rattle.std.proofs.lemmas.Bool.{eqb-true}
use Rattle.std.proofs.lemmas.List.{take_more, append-nil, nil_from_length}
use Rattle.std.proofs.lemmas.List.Elements.{same_from_all_zip}
use Rattle.std.proofs.lemmas.List.Concat.{flat_map-append}
use Rattle.std.proofs.lemmas.List.Folds.{list_any-append}
use Rattle.std.proofs.lemmas.List.Sums.{fold-append}
use Rattle.std.proofs.lemmas.Map.Text.{is_eq-slice_cmp}
use Rattle.std.proofs.lemmas.Slice.Eq.{bytes_eq-Decides}
use Rattle.tup_path.specs.Name.{Names}
use Rattle.tup_path.specs.Order.{by_names, by_bytes, same_path, same_path-by_names}
use Rattle.tup_path.proofs.Same.{same_path-decides}
use Rattle.tup_rule.specs.declared.draft.GroupRef.{GroupRef}
use Rattle.tup_rule.specs.declared.rule.Rule.{Rule}
use Rattle.tup_rule.specs.Rule.{among}
use Rattle.tup_link.specs.Faults.{same_command}
use Rattle.tup_link.specs.Known.{Knows, Command, by_command, KnowsCommands}
use Rattle.tup_link.specs.Linked.{Members, with_path, with_paths}

-- ---- tests

same_answers : (a b : Bool) → (a ≡ true → b ≡ true) → (b ≡ true → a ≡ true) → a ≡ b
same_answers true b f g = sym (f refl)
same_answers false true f g = g refl
same_answers false false f g = refl

same_path-comm : (x y : Names) → same_path x y ≡ same_path y x
same_path-comm x y =
    let p = same_path-decides x y in
    let q = same_path-decides y x in
    same_answers (same_path x y) (same_path y x) (λ e. q.1 (sym (p.0 e))) (λ e. p.1 (sym (q.0 e)))

bytes_eq-comm : (x y : List ℕ) → bytes_eq x y ≡ bytes_eq y x
bytes_eq-comm x y =
    let p = bytes_eq-Decides x y in
    let q = bytes_eq-Decides y x in
    same_answers (bytes_eq x y) (bytes_eq y x) (λ e. q.1 (sym (p.0 e))) (λ e. p.1 (sym (q.0 e)))

or-last : (a b : Bool) → (a || (b || false)) ≡ cond b true a
or-last true true = refl
or-last true false = refl
or-last false true = refl
or-last false false = refl

-- ---- paths

among_push : (paths : List Names) (path q : Names) → among q (paths ++ path ∷ []) ≡ cond (same_path path q) true (among q paths)
among_push paths path q =
    list_any-append (same_path q) paths (path ∷ [])
    ∙ or-last (among q paths) (same_path q path)
    ∙ ap (λ b. cond b true (among q paths)) (same_path-comm q path)

at_path : (x y : Names) → is_at (by_names x) y ≡ same_path x y
at_path x y = sym (same_path-by_names x y)

pub knows_none : (known : BTreeSet Names) → known.keys ≡ [] → Knows known []
knows_none known none = record { each = λ path. ap (λ (keys : List Names). list_any (is_at (by_names path)) keys) none }

pub knows_push : (old new : BTreeSet Names) (paths : List Names) (path key : Names) → Knows old paths → Updates by_names old new key true → key ≡ path → Knows new (paths ++ path ∷ [])
knows_push old new paths path key knows updates is = record {
  each = λ q.
      updates.0 q
      ∙ ap (λ b. cond b true (contains by_names old q)) (at_path key q ∙ ap (λ (x : Names). same_path x q) is)
      ∙ ap (λ b. cond (same_path path q) true b) (knows.each q)
      ∙ sym (among_push paths path q);
}

pub knows_take : (old new : BTreeSet Names) (paths : List Names) (i : ℕ) (path key : Names) → i < length paths → path ≡ get_or paths i path → Knows old (take i paths) → Updates by_names old new key true → key ≡ path →
    Knows new (take (i + 1) paths)
knows_take old new paths i path key less here knows updates is =
    subst (λ (l : List Names). Knows new l) (sym (take_more paths i path less ∙ ap (λ (p : Names). take i paths ++ p ∷ []) (sym here))) (knows_push old new (take i paths) path key knows updates is)

-- a path that a set took in wasn't among its paths, and the other way round
pub was_new : (known : BTreeSet Names) (paths : List Names) (path key : Names) (added : Bool) → Knows known paths → added ≡ not (contains by_names known key) → key ≡ path → among path paths ≡ not added
was_new known paths path key added knows is e = sym (knows.each path) ∙ ap (contains by_names known) (sym e) ∙ twice (contains by_names known key) added is
  where
    twice : (b added : Bool) → added ≡ not b → b ≡ not added
    twice true added e = ap not (sym e)
    twice false added e = ap not (sym e)

pub with_new : (paths : List Names) (path : Names) → among path paths ≡ false → with_path paths path ≡ paths ++ path ∷ []
with_new paths path new = rw new refl

-- ---- the order of paths with those of one more group

pub with_more : (group_has : Members) (order : List Names) (groups : List GroupRef) (i : ℕ) (group : GroupRef) → i < length groups → group ≡ get_or groups i group →
    with_paths order (flat_map group_has (take (i + 1) groups)) ≡ with_paths (with_paths order (flat_map group_has (take i groups))) (group_has group)
with_more group_has order groups i group less here =
    ap (λ (l : List Names). with_paths order l)
    (ap (flat_map group_has) (take_more groups i group less ∙ ap (λ (g : GroupRef). take i groups ++ g ∷ []) (sym here))
    ∙ flat_map-append group_has (take i groups) (group ∷ [])
    ∙ ap (λ (l : List Names). flat_map group_has (take i groups) ++ l) (append-nil (group_has group)))
    ∙ fold-append with_path order (flat_map group_has (take i groups)) (group_has group)

-- ---- commands

then_equal : (a b : Ordering) → is_eq (ordering_then a b) ≡ (is_eq a && is_eq b)
then_equal Less b = refl
then_equal Equal b = refl
then_equal Greater b = refl

at_command : (x y : Command) → is_at (by_command x) y ≡ (same_path x.0 y.0 && bytes_eq x.1 y.1)
at_command x y =
    then_equal (by_names x.0 y.0) (by_bytes x.1 y.1)
    ∙ ap (λ b. b && is_eq (by_bytes x.1 y.1)) (at_path x.0 y.0)
    ∙ ap (λ b. same_path x.0 y.0 && b) (is_eq-slice_cmp x.1 y.1)

same_command-comm : (one other : Rule) → same_command one other ≡ same_command other one
same_command-comm one other =
    ap (λ b. b && bytes_eq one.text other.text) (same_path-comm one.dir other.dir) ∙ ap (λ b. same_path other.dir one.dir && b) (bytes_eq-comm one.text other.text)

command_push : (rules : List Rule) (rule q : Rule) → list_any (same_command q) (rules ++ rule ∷ []) ≡ cond (same_command rule q) true (list_any (same_command q) rules)
command_push rules rule q =
    list_any-append (same_command q) rules (rule ∷ [])
    ∙ or-last (list_any (same_command q) rules) (same_command q rule)
    ∙ ap (λ b. cond b true (list_any (same_command q) rules)) (same_command-comm q rule)

pub commands_none : (known : BTreeSet Command) → known.keys ≡ [] → KnowsCommands known []
commands_none known none = record { each = λ rule. ap (λ (keys : List Command). list_any (is_at (by_command (rule.dir, rule.text))) keys) none }

pub commands_take : (old new : BTreeSet Command) (rules : List Rule) (i : ℕ) (rule : Rule) (key : Command) → i < length rules → rule ≡ get_or rules i rule → KnowsCommands old (take i rules) →
    Updates by_command old new key true → key ≡ (rule.dir, rule.text) → KnowsCommands new (take (i + 1) rules)
commands_take old new rules i rule key less here knows updates is = record {
  each = λ q.
      updates.0 (q.dir, q.text)
      ∙ ap (λ b. cond b true (contains by_command old (q.dir, q.text))) (ap (λ (k : Command). is_at (by_command k) (q.dir, q.text)) is ∙ at_command (rule.dir, rule.text) (q.dir, q.text))
      ∙ ap (λ b. cond (same_command rule q) true b) (knows.each q)
      ∙ sym (command_push (take i rules) rule q)
      ∙ ap (λ (l : List Rule). list_any (same_command q) l) (sym (take_more rules i rule less ∙ ap (λ (r : Rule). take i rules ++ r ∷ []) (sym here)));
}

pub command_new : (known : BTreeSet Command) (rules : List Rule) (rule : Rule) (key : Command) (added : Bool) → KnowsCommands known rules → added ≡ not (contains by_command known key) → key ≡ (rule.dir, rule.text) →
    list_any (same_command rule) rules ≡ not added
command_new known rules rule key added knows is e = sym (knows.each rule) ∙ ap (contains by_command known) (sym e) ∙ twice (contains by_command known key) added is
  where
    twice : (b added : Bool) → added ≡ not b → b ≡ not added
    twice true added e = ap not (sym e)
    twice false added e = ap not (sym e)

-- a pair by its parts
pub same_pair : {A B : Type 0} (a x : A) (b y : B) → a ≡ x → b ≡ y → ◌≡◌ {A = A × B} (a, b) (x, y)
same_pair a x b y one two = λ i. (one i, two i)

-- a copy of paths
pub copied : (paths copy : List Names) → AllZip (λ (path other : Names). other ≡ path) paths copy → copy ≡ paths
copied paths copy same = same_from_all_zip (λ (path other : Names). other ≡ path) paths copy same (λ path other e. e)

-- where no group is taken the order is as it was
pub none_taken : (group_has : Members) (order copy : List Names) (groups : List GroupRef) (b : Bool) → b ≡ nat_eq (length groups) 0 → b ≡ true → copy ≡ order → copy ≡ with_paths order (flat_map group_has groups)
none_taken group_has order copy groups b is true_ same =
    same ∙ ap (λ (l : List GroupRef). with_paths order (flat_map group_has l)) (sym (nil_from_length groups (eqb-true (length groups) 0 (sym is ∙ true_))))

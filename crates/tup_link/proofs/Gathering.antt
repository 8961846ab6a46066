-- What a table of groups has after gifts, and the members of groups after one more draft.
use Rattle.std.proofs.Common.{◌≡◌, ℕ, ◌+◌, ◌<◌, Bool, true, false, cond, if◌then◌else◌, List, [], ◌∷◌, ◌++◌, length, take, get_or, Option, Some, None, unwrap_or, Result, Ok, Err, OnOk, refl, sym, ap, subst, ◌∙◌}
use Rattle.std.specs.BTreeSet.{insert_key}
use Rattle.std.specs.List.{fold}
use Rattle.std.specs.HashMap.Eq.{lookup_congr}
use Rattle.std.proofs.lemmas.List.{append-nil, map_more}
use Rattle.std.proofs.lemmas.List.Concat.{flat_map-append}
use Rattle.std.proofs.lemmas.List.Sums.{fold-append, fold_more}
use Rattle.std.proofs.lemmas.Map.{lookup-set_value}
use Rattle.tup_path.specs.Name.{Names}
use Rattle.tup_path.specs.Order.{by_names}
use Rattle.tup_rule.specs.declared.draft.Draft.{Draft}
use Rattle.tup_rule.specs.declared.draft.GroupRef.{GroupRef}
use Rattle.tup_macro.specs.Gifts.{GiftsTo, same_group, members_of, with_gift}
use Rattle.tup_macro.proofs.Giving.{same_group-equiv}
use Rattle.tup_macro.proofs.Lookups.{lookup-last}
use Rattle.tup_link.specs.Placed.{Placed, drafts_of}
use Rattle.tup_link.specs.Groups.{gives_to, given_to, in_order, members, listed, HasMembers, GivesAll, Gives}

-- ---- one gift

found_after : (gifts : GiftsTo GroupRef) (to : GroupRef) (path : Names) (found : Option (List Names)) → members_of same_group gifts to ≡ found → (group : GroupRef) →
    members_of same_group (with_gift same_group gifts to path) group ≡ cond (same_group to group) (Some (insert_key by_names (unwrap_or found []) path)) (members_of same_group gifts group)
found_after gifts to path None absent group = rw absent (lookup-last same_group-equiv gifts to group (path ∷ []) absent)
found_after gifts to path (Some paths) there group =
    rw there (lookup-set_value same_group-equiv (same_group to) (same_group-equiv.congr to) group (insert_key by_names paths path) gifts (rw there refl))

pub given_one : (gifts : GiftsTo GroupRef) (to : GroupRef) (path : Names) (group : GroupRef) →
    listed (with_gift same_group gifts to path) group ≡ (if same_group to group then insert_key by_names (listed gifts group) path else listed gifts group)
given_one gifts to path group =
    ap (λ (o : Option (List Names)). unwrap_or o []) (found_after gifts to path (members_of same_group gifts to) refl group)
    ∙ by (same_group to group) (members_of same_group gifts to) (members_of same_group gifts group) (λ e. lookup_congr same_group same_group-equiv.congr gifts to group e)
  where
    by : (b : Bool) (at before : Option (List Names)) → (b ≡ true → at ≡ before) →
        unwrap_or (cond b (Some (insert_key by_names (unwrap_or at []) path)) before) [] ≡ (if b then insert_key by_names (unwrap_or before []) path else unwrap_or before [])
    by true at before same = ap (λ (o : Option (List Names)). insert_key by_names (unwrap_or o []) path) (same refl)
    by false at before same = refl

-- ---- the gifts of a draft

pub gives_none : (to : GroupRef) (gifts : GiftsTo GroupRef) → GivesAll to [] gifts gifts
gives_none to gifts = λ group. by (same_group to group) (listed gifts group)
  where
    by : (b : Bool) (paths : List Names) → paths ≡ fold (insert_key by_names) paths (if b then [] else [])
    by true paths = refl
    by false paths = refl

pub gives_more : (to : GroupRef) (paths : List Names) (i : ℕ) (path : Names) (old mid new : GiftsTo GroupRef) → i < length paths → path ≡ get_or paths i path → GivesAll to (take i paths) old mid →
    new ≡ with_gift same_group mid to path → GivesAll to (take (i + 1) paths) old new
gives_more to paths i path old mid new less here gives e = λ group.
    ap (λ (gifts : GiftsTo GroupRef). listed gifts group) e
    ∙ given_one mid to path group
    ∙ ap (λ (had : List Names). if same_group to group then insert_key by_names had path else had) (gives group)
    ∙ by (same_group to group) (listed old group)
  where
    by : (b : Bool) (had : List Names) →
        (if b then insert_key by_names (fold (insert_key by_names) had (if b then take i paths else [])) path else fold (insert_key by_names) had (if b then take i paths else []))
        ≡ fold (insert_key by_names) had (if b then take (i + 1) paths else [])
    by true had =
        ap (λ (p : Names). insert_key by_names (fold (insert_key by_names) had (take i paths)) p) here
        ∙ sym (fold_more (insert_key by_names) had paths i path less)
    by false had = refl

pub gives_some : (draft : Draft) (to : GroupRef) (old new : GiftsTo GroupRef) → draft.gives ≡ Some to → GivesAll to draft.outputs old new → Gives draft old new
gives_some draft to old new is gives = λ group. rw is (gives group)

-- the same of a call that gives
pub gives_some-ok : {X E : Type 0} (r : Result X E) (draft : Draft) (to : GroupRef) (paths : List Names) (old new : GiftsTo GroupRef) → draft.gives ≡ Some to → paths ≡ draft.outputs → OnOk r (GivesAll to paths old new) →
    OnOk r (Gives draft old new)
gives_some-ok (Ok _) draft to paths old new is are gives = gives_some draft to old new is (subst (λ (ps : List Names). GivesAll to ps old new) are gives)
gives_some-ok (Err _) draft to paths old new is are gives = tt

pub gives_nothing : (draft : Draft) (gifts : GiftsTo GroupRef) → draft.gives ≡ None → Gives draft gifts gifts
gives_nothing draft gifts is = λ group. rw is refl

-- ---- one draft more

pub members_none : (gifts : GiftsTo GroupRef) → gifts ≡ [] → HasMembers [] gifts
unfolding members
members_none gifts none = record { each = λ group. ap (λ (g : GiftsTo GroupRef). listed g group) none }

pub members_more : (all : List Placed) (i : ℕ) (one : Placed) (old new : GiftsTo GroupRef) → i < length all → one ≡ get_or all i one → HasMembers (drafts_of (take i all)) old →
    Gives one.draft old new → HasMembers (drafts_of (take (i + 1) all)) new
unfolding members
members_more all i one old new less here has gives = record {
  each = λ group.
      let drafts = drafts_of (take i all) in
      let given = if gives_to group one.draft then one.draft.outputs else [] in
      let grown : drafts_of (take (i + 1) all) ≡ drafts ++ one.draft ∷ [] = map_more (λ (p : Placed). p.draft) all i one less ∙ ap (λ (p : Placed). drafts ++ p.draft ∷ []) (sym here) in
      let more : given_to group (drafts ++ one.draft ∷ []) ≡ given_to group drafts ++ given =
      flat_map-append (λ (draft : Draft). if gives_to group draft then draft.outputs else []) drafts (one.draft ∷ []) ∙ ap (λ (l : List Names). given_to group drafts ++ l) (append-nil given) in
      gives group
      ∙ ap (λ (had : List Names). fold (insert_key by_names) had given) (has.each group)
      ∙ sym (fold-append (insert_key by_names) [] (given_to group drafts) given)
      ∙ ap in_order (sym more)
      ∙ ap (λ (ds : List Draft). in_order (given_to group ds)) (sym grown);
}

-- the members, as a function
pub same_members : (drafts : List Draft) (gifts : GiftsTo GroupRef) → HasMembers drafts gifts → listed gifts ≡ members drafts
same_members drafts gifts has = λ i group. has.each group i

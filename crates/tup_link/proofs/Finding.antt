-- Faults that are looked for from the front of a list on.
use Rattle.std.proofs.Common.{◌≡◌, ℕ, ◌+◌, ◌<◌, nat_eq, true, false, List, [], ◌∷◌, ◌++◌, length, take, drop, map, get_or, Option, Some, None, option_map, refl, sym, ap, ◌∙◌, inl, inr, ◌⊎◌, arith}
use Rattle.std.specs.List.{find, list_any, slice_get}
use Rattle.std.specs.Option.{option_or, option_and_then}
use Rattle.std.proofs.lemmas.List.{append-nil, drop_more, take_more, length-take-le}
use Rattle.std.proofs.lemmas.List.Concat.{flat_map-append}
use Rattle.std.proofs.lemmas.List.Folds.{find-append}
use Rattle.tup_path.specs.Name.{Names}
use Rattle.tup_rule.specs.declared.draft.GroupRef.{GroupRef}
use Rattle.tup_rule.specs.declared.question.Reading.{Reading}
use Rattle.tup_rule.specs.declared.rule.Rule.{Rule}
use Rattle.tup_link.specs.declared.fault.LinkFault.{LinkFault}
use Rattle.tup_link.specs.declared.fault.LinkFault.TheVariants.{NoSuchGroup, Memory}
use Rattle.tup_link.specs.Placed.{Placed, placed, placed_in, drafts_of}
use Rattle.tup_link.specs.Linked.{Members}
use Rattle.tup_link.specs.Faults.{taken, missing_group, same_command, repeated, twice, duplicate}

-- ---- a list from a place on

pub rest_is : {X : Type 0} (all : List X) (i : ℕ) (one : X) → i < length all → one ≡ get_or all i one → drop i all ≡ one ∷ drop (i + 1) all
rest_is {X} all i one less here = drop_more all i one less ∙ ap (λ (x : X). x ∷ drop (i + 1) all) (sym here)

-- ---- groups

missing_parts : (group_has : Members) (one more : List GroupRef) → missing_group group_has (one ++ more) ≡ option_or (missing_group group_has one) (missing_group group_has more)
missing_parts group_has one more = ap (option_map NoSuchGroup) (find-append (λ group. nat_eq (length (group_has group)) 0) one more) ∙ by (find (λ group. nat_eq (length (group_has group)) 0) one)
  where
    by : (o : Option GroupRef) → option_map NoSuchGroup (option_or o (find (λ group. nat_eq (length (group_has group)) 0) more))
        ≡ option_or (option_map NoSuchGroup o) (option_map NoSuchGroup (find (λ group. nat_eq (length (group_has group)) 0) more))
    by None = refl
    by (Some group) = refl

pub taken_on : (group_has : Members) (all : List Placed) (i : ℕ) (one : Placed) → i < length all → one ≡ get_or all i one →
    missing_group group_has (taken (drafts_of (drop i all))) ≡ option_or (missing_group group_has one.draft.groups) (missing_group group_has (taken (drafts_of (drop (i + 1) all))))
taken_on group_has all i one less here =
    ap (λ (l : List Placed). missing_group group_has (taken (drafts_of l))) (rest_is all i one less here) ∙ missing_parts group_has one.draft.groups (taken (drafts_of (drop (i + 1) all)))

pub or_none : (o p : Option LinkFault) → o ≡ None → option_or o p ≡ p
or_none o p e = rw e refl

pub or_some : (o p : Option LinkFault) (fault : LinkFault) → o ≡ Some fault → option_or o p ≡ Some fault
or_some o p fault e = rw e refl

-- ---- commands

pub repeated_here : (rules : List Rule) (i : ℕ) (rule : Rule) → i < length rules → rule ≡ get_or rules i rule → list_any (same_command rule) (take i rules) ≡ true → repeated (take i rules) (drop i rules) ≡ Some i
repeated_here rules i rule less here there =
    ap (repeated (take i rules)) (rest_is rules i rule less here) ∙ rw there (ap Some (length-take-le i rules (omega arith)))

pub repeated_on : (rules : List Rule) (i : ℕ) (rule : Rule) → i < length rules → rule ≡ get_or rules i rule → list_any (same_command rule) (take i rules) ≡ false →
    repeated (take (i + 1) rules) (drop (i + 1) rules) ≡ repeated (take i rules) (drop i rules)
repeated_on rules i rule less here new =
    ap (λ (l : List Rule). repeated l (drop (i + 1) rules)) (take_more rules i rule less ∙ ap (λ (r : Rule). take i rules ++ r ∷ []) (sym here))
    ∙ sym (ap (repeated (take i rules)) (rest_is rules i rule less here) ∙ rw new refl)

pub duplicate_at : (all : List Placed) (rules : List Rule) (at : ℕ) (one : Placed) → repeated [] rules ≡ Some at → slice_get all at ≡ Some one → duplicate all rules ≡ Some (twice one)
duplicate_at all rules at one is here = ap (option_and_then (λ at. option_map twice (slice_get all at))) is ∙ ap (option_map twice) here

-- ---- readings

pub placed_more : (readings : List (Names × Reading)) (i : ℕ) (read : Names × Reading) → i < length readings → read ≡ get_or readings i read →
    placed (take (i + 1) readings) ≡ placed (take i readings) ++ map (placed_in read.0) read.1.drafts
placed_more readings i read less here =
    ap placed (take_more readings i read less ∙ ap (λ (r : Names × Reading). take i readings ++ r ∷ []) (sym here))
    ∙ flat_map-append (λ (r : Names × Reading). map (placed_in r.0) r.1.drafts) (take i readings) (read ∷ [])
    ∙ ap (λ (l : List Placed). placed (take i readings) ++ l) (append-nil (map (placed_in read.0) read.1.drafts))

-- ---- faults in their order

pub tells_next : (a b : Option LinkFault) (told : LinkFault) → a ≡ None → (told ≡ Memory) ⊎ (b ≡ Some told) → (told ≡ Memory) ⊎ (option_or a b ≡ Some told)
tells_next a b told none (inl memory) = inl memory
tells_next a b told none (inr next) = inr (or_none a b none ∙ next)

pub none_of_both : (a b : Option LinkFault) → a ≡ None → b ≡ None → option_or a b ≡ None
none_of_both a b first next = or_none a b first ∙ next

-- the groups of one more draft, whose fault is told, or which have none
pub taken_told : (group_has : Members) (all : List Placed) (i : ℕ) (one : Placed) (groups : List GroupRef) (whole : Option LinkFault) (told : LinkFault) → i < length all → one ≡ get_or all i one →
    missing_group group_has (taken (drafts_of (drop i all))) ≡ whole → groups ≡ one.draft.groups → (told ≡ Memory) ⊎ (missing_group group_has groups ≡ Some told) → (told ≡ Memory) ⊎ (whole ≡ Some told)
taken_told group_has all i one groups whole told less here rest are (inl memory) = inl memory
taken_told group_has all i one groups whole told less here rest are (inr missing) =
    inr (sym rest ∙ taken_on group_has all i one less here ∙ or_some (missing_group group_has one.draft.groups) _ told (ap (missing_group group_has) (sym are) ∙ missing))

pub taken_past : (group_has : Members) (all : List Placed) (i : ℕ) (one : Placed) (groups : List GroupRef) (whole : Option LinkFault) → i < length all → one ≡ get_or all i one →
    missing_group group_has (taken (drafts_of (drop i all))) ≡ whole → groups ≡ one.draft.groups → missing_group group_has groups ≡ None → missing_group group_has (taken (drafts_of (drop (i + 1) all))) ≡ whole
taken_past group_has all i one groups whole less here rest are none =
    sym (taken_on group_has all i one less here ∙ or_none (missing_group group_has one.draft.groups) _ (ap (missing_group group_has) (sym are) ∙ none)) ∙ rest

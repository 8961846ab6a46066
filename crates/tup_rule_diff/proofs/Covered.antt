-- Edits of which the last one under each key counts: one whose key comes again may be left out.
use Rattle.std.specs.Prelude.{◌≡◌, ◌+◌, ◌<◌, ℕ, suc, Bool, true, false, cond, List, [], ◌∷◌, ◌++◌, Option, None, Some, Contains, fold, length, map, if◌then◌else◌}
use Rattle.std.proofs.Common.{refl, sym, ap, subst, ◌∙◌, inl, inr, append_assoc, arith}
use Rattle.std.specs.Ordering.{eq_by_cmp}
use Rattle.std.specs.Cmp.Lexicographic.{nat_list_cmp_total}
use Rattle.std.specs.FinMap as finite
use Rattle.std.proofs.lemmas.List.{append-nil, map-append}
use Rattle.std.proofs.lemmas.List.Sums.{fold-append}
use Rattle.std.proofs.lemmas.Option.{none-some}
use Rattle.tup_path.specs.Order.{by_bytes}
use Rattle.tup_rule.specs.declared.rule.Rule.{Rule}
use Rattle.tup_table.specs.declared.change.Change.{Change}
use Rattle.tup_table.specs.Entries.{key_of}
use Rattle.tup_graph.specs.declared.edit.Edit.{Edit}
use Rattle.tup_graph.specs.Changes.{last_changes}
use Rattle.tup_graph.specs.Edits.{change_of}
use Rattle.tup_graph.proofs.Maps.{by_bytes-antisymmetric}
use Rattle.tup_readers.proofs.Entries.{in_front, behind_front, front_or_behind, none_in}
use Rattle.tup_scan_diff.proofs.Named.{name-decides}
use Rattle.tup_rule_diff.specs.Edits.{goes, less_edits, rule_less}
use Rattle.tup_rule_diff.proofs.Puts.{first_or, put_one, put_over, there_put}
use Rattle.tup_rule_diff.proofs.Whole.{whole_less}

abbrev pub Last : Type 0
Last = finite.FinMap by_bytes Change

-- an edit's change under its key
abbrev pub keyed : Edit → List ℕ × Change
keyed edit = (key_of (change_of edit), change_of edit)

-- the last changes of edits behind others
abbrev pub after : Last → List Edit → Last
after last edits = fold (put_one nat_list_cmp_total by_bytes-antisymmetric name-decides) last (map keyed edits)

changes_as : (edits : List Edit) (last : Last) → fold (λ (m : Last) (change : Change). finite.insert m (key_of change) change) last (map change_of edits) ≡ after last edits
changes_as [] last = refl
changes_as (edit ∷ edits) last = changes_as edits (finite.insert last (key_of (change_of edit)) (change_of edit))

pub last_as : (edits : List Edit) → last_changes (map change_of edits) ≡ after finite.empty edits
last_as edits = changes_as edits finite.empty

pub after_both : (last : Last) (xs ys : List Edit) → after last (xs ++ ys) ≡ after (after last xs) ys
after_both last xs ys =
    ap (fold (put_one nat_list_cmp_total by_bytes-antisymmetric name-decides) last) (map-append keyed xs ys)
    ∙ fold-append (put_one nat_list_cmp_total by_bytes-antisymmetric name-decides) last (map keyed xs) (map keyed ys)

-- the key of an edit comes again in others
abbrev pub Covered : List Edit → Edit → Type 0
Covered edits edit = (change : Change) × (finite.get (after finite.empty edits) (key_of (change_of edit)) ≡ Some change)

-- what a list is of that is made of another
pub mapped : {X Y : Type 0} (f : X → Y) (xs : List X) (y : Y) → Contains (map f xs) y → (x : X) × Contains xs x × (f x ≡ y)
mapped f [] y h = absurd (none_in y h)
mapped f (x ∷ xs) y h = elim (front_or_behind (f x) y (map f xs) h) [
  | inl same ↦ (x, in_front x xs, same)
  | inr later ↦ let there = mapped f xs y later in (there.0, behind_front x there.0 xs there.1, there.2)
]

in_map : (edits : List Edit) (edit : Edit) → Contains edits edit → Contains (map keyed edits) (keyed edit)
in_map [] edit h = absurd (none_in edit h)
in_map (first ∷ edits) edit h = elim (front_or_behind first edit edits h) [
  | inl same ↦ subst (λ (e : Edit). Contains (map keyed (first ∷ edits)) (keyed e)) same (in_front (keyed first) (map keyed edits))
  | inr later ↦ behind_front (keyed first) (keyed edit) (map keyed edits) (in_map edits edit later)
]

pub covers : (edits : List Edit) (other edit : Edit) → Contains edits other → key_of (change_of other) ≡ key_of (change_of edit) → Covered edits edit
covers edits other edit h same =
    let there = there_put nat_list_cmp_total by_bytes-antisymmetric name-decides (map keyed edits) finite.empty (key_of (change_of other)) (change_of other) (in_map edits other h) in
    (there.0, ap (finite.get (after finite.empty edits)) (sym same) ∙ there.1)

-- ---- an edit whose key comes again
hidden : (found : Option Change) (b : Bool) (x : Change) (got : Option Change) → (b ≡ true → (y : Change) × (found ≡ Some y)) → first_or nat_list_cmp_total by_bytes-antisymmetric name-decides found (cond b (Some x) got) ≡ first_or nat_list_cmp_total by_bytes-antisymmetric name-decides found got
hidden (Some y) b x got there = refl
hidden None true x got there = absurd (none-some (there refl).0 (there refl).1)
hidden None false x got there = refl

one_left_out : (last : Last) (edit : Edit) (edits : List Edit) → Covered edits edit → after last (edit ∷ edits) ≡ after last edits
one_left_out last edit edits again = finite.same_map nat_list_cmp_total by_bytes-antisymmetric _ _ (λ q.
    let found = finite.get (after finite.empty edits) q in
    let key = key_of (change_of edit) in
    put_over nat_list_cmp_total by_bytes-antisymmetric name-decides (map keyed edits) (finite.insert last key (change_of edit)) q
    ∙ ap (first_or nat_list_cmp_total by_bytes-antisymmetric name-decides found) (finite.get-insert nat_list_cmp_total last key (change_of edit) q)
    ∙ hidden found (eq_by_cmp by_bytes q key) (change_of edit) (finite.get last q) (λ same. (again.0, ap (finite.get (after finite.empty edits)) ((name-decides q key).0 same) ∙ again.1))
    ∙ sym (put_over nat_list_cmp_total by_bytes-antisymmetric name-decides (map keyed edits) last q))

pub all_left_out : (some edits : List Edit) (last : Last) → ((edit : Edit) → Contains some edit → Covered edits edit) → after last (some ++ edits) ≡ after last edits
all_left_out [] edits last again = refl
all_left_out (edit ∷ some) edits last again =
    all_left_out some edits (finite.insert last (key_of (change_of edit)) (change_of edit)) (λ other there. again other (behind_front edit other some there))
    ∙ one_left_out last edit edits (again edit (in_front edit some))

-- with one more in front
still : (first : Edit) (edits : List Edit) (edit : Edit) → Covered edits edit → Covered (first ∷ edits) edit
still first edits edit again =
    let key = key_of (change_of edit) in
    let one : Last = finite.insert finite.empty (key_of (change_of first)) (change_of first) in (
      again.0,
      put_over nat_list_cmp_total by_bytes-antisymmetric name-decides (map keyed edits) one key
          ∙ ap (λ (o : Option Change). first_or nat_list_cmp_total by_bytes-antisymmetric name-decides o (finite.get one key)) again.1,
    )

-- rules in whose places others come
pub rules_left_out : (count n : ℕ) (rules : List Rule) (edits : List Edit) (last : Last) → ((k : ℕ) → goes count k ≡ false → k < n + length rules → Covered edits (rule_less k)) → after last (whole_less n rules ++ edits) ≡ after last (less_edits count n rules ++ edits)
rules_left_out count n [] edits last again = refl
rules_left_out count n (rule ∷ rules) edits last again =
    ap (after last) (append_assoc (whole_less (suc n) rules) (rule_less n ∷ []) edits)
    ∙ rules_left_out count (suc n) rules (rule_less n ∷ edits) last (λ k stays less. still (rule_less n) edits (rule_less k) (again k stays (omega (arith, less))))
    ∙ by (goes count n) refl
  where
    by : (b : Bool) → goes count n ≡ b → after last (less_edits count (suc n) rules ++ rule_less n ∷ edits) ≡ after last ((less_edits count (suc n) rules ++ (if b then rule_less n ∷ [] else [])) ++ edits)
    by true is = ap (after last) (sym (append_assoc (less_edits count (suc n) rules) (rule_less n ∷ []) edits))
    by false is =
        after_both last (less_edits count (suc n) rules) (rule_less n ∷ edits)
        ∙ one_left_out (after last (less_edits count (suc n) rules)) (rule_less n) edits (again n is (omega arith))
        ∙ sym (after_both last (less_edits count (suc n) rules) edits)
        ∙ ap (λ (l : List Edit). after last (l ++ edits)) (sym (append-nil (less_edits count (suc n) rules)))

-- What goes, one after another, and rules that come, each with its place.
use Rattle.std.specs.Prelude.{◌≡◌, ◌+◌, ◌-◌, ◌<◌, ◌≤◌, ℕ, zero, suc, Bool, true, false, cond, not, List, [], ◌∷◌, ◌++◌, count_by, drop, filter, length, map, take, if◌then◌else◌}
use Rattle.std.proofs.Common.{refl, sym, ap, subst, ◌∙◌, append_assoc, length-append, get_or, arith}
use Rattle.std.proofs.lemmas.List.{append-nil, length-take-le, map-append}
use Rattle.std.proofs.lemmas.List.Elements.{filter-append}
use Rattle.tup_path.specs.Name.{Names}
use Rattle.tup_path.specs.Order.{same_path}
use Rattle.tup_path.proofs.Same.{same_path-decides}
use Rattle.tup_rule.specs.declared.rule.Rule.{Rule}
use Rattle.tup_record.specs.declared.run.RunRecord.{RunRecord}
use Rattle.tup_graph.specs.declared.edit.Edit.{Edit}
use Rattle.tup_closure.specs.Lists.{list_of}
use Rattle.tup_closure.specs.declared.lists.Lists.{Lists}
use Rattle.tup_closure.proofs.Asked.{taken}
use Rattle.tup_rule_diff.specs.Before.{count_of}
use Rattle.tup_rule_diff.specs.Edits.{goes, less_edits, more_edits, rule_less, rule_more, place_behind, run_less, unrun, unrun_edits}
use Rattle.tup_rule_diff.proofs.Pushing.{behind}
use Rattle.tup_rule_diff.proofs.Taking.{one_more}

-- ---- records that go
abbrev aside : (ℕ → Bool) → ℕ × RunRecord → Bool
aside kept run = not (kept run.0)

unrun_push : {A : Type 0} (kept : ℕ → Bool) (read : A → ℕ × RunRecord) (items : List A) (item : A) → unrun_edits kept (map read (items ++ item ∷ [])) ≡ unrun_edits kept (map read items) ++ (if kept (read item).0 then [] else run_less (read item).0 ∷ [])
unrun_push {A} kept read items item =
    ap (unrun_edits kept) (map-append read items (item ∷ []))
    ∙ ap (map unrun) (filter-append (aside kept) (map read items) (read item ∷ []))
    ∙ map-append unrun (filter (aside kept) (map read items)) (filter (aside kept) (read item ∷ []))
    ∙ ap (λ (l : List Edit). map unrun (filter (aside kept) (map read items)) ++ l) (one (kept (read item).0))
  where
    one : (b : Bool) → map unrun (cond (not b) (read item ∷ []) []) ≡ (if b then [] else run_less (read item).0 ∷ [])
    one true = refl
    one false = refl

pub unrun_more : {A : Type 0} (kept : ℕ → Bool) (read : A → ℕ × RunRecord) (start so_far new : List Edit) (items : List A) (item : A) → so_far ≡ start ++ unrun_edits kept (map read items)
    → new ≡ so_far ++ (if kept (read item).0 then [] else run_less (read item).0 ∷ []) → new ≡ start ++ unrun_edits kept (map read (items ++ item ∷ []))
unrun_more kept read start so_far new items item first second =
    behind start so_far new (unrun_edits kept (map read items)) (if kept (read item).0 then [] else run_less (read item).0 ∷ []) first second ∙ ap (λ (l : List Edit). start ++ l) (sym (unrun_push kept read items item))

-- ---- rules that go, the last one first
abbrev less_one : ℕ → ℕ → List Edit
less_one count number = if goes count number then rule_less number ∷ [] else []

less_at : (count number n : ℕ) (rules : List Rule) → n < length rules → less_edits count number (drop n rules) ≡ less_edits count (suc number) (drop (suc n) rules) ++ less_one count number
less_at count number zero [] less = absurd (omega (arith, less))
less_at count number zero (rule ∷ rules) less = refl
less_at count number (suc n) [] less = absurd (omega (arith, less))
less_at count number (suc n) (rule ∷ rules) less = less_at count number n rules (omega (arith, less))

pub less_more : (count : ℕ) (rules : List Rule) (at : ℕ) (start edits new : List Edit) → 0 < at → at ≤ length rules → edits ≡ start ++ less_edits count at (drop at rules)
    → new ≡ edits ++ (if goes count (at - 1) then rule_less (at - 1) ∷ [] else []) → new ≡ start ++ less_edits count (at - 1) (drop (at - 1) rules)
less_more count rules zero start edits new some within so_far is = absurd (omega (arith, some))
less_more count rules (suc n) start edits new some within so_far is =
    let back : suc n - 1 ≡ n = omega arith in
    behind start edits new (less_edits count (suc n) (drop (suc n) rules)) (less_one count (suc n - 1)) so_far is
    ∙ (λ k. start ++ (less_edits count (suc n) (drop (suc n) rules) ++ less_one count (back k)))
    ∙ ap (λ (l : List Edit). start ++ l) (sym (less_at count n n rules (omega (arith, within))))
    ∙ (λ k. start ++ less_edits count (sym back k) (drop (sym back k) rules))

-- ---- rules that come
edits_push : (before rules : List Rule) (rule : Rule) → more_edits before (rules ++ rule ∷ []) ≡ more_edits before rules ++ rule_more (length (before ++ rules)) (place_behind (before ++ rules) rule) rule ∷ []
edits_push before [] rule = ap (λ (l : List Rule). rule_more (length l) (place_behind l rule) rule ∷ []) (sym (append-nil before))
edits_push before (first ∷ rules) rule =
    ap (λ (l : List Edit). rule_more (length before) (place_behind before first) first ∷ l)
    (edits_push (before ++ first ∷ []) rules rule ∙ ap (λ (l : List Rule). more_edits (before ++ first ∷ []) rules ++ rule_more (length l) (place_behind l rule) rule ∷ []) (append_assoc before (first ∷ []) rules))

-- ---- how many rules each folder has
abbrev counted : List Rule → Names → ℕ
counted rules dir = count_by (λ (rule : Rule). same_path rule.dir dir) rules

-- each folder has as many places as rules
abbrev pub ArePlaces : List Rule → Lists ℕ → Type 0
ArePlaces rules places = (dir : Names) → count_of places dir ≡ count_by (λ (rule : Rule). same_path rule.dir dir) rules

-- a folder has one place more
abbrev pub OneMore : Names → Lists ℕ → Lists ℕ → Type 0
OneMore dir old new = (folder : Names) → count_of new folder ≡ count_of old folder + (if same_path folder dir then 1 else 0)

pub no_places : (places : Lists ℕ) → ((path : Names) → list_of places path ≡ []) → ArePlaces [] places
no_places places none dir = ap length (none dir)

-- one value more in the list of a folder
pub longer : (b : Bool) (list : List ℕ) (value : ℕ) → length (if b then list ++ value ∷ [] else list) ≡ length list + (if b then 1 else 0)
longer true list value = length-append list (value ∷ [])
longer false list value = omega arith

place_push : (rules : List Rule) (rule : Rule) (places new : Lists ℕ) → ArePlaces rules places → OneMore rule.dir places new → ArePlaces (rules ++ rule ∷ []) new
place_push rules rule places new are more dir =
    more dir
    ∙ (λ k. are dir k + (if turned k then 1 else 0))
    ∙ sym (one_more (λ (other : Rule). same_path other.dir dir) rules rule)
  where
    both : (a b : Bool) → (a ≡ true → b ≡ true) → (b ≡ true → a ≡ true) → a ≡ b
    both true b to from = sym (to refl)
    both false true to from = from refl
    both false false to from = refl

    turned : same_path dir rule.dir ≡ same_path rule.dir dir
    turned = both (same_path dir rule.dir) (same_path rule.dir dir)
        (λ e. (same_path-decides rule.dir dir).1 (sym ((same_path-decides dir rule.dir).0 e))) (λ e. (same_path-decides dir rule.dir).1 (sym ((same_path-decides rule.dir dir).0 e)))

module _ (rules : List Rule) (i : ℕ) (rule : Rule) (less : i < length rules) (here : rule ≡ get_or rules i rule) where
  pub place_more : (places new : Lists ℕ) → ArePlaces (take i rules) places → OneMore rule.dir places new → ArePlaces (take (i + 1) rules) new
  place_more places new are more = subst (λ (l : List Rule). ArePlaces l new) (sym (taken rules i rule rule less here)) (place_push (take i rules) rule places new are more)

  pub rule_put : (places : Lists ℕ) (place : ℕ) (start edits new : List Edit) → ArePlaces (take i rules) places → place ≡ count_of places rule.dir → edits ≡ start ++ more_edits [] (take i rules) → new ≡ edits ++ rule_more i place rule ∷ []
      → new ≡ start ++ more_edits [] (take (i + 1) rules)
  rule_put places place start edits new are at so_far is =
      behind start edits new (more_edits [] (take i rules)) (rule_more i place rule ∷ []) so_far is
      ∙ ap (λ (l : List Edit). start ++ l)
      ((λ k. more_edits [] (take i rules) ++ rule_more (sym count k) ((at ∙ are rule.dir) k) rule ∷ []) ∙ sym (ap (more_edits []) (taken rules i rule rule less here) ∙ edits_push [] (take i rules) rule))
    where
      count : length (take i rules) ≡ i
      count = length-take-le i rules (omega arith)

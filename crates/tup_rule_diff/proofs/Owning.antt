-- Paths that are owned once rules have been gone through, and one rule more.
use Rattle.std.specs.Prelude.{◌≡◌, ◌+◌, ◌<◌, ◌||◌, ℕ, Bool, true, false, cond, List, [], ◌∷◌, ◌++◌, Option, None, Some, length, map, fold, option_map, unwrap_or}
use Rattle.std.proofs.Common.{refl, sym, ap, subst, ◌∙◌, take, get_or, arith}
use Rattle.std.specs.Ordering.{eq_by_cmp}
use Rattle.std.specs.List.{position_from}
use Rattle.std.specs.FinMap as finite
use Rattle.std.specs.FinMap.{find}
use Rattle.std.proofs.lemmas.Iterator.Adapters.{position_from-zero}
use Rattle.std.proofs.lemmas.List.{length-take-le}
use Rattle.std.proofs.lemmas.List.Sums.{fold-append}
use Rattle.tup_path.specs.Name.{Names}
use Rattle.tup_path.specs.Order.{by_names, by_names-total, by_names-antisymmetric, same_path, same_path-by_names}
use Rattle.tup_path.proofs.Same.{by_names-decides, same_path-decides}
use Rattle.tup_rule.specs.Rule.{among, maker, writes}
use Rattle.tup_rule.specs.declared.rule.Rule.{Rule}
use Rattle.tup_record.specs.declared.owned.OwnedState.TheVariants.{Never}
use Rattle.tup_graph.specs.declared.owned.Owned.{Owned}
use Rattle.tup_closure.proofs.Asked.{taken}
use Rattle.tup_rule_diff.specs.Owners.{AreOwned, made_here, with_output}
use Rattle.tup_rule_diff.proofs.Leaving.{Owners}
use Rattle.tup_rule_diff.proofs.Puts.{Once, first_or, or_none, get_put, put_one, once_sorted}

-- ---- the outputs of a rule
made_twice : (n : ℕ) (before : Option Owned) → made_here n (Some (made_here n before)) ≡ made_here n before
made_twice n None = refl
made_twice n (Some one) = refl

get_outputs : (n : ℕ) (outputs : List Names) (m : Owners) (q : Names) → finite.get (fold (with_output n) m outputs) q ≡ cond (among q outputs) (Some (made_here n (finite.get m q))) (finite.get m q)
get_outputs n [] m q = refl
get_outputs n (path ∷ outputs) m q =
    get_outputs n outputs (with_output n m path) q
    ∙ ap (λ (o : Option Owned). cond (among q outputs) (Some (made_here n o)) o)
    (finite.get-insert by_names-total m path (made_here n (finite.get m path)) q ∙ ap (λ (b : Bool). cond b (Some (made_here n (finite.get m path))) (finite.get m q)) (sym (same_path-by_names q path)))
    ∙ by (same_path q path) (among q outputs) (λ same. ap (finite.get m) (sym ((same_path-decides q path).0 same)))
  where
    by : (b c : Bool) → (b ≡ true → finite.get m path ≡ finite.get m q) → cond c (Some (made_here n (cond b (Some (made_here n (finite.get m path))) (finite.get m q)))) (cond b (Some (made_here n (finite.get m path))) (finite.get m q))
        ≡ cond (b || c) (Some (made_here n (finite.get m q))) (finite.get m q)
    by true true same = ap Some (made_twice n (finite.get m path)) ∙ ap (λ (o : Option Owned). Some (made_here n o)) (same refl)
    by true false same = ap (λ (o : Option Owned). Some (made_here n o)) (same refl)
    by false true same = refl
    by false false same = refl

-- ---- the maker of a path, and one rule more
abbrev or_last : Option ℕ → Bool → ℕ → Option ℕ
or_last (Some first) makes last = Some first
or_last None makes last = cond makes (Some last) None

from_push : (makes : Rule → Bool) (i : ℕ) (rules : List Rule) (rule : Rule) → position_from makes i (rules ++ rule ∷ []) ≡ or_last (position_from makes i rules) (makes rule) (i + length rules)
from_push makes i [] rule = ap (λ (n : ℕ). cond (makes rule) (Some n) None) (let same : i ≡ i + 0 = omega arith in same)
from_push makes i (first ∷ rules) rule = by (makes first) (from_push makes (i + 1) rules rule)
  where
    by : (b : Bool) → position_from makes (i + 1) (rules ++ rule ∷ []) ≡ or_last (position_from makes (i + 1) rules) (makes rule) (i + 1 + length rules)
        → cond b (Some i) (position_from makes (i + 1) (rules ++ rule ∷ [])) ≡ or_last (cond b (Some i) (position_from makes (i + 1) rules)) (makes rule) (i + length (first ∷ rules))
    by true later = refl
    by false later = later ∙ ap (or_last (position_from makes (i + 1) rules) (makes rule)) (let same : i + 1 + length rules ≡ i + length (first ∷ rules) = omega arith in same)

maker_push : (rules : List Rule) (rule : Rule) (path : Names) → maker path (rules ++ rule ∷ []) ≡ or_last (maker path rules) (writes rule path) (length rules)
maker_push rules rule path =
    position_from-zero (λ (r : Rule). writes r path) (rules ++ rule ∷ [])
    ∙ from_push (λ (r : Rule). writes r path) 0 rules rule
    ∙ ap (λ (n : ℕ). or_last (position_from (λ (r : Rule). writes r path) 0 rules) (writes rule path) n) (let same : 0 + length rules ≡ length rules = omega arith in same)
    ∙ ap (λ (found : Option ℕ). or_last found (writes rule path) (length rules)) (sym (position_from-zero (λ (r : Rule). writes r path) rules))

abbrev now : Option ℕ → Option Owned → Option Owned
now found before = elim found [
  | Some number ↦ Some (record { maker = Some number; state = unwrap_or (option_map (λ (owned : Owned). owned.state) before) Never })
  | None ↦ option_map (λ (owned : Owned). record { maker = None; state = owned.state }) before
]

one_on : (n : ℕ) (found : Option ℕ) (makes : Bool) (before : Option Owned) → cond makes (Some (made_here n (now found before))) (now found before) ≡ now (or_last found makes n) before
one_on n (Some first) true before = refl
one_on n (Some first) false before = refl
one_on n None true None = refl
one_on n None true (Some one) = refl
one_on n None false before = refl

owned_push : (rules : List Rule) (rule : Rule) (before owned : Owners) → AreOwned rules before owned → AreOwned (rules ++ rule ∷ []) before (fold (with_output (length rules)) owned rule.outputs)
owned_push rules rule before owned are path =
    get_outputs (length rules) rule.outputs owned path
    ∙ ap (λ (o : Option Owned). cond (writes rule path) (Some (made_here (length rules) o)) o) (are path)
    ∙ one_on (length rules) (maker path rules) (writes rule path) (finite.get before path)
    ∙ ap (λ (found : Option ℕ). now found (finite.get before path)) (sym (maker_push rules rule path))

pub owned_more : (rules : List Rule) (i : ℕ) (rule : Rule) (before owned new : Owners) (number : ℕ) (outputs : List Names) → i < length rules → rule ≡ get_or rules i rule → number ≡ i → outputs ≡ rule.outputs
    → AreOwned (take i rules) before owned → new ≡ fold (with_output number) owned outputs → AreOwned (take (i + 1) rules) before new
owned_more rules i rule before owned new number outputs less here counted listed are is =
    let count : length (take i rules) ≡ number = length-take-le i rules (omega arith) ∙ sym counted in
    subst (λ (x : List Rule × Owners). AreOwned x.0 before x.1)
    (λ k. (sym (taken rules i rule rule less here) k, ((λ j. fold (with_output (count j)) owned (sym listed j)) ∙ sym is) k))
    (owned_push (take i rules) rule before owned are)

-- ---- what was owned before, without makers
abbrev pub unmade : Names × Owned → Names × Owned
unmade owned = (owned.0, record { maker = None; state = owned.1.state })

abbrev pub put_unmade : Owners → Names × Owned → Owners
put_unmade m owned = finite.insert m owned.0 (record { maker = None; state = owned.1.state })

abbrev pub unmade_of : List (Names × Owned) → Owners
unmade_of es = fold put_unmade finite.empty es

pub unmade_more : (es : List (Names × Owned)) (e : Names × Owned) (path : Names) (one : Owned) (owned new : Owners) → path ≡ e.0 → one ≡ record { maker = None; state = e.1.state } → owned ≡ unmade_of es → new ≡ finite.insert owned path one → new ≡ unmade_of (es ++ e ∷ [])
unmade_more es e path one owned new by_path by_one so_far is = is ∙ (λ k. finite.insert (so_far k) (by_path k) (by_one k)) ∙ sym (fold-append put_unmade finite.empty es (e ∷ []))

as_put : (es : List (Names × Owned)) (m : Owners) → fold put_unmade m es ≡ fold (put_one by_names-total by_names-antisymmetric by_names-decides) m (map unmade es)
as_put [] m = refl
as_put (e ∷ es) m = as_put es (put_unmade m e)

find_unmade : (q : Names) (es : List (Names × Owned)) → find by_names q (map unmade es) ≡ option_map (λ (owned : Owned). record { maker = None; state = owned.state }) (find by_names q es)
find_unmade q [] = refl
find_unmade q (e ∷ es) = by (eq_by_cmp by_names q e.0) (find_unmade q es)
  where
    by : (b : Bool) → find by_names q (map unmade es) ≡ option_map (λ (owned : Owned). record { maker = None; state = owned.state }) (find by_names q es)
        → cond b (Some (unmade e).1) (find by_names q (map unmade es)) ≡ option_map (λ (owned : Owned). record { maker = None; state = owned.state }) (cond b (Some e.1) (find by_names q es))
    by true later = refl
    by false later = later

once_unmade : (es : List (Names × Owned)) → Once by_names-total by_names-antisymmetric by_names-decides es → Once by_names-total by_names-antisymmetric by_names-decides (map unmade es)
once_unmade [] once = tt
once_unmade (e ∷ es) once = (
  find_unmade e.0 es ∙ ap (option_map (λ (owned : Owned). record { maker = None; state = owned.state })) once.0,
  once_unmade es once.1,
)

all_unmade_of : (es : List (Names × Owned)) (before : Owners) → finite.entries before ≡ es → Once by_names-total by_names-antisymmetric by_names-decides es → AreOwned [] before (unmade_of es)
all_unmade_of es before are once path =
    ap (λ (m : Owners). finite.get m path) (as_put es finite.empty)
    ∙ get_put by_names-total by_names-antisymmetric by_names-decides (map unmade es) (once_unmade es once) finite.empty path
    ∙ ap (first_or by_names-total by_names-antisymmetric by_names-decides (find by_names path (map unmade es))) (finite.get-empty by_names path)
    ∙ or_none by_names-total by_names-antisymmetric by_names-decides (find by_names path (map unmade es))
    ∙ find_unmade path es
    ∙ ap (option_map (λ (owned : Owned). record { maker = None; state = owned.state })) (sym (finite.get-entries before path ∙ ap (find by_names path) are))

pub all_unmade : (before : Owners) → AreOwned [] before (unmade_of (finite.entries before))
all_unmade before = all_unmade_of (finite.entries before) before refl (once_sorted by_names-total by_names-antisymmetric by_names-decides before)

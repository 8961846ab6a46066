-- What may be asked for, where a graph tells who makes a path: by numbers among which all makers are.
use Rattle.std.proofs.Common.{◌≡◌, ℕ, ◌+◌, ◌<◌, ◌≤◌, Bool, true, false, List, [], Some, length, get_or, refl, sym, ap, ◌∙◌, inl, inr, arith}
use Rattle.std.specs.Prelude.{Contains, slice_get}
use Rattle.std.proofs.lemmas.Bool.{cases_eq, false_from_ne_true, true≢false}
use Rattle.std.proofs.lemmas.List.{get_or_default}
use Rattle.std.proofs.lemmas.List.Folds.{list_any_none}
use Rattle.std.proofs.lemmas.Option.{same_Some, slice_get-get_or}
use Rattle.tup_path.specs.Name.{Names}
use Rattle.tup_rule.specs.declared.rule.Rule.{Rule}
use Rattle.tup_rule.specs.Rule.{is_generated, writes}
use Rattle.tup_access.specs.Access.{access}
use Rattle.tup_access.specs.declared.verdict.Access.{Access}
use Rattle.tup_access.specs.declared.verdict.Access.TheVariants.{Yes, No}
use Rattle.tup_access.specs.declared.verdict.Verdict.{Verdict}
use Rattle.tup_core.specs.Outputs.{access_to_path}
use Rattle.tup_core.proofs.AskLaws.{open_yes, open_no}

-- none of some rules writes a path
abbrev pub NoneWrites : List Rule → List ℕ → Names → ℕ → Type 0
NoneWrites rules numbers path count = (k : ℕ) → k < count → (rule : Rule) → slice_get rules (get_or numbers k 0) ≡ Some rule → writes rule path ≡ false

pub none_more : (rules : List Rule) (numbers : List ℕ) (path : Names) (i : ℕ) → ((rule : Rule) → slice_get rules (get_or numbers i 0) ≡ Some rule → writes rule path ≡ true → ⊥) → NoneWrites rules numbers path i → NoneWrites rules numbers path (i + 1)
none_more rules numbers path i never none k below rule here = elim (cases_eq k i) [
  | inl same ↦ false_from_ne_true (writes rule path) (never rule (ap (λ (n : ℕ). slice_get rules (get_or numbers n 0)) (sym same) ∙ here))
  | inr apart ↦ none k (omega (arith, below, apart)) rule here
]

pub none_writes : (rules : List Rule) (numbers : List ℕ) (path : Names) (count : ℕ) → ((at : ℕ) (rule : Rule) → slice_get rules at ≡ Some rule → writes rule path ≡ true → Contains numbers at) → length numbers ≤ count → NoneWrites rules numbers path count → is_generated rules path ≡ false
none_writes rules numbers path count all past none =
    list_any_none (λ (rule : Rule). writes rule path) rules (λ at d within. false_from_ne_true (writes (get_or rules at d) path) (never at d within))
  where
    never : (at : ℕ) (d : Rule) → at < length rules → writes (get_or rules at d) path ≡ true → ⊥
    never at d within written =
        let here : slice_get rules at ≡ Some (get_or rules at d) = slice_get-get_or rules at d within in
        let one = all at (get_or rules at d) here written in
        let is : get_or numbers one.0 0 ≡ at = get_or_default numbers one.0 0 at one.1 ∙ one.2 in
        let less = one.1 in
        true≢false (sym written ∙ none one.0 (omega (arith, less, past)) (get_or rules at d) (ap (slice_get rules) is ∙ here))

-- ---- what becomes of an ask, once it is known where no rule makes a path

-- a rule that was read at a place is the one there
pub is_that_rule : (rules list : List Rule) (at : ℕ) (one other : Rule) → list ≡ rules → at < length rules → one ≡ get_or list at one → slice_get rules at ≡ Some other → one ≡ other
is_that_rule rules list at one other same within is here =
    same_Some one other (ap Some (is ∙ ap (λ (l : List Rule). get_or l at one) same) ∙ sym (slice_get-get_or rules at one within) ∙ here)

module _ (rules : List Rule) (one rule : Rule) (before : ℕ) (text : List ℕ) (alone : Access) (same : one ≡ rule) (is : alone ≡ access [] one before text) where
  pub granted : (known : List Rule) (path : Names) (given : Access) → known ≡ rules → alone ≡ Yes path → given ≡ access_to_path known one text path → given ≡ access rules rule before text
  granted known path given are path_is told =
      told ∙ ap (λ (l : List Rule). access_to_path l one text path) are ∙ sym (open_yes rules one before text path (sym is ∙ path_is))
      ∙ ap (λ (r : Rule). access rules r before text) same

  pub refused : (verdict : Verdict) → alone ≡ No verdict → No verdict ≡ access rules rule before text
  refused verdict verdict_is = sym (open_no rules one before text verdict (sym is ∙ verdict_is)) ∙ ap (λ (r : Rule). access rules r before text) same

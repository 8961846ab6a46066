-- A copy of a rule is that rule.
use Rattle.std.proofs.Common.{◌≡◌, ℕ, List, Option, None, Some, refl, ap}
use Rattle.std.specs.List.{AllZip}
use Rattle.std.proofs.lemmas.List.Elements.{same_from_all_zip}
use Rattle.tup_path.specs.Name.{Names}
use Rattle.tup_rule.specs.declared.rule.Rule.{Rule}

-- what is shown of a rule, and of its copy
abbrev IsCopied : Option (List ℕ) → Option (List ℕ) → Type 0
IsCopied None None = Unit {0}
IsCopied None (Some copy) = ⊥
IsCopied (Some text) None = ⊥
IsCopied (Some text) (Some copy) = copy ≡ text

same_display : (display copy : Option (List ℕ)) → IsCopied display copy → copy ≡ display
same_display None None is = refl
same_display None (Some copy) is = absurd is
same_display (Some text) None is = absurd is
same_display (Some text) (Some copy) is = ap Some is

abbrev AreCopied : List Names → List Names → Type 0
AreCopied paths copies = AllZip (λ (path copy : Names). copy ≡ path) paths copies

same_paths : (paths copies : List Names) → AreCopied paths copies → copies ≡ paths
same_paths paths copies are = same_from_all_zip (λ (path copy : Names). copy ≡ path) paths copies are (λ path copy e. e)

pub same_rule : (rule copy : Rule) → copy.dir ≡ rule.dir → copy.text ≡ rule.text → IsCopied rule.display copy.display → copy.compare ≡ rule.compare
    → AreCopied rule.inputs copy.inputs → AreCopied rule.order copy.order → AreCopied rule.outputs copy.outputs → copy ≡ rule
same_rule rule copy dir text display compare inputs order outputs = λ i. record {
  dir = dir i;
  text = text i;
  display = same_display rule.display copy.display display i;
  compare = compare i;
  inputs = same_paths rule.inputs copy.inputs inputs i;
  order = same_paths rule.order copy.order order i;
  outputs = same_paths rule.outputs copy.outputs outputs i;
}

-- Records by their keys: one key is of one kind, and of one path or number; and what a record's fitting looks at.
use Rattle.std.proofs.Common.{◌≡◌, ℕ, ◌&&◌, eqb, ltb, length, Err, List, [], ◌∷◌, ◌++◌, Ok, None, Some, refl, sym, ap, ◌∙◌}
use Rattle.tup_path.specs.Name.{Names}
use Rattle.tup_rule.specs.declared.rule.Rule.{Rule as RuleValue}
use Rattle.tup_field.specs.Format.{Format, IsExact, Read}
use Rattle.tup_field.specs.Parts.{number}
use Rattle.tup_field.specs.PartsLaws.{number-exact}
use Rattle.tup_field.specs.Values.{path}
use Rattle.tup_field.specs.ValuesLaws.{path-exact}
use Rattle.tup_record.specs.declared.record.Record.{Record}
use Rattle.tup_record.specs.declared.record.Record.TheVariants.{Seen, Reading, Rule, Run, Owned, Create, Modify}
use Rattle.tup_record.specs.Spelling.{key_of}
use Rattle.tup_graph.specs.Graph.{GraphState}
use Rattle.tup_graph.specs.Opening.{fits, comes_behind, last_of}

-- ---- one spelling is of one value
abbrev found_in : {A : Type 0} → A → Read A → A
found_in a (Ok x) = x.0
found_in a (Err fault) = a

pub one_value : {A : Type 0} (f : Format A) → IsExact f → (a b : A) → f.Fits a → f.Fits b → f.spelling a ≡ f.spelling b → a ≡ b
one_value f exact a b fa fb same =
    ap (found_in a) (sym (exact.again a [] fa) ∙ ap (λ (t : List ℕ). f.reading (t ++ [])) same ∙ exact.again b [] fb)

-- ---- the byte of the kind
abbrev first_of : List ℕ → ℕ
first_of [] = 0
first_of (b ∷ bytes) = b

abbrev behind_first : List ℕ → List ℕ
behind_first [] = []
behind_first (b ∷ bytes) = bytes

abbrev pub mark_of : Record → ℕ
mark_of (Seen p s) = 1
mark_of (Reading dir r) = 2
mark_of (Rule n place r) = 3
mark_of (Run n r) = 4
mark_of (Owned p maker s) = 5
mark_of (Create dir) = 6
mark_of (Modify n) = 7

marked : (r : Record) → first_of (key_of r) ≡ mark_of r
marked (Seen p s) = refl
marked (Reading dir r) = refl
marked (Rule n place r) = refl
marked (Run n r) = refl
marked (Owned p maker s) = refl
marked (Create dir) = refl
marked (Modify n) = refl

pub one_mark : (r s : Record) → key_of r ≡ key_of s → mark_of r ≡ mark_of s
one_mark r s same = sym (marked r) ∙ ap first_of same ∙ marked s

pub one_path : (mark : ℕ) (p q : Names) → path.Fits p → path.Fits q → mark ∷ path.spelling p ≡ mark ∷ path.spelling q → p ≡ q
one_path mark p q fp fq same = one_value path path-exact p q fp fq (ap behind_first same)

pub one_number : (mark n m : ℕ) → number.Fits n → number.Fits m → mark ∷ number.spelling n ≡ mark ∷ number.spelling m → n ≡ m
one_number mark n m fn fm same = one_value number number-exact n m fn fm (ap behind_first same)

-- ---- fitting looks at rules and places alone
pub fits_by : (g h : GraphState) → g.rules ≡ h.rules → g.places ≡ h.places → (r : Record) → fits g r ≡ fits h r
fits_by g h rules places (Seen p s) = refl
fits_by g h rules places (Reading dir r) = refl
fits_by g h rules places (Rule n place r) =
    ap (λ (x : List RuleValue × List ℕ). eqb n (length x.0) && comes_behind (last_of x.0) (last_of x.1) r place) (λ i. (rules i, places i))
fits_by g h rules places (Run n r) = ap (λ (x : List RuleValue). ltb n (length x)) rules
fits_by g h rules places (Owned p None s) = refl
fits_by g h rules places (Owned p (Some n) s) = ap (λ (x : List RuleValue). ltb n (length x)) rules
fits_by g h rules places (Create dir) = refl
fits_by g h rules places (Modify n) = ap (λ (x : List RuleValue). ltb n (length x)) rules

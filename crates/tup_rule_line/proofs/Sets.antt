-- Sets of paths beside the lists that they are of.
use Rattle.std.proofs.Common.{◌≡◌, Bool, true, false, ◌||◌, not, cond, List, [], ◌∷◌, ◌++◌, fold, refl, sym, ap, ◌∙◌}
use Rattle.std.proofs.lemmas.List.Folds.{list_any-append}
use Rattle.indexmap.specs.IndexSet.{insert_key}
use Rattle.tup_path.specs.Name.{Names}
use Rattle.tup_path.specs.Order.{same_path}
use Rattle.tup_path.proofs.Same.{same_path-decides}
use Rattle.tup_rule.specs.Rule.{among}
use Rattle.tup_rule.specs.declared.draft.Draft.{Draft}
use Rattle.tup_rule_line.specs.declared.found.Found.{Found}
use Rattle.tup_rule_line.specs.declared.found.Input.{Input}
use Rattle.tup_rule_line.specs.Making.{is_made, Knows, HasPaths}
use Rattle.tup_rule_line.specs.Found.{HasFiles, has_path, with_input, with_one}
use Rattle.tup_rule_line.proofs.Below.{one_more_passes, or_last}

-- a path that is there already adds nothing to a set
there : (keys : List Names) (added path : Names) → among added keys ≡ true → among path keys ≡ (same_path path added || among path keys)
there keys added path is = by (same_path path added) refl
  where
    by : (b : Bool) → same_path path added ≡ b → among path keys ≡ (b || among path keys)
    by true same = ap (λ p. among p keys) ((same_path-decides path added).0 same) ∙ is
    by false apart = refl

or_turned : (a b c : Bool) → (a || (b || c)) ≡ ((b || a) || c)
or_turned true true c = refl
or_turned true false c = refl
or_turned false true c = refl
or_turned false false c = refl

-- more paths in a set
pub all_more : (keys paths : List Names) (path : Names) → among path (fold (insert_key same_path) keys paths) ≡ (among path paths || among path keys)
all_more keys [] path = refl
all_more keys (added ∷ more) path =
    all_more (insert_key same_path keys added) more path ∙ ap (λ b. among path more || b) (one_more_passes (same_path path) keys added) ∙ or_turned (among path more) (same_path path added) (among path keys)

or_behind : (a b : Bool) → (a || b) ≡ (b || (a || false))
or_behind true true = refl
or_behind true false = refl
or_behind false true = refl
or_behind false false = refl

-- the outputs of rules with one rule more
pub knows_more : (keys : List Names) (drafts : List Draft) (draft : Draft) → Knows keys drafts → Knows (fold (insert_key same_path) keys draft.outputs) (drafts ++ draft ∷ [])
knows_more keys drafts draft knows path =
    all_more keys draft.outputs path ∙ ap (λ b. among path draft.outputs || b) (knows path) ∙ or_behind (among path draft.outputs) (is_made drafts path)
    ∙ sym (list_any-append (λ (d : Draft). among path d.outputs) drafts (draft ∷ []))

pub knows_none : Knows [] []
knows_none path = refl

or_none : (b : Bool) → (b || false) ≡ b
or_none true = refl
or_none false = refl

-- a set of paths, and one more
pub places_of : (paths : List Names) → HasPaths (fold (insert_key same_path) [] paths) paths
places_of paths path = all_more [] paths path ∙ or_none (among path paths)

pub places_more : (keys paths : List Names) (added : Names) → HasPaths keys paths → HasPaths (insert_key same_path keys added) (paths ++ added ∷ [])
places_more keys paths added has path =
    one_more_passes (same_path path) keys added ∙ ap (λ b. same_path path added || b) (has path) ∙ sym (or_last (among path paths) (same_path path added)) ∙ sym (list_any-append (same_path path) paths (added ∷ []))

-- an input whose path is new, and one whose path is there
pub files_more : (keys : List Names) (inputs : List Input) (input : Input) → HasFiles keys inputs → HasFiles (insert_key same_path keys input.path) (with_input inputs input)
files_more keys inputs input has path = by (has_path inputs input.path) refl
  where
    by : (b : Bool) → has_path inputs input.path ≡ b → among path (insert_key same_path keys input.path) ≡ has_path (cond b inputs (inputs ++ input ∷ [])) path
    by true is = one_more_passes (same_path path) keys input.path ∙ sym (there keys input.path path (has input.path ∙ is)) ∙ has path
    by false new = one_more_passes (same_path path) keys input.path ∙ ap (λ b. same_path path input.path || b) (has path) ∙ sym (or_last (has_path inputs path) (same_path path input.path))
        ∙ sym (list_any-append (λ (i : Input). same_path path i.path) inputs (input ∷ []))

turned_over : (b : Bool) (one other : List Input) → cond (not b) one other ≡ cond b other one
turned_over true one other = refl
turned_over false one other = refl

-- an input that is added where a set hasn't its path
pub new_input : (keys : List Names) (inputs : List Input) (input : Input) → HasFiles keys inputs → cond (not (among input.path keys)) (inputs ++ input ∷ []) inputs ≡ with_input inputs input
new_input keys inputs input has =
    ap (λ b. cond (not b) (inputs ++ input ∷ []) inputs) (has input.path) ∙ turned_over (has_path inputs input.path) (inputs ++ input ∷ []) inputs

-- inputs one after another change the inputs alone
pub ones_more : (found : Found) (inputs : List Input) → fold with_one found inputs ≡ record found { inputs = fold with_input found.inputs inputs }
ones_more found [] = refl
ones_more found (input ∷ more) = ones_more (with_one found input) more

-- The folders in which folders stand, one folder after another.
use Rattle.std.specs.Prelude.{◌≡◌, Bool, true, false, List, ℕ, [], ◌∷◌, ◌++◌, Contains}
use Rattle.std.proofs.Common.{refl, sym, subst, ◌∙◌, inl, inr}
use Rattle.std.specs.BTreeSet.{BTreeSet, contains}
use Rattle.std.proofs.lemmas.Bool.{true≢false}
use Rattle.std.proofs.lemmas.List.Elements.{Contains-push_cases}
use Rattle.tup_path.specs.Name.{Names}
use Rattle.tup_path.specs.Order.{by_names}
use Rattle.tup_path.proofs.Same.{by_names-decides}
use Rattle.tup_readers.proofs.Entries.{none_in}
use Rattle.tup_closure.proofs.Members.{contained}
use Rattle.tup_scan_diff.specs.Parents.{AreParents, StandsIn}
use Rattle.tup_scan_diff.specs.Sets.{GrowsBy}
use Rattle.tup_scan_diff.proofs.Paths.{not_nothing, one_folder}
use Rattle.tup_scan_diff.proofs.Sets.{set_as, set_stays}

pub no_parents : (parents : BTreeSet Names) → AreParents [] parents
no_parents parents = record { all = λ dir folder h. absurd (none_in folder h) }

pub parent_more : (folders : List Names) (folder : Names) (old new : BTreeSet Names) → AreParents folders old → GrowsBy by_names (λ dir. StandsIn dir folder) old new → AreParents (folders ++ folder ∷ []) new
parent_more folders folder old new are grows = record {
  all = λ dir other h stands. elim (Contains-push_cases folders folder other h) [
    | inl before ↦ grows.keys.kept dir (are.all dir other before stands)
    | inr last ↦ grows.keys.all dir (subst (StandsIn dir) (sym last) stands)
  ];
}

-- a folder stands in one other
pub one_parent : (folder dir : Names) (name : List ℕ) → folder ≡ dir ++ name ∷ [] → {a b : BTreeSet Names} → GrowsBy by_names (λ d. d ≡ dir) a b → GrowsBy by_names (λ d. StandsIn d folder) a b
one_parent folder dir name parts = set_as
    (λ d e. (name, subst (λ (q : Names). folder ≡ q ++ name ∷ []) (sym e) parts))
    (λ d (other, is). one_folder d dir other name (sym is ∙ parts))

-- and the top in none
pub top_in_none : (folder : Names) → folder ≡ [] → (a : BTreeSet Names) → GrowsBy by_names (λ d. StandsIn d folder) a a
top_in_none folder top a = set_stays a (λ d (name, is). not_nothing d name (sym is ∙ top))

-- a path stands in a folder in which no folder stands
pub no_folder_in : (folders parents : BTreeSet Names) → AreParents folders.keys parents → (dir path : Names) → StandsIn dir path → contains by_names parents dir ≡ false → false ≡ contains by_names folders path
no_folder_in folders parents are dir path stands none = by (contains by_names folders path) refl
  where
    by : (b : Bool) → contains by_names folders path ≡ b → false ≡ b
    by true is = absurd (true≢false (sym (are.all dir path (contained by_names by_names-decides folders path is) stands) ∙ none))
    by false is = refl

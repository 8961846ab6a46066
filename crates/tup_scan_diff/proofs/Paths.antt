-- Paths by their folder and their name.
use Rattle.std.specs.Prelude.{◌≡◌, ◌≢◌, ◌⊎◌, List, ℕ, [], ◌∷◌, ◌++◌, Ok, Result, None, Some, length}
use Rattle.std.proofs.Common.{refl, sym, ap, ◌∙◌, inl, inr, arith, append_assoc, length-append}
use Rattle.std.specs.Result.{result_ok}
use Rattle.std.proofs.lemmas.List.{append-nil, append_cancel_left}
use Rattle.tup_path.specs.Name.{Names}
use Rattle.tup_path.specs.Resolve.{above}
use Rattle.tup_path.specs.Tree.{IsBelow}
use Rattle.tup_path.proofs.Walks.{above_last}
use Rattle.tup_path.specs.declared.fault.PathFault.{PathFault}

-- a list is empty, or it has a last item
pub last_item : {A : Type 0} (xs : List A) → (xs ≡ []) ⊎ ((front : List A) × (last : A) × (xs ≡ front ++ last ∷ []))
last_item [] = inl refl
last_item (x ∷ xs) = elim (last_item xs) [
  | inl none ↦ inr ([], x, ap (λ l. x ∷ l) none)
  | inr some ↦ inr (x ∷ some.0, some.1, ap (λ l. x ∷ l) some.2)
]

pub not_nothing : {A : Type 0} (front : List A) (last : A) → front ++ last ∷ [] ≡ [] → ⊥
not_nothing [] last e = cc
not_nothing (x ∷ front) last e = cc

abbrev folder_in : Names → Result Names PathFault → Names
folder_in other (Ok dir) = dir
folder_in other fault = other

-- a path has one folder, and one name there
pub one_folder : (a b : Names) (x y : List ℕ) → a ++ x ∷ [] ≡ b ++ y ∷ [] → a ≡ b
one_folder a b x y e = ap (folder_in []) (sym (above_last a x) ∙ ap above e ∙ above_last b y)

abbrev first_of : List ℕ → Names → List ℕ
first_of other [] = other
first_of other (name ∷ names) = name

pub one_name : (a b : Names) (x y : List ℕ) → a ++ x ∷ [] ≡ b ++ y ∷ [] → x ≡ y
one_name a b x y e = ap (first_of []) (append_cancel_left a (x ∷ []) (y ∷ []) (e ∙ ap (λ (l : Names). l ++ y ∷ []) (sym (one_folder a b x y e))))

-- ---- what lies below a folder

pub none_below_top : (dir path : Names) → path ≡ [] → IsBelow dir path → ⊥
none_below_top dir path top (rest, more, is) = more (none rest (omega (arith, ap length (sym is ∙ top), length-append dir rest)))
  where
    none : (l : Names) → length l ≡ 0 → l ≡ []
    none [] e = refl
    none (x ∷ l) e = absurd (omega arith)

pub below_its_folder : (dir path : Names) (name : List ℕ) → path ≡ dir ++ name ∷ [] → IsBelow dir path
below_its_folder dir path name is = (name ∷ [], λ e. cc, is)

pub below_further : (above_it dir path : Names) (name : List ℕ) → path ≡ dir ++ name ∷ [] → IsBelow above_it dir → IsBelow above_it path
below_further above_it dir path name is (rest, more, e) = (
  rest ++ name ∷ [],
  not_nothing rest name,
  is ∙ ap (λ (l : Names). l ++ name ∷ []) e ∙ append_assoc above_it rest (name ∷ []),
)

pub below_through : (above_it dir path : Names) → IsBelow above_it dir → IsBelow dir path → IsBelow above_it path
below_through above_it dir path (rest, more, e) (others, others_more, is) = (
  rest ++ others,
  further rest more,
  is ∙ ap (λ (l : Names). l ++ others) e ∙ append_assoc above_it rest others,
)
  where
    further : (l : Names) → l ≢ [] → l ++ others ≢ []
    further [] some = absurd (some refl)
    further (x ∷ l) some = λ none. cc

-- a path lies below just its folder and what that lies below
pub below_either : (above_it dir path : Names) (name : List ℕ) → path ≡ dir ++ name ∷ [] → IsBelow above_it path → IsBelow above_it dir ⊎ (above_it ≡ dir)
below_either above_it dir path name is (rest, more, e) = elim (last_item rest) [
  | inl none ↦ absurd (more none)
  | inr some ↦
      let whole : (above_it ++ some.0) ++ some.1 ∷ [] ≡ dir ++ name ∷ [] =
      append_assoc above_it some.0 (some.1 ∷ []) ∙ ap (λ (l : Names). above_it ++ l) (sym some.2) ∙ sym e ∙ is in
      let folder : above_it ++ some.0 ≡ dir = one_folder (above_it ++ some.0) dir some.1 name whole in
      cut some.0 folder
]
  where
    cut : (front : Names) → above_it ++ front ≡ dir → IsBelow above_it dir ⊎ (above_it ≡ dir)
    cut [] folder = inr (sym (append-nil above_it) ∙ folder)
    cut (x ∷ front) folder = inl (x ∷ front, λ e. cc, sym folder)

-- ---- the folder that a path is said to have

pub folder_is : (path dir : Names) (name : List ℕ) → (last : Names) → path ≡ last ++ name ∷ [] → Some dir ≡ result_ok (above path) → path ≡ dir ++ name ∷ []
folder_is path dir name last is said =
    let there : Some dir ≡ Some last = said ∙ ap (λ (p : Names). result_ok (above p)) is ∙ ap result_ok (above_last last name) in
    let same : last ≡ dir = cc in
    is ∙ ap (λ (l : Names). l ++ name ∷ []) same

pub no_folder : (path : Names) (name : List ℕ) → (last : Names) → path ≡ last ++ name ∷ [] → None ≡ result_ok (above path) → ⊥
no_folder path name last is said =
    let there : None ≡ Some last = said ∙ ap (λ (p : Names). result_ok (above p)) is ∙ ap result_ok (above_last last name) in
    cc

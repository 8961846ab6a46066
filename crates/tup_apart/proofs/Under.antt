-- Files above a path: its folder, or what is above that.
use Rattle.std.proofs.Common.{◌≡◌, ◌⊎◌, ◌<◌, List, ℕ, [], ◌∷◌, ◌++◌, Some, None, length, length-append, sym, ap, ◌∙◌, subst, inl, inr, arith}
use Rattle.std.specs.Result.{result_ok}
use Rattle.std.proofs.lemmas.Option.{none-some}
use Rattle.tup_path.specs.Name.{Names}
use Rattle.tup_path.specs.Resolve.{above}
use Rattle.tup_graph.specs.Graph.{GraphState}
use Rattle.tup_scan_diff.proofs.Paths.{last_item, folder_is, no_folder, none_below_top, below_its_folder, below_further, below_either}
use Rattle.tup_apart.specs.Makers.{Makers}
use Rattle.tup_apart.specs.Place.{IsFile, IsUnderFile}

-- the folder of a path, and its name there
pub in_folder : (path folder : Names) → Some folder ≡ result_ok (above path) → (name : List ℕ) × (path ≡ folder ++ name ∷ [])
in_folder path folder said =
    elim (last_item path) [
      | inl top ↦ absurd (none-some folder (sym (said ∙ ap (λ (p : Names). result_ok (above p)) top)))
      | inr some ↦ (some.1, folder_is path folder some.1 some.0 some.2 said)
    ]

pub shorter : (path folder : Names) → Some folder ≡ result_ok (above path) → length folder < length path
shorter path folder said = let it = in_folder path folder said in omega (arith, ap length it.1, length-append folder (it.0 ∷ []))

pub is_top : (path : Names) → None ≡ result_ok (above path) → path ≡ []
is_top path said =
    elim (last_item path) [
      | inl top ↦ top
      | inr some ↦ absurd (no_folder path some.1 some.0 some.2 said)
    ]

module _ (g : GraphState) (makers : Makers) where
  pub none_over_top : (path : Names) → None ≡ result_ok (above path) → IsUnderFile g makers path → ⊥
  none_over_top path said under = none_below_top under.0 path (is_top path said) under.1

  module _ (path folder : Names) (said : Some folder ≡ result_ok (above path)) where
    pub under_folder : IsFile g makers folder → IsUnderFile g makers path
    under_folder file = let it = in_folder path folder said in (folder, below_its_folder folder path it.0 it.1, file)

    pub under_further : IsUnderFile g makers folder → IsUnderFile g makers path
    under_further under = let it = in_folder path folder said in (under.0, below_further under.0 folder path it.0 it.1 under.1, under.2)

    pub under_either : IsUnderFile g makers path → IsFile g makers folder ⊎ IsUnderFile g makers folder
    under_either under =
        let it = in_folder path folder said in
        elim (below_either under.0 folder path it.0 it.1 under.1) [
          | inl below ↦ inr (under.0, below, under.2)
          | inr same ↦ inl (subst (IsFile g makers) same under.2)
        ]

-- A site of the project's files: it is new, or it is refused since two contents have one stamp or there is no memory.
use Rattle.std.proofs.Common.{◌≡◌, ◌≢◌, ℕ, ◌≤◌, List, [], Result, Ok, Err, IfOk, IfErr, None, refl, sym, ap, subst, ◌∙◌}
use Rattle.tup_path.specs.Name.{Names, Content}
use Rattle.tup_path.specs.Tree.{tree_of_files}
use Rattle.tup_site.specs.Edit.{AreATree}
use Rattle.tup_site.specs.History.{contents_of}
use Rattle.tup_site.specs.Known.{IsKnown}
use Rattle.tup_site.specs.Memory.{tree_in, store_in, first_of, changes_of, faults_of, fails_of, left_of}
use Rattle.tup_site.specs.declared.memory.MemSite.{MemSite}
use Rattle.tup_site.specs.declared.refused.MemRefused.{MemRefused}
use Rattle.tup_site.specs.declared.refused.MemRefused.TheVariants.{NotATree, SameStamp, NotAnImage, Memory}
use Rattle.tup_large.specs.Project.{IsNew, RefusesFiles, large_files}
use Rattle.tup_large.proofs.Tree.{are_a_tree}

module _ (folders : ℕ) (few : folders ≤ 10000) (files : List (Names × Content)) (are : files ≡ large_files folders) where
  pub made : (never : List ℕ) → never ≡ [] → (result : Result MemSite MemRefused) → IfOk result (λ site. tree_in site ≡ tree_of_files files) → IfOk result (λ site. store_in site ≡ []) → IfOk result (λ site. first_of site ≡ files) → IfOk result (λ site. changes_of site ≡ [])
      → IfOk result (λ site. faults_of site ≡ 0) → IfOk result (λ site. fails_of site ≡ never) → IfOk result (λ site. left_of site ≡ None) → IfOk result (IsNew (large_files folders))
  made never none (Ok site) tree store first changes faults fails left = record {
    tree = tree ∙ ap tree_of_files are;
    store = store;
    first = first ∙ are;
    changes = changes;
    faults = faults;
    fails = fails ∙ none;
    left = left;
  }
  made never none (Err why) tree store first changes faults fails left = tt

  pub refuses : {T : Type 0} (result : Result T MemRefused) → (result ≡ Err NotATree → ¬ AreATree files) → (result ≡ Err SameStamp → AreATree files × (¬ IsKnown (contents_of files))) → result ≢ Err NotAnImage → IfErr result (RefusesFiles (large_files folders))
  refuses (Ok site) tree stamps image = tt
  refuses (Err NotATree) tree stamps image = tree refl (subst AreATree (sym are) (are_a_tree folders few))
  refuses (Err SameStamp) tree stamps image = subst (λ (list : List (Names × Content)). ¬ IsKnown (contents_of list)) are (stamps refl).1
  refuses (Err NotAnImage) tree stamps image = image refl
  refuses (Err Memory) tree stamps image = tt

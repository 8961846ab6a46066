-- A look at files, one after another.
use Rattle.std.proofs.Common.{◌≡◌, ◌⊎◌, ⊎_elim, ℕ, ◌+◌, ◌<◌, Bool, true, false, cond, List, [], ◌∷◌, ◌++◌, length, map, filter, take, get_or, is_some, Some, Err, All, sym, ap, subst, ◌∙◌}
use Rattle.std.specs.FinMap as finite
use Rattle.std.proofs.lemmas.List.{append-nil}
use Rattle.std.proofs.lemmas.List.Elements.{filter_more}
use Rattle.std.proofs.lemmas.Option.{slice_get-get_or}
use Rattle.tup_path.specs.Name.{Names}
use Rattle.tup_path.specs.Tree.{Tree}
use Rattle.tup_graph.specs.Graph.{GraphState}
use Rattle.tup_graph.specs.declared.owned.Owned.{Owned}
use Rattle.tup_stale.specs.declared.fault.StaleFault.{StaleFault}
use Rattle.tup_stale.specs.declared.fault.StaleFault.TheVariants.{UserFile, Site, TooLarge, Full, Memory}
use Rattle.tup_stale.specs.Unmade.{lacks_maker, standing, HasNoUsers, HasUsers, IsRefused, Sees}

-- the paths of entries without a maker
abbrev pub unmade_of : List (Names × Owned) → List Names
unmade_of entries = map (λ (entry : Names × Owned). entry.0) (filter lacks_maker entries)

-- one more path is looked at
pub standing_more : (tree : Tree) (paths : List Names) (i : ℕ) (path : Names) → i < length paths → get_or paths i path ≡ path
    → standing tree (take (i + 1) paths) ≡ standing tree (take i paths) ++ cond (is_some (finite.get tree path)) (path ∷ []) []
standing_more tree paths i path within here =
    filter_more (λ (p : Names). is_some (finite.get tree p)) paths i path within
    ∙ ap (λ (p : Names). standing tree (take i paths) ++ cond (is_some (finite.get tree p)) (p ∷ []) []) here

pub standing_with : (tree : Tree) (paths : List Names) (i : ℕ) (path copy : Names) (old new : List Names) → i < length paths → get_or paths i path ≡ path → is_some (finite.get tree path) ≡ true → copy ≡ path
    → old ≡ standing tree (take i paths) → new ≡ old ++ copy ∷ [] → new ≡ standing tree (take (i + 1) paths)
standing_with tree paths i path copy old new within here there same had more =
    more ∙ (λ k. had k ++ same k ∷ [])
    ∙ sym (standing_more tree paths i path within here ∙ ap (λ (b : Bool). standing tree (take i paths) ++ cond b (path ∷ []) []) there)

pub standing_without : (tree : Tree) (paths : List Names) (i : ℕ) (path : Names) (old : List Names) → i < length paths → get_or paths i path ≡ path → is_some (finite.get tree path) ≡ false
    → old ≡ standing tree (take i paths) → old ≡ standing tree (take (i + 1) paths)
standing_without tree paths i path old within here none had =
    had ∙ sym (append-nil (standing tree (take i paths)))
    ∙ sym (standing_more tree paths i path within here ∙ ap (λ (b : Bool). standing tree (take i paths) ++ cond b (path ∷ []) []) none)

-- a path is refused, behind those that weren't
pub refused_behind : (g : GraphState) (tree : Tree) (paths : List Names) (i : ℕ) (path : Names) (fault : StaleFault) → i < length paths → get_or paths i path ≡ path
    → All (HasNoUsers g tree) (take i paths) → IsRefused g tree path fault → Sees g tree paths (Err fault)
refused_behind g tree paths i path (UserFile named written found) within here first refused = record {
  at = i;
  here = slice_get-get_or paths i path within ∙ ap Some (here ∙ sym refused.0);
  users = subst (λ (p : Names). HasUsers g tree p written found) (sym refused.0) refused.1;
  first = first;
}
refused_behind g tree paths i path (TooLarge bytes) within here first refused = record {
  at = i;
  path = path;
  here = slice_get-get_or paths i path within ∙ ap Some here;
  large = refused;
  first = first;
}
refused_behind g tree paths i path Full within here first refused = absurd refused
refused_behind g tree paths i path Site within here first refused = tt
refused_behind g tree paths i path Memory within here first refused = tt

-- where a clearing was stopped behind its look, there is no file of the user's
pub sees_stopped : (g : GraphState) (tree : Tree) (paths : List Names) (fault : StaleFault) → (fault ≡ Site) ⊎ (fault ≡ Full) ⊎ (fault ≡ Memory) → All (HasNoUsers g tree) paths → Sees g tree paths (Err fault)
sees_stopped g tree paths fault why none =
    ⊎_elim (λ is. subst (λ (f : StaleFault). Sees g tree paths (Err f)) (sym is) tt)
    (λ other. ⊎_elim (λ is. subst (λ (f : StaleFault). Sees g tree paths (Err f)) (sym is) none) (λ is. subst (λ (f : StaleFault). Sees g tree paths (Err f)) (sym is) tt) other) why

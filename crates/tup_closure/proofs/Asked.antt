-- Who asked one of some paths.
use Rattle.std.specs.Prelude.{◌≡◌, ◌⊎◌, ◌↔◌, ℕ, ◌+◌, ◌<◌, List, [], ◌∷◌, ◌++◌, Contains, length}
use Rattle.std.proofs.Common.{sym, ap, subst, ◌∙◌, inl, inr, take, get_or, arith}
use Rattle.std.proofs.lemmas.List.{take_more}
use Rattle.std.proofs.lemmas.List.Elements.{Contains-push, Contains-push_cases, Contains-append_left}
use Rattle.tup_path.specs.Name.{Names}
use Rattle.tup_graph.specs.Above.{HasAsked}
use Rattle.tup_graph.specs.Graph.{GraphState}
use Rattle.tup_closure.specs.Readers.{HasAskedOneOf}

-- the first elements and one more
pub taken : {X : Type 0} (xs : List X) (i : ℕ) (x d : X) → i < length xs → x ≡ get_or xs i d → take (i + 1) xs ≡ take i xs ++ x ∷ []
taken xs i x d less is = take_more xs i d less ∙ ap (λ (y : _). take i xs ++ y ∷ []) (sym is)

-- nobody asked one of no paths
pub asked_of_none : (g : GraphState) (n : ℕ) → HasAskedOneOf g [] n → ⊥
asked_of_none g n (path, h, asked) = let less = h.1 in omega arith

-- who asked one of the first paths, or the next one
pub asked_more : (g : GraphState) (n : ℕ) (paths : List Names) (i : ℕ) (path d : Names) → i < length paths → path ≡ get_or paths i d
    → (HasAskedOneOf g (take i paths) n ⊎ HasAsked g n path) ↔ HasAskedOneOf g (take (i + 1) paths) n
asked_more g n paths i path d less is = (to, from)
  where
    grown : take (i + 1) paths ≡ take i paths ++ path ∷ []
    grown = taken paths i path d less is

    to : HasAskedOneOf g (take i paths) n ⊎ HasAsked g n path → HasAskedOneOf g (take (i + 1) paths) n
    to (inl (q, h, asked)) = (q, subst (λ (l : List Names). Contains l q) (sym grown) (Contains-append_left (take i paths) (path ∷ []) q h), asked)
    to (inr asked) = (path, subst (λ (l : List Names). Contains l path) (sym grown) (Contains-push (take i paths) path), asked)

    from : HasAskedOneOf g (take (i + 1) paths) n → HasAskedOneOf g (take i paths) n ⊎ HasAsked g n path
    from (q, h, asked) = elim (Contains-push_cases (take i paths) path q (subst (λ (l : List Names). Contains l q) grown h)) [
      | inl before ↦ inl (q, before, asked)
      | inr last ↦ inr (subst (HasAsked g n) (sym last) asked)
    ]

-- A fold over a list, one item on.
use Rattle.std.proofs.Common.{◌≡◌, ◌<◌, ◌+◌, ℕ, length, drop, List, sym, ap, ◌∙◌}
use Rattle.std.proofs.Math.ListN.{get_or}
use Rattle.std.proofs.lemmas.List.{drop_more}
use Rattle.std.specs.List.{fold}

pub fold_more : {A B : Type 0} (step : B → A → B) (items : List A) (at : ℕ) (item : A) (state next end : B) →
    fold step state (drop at items) ≡ end → at < length items → item ≡ get_or items at item → next ≡ step state item → fold step next (drop (at + 1) items) ≡ end
fold_more step items at item state next end all less here made =
    ap (λ each. fold step each (drop (at + 1) items)) (made ∙ ap (step state) here) ∙ ap (fold step state) (sym (drop_more items at item less)) ∙ all

use Rattle.std.proofs.Common.{List, ℕ, ◌++◌, ◌∷◌, [], sym, ap, ◌∙◌}
use Rattle.tup_mini.specs.Include.{folder_part}
use Rattle.tup_mini.proofs.Including.{beside-none, beside-some}
use Rattle.tup_mini.proofs.expand.beside.Goals as goal

pub returns-in_default : goal.returns-in_default
returns-in_default c =
    let none = ap folder_part (sym c.as_str.ensures.bytes) ∙ beside-none c.as_str.result.now c.in_default.ensures.cases in
    c.in_ok-clone.ensures.cases ∙ ap (λ (t : List ℕ). t ++ c.args.name.now) (sym none)

pub returns : goal.returns
returns c =
    let folder = ap folder_part (sym c.as_str.ensures.bytes) ∙ beside-some c.as_str.result.now c.in-Some.folder.now c.in-Some.field-0-1.now c.in-Some.ensures.cases in
    c.in_ok-push_str-2.ensures.ok ∙ (λ i. (c.in_ok-push_str.ensures.ok ∙ ap (λ (t : List ℕ). t ++ 47 ∷ []) c.in_ok-beside.ensures ∙ sym folder) i ++ c.as_str-2.ensures.bytes i)

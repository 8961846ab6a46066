use Rattle.std.proofs.Common.{◌≡◌, ◌++◌, Ok, inr, sym, ap, subst, ◌∙◌}
use Rattle.std.proofs.lemmas.List.Elements.{same_from_all_zip}
use Rattle.tup_path.specs.Name.{IsPath, Names}
use Rattle.tup_path.proofs.path.Path.copy_with_room.Goals as goal

pub invariant_of-result : goal.invariant_of-result
invariant_of-result c =
    let grown = c.in_ok-extend_with_clones.ensures.items in
    let copied : c.extend_with_clones.new.self.items ≡ c.self.inside.names.items =
    grown.1 ∙ ap (λ (front : Names). front ++ grown.0) c.in_ok-names.ensures.items ∙ same_from_all_zip _ c.deref.result.now grown.0 grown.2 (λ x y e. e) ∙ c.deref.ensures.value in
    subst IsPath (sym copied) c.self.invariant

pub returns : goal.returns
returns c =
    let grown = c.in_ok-extend_with_clones.ensures.items in
    let copied : c.extend_with_clones.new.self.items ≡ c.self.inside.names.items =
    grown.1 ∙ ap (λ (front : Names). front ++ grown.0) c.in_ok-names.ensures.items ∙ same_from_all_zip _ c.deref.result.now grown.0 grown.2 (λ x y e. e) ∙ c.deref.ensures.value in
    inr (ap (λ names. Ok names) (copied ∙ c.self.view_is))

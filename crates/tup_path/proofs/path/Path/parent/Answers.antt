use Rattle.std.proofs.Common.{◌≡◌, ◌++◌, ◌∷◌, [], Ok, Some, inr, ap, sym, ◌∙◌}
use Rattle.std.specs.Result.{result_ok}
use Rattle.tup_path.specs.Resolve.{above}
use Rattle.tup_path.proofs.Walks.{above_last}
use Rattle.tup_path.proofs.Names.{path_front}
use Rattle.tup_path.proofs.path.Path.parent.Goals as goal

pub invariant_of-result : goal.invariant_of-result
invariant_of-result c =
    let folder = c.in-Some.folder.now in
    let last = c.in-Some.field-0-0.now in
    let copied : c.in_ok-from_clones-in-Some.field-0.items ≡ folder = c.in_ok-from_clones-in-Some.ensures.items_if_clones_equal (λ x y e. e) in
    let cut : c.self.inside.names.items ≡ folder ++ last ∷ [] = sym c.deref.ensures.value ∙ c.in-Some.ensures.cases.0 in
    rw copied (path_front folder last (rw (← cut) c.self.invariant))

pub returns-in_ok-from_clones-in-Some : goal.returns-in_ok-from_clones-in-Some
returns-in_ok-from_clones-in-Some c =
    let folder = c.in-Some.folder.now in
    let last = c.in-Some.field-0-0.now in
    let copied : c.in_ok-from_clones-in-Some.field-0.items ≡ folder = c.in_ok-from_clones-in-Some.ensures.items_if_clones_equal (λ x y e. e) in
    let cut : c.args.self.now ≡ folder ++ last ∷ [] = sym c.self.view_is ∙ sym c.deref.ensures.value ∙ c.in-Some.ensures.cases.0 in
    inr (ap (λ names. Ok (Some names)) copied ∙ sym (ap (λ names. Ok (result_ok (above names))) cut ∙ ap (λ way. Ok (result_ok way)) (above_last folder last)))

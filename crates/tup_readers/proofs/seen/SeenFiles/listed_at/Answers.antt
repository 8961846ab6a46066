use Rattle.std.proofs.Common.{◌≡◌, ◌∙◌, List, Some, sym, ap, subst}
use Rattle.std.specs.Borrow.{Bor}
use Rattle.std.specs.List.{slice_get}
use Rattle.std.proofs.lemmas.Option.{slice_get-get_or}
use Rattle.tup_stamp.specs.declared.Stamp.{Stamp}
use Rattle.std.specs.FinMap as finite
use Rattle.tup_path.specs.Name.{Names}
use Rattle.tup_path.proofs.Same.{same_path-decides}
use Rattle.tup_graph.specs.Graph.{GraphState}
use Rattle.tup_readers.proofs.seen.SeenFiles.listed_at.Goals as goal

pub returns-then-eq : goal.returns-then-eq
returns-then-eq c =
    let file = c.in-Some.file.now in
    let here = c.in-Some.ensures.lookup.3 in
    let there : slice_get c.self.inside.files.items c.args.place ≡ Some file = subst (λ (l : List (Bor Names × Bor Stamp)). slice_get l c.args.place ≡ Some file) c.deref.ensures.value
    (slice_get-get_or c.deref.result.now c.args.place file here.0 ∙ ap Some (sym (here.1 file))) in
    subst (λ (g : GraphState). finite.get g.seen c.args.path.now ≡ Some file.1.now) c.self.view_is
    (subst (λ (p : Names). finite.get c.self.inside.nodes.now.seen p ≡ Some file.1.now) ((same_path-decides file.0.now c.args.path.now).0 (sym c.eq.ensures ∙ c.if-eq.true))
    (c.self.invariant c.args.place file there))

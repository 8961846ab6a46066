use Rattle.std.proofs.Common.{◌≡◌, ◌∙◌, ◌++◌, ◌∷◌, [], ap, None, bytes_eq, rules}
use Rattle.indexmap.specs.IndexMap.{get, insert_entry}
use Rattle.indexmap.proofs.CallerLemmas.{insert_entry-new}
use Rattle.tup_macro.specs.Macros.{macro_of}
use Rattle.tup_macro.proofs.macros.Macros.define.Goals as goal

pub returns-clause-defined : goal.returns-clause-defined
returns-clause-defined c =
    let kept = c.self.inside.macros in
    let name = c.args.name.now in
    let absent : macro_of c.args.self.now name ≡ None = search rules in
    let new : get bytes_eq kept name ≡ None = ap (λ macros. macro_of macros name) c.self.view_is ∙ absent in
    c.in_ok-insert.ensures.entries
    ∙ ap (λ key. insert_entry bytes_eq kept.entries key c.args.body) c.in_ok-clone.ensures.cases
    ∙ insert_entry-new bytes_eq kept name c.args.body new
    ∙ ap (λ macros. macros ++ (name, c.args.body) ∷ []) c.self.view_is

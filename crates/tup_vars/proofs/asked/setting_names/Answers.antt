use Rattle.std.proofs.Common.{◌≡◌, ◌++◌, [], sym, ap, ◌∙◌, append_assoc, append-nil, arith, rules}
use Rattle.std.specs.List.{cons_option}
use Rattle.std.proofs.lemmas.Str.Pattern.{split_parts}
use Rattle.tup_vars.specs.Asked.{closed_name, setting_names}
use Rattle.tup_vars.proofs.Joined.{no_bracket}
use Rattle.tup_vars.proofs.Named.{names_first, names_end}
use Rattle.tup_vars.proofs.asked.setting_names.Goals as goal

pub parts-preserved : goal.parts-preserved
parts-preserved c =
    let l = c.parts in
    let cut = rw c.in-Some.is at (split_parts 41 l.rest.now c.split_once.result c.split_once.ensures.cases (omega arith)) in
    let first = names_first l.rest.now c.in-Some.part.now c.in-Some.more.now cut.0 (no_bracket c.in-Some.part.now cut.1) in (
      l.invariant.0 ∙ ap (λ names. l.names ++ names) first
          ∙ sym (append_assoc l.names (cons_option (closed_name c.in-Some.part.now) []) (setting_names c.in-Some.more.now))
          ∙ ap (λ names. names ++ setting_names c.in-Some.more.now) (sym c.in_ok-add_closed.ensures),
      search rules,
    )

pub returns : goal.returns
returns c =
    let l = c.parts in
    let none = rw c.in_default.is at (split_parts 41 l.rest.now c.split_once.result c.split_once.ensures.cases (omega arith)) in
    sym (l.invariant.0 ∙ ap (λ names. l.names ++ names) (names_end l.rest.now (no_bracket l.rest.now none)) ∙ append-nil l.names)

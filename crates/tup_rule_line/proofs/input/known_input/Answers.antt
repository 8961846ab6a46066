use Rattle.std.proofs.Common.{◌≡◌, ◌||◌, true, false, inr, ap, sym, ◌∙◌}
use Rattle.tup_lex.specs.declared.kind.ParseKind.TheVariants.{MissingInput}
use Rattle.tup_query.specs.Reads.{gives}
use Rattle.tup_rule_line.specs.State.{is_made}
use Rattle.tup_rule_line.specs.Input.{is_file, known_input}
use Rattle.tup_query.proofs.Went.{refusal_of}
use Rattle.tup_rule_line.proofs.Inputs.{known-there, known-missing}
use Rattle.tup_rule_line.proofs.input.known_input.Goals as goal

pub returns-then-not-is_there : goal.returns-then-not-is_there
returns-then-not-is_there c =
    let a = c.args in
    let gone : (is_file a.kind || is_made a.drafts.now a.path) ≡ false = sym c.is_there.ensures ∙ c.if-not-is_there.true in
    refusal_of (known_input a.at.now a.drafts.now a.path a.kind) a.at.now MissingInput c.refuse.result c.refuse.ensures (inr (known-missing a.at.now a.drafts.now a.path a.kind gone))

pub returns : goal.returns
returns c =
    let a = c.args in
    let there : (is_file a.kind || is_made a.drafts.now a.path) ≡ true = sym c.is_there.ensures ∙ c.if-not-is_there.false in
    known-there a.at.now a.drafts.now a.path a.kind there ∙ ap (λ found. gives found) (sym c.in_ok-one_input.ensures)

use Rattle.std.proofs.Common.{inr, sym, ◌∙◌}
use Rattle.tup_lex.specs.declared.kind.ParseKind.TheVariants.{BadCaret}
use Rattle.tup_rule_line.specs.Job.{with_carets}
use Rattle.tup_query.proofs.Went.{refusal_of}
use Rattle.tup_rule_line.proofs.Jobs.{carets-some, carets-none}
use Rattle.tup_rule_line.proofs.command.with_carets.Goals as goal

pub returns-in-Some : goal.returns-in-Some
returns-in-Some c = carets-some c.args.at.now c.args.text.now c.in-Some.command (sym c.in_ok-found.ensures ∙ c.in-Some.is)

pub returns-in-None : goal.returns-in-None
returns-in-None c =
    refusal_of (with_carets c.args.at.now c.args.text.now) c.args.at.now BadCaret c.refuse.result c.refuse.ensures (inr (carets-none c.args.at.now c.args.text.now (sym c.in_ok-found.ensures ∙ c.in-None.is)))

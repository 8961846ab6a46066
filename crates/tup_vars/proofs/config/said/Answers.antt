use Rattle.std.proofs.Common.{Err, sym, ap, ◌∙◌, inr, ⊎_elim, inl}
use Rattle.std.specs.Str.Lines.{lines as cut_lines}
use Rattle.tup_lex.specs.declared.kind.ParseKind.TheVariants.{LineTooLong}
use Rattle.tup_vars.specs.declared.fault.ConfigFault.TheVariants.{At}
use Rattle.tup_vars.proofs.Settings.{settings-long, settings-short}
use Rattle.tup_vars.proofs.config.said.Goals as goal

pub returns-in-Some : goal.returns-in-Some
returns-in-Some c = inr (ap (λ n. Err (At n LineTooLong)) c.line_number.ensures ∙ sym (settings-long (cut_lines c.args.text.now) c.in-Some.before c.in-Some.ensures))

pub returns-in-None : goal.returns-in-None
returns-in-None c = ⊎_elim inl (λ same. inr (same ∙ sym (settings-short (cut_lines c.args.text.now) c.in-None.ensures))) c.short_settings.ensures

use Rattle.std.proofs.Common.{◌≡◌, inl, inr, Err, bytes_eq, ap, sym, ◌∙◌, ⊎_elim}
use Rattle.tup_lex.specs.declared.kind.ParseKind.TheVariants as kind
use Rattle.tup_macro.specs.Gifts.{members_of}
use Rattle.tup_macro.specs.declared.fault.MacroFault.TheVariants.{NoSuchBin, Memory}
use Rattle.tup_query.specs.Reads.{gives}
use Rattle.tup_rule_line.specs.Found.{inputs_alone}
use Rattle.tup_rule_line.specs.Input.{from_bin}
use Rattle.tup_query.proofs.Went.{refusal_of}
use Rattle.tup_rule_line.proofs.Inputs.{bin-some, bin-none}
use Rattle.tup_rule_line.proofs.input.from_bin.Goals as goal

pub returns-in-Ok : goal.returns-in-Ok
returns-in-Ok c =
    let a = c.args in
    bin-some a.at.now a.bins.now a.name.now c.in-Ok.paths (sym (ap (members_of bytes_eq a.bins.now) c.in_ok-name.ensures) ∙ c.in-Ok.ensures.members)
    ∙ ap (λ inputs. gives (inputs_alone inputs)) (sym c.in_ok-inputs-in-Ok.ensures) ∙ ap (λ found. gives found) (sym c.inputs_alone.ensures)

pub returns : goal.returns
returns c =
    let a = c.args in
    ⊎_elim
    (λ (gone : c.in-Err.fault ≡ NoSuchBin). refusal_of (from_bin a.at.now a.bins.now a.name.now) a.at.now kind.NoSuchBin c.bin_end.result c.bin_end.ensures.refusal
    (inr (bin-none a.at.now a.bins.now a.name.now (sym (ap (members_of bytes_eq a.bins.now) c.in_ok-name.ensures) ∙ c.in-Err.ensures.unknown.0 (ap Err gone)))))
    (λ (memory : c.in-Err.fault ≡ Memory). refusal_of (from_bin a.at.now a.bins.now a.name.now) a.at.now kind.NoSuchBin c.bin_end.result c.bin_end.ensures.refusal (inl (c.bin_end.ensures.memory memory)))
    c.in-Err.ensures.refused

use Rattle.std.proofs.Common.{◌≡◌, ◌<◌, length, get_or, Ok, Err, inl, inr, ⊎_elim, refl, sym, ap, ◌∙◌, arith}
use Rattle.std.specs.Str.Lines.{lines as cut_lines}
use Rattle.std.proofs.lemmas.List.{length_push}
use Rattle.std.proofs.lemmas.Iterator.Splits.{YieldsList-from_lines}
use Rattle.std.proofs.lemmas.Iterator.Consumers.{YieldsList-turn, YieldsList-end}
use Rattle.std.proofs.lemmas.Result.{err_from_is_err_and}
use Rattle.tup_lex.specs.Line.{line_number}
use Rattle.tup_vars.specs.Config.{with_line}
use Rattle.tup_vars.proofs.Settings.{read_from, so-begins, so-reads, so-stops, so-ends, next_number}
use Rattle.tup_vars.proofs.config.short_settings.Goals as goal

pub loop-line-init : goal.loop-line-init
loop-line-init c = (refl, so-begins (cut_lines c.args.text.now) ∙ ap (λ table. read_from table 0 (cut_lines c.args.text.now)) (sym c.new-table.ensures))

pub loop-line-preserved : goal.loop-line-preserved
loop-line-preserved c =
    let all = cut_lines c.args.text.now in
    let place = length c.loop-line.yielded in
    let t : (place < length all) × (c.in-Some.line.now ≡ get_or all place c.in-Some.line.now) = YieldsList-turn (YieldsList-from_lines c.args.text.now cc) c.loop-line.yielded _ c.loop-line.yielded_by _ _ c.in-Some.line c.in-Some.is c.next.ensures.steps in
    let number : c.saturating_add-number.result ≡ line_number place = c.saturating_add-number.ensures ∙ next_number _ place c.loop-line.invariant.0 in
    let read : with_line c.loop-line.table (line_number place) c.in-Some.line.now ≡ Ok c.read_line.new.table = ap (λ n. with_line c.loop-line.table n c.in-Some.line.now) (sym number) ∙ c.in_ok-read_line.ensures.read in
    rw (length_push c.loop-line.yielded c.in-Some.line) (number, so-reads all _ place _ t.0 t.1 c.loop-line.invariant.1 _ read)

pub returns-in_err-read_line : goal.returns-in_err-read_line
returns-in_err-read_line c =
    let all = cut_lines c.args.text.now in
    let place = length c.loop-line.yielded in
    let t : (place < length all) × (c.in-Some.line.now ≡ get_or all place c.in-Some.line.now) = YieldsList-turn (YieldsList-from_lines c.args.text.now cc) c.loop-line.yielded _ c.loop-line.yielded_by _ _ c.in-Some.line c.in-Some.is c.next.ensures.steps in
    let number : c.saturating_add-number.result ≡ line_number place = c.saturating_add-number.ensures ∙ next_number _ place c.loop-line.invariant.0 in
    let p = err_from_is_err_and c.from_residual.result c.from_residual.ensures.1 in
    ⊎_elim
    (λ memory. inl (p.1 ∙ ap Err (p.2 ∙ memory)))
    (λ wrong. inr (p.1 ∙ ap Err p.2 ∙ sym (so-stops all _ place _ t.0 t.1 c.loop-line.invariant.1 _ (ap (λ n. with_line c.loop-line.table n c.in-Some.line.now) (sym number) ∙ wrong))))
    c.in_err-read_line.ensures.refused

pub returns : goal.returns
returns c =
    let all = cut_lines c.args.text.now in
    let t : (length c.loop-line.yielded ≡ length all) = (YieldsList-end (YieldsList-from_lines c.args.text.now cc) c.loop-line.yielded _ c.loop-line.yielded_by _ _ c.in-None.is c.next.ensures.steps).1 in
    inr (sym (so-ends all c.loop-line.table (length c.loop-line.yielded) (omega arith) c.loop-line.invariant.1))

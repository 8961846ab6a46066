use Rattle.std.proofs.Common.{◌≡◌, ◌<◌, length, get_or, [], ◌∷◌, ◌++◌, Ok, Err, sym, ◌∙◌, refl, arith, ap, inl, inr, ⊎_elim, false}
use Rattle.std.specs.Str.Lines.{lines as cut_lines}
use Rattle.std.proofs.lemmas.List.{length_push}
use Rattle.std.proofs.lemmas.Iterator.Splits.{YieldsList-from_lines}
use Rattle.std.proofs.lemmas.Iterator.Consumers.{YieldsList-turn, YieldsList-end}
use Rattle.std.proofs.lemmas.Result.{err_from_is_err_and}
use Rattle.std.proofs.lemmas.Str.Pattern.{strip_suffix_char}
use Rattle.tup_lex.specs.Line.{goes_on, line_number}
use Rattle.tup_lex.proofs.Joins.{So, So-same, so-begins, so-goes_on, so-long, so-fits, end-fits, not_goes_on, next_number}
use Rattle.tup_lex.proofs.line.said_lines.Goals as goal

pub loop-line-init : goal.loop-line-init
loop-line-init c = (refl, So-same (cut_lines c.args.text.now) {first = 1} {n = 0} (so-begins (cut_lines c.args.text.now)) c.new-kept.ensures refl c.new-begun.ensures.bytes refl)

pub loop-line-preserved-in-Continue-1 : goal.loop-line-preserved-in-Continue-1
loop-line-preserved-in-Continue-1 c =
    let all = cut_lines c.args.text.now in
    let t : (length c.loop-line.yielded < length all) × (c.in-Some.line.now ≡ get_or all (length c.loop-line.yielded) c.in-Some.line.now) = YieldsList-turn (YieldsList-from_lines c.args.text.now cc) c.loop-line.yielded _ c.loop-line.yielded_by _ _ c.in-Some.line c.in-Some.is c.next.ensures.steps in
    let n = length_push c.loop-line.yielded c.in-Some.line in
    let cut : c.in-Some.line.now ≡ c.in-Some-strip_suffix.front.now ++ 92 ∷ [] = rw c.in-Some-strip_suffix.is at (strip_suffix_char 92 c.in-Some.line.now c.strip_suffix.result c.strip_suffix.ensures.cases (omega arith)) in (
      c.saturating_add-number.ensures ∙ next_number _ _ c.loop-line.invariant.0 ∙ ap line_number (sym n),
      So-same all (so-goes_on all _ _ _ _ _ t.0 t.1 c.loop-line.invariant.1 _ _ cut c.in_ok-push_str-in-Some-strip_suffix.ensures.bytes) refl refl refl n,
    )

pub returns-in_err-keep-in-None-strip_suffix : goal.returns-in_err-keep-in-None-strip_suffix
returns-in_err-keep-in-None-strip_suffix c =
    let all = cut_lines c.args.text.now in
    let t : (length c.loop-line.yielded < length all) × (c.in-Some.line.now ≡ get_or all (length c.loop-line.yielded) c.in-Some.line.now) = YieldsList-turn (YieldsList-from_lines c.args.text.now cc) c.loop-line.yielded _ c.loop-line.yielded_by _ _ c.in-Some.line c.in-Some.is c.next.ensures.steps in
    let stays : goes_on c.in-Some.line.now ≡ false = not_goes_on _ (rw c.in-None-strip_suffix.is at (strip_suffix_char 92 c.in-Some.line.now c.strip_suffix.result c.strip_suffix.ensures.cases (omega arith))) in
    let new = c.as_str.ensures.value ∙ c.in_ok-push_str-in-None-strip_suffix.ensures.bytes in
    let p = err_from_is_err_and c.from_residual-in_err-keep-in-None-strip_suffix.result c.from_residual-in_err-keep-in-None-strip_suffix.ensures.1 in
    ⊎_elim
    (λ memory. inl (p.1 ∙ ap Err (p.2 ∙ memory)))
    (λ long. inr (p.1 ∙ ap Err (p.2 ∙ long.0) ∙ sym (so-long all _ _ _ _ _ t.0 t.1 c.loop-line.invariant.1 _ stays new long.1)))
    c.in_err-keep-in-None-strip_suffix.ensures.refused

pub loop-line-preserved : goal.loop-line-preserved
loop-line-preserved c =
    let all = cut_lines c.args.text.now in
    let t : (length c.loop-line.yielded < length all) × (c.in-Some.line.now ≡ get_or all (length c.loop-line.yielded) c.in-Some.line.now) = YieldsList-turn (YieldsList-from_lines c.args.text.now cc) c.loop-line.yielded _ c.loop-line.yielded_by _ _ c.in-Some.line c.in-Some.is c.next.ensures.steps in
    let n = length_push c.loop-line.yielded c.in-Some.line in
    let stays : goes_on c.in-Some.line.now ≡ false = not_goes_on _ (rw c.in-None-strip_suffix.is at (strip_suffix_char 92 c.in-Some.line.now c.strip_suffix.result c.strip_suffix.ensures.cases (omega arith))) in
    let new = c.as_str.ensures.value ∙ c.in_ok-push_str-in-None-strip_suffix.ensures.bytes in
    let number = c.saturating_add-number.ensures ∙ next_number _ _ c.loop-line.invariant.0 in (
      number ∙ ap line_number (sym n),
      So-same all (so-fits all _ _ _ _ _ t.0 t.1 c.loop-line.invariant.1 _ stays new c.in_ok-keep-in-None-strip_suffix.ensures.fits) c.in_ok-keep-in-None-strip_suffix.ensures.kept number c.clear.ensures.bytes n,
    )

pub returns : goal.returns
returns c =
    let all = cut_lines c.args.text.now in
    let t : (length c.loop-line.yielded ≡ length all) = (YieldsList-end (YieldsList-from_lines c.args.text.now cc) c.loop-line.yielded _ c.loop-line.yielded_by _ _ c.in-None.is c.next.ensures.steps).1 in
    let so : So all c.loop-line.kept c.loop-line.first c.as_str-2.result.now (length c.loop-line.yielded) = So-same all c.loop-line.invariant.1 refl refl c.as_str-2.ensures.value refl in
    inr (ap Ok c.in_ok-keep.ensures.kept ∙ sym (end-fits all _ _ _ _ (omega arith) so c.in_ok-keep.ensures.fits))

use Rattle.std.proofs.Common.{sym, ap, ◌∙◌, List, ◌++◌, ◌∷◌, []}
use Rattle.std.proofs.lemmas.Result.{err_from_is_err_and}
use Rattle.tup_path.specs.Name.{Names, Content}
use Rattle.tup_access.specs.Written.{content_in}
use Rattle.tup_access.proofs.Writes.{content_at, output_refused, output_there, files_more}
use Rattle.tup_access.proofs.judging.output_files.Goals as goal

pub loop-output-preserved : goal.loop-output-preserved
loop-output-preserved c =
    let path = c.output-item.result in
    let file = c.in_ok-output_file.field-0 in
    let less = rw c.as_slice-output-items.ensures at c.loop-output-test.true in
    let here = rw c.as_slice-output-items.ensures at c.output-item.is in
    let is = sym (content_at c.args.rule.now c.args.writes.now c.args.last.now c.loop-output.output-index path c.requires less here) ∙ c.in_ok-output_file.ensures.ok.content in
    record {
      none = output_there c.args.rule.now c.args.writes.now c.loop-output.output-index path file.1 is c.loop-output.invariant.none less here;
      files = c.in_ok-push.ensures.ok ∙ ap (λ (files : List (Names × Content)). files ++ file ∷ []) c.loop-output.invariant.files ∙ files_more c.args.rule.now c.args.writes.now c.loop-output.output-index path file c.in_ok-output_file.ensures.ok.name is less here;
    }

pub returns-in_err-output_file-clause-err : goal.returns-in_err-output_file-clause-err
returns-in_err-output_file-clause-err c =
    let p = err_from_is_err_and c.from_residual.result c.from_residual.ensures.1 in
    let path = c.output-item.result in
    let less = rw c.as_slice-output-items.ensures at c.loop-output-test.true in
    let here = rw c.as_slice-output-items.ensures at c.output-item.is in
    let is = content_at c.args.rule.now c.args.writes.now c.args.last.now c.loop-output.output-index path c.requires less here in
    rw (p.1, p.2) (output_refused c.args.rule.now c.args.writes.now c.loop-output.output-index path c.in_err-output_file.field-0.0 (content_in c.args.last.now path) is c.loop-output.invariant.none less here c.in_err-output_file.ensures.err)

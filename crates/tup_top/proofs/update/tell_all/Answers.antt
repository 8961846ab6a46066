use Rattle.std.proofs.Common.{◌≡◌, ◌==◌, ℕ, Bool, true, length, sym, ap, subst, ◌∙◌}
use Rattle.std.specs.Prelude.{vec_len}
use Rattle.tup_top.specs.Printed.{Ends}
use Rattle.tup_top.specs.Status.{after_telling, status_of}
use Rattle.tup_top.specs.declared.status.Status.{Status}
use Rattle.tup_top.proofs.Reported.{blamed_so, comes_otherwise, ends_told}
use Rattle.tup_top.proofs.update.tell_all.Goals as goal

pub returns-clause-ends : goal.returns-clause-ends
returns-clause-ends g c =
    let before = g.K.Sink.faults c.args.out.now in
    let now = g.K.Sink.faults c.print_lines-status.new.out in
    let all = c.hear-failed.result.all in
    let answer = c.print_lines-status.result in
    let ends : Ends before now (after_telling all c.is_empty.result c.status_of-came.result) answer = subst (λ (s : Status). Ends before now s answer) c.after_telling-status.ensures c.print_lines-status.ensures.ends in
    ends_told before now all c.is_empty.result (status_of c.args.log.now c.args.stopped) answer
    (subst (λ (s : Status). Ends before now (after_telling all c.is_empty.result s) answer) c.status_of-came.ensures ends)

pub returns-clause-reports : goal.returns-clause-reports
returns-clause-reports g c =
    let failed = c.hear-failed.result.failed in
    let all = c.hear-failed.result.all in
    let many : vec_len failed ≡ length failed.items = failed.ok.0 in
    let none : c.is_empty.result ≡ (length failed.items == 0) = c.is_empty.ensures ∙ ap (λ (n : ℕ). n == 0) many in
    record {
      status = c.after_telling-status.result;
      heard = record {
        all = all;
        told_all = c.hear-failed.ensures.all;
        cut_off = c.hear-failed.ensures.cut_off;
        status_is = c.after_telling-status.ensures ∙ ap (λ (b : Bool). after_telling all b c.status_of-came.result) none ∙ ap (λ (s : Status). after_telling all (length failed.items == 0) s) c.status_of-came.ensures;
      };
      ends = c.print_lines-status.ensures.ends;
      prints = c.print_lines-status.ensures.prints;
    }

pub returns-clause-blamed_reporter : goal.returns-clause-blamed_reporter
returns-clause-blamed_reporter g c = λ is gone.
    let before = g.K.Sink.faults c.args.out.now in
    let now = g.K.Sink.faults c.print_lines-status.new.out in
    let failed = c.hear-failed.result.failed in
    let all = c.hear-failed.result.all in
    let answer = c.print_lines-status.result in
    let many : vec_len failed ≡ length failed.items = failed.ok.0 in
    let none : c.is_empty.result ≡ true = c.is_empty.ensures ∙ ap (λ (n : ℕ). n == 0) (many ∙ ap length gone) in
    let came : Ends before now (after_telling all c.is_empty.result c.status_of-came.result) answer = subst (λ (s : Status). Ends before now s answer) c.after_telling-status.ensures c.print_lines-status.ensures.ends in
    blamed_so before now all c.is_empty.result c.status_of-came.result answer (λ told. comes_otherwise c.args.log.now c.args.stopped (sym c.status_of-came.ensures ∙ told)) came is none

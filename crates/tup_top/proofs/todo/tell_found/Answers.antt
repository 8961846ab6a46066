use Rattle.std.proofs.Common.{◌≡◌, ◌==◌, ℕ, Bool, Ok, true, List, append-nil, length, map, sym, ap, subst, ◌∙◌}
use Rattle.std.specs.Prelude.{vec_len}
use Rattle.tup_path.specs.Name.{Names}
use Rattle.tup_tell.specs.Parted.{AreCutOff, AreTold}
use Rattle.tup_tell.specs.declared.event.Event.{Event}
use Rattle.tup_tell.specs.declared.event.Event.TheVariants.{Read}
use Rattle.tup_top.specs.Printed.{Ends}
use Rattle.tup_top.specs.Status.{after_telling, log_of_todo, status_of_todo}
use Rattle.tup_top.specs.Telling.{events_of}
use Rattle.tup_top.specs.declared.status.Status.{Status}
use Rattle.tup_top.proofs.Foreseen.{found_otherwise}
use Rattle.tup_top.proofs.Reported.{blamed_so, ends_told}
use Rattle.tup_top.proofs.todo.tell_found.Goals as goal

pub returns-clause-ends : goal.returns-clause-ends
returns-clause-ends g c =
    let before = g.K.Sink.faults c.args.out.now in
    let now = g.K.Sink.faults c.list-status.new.out in
    let all = c.hear_read-failed.result.all in
    let answer = c.list-status.result in
    let ends : Ends before now (after_telling all c.is_empty.result c.status_of_listed-came.result) answer = subst (λ (s : Status). Ends before now s answer) c.after_telling-status.ensures c.list-status.ensures.ends in
    ends_told before now all c.is_empty.result (status_of_todo (Ok c.args.todo.now)) answer
    (subst (λ (s : Status). Ends before now (after_telling all c.is_empty.result s) answer) c.status_of_listed-came.ensures ends)

pub returns-clause-reports : goal.returns-clause-reports
returns-clause-reports g c =
    let tellers = c.args.tellers.now.items in
    let kept = c.hear_read-failed.new.tellers.items in
    let failed = c.hear_read-failed.result.failed in
    let all = c.hear_read-failed.result.all in
    let many : vec_len failed ≡ length failed.items = failed.ok.0 in
    let none : c.is_empty.result ≡ (length failed.items == 0) = c.is_empty.ensures ∙ ap (λ (n : ℕ). n == 0) many in
    let events : map Read c.as_slice.result.now ≡ events_of (log_of_todo (Ok c.args.todo.now)) =
    ap (λ (l : List Names). map Read l) c.as_slice.ensures ∙ sym (append-nil (map Read c.args.todo.now.read)) in
    record {
      status = c.after_telling-status.result;
      heard = record {
        all = all;
        told_all = λ is. subst (λ (l : List Event). AreTold g.T.Reporter.told g.T.Reporter.faults l tellers kept failed.items) events (c.hear_read-failed.ensures.all is);
        cut_off = λ is. subst (λ (l : List Event). AreCutOff g.T.Reporter.told g.T.Reporter.faults l tellers kept failed.items) events (c.hear_read-failed.ensures.cut_off is);
        status_is = c.after_telling-status.ensures ∙ ap (λ (b : Bool). after_telling all b c.status_of_listed-came.result) none ∙ ap (λ (s : Status). after_telling all (length failed.items == 0) s) c.status_of_listed-came.ensures;
      };
      ends = c.list-status.ensures.ends;
      prints = c.list-status.ensures.prints;
    }

pub returns-clause-blamed_reporter : goal.returns-clause-blamed_reporter
returns-clause-blamed_reporter g c = λ is gone.
    let before = g.K.Sink.faults c.args.out.now in
    let now = g.K.Sink.faults c.list-status.new.out in
    let failed = c.hear_read-failed.result.failed in
    let all = c.hear_read-failed.result.all in
    let answer = c.list-status.result in
    let many : vec_len failed ≡ length failed.items = failed.ok.0 in
    let none : c.is_empty.result ≡ true = c.is_empty.ensures ∙ ap (λ (n : ℕ). n == 0) (many ∙ ap length gone) in
    let came : Ends before now (after_telling all c.is_empty.result c.status_of_listed-came.result) answer = subst (λ (s : Status). Ends before now s answer) c.after_telling-status.ensures c.list-status.ensures.ends in
    blamed_so before now all c.is_empty.result c.status_of_listed-came.result answer (λ told. found_otherwise c.args.todo.now (sym c.status_of_listed-came.ensures ∙ told)) came is none

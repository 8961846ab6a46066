use Rattle.std.proofs.Common.{◌≡◌, refl, rules, ◌∙◌, sym, ap, ◌++◌, ◌∷◌, [], List, ℕ, Err, arith}
use Rattle.std.proofs.lemmas.List.{append-nil}
use Rattle.std.proofs.lemmas.Option.{slice_get_read, slice_get_within}
use Rattle.std.proofs.lemmas.Result.{err_from_is_err_and}
use Rattle.tup_path.specs.Name.{Names}
use Rattle.tup_clean.specs.Clean.{good_at}
use Rattle.tup_clean.specs.Cleaned.{build}
use Rattle.tup_clean.specs.Ran.{command_of, commands_of}
use Rattle.tup_clean.specs.Taken.{Taken}
use Rattle.tup_clean.proofs.Stopping.{stopped_after, stopped_in, ran_more, ran_whole}
use Rattle.tup_clean.proofs.Taking.{is_left, taken_at, can_note, going_start, going_more, going_none, going_end, going_left, going_left_next}
use Rattle.tup_clean.proofs.Turns.{told_more}
use Rattle.tup_clean.proofs.build.build_on.Goals as goal

pub loop-init : goal.loop-init
loop-init g c = record {
  going = ([], going_start _ _ c.args.rules.now _ c.in_ok-queue.queue c.requires c.in_ok-queue.ensures, λ told. sym (append-nil _));
  steady = refl;
}

pub bounds-rules-at : goal.bounds-rules-at
bounds-rules-at g c =
    let next = c.in-Some.ensures c.args.rules.now (is_left c.loop.verdicts) (good_at c.loop.verdicts) c.loop.invariant.going.1.queued.waiting in
    let taken = taken_at c.args.rules.now c.loop.verdicts c.in-Some.at _ next in
    slice_get_within c.args.rules.now c.in-Some.at taken.rule taken.here

pub offset_bounds-rules-at : goal.offset_bounds-rules-at
offset_bounds-rules-at g c =
    let next = c.in-Some.ensures c.args.rules.now (is_left c.loop.verdicts) (good_at c.loop.verdicts) c.loop.invariant.going.1.queued.waiting in
    let taken = taken_at c.args.rules.now c.loop.verdicts c.in-Some.at _ next in
    let within = slice_get_within c.args.rules.now c.in-Some.at taken.rule taken.here in
    search (rules, within)

pub note-requires : goal.note-requires
note-requires g c =
    let next = c.in-Some.ensures c.args.rules.now (is_left c.loop.verdicts) (good_at c.loop.verdicts) c.loop.invariant.going.1.queued.waiting in
    can_note c.args.rules.now c.loop.verdicts c.in-Some.at _ next

pub bounds-verdicts-at : goal.bounds-verdicts-at
bounds-verdicts-at g c =
    let next = c.in-Some.ensures c.args.rules.now (is_left c.loop.verdicts) (good_at c.loop.verdicts) c.loop.invariant.going.1.queued.waiting in
    let taken = taken_at c.args.rules.now c.loop.verdicts c.in-Some.at _ next in
    slice_get_within c.loop.verdicts c.in-Some.at _ taken.none

pub offset_bounds-verdicts-at : goal.offset_bounds-verdicts-at
offset_bounds-verdicts-at g c =
    let next = c.in-Some.ensures c.args.rules.now (is_left c.loop.verdicts) (good_at c.loop.verdicts) c.loop.invariant.going.1.queued.waiting in
    let taken = taken_at c.args.rules.now c.loop.verdicts c.in-Some.at _ next in
    let within = slice_get_within c.loop.verdicts c.in-Some.at _ taken.none in
    search (rules, within)

pub loop-preserved : goal.loop-preserved
loop-preserved g c =
    let next = c.in-Some.ensures c.args.rules.now (is_left c.loop.verdicts) (good_at c.loop.verdicts) c.loop.invariant.going.1.queued.waiting in
    let taken = taken_at c.args.rules.now c.loop.verdicts c.in-Some.at _ next in
    let within = slice_get_within c.args.rules.now c.in-Some.at taken.rule taken.here in
    let here = slice_get_read c.args.rules.now _ c.in-Some.at c.index-rules-at.result refl within c.index-rules-at.is in
    let one : Taken = (c.in-Some.at, c.in_ok-verdict.verdict) in
    record {
      going = (
        c.loop.invariant.going.0 ++ one ∷ [],
        going_more _ _ c.args.rules.now _ (build c.loop.tree c.loop.verdicts) c.loop.counter c.loop.invariant.going.0 c.loop.queue c.loop.invariant.going.1
            c.in-Some.at _ next c.loop-test.true c.index-rules-at.result here
            _ (record { verdict = c.in_ok-verdict.verdict; files = c.in_ok-verdict.files }) _
            c.in_ok-verdict.ensures.judged c.in_ok-note.ensures c.in_ok-put_all.ensures refl,
        λ told.
            ran_more _ _ _ _ _ (c.loop.invariant.going.2 told) (c.in_ok-verdict.ensures.ran told)
            ∙ ap (λ (l : List (Names × List ℕ)). g.R.Runner.ran c.args.runner.now ++ l) (sym (told_more command_of c.args.rules.now c.loop.invariant.going.0 one c.index-rules-at.result here)),
      );
      steady = c.in_ok-verdict.ensures.cause ∙ c.loop.invariant.steady;
    }

pub returns-in_err-verdict-clause-ran : goal.returns-in_err-verdict-clause-ran
returns-in_err-verdict-clause-ran g c = λ told tells.
    let next = c.in-Some.ensures c.args.rules.now (is_left c.loop.verdicts) (good_at c.loop.verdicts) c.loop.invariant.going.1.queued.waiting in
    let taken = taken_at c.args.rules.now c.loop.verdicts c.in-Some.at _ next in
    let within = slice_get_within c.args.rules.now c.in-Some.at taken.rule taken.here in
    let here = slice_get_read c.args.rules.now _ c.in-Some.at c.index-rules-at.result refl within c.index-rules-at.is in
    let more = going_left_next _ _ c.args.rules.now _ (build c.loop.tree c.loop.verdicts) c.loop.counter c.loop.invariant.going.0 c.loop.queue c.loop.invariant.going.1
    c.in-Some.at _ next c.loop-test.true c.index-rules-at.result here told in
    let left = going_left _ _ c.args.rules.now _ (build c.loop.tree c.loop.verdicts) c.loop.counter c.loop.invariant.going.0 c.loop.queue c.loop.invariant.going.1 told in
    let is : c.from_residual-in_err-verdict.result ≡ Err c.in_err-verdict.field-0.0 = grind arith in
    rw is (stopped_in _ (commands_of c.args.rules.now c.loop.invariant.going.0) _ _ _ _ _ _ c.in_err-verdict.field-0.0 left more (c.loop.invariant.going.2 tells) (c.in_err-verdict.ensures.ran tells))

pub returns-in_err-put_all-clause-ran : goal.returns-in_err-put_all-clause-ran
returns-in_err-put_all-clause-ran g c = λ told tells.
    let next = c.in-Some.ensures c.args.rules.now (is_left c.loop.verdicts) (good_at c.loop.verdicts) c.loop.invariant.going.1.queued.waiting in
    let taken = taken_at c.args.rules.now c.loop.verdicts c.in-Some.at _ next in
    let within = slice_get_within c.args.rules.now c.in-Some.at taken.rule taken.here in
    let here = slice_get_read c.args.rules.now _ c.in-Some.at c.index-rules-at.result refl within c.index-rules-at.is in
    let more = going_left_next _ _ c.args.rules.now _ (build c.loop.tree c.loop.verdicts) c.loop.counter c.loop.invariant.going.0 c.loop.queue c.loop.invariant.going.1
    c.in-Some.at _ next c.loop-test.true c.index-rules-at.result here told in
    let p = err_from_is_err_and c.from_residual-in_err-put_all.result c.from_residual-in_err-put_all.ensures.1 in
    rw p.1 (stopped_after _ (commands_of c.args.rules.now c.loop.invariant.going.0) _ _ _ _ _ more (c.loop.invariant.going.2 tells) (c.in_ok-verdict.ensures.ran tells))

pub returns-in_err-note-clause-ran : goal.returns-in_err-note-clause-ran
returns-in_err-note-clause-ran g c = λ told tells.
    let next = c.in-Some.ensures c.args.rules.now (is_left c.loop.verdicts) (good_at c.loop.verdicts) c.loop.invariant.going.1.queued.waiting in
    let taken = taken_at c.args.rules.now c.loop.verdicts c.in-Some.at _ next in
    let within = slice_get_within c.args.rules.now c.in-Some.at taken.rule taken.here in
    let here = slice_get_read c.args.rules.now _ c.in-Some.at c.index-rules-at.result refl within c.index-rules-at.is in
    let more = going_left_next _ _ c.args.rules.now _ (build c.loop.tree c.loop.verdicts) c.loop.counter c.loop.invariant.going.0 c.loop.queue c.loop.invariant.going.1
    c.in-Some.at _ next c.loop-test.true c.index-rules-at.result here told in
    let p = err_from_is_err_and c.from_residual-in_err-note.result c.from_residual-in_err-note.ensures.1 in
    rw p.1 (stopped_after _ (commands_of c.args.rules.now c.loop.invariant.going.0) _ _ _ _ _ more (c.loop.invariant.going.2 tells) (c.in_ok-verdict.ensures.ran tells))

pub returns-in_default : goal.returns-in_default
returns-in_default g c =
    let none = going_none _ _ c.args.rules.now _ (build c.loop.tree c.loop.verdicts) c.loop.counter c.loop.invariant.going.0 c.loop.queue c.loop.invariant.going.1 c.loop.queue
    (c.in_default.ensures c.args.rules.now (is_left c.loop.verdicts) (good_at c.loop.verdicts) c.loop.invariant.going.1.queued.waiting) in
    record {
      built = λ told. (none told).0;
      ran = λ told tells. ran_whole _ (commands_of c.args.rules.now c.loop.invariant.going.0) _ _ (c.loop.invariant.going.2 tells) (ap (commands_of c.args.rules.now) (none told).1);
      cause = c.loop.invariant.steady;
    }

pub returns : goal.returns
returns g c =
    let ends = going_end _ _ c.args.rules.now _ _ _ c.loop.invariant.going.0 _ c.loop.invariant.going.1 c.loop-test.false in
    record {
      built = λ told. (ends told).0;
      ran = λ told tells. ran_whole _ (commands_of c.args.rules.now c.loop.invariant.going.0) _ _ (c.loop.invariant.going.2 tells) (ap (commands_of c.args.rules.now) (ends told).1);
      cause = c.loop.invariant.steady;
    }

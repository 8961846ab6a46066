use Rattle.std.proofs.Common.{List, ℕ, Option, Ok, ◌+◌, drop, subst}
use Rattle.std.proofs.lemmas.Result.{err_from_is_err_and}
use Rattle.tup_runner.specs.Next.{Asks}
use Rattle.tup_proc_runner.specs.Asked.{said_by, said_in, AsksAs}
use Rattle.tup_proc_runner.proofs.Following.{next_line, as_said_then, unlike_then, refused_then}
use Rattle.tup_proc_runner.proofs.asking.ask_all.Goals as goal

pub returns-in_err-text-clause-asked : goal.returns-in_err-text-clause-asked
returns-in_err-text-clause-asked g c =
    let lines = c.args.lines.now in
    let at = c.loop-line.line-index in
    let line = c.line-item.result in
    let first = c.args.view.now in
    let next = c.loop-line.view in
    let far = next_line lines at line (said_in lines) (λ (asks : Asks). g.V.View.came first asks next) (g.V.View.refusal next)
    c.loop-line-test.true c.line-item.is c.loop-line.invariant.0 in
    let p = err_from_is_err_and c.from_residual.result c.from_residual.ensures.1 in
    rw (p.1, p.2) (refused_then g.V.View.came g.V.View.refusal g.met.V.View.goes_on first next c.ask.new.view
    (said_in lines) (said_by line) (said_in (drop (at + 1) lines)) c.in_err-text.field-0.0 far c.in_err-text.ensures.asked)

pub returns-in-Some-clause-asked : goal.returns-in-Some-clause-asked
returns-in-Some-clause-asked g c =
    let lines = c.args.lines.now in
    let at = c.loop-line.line-index in
    let line = c.line-item.result in
    let first = c.args.view.now in
    let next = c.loop-line.view in
    let far = next_line lines at line (said_in lines) (λ (asks : Asks). g.V.View.came first asks next) (g.V.View.refusal next)
    c.loop-line-test.true c.line-item.is c.loop-line.invariant.0 in
    unlike_then g.V.View.came g.V.View.refusal g.met.V.View.goes_on first next c.ask.new.view
    (said_in lines) (said_by line) (said_in (drop (at + 1) lines)) c.in-Some.text far
    (subst (λ (unlike : Option (List ℕ)). AsksAs (said_by line) (λ (asks : Asks). g.V.View.came next asks c.ask.new.view) (g.V.View.refusal c.ask.new.view) (Ok unlike))
    c.in-Some.is c.in_ok-text.ensures.asked)

pub loop-line-preserved : goal.loop-line-preserved
loop-line-preserved g c =
    let lines = c.args.lines.now in
    let at = c.loop-line.line-index in
    let line = c.line-item.result in
    let first = c.args.view.now in
    let next = c.loop-line.view in
    let far = next_line lines at line (said_in lines) (λ (asks : Asks). g.V.View.came first asks next) (g.V.View.refusal next)
    c.loop-line-test.true c.line-item.is c.loop-line.invariant.0 in (
      as_said_then g.V.View.came g.V.View.refusal g.met.V.View.goes_on first next c.ask.new.view
          (said_in lines) (said_by line) (said_in (drop (at + 1) lines)) far
          (subst (λ (unlike : Option (List ℕ)). AsksAs (said_by line) (λ (asks : Asks). g.V.View.came next asks c.ask.new.view) (g.V.View.refusal c.ask.new.view) (Ok unlike))
          c.in_default.is c.in_ok-text.ensures.asked),
      g.met.V.View.same_on first next c.ask.new.view c.loop-line.invariant.1 c.in_ok-text.ensures.same,
    )

use Rattle.std.proofs.Common.{List, ℕ, Option, Ok, subst}
use Rattle.tup_runner.specs.Next.{Asks}
use Rattle.tup_proc_runner.specs.Asked.{said_in, AsksAs}
use Rattle.tup_proc_runner.specs.Told.{place_of}
use Rattle.tup_proc_runner.proofs.Following.{ended_as}
use Rattle.tup_proc_runner.proofs.runner.ProcRunner.follow.Goals as goal

pub returns-clause-log : goal.returns-clause-log
returns-clause-log g c =
    let lines = c.args.lines.now in
    let last = c.ask_all.new.view in
    ended_as lines (place_of c.args.self.now.root c.args.dir.now) (λ (asks : Asks). g.V.View.came c.args.view.now asks last) (g.V.View.refusal last)
    c.told-2.new.self.last c.ended-ended.result c.told-2.result
    (subst (λ (unlike : Option (List ℕ)). AsksAs (said_in lines) (λ (asks : Asks). g.V.View.came c.args.view.now asks last) (g.V.View.refusal last) (Ok unlike))
    c.in_default.is c.in_ok-text.ensures.asked)
    c.ended-ended.ensures.told c.ended-ended.ensures.refused c.told-2.ensures.own c.told-2.ensures.value c.told-2.ensures.done c.told-2.ensures.memory c.told-2.ensures.named

use Rattle.std.proofs.Common.{rules, sym, subst, arith, take}
use Rattle.std.proofs.lemmas.List.{take_all}
use Rattle.tup_site.specs.Choice.{Changed, known_after}
use Rattle.tup_site.specs.Held.{IsHeld}
use Rattle.tup_site.specs.Memory.{known_in}
use Rattle.tup_site.proofs.Crashing.{known_next, known_front, held_known}
use Rattle.tup_site.proofs.memory.MemSite.chosen_known.Goals as goal

pub loop-content-preserved : goal.loop-content-preserved
loop-content-preserved c =
    let list = c.args.choice.now in
    let i = c.loop-content.content-index in
    let file = c.loop-content-item.result in
    let contents = known_in c.args.self.now in
    subst (IsHeld c.take_up.new.known.contents.entries) (sym (known_next contents list i file (omega arith) c.loop-content-item.is))
    (c.in_ok-take_up.ensures.held (known_after contents (take i list)) c.loop-content.invariant)

pub returns-in_err-take_up-clause-same_stamp : goal.returns-in_err-take_up-clause-same_stamp
returns-in_err-take_up-clause-same_stamp c e known =
    let list = c.args.choice.now in
    let i = c.loop-content.content-index in
    let file = c.loop-content-item.result in
    let contents = known_in c.args.self.now in
    let why = c.in_err-take_up.ensures.same_stamp (search rules) in
    why (known_after contents (take i list)) c.loop-content.invariant (known_front contents list i file (omega arith) c.loop-content-item.is known)

pub returns-clause-known : goal.returns-clause-known
returns-clause-known c =
    let list = c.args.choice.now in
    let i = c.loop-content.content-index in
    let contents = known_in c.args.self.now in
    let entries = c.loop-content.known.contents.entries in
    held_known entries (known_after contents list) (subst (λ (l : Changed). IsHeld entries (known_after contents l)) (take_all i list (omega arith)) c.loop-content.invariant)

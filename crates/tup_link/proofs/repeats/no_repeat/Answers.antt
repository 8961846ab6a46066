use Rattle.std.proofs.Common.{refl, ◌∙◌, sym, ap, not, Some, inr, take, length}
use Rattle.std.proofs.lemmas.Option.{slice_get_read}
use Rattle.tup_link.proofs.Finding.{repeated_here, repeated_on, duplicate_at}
use Rattle.tup_link.proofs.Knowing.{commands_none, commands_take, command_new, same_pair}
use Rattle.tup_link.proofs.repeats.no_repeat.Goals as goal

pub loop-at-init : goal.loop-at-init
loop-at-init c = record { known = commands_none c.new-known.result c.new-known.ensures.empty; rest = refl }

pub loop-at-preserved : goal.loop-at-preserved
loop-at-preserved c =
    let rule = c.index-rules-at.result in
    let key = same_pair _ rule.dir _ rule.text c.in_ok-clone.ensures.cases c.in_ok-clone-2.ensures.cases in
    let new = command_new c.loop-at.known (take c.loop-at.at c.args.rules.now) rule _ c.in_ok-insert.field-0 c.loop-at.invariant.known c.in_ok-insert.ensures.added key in
    record {
      known = commands_take c.loop-at.known c.insert.new.self c.args.rules.now c.loop-at.at rule _ c.loop-at-test.true c.index-rules-at.is c.loop-at.invariant.known c.in_ok-insert.ensures.updates key;
      rest = repeated_on c.args.rules.now c.loop-at.at rule c.loop-at-test.true c.index-rules-at.is (new ∙ ap not c.if-not-branch.false) ∙ c.loop-at.invariant.rest;
    }

pub returns-then-not-branch : goal.returns-then-not-branch
returns-then-not-branch c =
    let rules = c.args.rules.now in
    let rule = c.index-rules-at.result in
    let key = same_pair _ rule.dir _ rule.text c.in_ok-clone.ensures.cases c.in_ok-clone-2.ensures.cases in
    let there = command_new c.loop-at.known (take c.loop-at.at rules) rule _ c.in_ok-insert.field-0 c.loop-at.invariant.known c.in_ok-insert.ensures.added key ∙ ap not c.if-not-branch.true in
    let first = sym c.loop-at.invariant.rest ∙ repeated_here rules c.loop-at.at rule c.loop-at-test.true c.index-rules-at.is there in
    let here = slice_get_read c.args.all.now (length rules) c.loop-at.at c.index-all-at.result (sym c.requires) c.loop-at-test.true c.index-all-at.is in
    inr (duplicate_at c.args.all.now rules c.loop-at.at c.index-all-at.result first here ∙ ap Some (sym c.in_ok-twice.ensures))

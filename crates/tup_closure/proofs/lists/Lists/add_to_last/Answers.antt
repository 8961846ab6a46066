use Rattle.std.proofs.Common.{List, ap, ◌∙◌}
use Rattle.std.specs.Prelude.{option_map}
use Rattle.tup_path.specs.Name.{Names}
use Rattle.tup_closure.proofs.Listed.{last_pushed, none_last}
use Rattle.tup_closure.proofs.lists.Lists.add_to_last.Goals as goal

pub returns-in_ok-push-in-Some-clause-ok : goal.returns-in_ok-push-in-Some-clause-ok
returns-in_ok-push-in-Some-clause-ok g c = λ path last q.
    last_pushed c.args.self.now c.in-Some.path path c.in-Some.before c.push.new.self c.args.value c.in-Some.ensures.value last c.in_ok-push-in-Some.ensures.ok q

pub returns-in_ok-push-in-Some-clause-last : goal.returns-in_ok-push-in-Some-clause-last
returns-in_ok-push-in-Some-clause-last g c = ap (option_map (λ (one : Names × List _). one.0)) c.in-Some.ensures.value

pub returns-in-None-clause-ok : goal.returns-in-None-clause-ok
returns-in-None-clause-ok g c = λ path last. absurd (none_last c.args.self.now.last path c.in-None.ensures.value last)

pub returns-in-None-clause-last : goal.returns-in-None-clause-last
returns-in-None-clause-last g c = ap (option_map (λ (one : Names × List _). one.0)) (c.take.ensures.after ∙ c.in-None.ensures.value)

use Rattle.std.proofs.Common.{◌≡◌, ◌+◌, cond, length, refl, sym, ◌∙◌, subst, arith}
use Rattle.std.specs.BTreeSet.{contains}
use Rattle.tup_path.specs.Order.{by_names}
use Rattle.tup_readings.proofs.Working.{taken_out}
use Rattle.tup_readings.proofs.work.Work.wait.Goals as goal

pub returns-in_ok-push-clause-begins : goal.returns-in_ok-push-clause-begins
returns-in_ok-push-clause-begins c =
    let old = c.args.self.now.waiting in
    let one : length c.remove.new.self.keys + 1 ≡ length old.keys = subst (λ b. length c.remove.new.self.keys + cond b 1 0 ≡ length old.keys) c.if-remove.true c.remove.ensures.len in
    record {
      waited = sym c.remove.ensures.test ∙ c.if-remove.true;
      waiting = λ dir. c.remove.ensures.updates.0 dir ∙ taken_out c.args.next dir (contains by_names old dir);
      fewer = omega (arith, one);
      under_way = c.in_ok-push.ensures.items;
      readings = refl;
    }

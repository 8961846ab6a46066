use Rattle.std.proofs.Common.{◌≡◌, ◌+◌, length, inr, refl, sym, ap, ◌∙◌, arith}
use Rattle.std.specs.BTreeSet.{contains}
use Rattle.std.proofs.lemmas.Bool.{eqb-true}
use Rattle.std.proofs.lemmas.List.{nil_from_length}
use Rattle.tup_path.specs.Order.{by_names}
use Rattle.tup_readings.proofs.Working.{taken_out}
use Rattle.tup_readings.proofs.work.Work.begin_first.Goals as goal

pub returns-in_ok-push : goal.returns-in_ok-push
returns-in_ok-push c =
    let self = c.args.self.now in
    let len : self.under_way.len ≡ 0 = eqb-true self.under_way.len 0 (sym c.is_empty.ensures ∙ c.if-not-is_empty.false) in
    let none : length self.under_way.items ≡ 0 = omega (arith, len, self.under_way.ok.0) in
    let one : length self.waiting.keys ≡ length c.pop_first.new.self.keys + 1 = let e = ap length c.in-Some.ensures.removal in omega (arith, e) in
    inr (
      nil_from_length self.under_way.items none,
      (
        c.in-Some.dir,
        record {
          waited = c.in-Some.ensures.member;
          waiting = λ dir. c.in-Some.ensures.updates.0 dir ∙ taken_out c.in-Some.dir dir (contains by_names self.waiting dir);
          fewer = omega (arith, one);
          under_way = c.in_ok-push.ensures.items;
          readings = refl;
        },
        c.in-Some.ensures.least,
      ),
    )

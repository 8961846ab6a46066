use Rattle.std.proofs.Common.{◌-◌, List, length, Some, slice_get, sym, ap, ◌∙◌}
use Rattle.tup_path.specs.Name.{Names}
use Rattle.tup_readings.proofs.Working.{readied, no_more, no_reading, last_one}
use Rattle.tup_readings.proofs.work.Work.next.Goals as goal

pub returns-in_ok-clone-in-Some : goal.returns-in_ok-clone-in-Some
returns-in_ok-clone-in-Some c =
    let old = c.args.self.now in
    let new = c.begin_first.new.self in
    let begins = c.in_ok-begin_first.ensures in
    record {
      work = λ sources settings is. readied sources settings old new begins is;
      readings = no_reading old new begins;
      left = no_more old new begins;
      last = last_one new c.in_ok-clone-in-Some.field-0
          (ap (λ (l : List Names). slice_get l (length l - 1)) (sym c.deref.ensures.value) ∙ sym c.in-Some.ensures.value ∙ ap (λ d. Some d) (sym c.in_ok-clone-in-Some.ensures.cases));
    }

use Rattle.std.proofs.Common.{◌+◌, refl, ap, ◌∙◌, arith}
use Rattle.tup_lock.proofs.lock.Lock.draw_at.Goals as goal

pub draw-place-requires-clause-own : goal.draw-place-requires-clause-own
draw-place-requires-clause-own g c = c.requires.chief.table

pub draw-place-requires-clause-first : goal.draw-place-requires-clause-first
draw-place-requires-clause-first g c = λ zero. let is = c.requires.chief.first refl in let some = c.requires.some in omega arith

pub invariant_of-chief : goal.invariant_of-chief
invariant_of-chief g c = record { seated = ap (λ m. m.0.lasts) c.draw-place.ensures.first.1 ∙ c.args.chief.now.seated }

pub returns-clause-chief : goal.returns-clause-chief
returns-clause-chief g c =
    let is = c.requires.chief in
    let e = c.draw-place.ensures.first in record {
      table = e.0 ∙ is.table;
      slots = ap (λ m. m.1) e.1 ∙ is.slots;
      number_is = is.number_is;
      last_is = is.last_is;
      first = λ zero. ap (λ m. m.0.count) e.1 ∙ ap (λ n. n + 1) (is.first zero);
      others = λ other. absurd (other refl);
    }

pub returns-clause-seat : goal.returns-clause-seat
returns-clause-seat g c =
    let e = c.draw-place.ensures.new in record {
      table = e.0 ∙ c.requires.chief.table;
      slots = ap (λ m. m.1) e.1;
      number_is = refl;
      last_is = c.requires.last;
      first = λ zero. absurd (let some = c.requires.some in omega arith);
      others = λ other. ap (λ m. m.0.count) e.1;
    }

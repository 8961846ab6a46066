use Rattle.std.proofs.Common.{◌≡◌, Some, ap, sym, ◌∙◌, subst, length, arith}
use Rattle.std.proofs.lemmas.List.{length_push}
use Rattle.std.proofs.lemmas.List.Elements.{All-pop}
use Rattle.tup_lock.specs.Seats.{AreDrawn}
use Rattle.tup_lock.proofs.lock.Lock.draw_all.Goals as goal

pub draw_next-requires-clause-last : goal.draw_next-requires-clause-last
draw_next-requires-clause-last g c =
    (All-pop (λ one. one.value ≡ c.args.first.now.value) c.loop-last.lasts.items c.pop.new.self.items (Some c.in-Some.last) c.in-Some.ensures.items c.loop-last.invariant.lasts).1

pub draw_next-requires-clause-room : goal.draw_next-requires-clause-room
draw_next-requires-clause-room g c =
    let i = c.loop-last.invariant in
    let room = c.requires.room in
    let long = ap length c.in-Some.ensures.items ∙ length_push c.pop.new.self.items c.in-Some.last in (omega (arith, i.whole, i.room, long), omega (arith, i.whole, room.1, long))

pub loop-last-preserved : goal.loop-last-preserved
loop-last-preserved g c =
    let i = c.loop-last.invariant in
    let next = c.draw_next.ensures in
    let long = ap length c.in-Some.ensures.items ∙ length_push c.pop.new.self.items c.in-Some.last in record {
      drawn = subst (λ n. AreDrawn c.args.self.now c.args.first.now.value n c.draw_next.new.made.items) (sym next.drawn.0) next.drawn;
      some = omega (arith, next.drawn.0);
      lasts = (All-pop (λ one. one.value ≡ c.args.first.now.value) c.loop-last.lasts.items c.pop.new.self.items (Some c.in-Some.last) c.in-Some.ensures.items i.lasts).0;
      whole = omega (arith, next.drawn.0, i.whole, long);
      room = omega (arith, next.room, i.room);
    }

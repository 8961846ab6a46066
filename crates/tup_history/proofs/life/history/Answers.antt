use Rattle.std.proofs.Common.{ℕ, ◌+◌, None, Some, [], ◌∷◌, ◌++◌, length, sym, ap, subst, ◌∙◌, arith}
use Rattle.std.proofs.lemmas.List.{length_push}
use Rattle.tup_history.specs.History.{IsHistory, Takes, standing}
use Rattle.tup_site.specs.declared.refused.MemRefused.TheVariants.{Memory}
use Rattle.tup_history.proofs.Stays.{lived_kept}
use Rattle.tup_history.proofs.Turns.{leads_on, taken, here, were_all, refused_so, no_room, all_lived, lived_so_far}
use Rattle.tup_history.proofs.life.history.Goals as goal

pub returns-then-is_err-clause-lived : goal.returns-then-is_err-clause-lived
returns-then-is_err-clause-lived g c =
    let full = refused_so c.reserve.result _ (sym c.is_err.ensures.value ∙ c.if-is_err.true) c.reserve.ensures.full in
    no_room g.R.Runner.tells g.R.Runner.next c.args.turns.items c.from_vec.result (standing g.R.Runner g.K.Sink c.args.site c.args.crew.items c.args.out.now)
    (c.from_vec.ensures ∙ c.reserve.ensures.items ∙ c.new-ends.ensures.items)
    (omega (arith, full, c.len.ensures, c.args.turns.ok.0))

pub loop-turn-preserved : goal.loop-turn-preserved
loop-turn-preserved g c =
    let step = Takes g.R.Runner.tells g.R.Runner.next in
    let from = standing g.R.Runner g.K.Sink c.args.site c.args.crew.items c.args.out.now in
    let mid = standing g.R.Runner g.K.Sink c.loop-turn.life.site c.loop-turn.life.crew.items c.loop-turn.out in
    let to = standing g.R.Runner g.K.Sink c.take_turn-next.result.life.site c.take_turn-next.result.life.crew.items c.take_turn-next.new.out in
    let takes : step c.in-Some.turn c.in-Ok.end mid to = rw c.in-Ok.is at c.take_turn-next.ensures.takes in
    let more = length_push c.loop-turn.yielded c.in-Some.turn in
    let noted = length_push c.loop-turn.ends.items c.in-Ok.end in
    record {
      history = subst (λ (e : _). IsHistory g.R.Runner.tells g.R.Runner.next (c.loop-turn.yielded ++ c.in-Some.turn ∷ []) e from to) (sym c.push_reserved.ensures.items)
          (leads_on step c.loop-turn.yielded c.loop-turn.ends.items from mid to c.in-Some.turn c.in-Ok.end c.loop-turn.invariant.history takes);
      crew = c.take_turn-next.ensures.crew;
      count = ap length c.push_reserved.ensures.items ∙ noted ∙ ap (λ (n : ℕ). n + 1) c.loop-turn.invariant.count ∙ sym more;
      room = omega (arith, c.loop-turn.invariant.room, c.push_reserved.ensures.capacity);
    }

pub returns-in-Err-clause-lived : goal.returns-in-Err-clause-lived
returns-in-Err-clause-lived g c =
    let turns = c.args.turns.items in
    let it = c.into_iter-turn-iterator.result in
    let left = c.loop-turn.turn-iterator in
    let gives = c.into_iter-turn-iterator.ensures.into_iter_gives in
    let len = gives.1 ∙ c.args.turns.ok.0 in
    let from = standing g.R.Runner g.K.Sink c.args.site c.args.crew.items c.args.out.now in
    let mid = standing g.R.Runner g.K.Sink c.loop-turn.life.site c.loop-turn.life.crew.items c.loop-turn.out in
    let to = standing g.R.Runner g.K.Sink c.take_turn-next.result.life.site c.take_turn-next.result.life.crew.items c.take_turn-next.new.out in
    lived_so_far g.R.Runner.tells g.R.Runner.next turns c.loop-turn.yielded c.in-Some.turn c.loop-turn.ends.items c.from_vec-in-Err.result c.len-in-Err.result c.in-Err.why from mid to
    c.from_vec-in-Err.ensures (c.len-in-Err.ensures ∙ c.loop-turn.ends.ok.0)
    (taken turns it gives.0 len c.loop-turn.yielded left c.loop-turn.yielded_by)
    c.loop-turn.invariant.count
    (here turns it gives.0 len c.loop-turn.yielded left c.loop-turn.yielded_by c.next.result c.next.new.self c.in-Some.turn c.in-Some.is c.next.ensures.steps)
    (rw c.in-Err.is at c.take_turn-next.ensures.refused)
    c.loop-turn.invariant.history
    (rw c.in-Err.is at c.take_turn-next.ensures.stays)

pub returns-clause-lived : goal.returns-clause-lived
returns-clause-lived g c =
    let turns = c.args.turns.items in
    let it = c.into_iter-turn-iterator.result in
    let left = c.loop-turn.turn-iterator in
    let gives = c.into_iter-turn-iterator.ensures.into_iter_gives in
    let len = gives.1 ∙ c.args.turns.ok.0 in
    let from = standing g.R.Runner g.K.Sink c.args.site c.args.crew.items c.args.out.now in
    let to = standing g.R.Runner g.K.Sink c.loop-turn.life.site c.loop-turn.life.crew.items c.loop-turn.out in
    all_lived g.R.Runner.tells g.R.Runner.next turns c.loop-turn.yielded c.loop-turn.ends.items c.from_vec-2.result from to
    c.from_vec-2.ensures
    (taken turns it gives.0 len c.loop-turn.yielded left c.loop-turn.yielded_by)
    (were_all turns it gives.0 len c.loop-turn.yielded left c.loop-turn.yielded_by c.next.result c.next.new.self c.in-None.is c.next.ensures.steps)
    c.loop-turn.invariant.count
    c.loop-turn.invariant.history

-- ---- what a crash leaves

pub returns-then-is_err-clause-kept : goal.returns-then-is_err-clause-kept
returns-then-is_err-clause-kept g c = λ stage kept.
    lived_kept g.R.Runner.tells g.R.Runner.next c.args.turns.items c.from_vec.result (Some (0, Memory)) _ _ (returns-then-is_err-clause-lived g c) stage kept

pub returns-in-Err-clause-kept : goal.returns-in-Err-clause-kept
returns-in-Err-clause-kept g c = λ stage kept.
    lived_kept g.R.Runner.tells g.R.Runner.next c.args.turns.items c.from_vec-in-Err.result (Some (c.len-in-Err.result, c.in-Err.why)) _ _ (returns-in-Err-clause-lived g c) stage kept

pub returns-clause-kept : goal.returns-clause-kept
returns-clause-kept g c = λ stage kept.
    lived_kept g.R.Runner.tells g.R.Runner.next c.args.turns.items c.from_vec-2.result None _ _ (returns-clause-lived g c) stage kept

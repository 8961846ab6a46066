use Rattle.std.proofs.Common.{◌≡◌, ◌∙◌, Result, Err, IfErr, String, Global, string_bytes, subst, sym, arith}
use Rattle.std.specs.List.{Any}
use Rattle.tup_disk.specs.Told.{IsUnsynced, IsUnsyncedAmong}
use Rattle.tup_disk.specs.declared.failure.Refused.{Refused}
use Rattle.tup_disk.proofs.Turns.{this_turn, later_turn}
use Rattle.tup_disk.proofs.touched.Touched.sync.Goals as goal

pub loop-place-init : goal.loop-place-init
loop-place-init g c = λ refused any.
    subst (Any (λ (place : String Global). IsUnsynced (string_bytes place) refused)) (c.into_iter-place-iterator.ensures.into_iter_gives ∙ c.iter-place-items.ensures.rest) any

pub returns-in_err-sync : goal.returns-in_err-sync
returns-in_err-sync g c =
    let refused = c.in_err-sync.field-0.0 in
    let is : c.from_residual.result ≡ Err refused = grind arith in
    record {
      cause = subst (λ (r : Result (Unit {0}) Refused). IfErr r (IsUnsyncedAmong c.args.self.now.places)) (sym is)
          (this_turn (λ (place : String Global). IsUnsynced (string_bytes place) refused) c.in-Some.place.now c.loop-place.place-iterator c.next.new.self c.args.self.now.places.keys
          c.in-Some.ensures.steps (c.loop-place.invariant refused) (subst (λ place. IsUnsynced place refused) c.as_str.ensures.value c.in_err-sync.ensures.cause));
    }

pub loop-place-preserved : goal.loop-place-preserved
loop-place-preserved g c = λ refused.
    later_turn (λ (place : String Global). IsUnsynced (string_bytes place) refused) c.in-Some.place.now c.loop-place.place-iterator c.next.new.self c.args.self.now.places.keys
    c.in-Some.ensures.steps (c.loop-place.invariant refused)

use Rattle.std.proofs.Common.{◌≡◌, ◌++◌, ◌∷◌, [], Ok, String, Global, string_bytes, subst, ◌∙◌, arith}
use Rattle.std.specs.List.{Any}
use Rattle.std.proofs.lemmas.List.Elements.{All-nil, All-push, All-same}
use Rattle.tup_disk.specs.Jobs.{IsOneOf}
use Rattle.tup_disk.specs.declared.syncing.Job.{Job}
use Rattle.tup_disk.proofs.Turns.{this_turn, later_turn}
use Rattle.tup_disk.proofs.syncing.jobs_of.Goals as goal

pub loop-place-init : goal.loop-place-init
loop-place-init c = (
  All-same (IsOneOf c.args.places.now) c.new-jobs.result.items [] c.new-jobs.ensures.items (All-nil (IsOneOf c.args.places.now)),
  λ job any. subst (Any (λ (place : String Global). string_bytes place ≡ string_bytes job.place)) (c.into_iter-place-iterator.ensures.into_iter_gives ∙ c.iter-place-items.ensures.rest) any,
)

pub loop-place-preserved : goal.loop-place-preserved
loop-place-preserved c =
    let places = c.args.places.now in
    let place = c.in-Some.place.now in
    let next : Job = record { place = c.in_ok-clone.field-0; done = Ok tt } in
    let same : string_bytes place ≡ string_bytes c.in_ok-clone.field-0 = grind arith in
    let pushed : c.push.new.self.items ≡ c.loop-place.jobs.items ++ next ∷ [] = grind arith in (
      All-same (IsOneOf places) c.push.new.self.items (c.loop-place.jobs.items ++ next ∷ []) pushed
          (All-push (IsOneOf places) c.loop-place.jobs.items next c.loop-place.invariant.0
          (this_turn (λ (place : String Global). string_bytes place ≡ string_bytes next.place) place c.loop-place.place-iterator c.next.new.self places.keys c.in-Some.ensures.steps (c.loop-place.invariant.1 next) same)),
      λ job. later_turn (λ (place : String Global). string_bytes place ≡ string_bytes job.place) place c.loop-place.place-iterator c.next.new.self places.keys c.in-Some.ensures.steps (c.loop-place.invariant.1 job),
    )

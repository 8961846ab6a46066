use Rattle.std.proofs.Common.{◌≡◌, ◌⊎◌, ◌-◌, inl, inr, length, map, take, Result, Err, IfErr, string_bytes, ap, ◌∙◌, subst, sym, arith}
use Rattle.std.specs.Vec.Iter.{into_iter_items}
use Rattle.tup_disk.specs.Place.{places_to}
use Rattle.tup_disk.specs.Told.{IsBarred, IsBarredAbove}
use Rattle.tup_disk.specs.declared.failure.Operation.TheVariants as operation
use Rattle.tup_disk.specs.declared.failure.Refused.{Refused}
use Rattle.tup_disk.specs.declared.failure.Refused.TheVariants.{Memory}
use Rattle.tup_disk.specs.declared.standing.Standing.{Standing}
use Rattle.tup_disk.proofs.Turns.{this_turn, later_turn}
use Rattle.tup_disk.proofs.disk.Disk.look_above.Goals as goal

pub loop-folder-init : goal.loop-folder-init
loop-folder-init g c = λ refused barred.
    subst (λ places. IsBarredAbove places refused) (ap (map string_bytes) c.into_iter-folder-iterator.ensures.into_iter_gives.0 ∙ c.in_ok-folder-items.ensures) barred

pub returns-in_err-standing : goal.returns-in_err-standing
returns-in_err-standing g c =
    let refused = c.in_err-standing.field-0.0 in
    let places = places_to (string_bytes c.args.self.now.root) (take (length c.args.path.now - 1) c.args.path.now) in
    let left = into_iter_items c.loop-folder.folder-iterator in
    let is : c.from_residual-in_err-standing.result ≡ Err refused = grind arith in
    let cause : (refused ≡ Memory) ⊎ IsBarredAbove places refused = elim c.in_err-standing.ensures.cause [
      | inl memory ↦ inl memory
      | inr barred ↦ inr (this_turn (λ place. IsBarred operation.Look place refused) (string_bytes c.in-Some.folder) (map string_bytes left) (map string_bytes (into_iter_items c.next.new.self)) places
          (ap (map string_bytes) c.in-Some.ensures.steps.0) (c.loop-folder.invariant refused) barred)
    ] in
    record { cause = subst (λ (r : Result Standing Refused). IfErr r (λ refused. (refused ≡ Memory) ⊎ IsBarredAbove places refused)) (sym is) cause }

pub loop-folder-preserved : goal.loop-folder-preserved
loop-folder-preserved g c = λ refused.
    let places = places_to (string_bytes c.args.self.now.root) (take (length c.args.path.now - 1) c.args.path.now) in
    later_turn (λ place. IsBarred operation.Look place refused) (string_bytes c.in-Some.folder) (map string_bytes (into_iter_items c.loop-folder.folder-iterator)) (map string_bytes (into_iter_items c.next.new.self)) places
    (ap (map string_bytes) c.in-Some.ensures.steps.0) (c.loop-folder.invariant refused)

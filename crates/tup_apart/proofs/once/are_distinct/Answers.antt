use Rattle.std.proofs.Common.{◌≡◌, ◌+◌, ◌∷◌, [], ◌++◌, false, true, take, refl, sym, ap, ◌∙◌, subst}
use Rattle.std.specs.Borrow.{Bor}
use Rattle.std.specs.List.{IsDistinct}
use Rattle.std.proofs.lemmas.Bool.{false≢true}
use Rattle.std.proofs.lemmas.List.{take_more}
use Rattle.tup_path.specs.Name.{Names}
use Rattle.tup_path.specs.Order.{same_path}
use Rattle.tup_apart.proofs.Distinct.{HasPaths, few_once, has_more, has_none, new_one, none_twice, old_one, once_more, twice}
use Rattle.tup_apart.proofs.once.are_distinct.Goals as goal

pub loop-path-init : goal.loop-path-init
loop-path-init c = record { has = has_none c.new-before.result c.new-before.ensures.empty; once = none_twice }

pub loop-path-preserved : goal.loop-path-preserved
loop-path-preserved c =
    let front = take c.loop-path.path-index c.args.paths.now in
    let path = c.path-item.result in
    let one : Bor Names = record { ref_ptr = (0, 0); now = path } in
    let more : take (c.loop-path.path-index + 1) c.args.paths.now ≡ front ++ path ∷ [] =
    take_more c.args.paths.now c.loop-path.path-index path c.loop-path-test.true ∙ ap (λ (one : Names). front ++ one ∷ []) (sym c.path-item.is) in
    record {
      has = subst (HasPaths c.insert.new.self) (sym more) (has_more c.loop-path.before c.insert.new.self front one c.in_ok-insert.ensures.updates c.loop-path.invariant.has);
      once = subst (IsDistinct same_path) (sym more)
          (once_more front path c.loop-path.invariant.once (new_one c.loop-path.before front one c.in_ok-insert.field-0 c.loop-path.invariant.has c.in_ok-insert.ensures.added c.if-not-branch.false));
    }

pub returns-then-not-branch : goal.returns-then-not-branch
returns-then-not-branch c =
    let one : Bor Names = record { ref_ptr = (0, 0); now = c.path-item.result } in (
      λ (wrong : false ≡ true). absurd (false≢true wrong),
      λ once. absurd (twice c.args.paths.now c.loop-path.path-index c.path-item.result c.loop-path-test.true c.path-item.is
          (old_one c.loop-path.before (take c.loop-path.path-index c.args.paths.now) one c.in_ok-insert.field-0 c.loop-path.invariant.has c.in_ok-insert.ensures.added c.if-not-branch.true) once),
    )

pub returns-then-paths-lt2 : goal.returns-then-paths-lt2
returns-then-paths-lt2 c = (λ _. few_once c.args.paths.now c.if-paths-lt2.true, λ _. refl)

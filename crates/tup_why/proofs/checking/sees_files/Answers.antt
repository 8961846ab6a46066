use Rattle.std.proofs.Common.{◌≡◌, Some, true, false, refl, subst}
use Rattle.std.specs.Prelude.{All}
use Rattle.std.specs.FinMap as finite
use Rattle.std.proofs.lemmas.Bool.{false≢true}
use Rattle.std.proofs.lemmas.List.{take_all}
use Rattle.std.proofs.lemmas.List.Elements.{All-contains, All-more}
use Rattle.tup_path.specs.Name.{Names}
use Rattle.tup_stamp.specs.declared.Stamp.{Stamp}
use Rattle.tup_why.proofs.Finding.{is_here}
use Rattle.tup_why.proofs.checking.sees_files.Goals as goal

pub loop-path-preserved : goal.loop-path-preserved
loop-path-preserved c =
    let file = c.loop-path-item.result in
    let P : Names × Stamp → Type 0 = λ one. finite.get c.args.nodes.now.seen one.0 ≡ Some one.1 in
    All-more P c.args.files.now c.loop-path.path-index file c.loop-path-test.true c.loop-path.invariant
    (subst P c.loop-path-item.is (c.is_seen_other.ensures.same c.if-is_seen_other.false))

pub returns-then-is_seen_other : goal.returns-then-is_seen_other
returns-then-is_seen_other c =
    let file = c.loop-path-item.result in
    let P : Names × Stamp → Type 0 = λ one. finite.get c.args.nodes.now.seen one.0 ≡ Some one.1 in (
      λ (wrong : false ≡ true). absurd (false≢true wrong),
      λ all. absurd (c.is_seen_other.ensures.other c.if-is_seen_other.true
          (All-contains P c.args.files.now file all (is_here c.args.files.now c.loop-path.path-index file file c.loop-path-test.true c.loop-path-item.is))),
    )

pub returns : goal.returns
returns c =
    let P : Names × Stamp → Type 0 = λ one. finite.get c.args.nodes.now.seen one.0 ≡ Some one.1 in
    (λ _. subst (All P) (take_all c.loop-path.path-index c.args.files.now c.loop-path-test.false) c.loop-path.invariant, λ _. refl)

use Rattle.std.proofs.Common.{◌≡◌, Some, true, false, refl, subst}
use Rattle.std.specs.Prelude.{Contains}
use Rattle.std.specs.FinMap as finite
use Rattle.std.proofs.lemmas.Bool.{false≢true}
use Rattle.tup_path.specs.Name.{Names}
use Rattle.tup_stamp.specs.declared.Stamp.{Stamp}
use Rattle.tup_why.proofs.Finding.{each_more, each_of_all, each_of_none, is_here}
use Rattle.tup_why.proofs.checking.is_other_write.Goals as goal

pub loop-wrote-init : goal.loop-wrote-init
loop-wrote-init c =
    let path = c.args.path.now in
    each_of_none (λ (file : Names × Stamp). file.0 ≡ path → finite.get c.args.nodes.now.seen path ≡ Some file.1)

pub returns-then-is_seen_other_at : goal.returns-then-is_seen_other_at
returns-then-is_seen_other_at c =
    let file = c.loop-wrote-item.result in
    let told = c.is_seen_other_at.ensures.other c.if-is_seen_other_at.true in (
      λ _. (
        file.1,
        subst (λ (p : Names). Contains c.args.files.now (p, file.1)) told.0 (is_here c.args.files.now c.loop-wrote.wrote-index file file c.loop-wrote-test.true c.loop-wrote-item.is),
        told.1,
      ),
      λ _. refl,
    )

pub loop-wrote-preserved : goal.loop-wrote-preserved
loop-wrote-preserved c =
    let file = c.loop-wrote-item.result in
    let path = c.args.path.now in
    each_more (λ (one : Names × Stamp). one.0 ≡ path → finite.get c.args.nodes.now.seen path ≡ Some one.1) c.args.files.now c.loop-wrote.wrote-index file file
    c.loop-wrote-test.true c.loop-wrote-item.is c.loop-wrote.invariant (c.is_seen_other_at.ensures.same c.if-is_seen_other_at.false)

pub returns : goal.returns
returns c =
    let path = c.args.path.now in (
      λ (wrong : false ≡ true). absurd (false≢true wrong),
      λ (given, h, differs). absurd (differs (each_of_all (λ (one : Names × Stamp). one.0 ≡ path → finite.get c.args.nodes.now.seen path ≡ Some one.1)
          c.args.files.now c.loop-wrote.wrote-index c.loop-wrote-test.false c.loop-wrote.invariant (path, given) h refl)),
    )

use Rattle.std.proofs.Common.{All, string_bytes, subst}
use Rattle.std.proofs.lemmas.List.{take_all}
use Rattle.std.proofs.lemmas.List.Elements.{All-map}
use Rattle.tup_disk.specs.Marked.{IsMarked}
use Rattle.tup_disk.proofs.Marked.{more_marked}
use Rattle.tup_disk.proofs.touched.mark_all.Goals as goal

pub loop-folder-preserved : goal.loop-folder-preserved
loop-folder-preserved c = (
  more_marked c.loop-folder.marked c.mark.new.marked c.args.folders.now c.loop-folder.folder-index c.folder-item.result
      c.loop-folder-test.true c.folder-item.is c.mark.ensures.keeps c.loop-folder.invariant.0 c.in_ok-mark.ensures.marked,
  λ place was. c.mark.ensures.keeps place (c.loop-folder.invariant.1 place was),
)

pub returns-clause-marked : goal.returns-clause-marked
returns-clause-marked c =
    All-map (IsMarked c.loop-folder.marked) string_bytes c.args.folders.now
    (subst (All (λ t. IsMarked c.loop-folder.marked (string_bytes t)))
    (take_all c.loop-folder.folder-index c.args.folders.now c.loop-folder-test.false)
    c.loop-folder.invariant.0)

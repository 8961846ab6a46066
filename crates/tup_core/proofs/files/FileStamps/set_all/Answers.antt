use Rattle.std.proofs.Common.{◌∙◌, ap, sym, Some, Option}
use Rattle.std.specs.Prelude.{if◌then◌else◌}
use Rattle.tup_path.specs.Order.{same_path}
use Rattle.tup_stamp.specs.declared.Stamp.{Stamp}
use Rattle.tup_core.specs.Files.{stamp_in}
use Rattle.tup_core.proofs.FilesLaws.{written_among, with_stamps-more}
use Rattle.tup_core.proofs.files.FileStamps.set_all.Goals as goal

pub set-requires : goal.set-requires
set-requires c = c.loop-path.invariant.room _ ∙ c.requires _ (written_among c.args.files.now c.loop-path.path-index c.loop-path-item.result c.loop-path-test.true c.loop-path-item.is)

pub loop-path-preserved : goal.loop-path-preserved
loop-path-preserved c = record {
  first = c.set.ensures.first ∙ c.loop-path.invariant.first;
  stamps = λ q.
      c.set.ensures.stamps q
      ∙ ap (λ (before : Option Stamp). if same_path q c.loop-path-item.result.0 then Some c.loop-path-item.result.1 else before) (c.loop-path.invariant.stamps q)
      ∙ sym (with_stamps-more c.args.files.now c.loop-path.path-index c.loop-path-item.result (stamp_in c.args.self.now) q c.loop-path-test.true c.loop-path-item.is);
  room = λ q. c.set.ensures.room q ∙ c.loop-path.invariant.room q;
}

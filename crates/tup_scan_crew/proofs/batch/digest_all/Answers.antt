use Rattle.std.proofs.Common.{ap, sym, ◌∙◌}
use Rattle.tup_scan_crew.specs.Batch.{digested, with_stamp}
use Rattle.tup_scan_crew.proofs.Digests.{all_digested}
use Rattle.tup_scan_crew.proofs.batch.digest_all.Goals as goal

pub returns : goal.returns
returns g c =
    all_digested c.args.files.now c.for_each_mut.new.s c.for_each_mut.auto.s (λ i d less.
    let at = (c.for_each_mut.ensures i d less).1 in
    ap with_stamp (sym at.left) ∙ at.call ∙ ap digested at.argument_is)

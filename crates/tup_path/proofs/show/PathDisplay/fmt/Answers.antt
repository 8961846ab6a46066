use Rattle.std.proofs.Common.{◌<◌, length, drop, rules}
use Rattle.std.proofs.Output.{has_written_append, has_written_of_eq}
use Rattle.tup_path.proofs.Shown.{show_more}
use Rattle.tup_path.proofs.show.PathDisplay.fmt.Goals as goal

pub loop-name-preserved : goal.loop-name-preserved
loop-name-preserved g c =
    let path = c.args.self.now in
    let i = c.loop-name.name-index in
    let rest = c.loop-name.invariant.1 in
    let inside : i < length (drop 1 path) = rw (← rest) c.loop-name-test.true in
    let more = show_more path i c.name-item.result inside (rw (← rest) c.name-item.is) in (
      (λ plain. has_written_of_eq _ _ _ _ _ more (has_written_append _ _ _ _ _ _ (c.loop-name.invariant.0 plain) (search rules))),
      rest,
      c.loop-name.invariant.2,
    )

use Rattle.std.proofs.Common.{sym}
use Rattle.std.specs.Map.Iter.{deref}
use Rattle.tup_link.proofs.Showing.{shown_next, gap_push}
use Rattle.tup_link.proofs.texts.add_shown.Goals as goal

pub loop-path-preserved : goal.loop-path-preserved
loop-path-preserved c = record {
  text = shown_next deref c.args.dir.now c.loop-path.yielded c.in-Some.path c.args.text.now c.loop-path.text c.push_str.new.self c.add_way.new.text c.loop-path.gap.now c.loop-path.invariant.text c.loop-path.invariant.parted
      c.in_ok-push_str.ensures.ok c.in_ok-add_way.ensures;
  parted = sym (gap_push c.loop-path.yielded c.in-Some.path);
}

use Rattle.std.proofs.Common.{◌≡◌, ◌∷◌, ◌∙◌, ⊎_elim, IsSome, IsTrue, ap, arith, length, subst}
use Rattle.std.specs.FinMap as finite
use Rattle.std.specs.Vec.Iter.{into_iter_items}
use Rattle.std.proofs.lemmas.List.Elements.{All-cons, All-rest}
use Rattle.tup_site.specs.World.{World}
use Rattle.tup_path.specs.Name.{Names}
use Rattle.tup_scan.specs.Cause.{IsSmallAt}
use Rattle.tup_scan_crew.specs.Batch.{IsReadAt, stamps_so_far}
use Rattle.tup_scan_crew.proofs.Ahead.{few_more, none_there, paths_more, stamped_more}
use Rattle.tup_scan_crew.proofs.scanning.stamps_of.Goals as goal
use Rattle.tup_scan_crew.proofs.scanning.stamps_of.Goals.{in-Some-2+in_ok-add, in_default}

pub loop-path-preserved : goal.loop-path-preserved
loop-path-preserved g c =
    let tree = (g.S.Site.world c.args.site.now).tree in
    let all = c.args.paths.items in
    let left = into_iter_items c.loop-path.path-iterator in
    let rest = into_iter_items c.next.new.self in
    let path = c.in-Some.path in
    let first : left ≡ path ∷ rest = c.in-Some.ensures.steps.0 in
    let before = stamps_so_far c.loop-path.batch in
    let so = c.loop-path.invariant in
    let read = λ (tells : IsTrue g.S.Site.tells). subst (λ (w : World). IsReadAt w.tree path c.in_ok-file.field-0) (so.same tells) (c.in_ok-file.ensures.read tells) in
    record {
      paths = λ tells. elim c.match-branch-2.branch [
        | in-Some-2+in_ok-add w ↦
            let there = subst (IsReadAt tree path) w.in-Some-2.is (read tells) in
            rw w.batch-is (paths_more all left rest path before (stamps_so_far w.add.new.self) w.in-Some-2.file first there.0 w.in_ok-add.ensures (so.paths tells))
        | in_default w ↦ absurd (none_there tree left rest path first (so.files tells) (subst (IsReadAt tree path) w.in_default.is (read tells)))
      ];
      files = λ tells. All-rest (λ (p : Names). IsSome (finite.get tree p)) path rest left first (so.files tells);
      stamps = λ tells. elim c.match-branch-2.branch [
        | in-Some-2+in_ok-add w ↦
            let there = subst (IsReadAt tree path) w.in-Some-2.is (read tells) in
            rw w.batch-is (stamped_more tree path before (stamps_so_far w.add.new.self) w.in-Some-2.file there.0 there.1 w.in_ok-add.ensures (so.stamps tells))
        | in_default w ↦ rw w.batch-is (so.stamps tells)
      ];
      count = omega (arith, so.count, ap length first);
      few = elim c.match-branch-2.branch [
        | in-Some-2+in_ok-add w ↦ rw w.batch-is (few_more c.loop-path.place before (stamps_so_far w.add.new.self) w.in-Some-2.file w.in_ok-add.ensures so.few)
        | in_default w ↦ rw w.batch-is (omega (arith, so.few))
      ];
      small = λ tells others.
          let here = subst (λ (w : World). IsSmallAt w.tree path) (so.same tells) (c.in_ok-file.ensures.small tells) in
          so.small tells (rw first (All-cons (IsSmallAt tree) path rest here others));
      counted = c.noted_or_read.ensures.cause.steady (λ e. cc (c.in_ok-file.was, e)) ∙ so.counted;
      same = λ tells. c.noted_or_read.ensures.same tells ∙ so.same tells;
      crash = λ tells.
          let first = so.crash tells in
          let last = c.noted_or_read.ensures.crash tells in
          record {
            later = omega (arith, first.later, last.later);
            kept = λ t w le left. last.kept t w (omega (arith, le, first.later)) (first.kept t w le left);
            since = λ t w le left. ⊎_elim (first.since t w le) (λ none. absurd none.2) (last.since t w (omega (arith, le, first.later)) left);
          };
      known = λ tells. c.noted_or_read.ensures.known tells ∙ so.known tells;
    }

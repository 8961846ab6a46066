use Rattle.std.proofs.Common.{◌&&◌, not, sym, ap, ◌∙◌}
use Rattle.tup_path.specs.Order.{same_path}
use Rattle.tup_site.specs.State.{is_in_line}
use Rattle.tup_site.proofs.Crashing.{loose_without, loose_beside}
use Rattle.tup_site.proofs.unsettled.is_loose_after_edit.Goals as goal

pub returns-then-was : goal.returns-then-was
returns-then-was c state was =
    let apart = not (same_path c.args.path.now c.args.edited.now) in
    loose_without state c.args.path.now c.args.edited.now c.args.content.now c.args.was _ c.in-None.is (c.ne.ensures ∙ sym (ap (λ b. b && apart) c.if-was.true)) was

pub returns-else-was : goal.returns-else-was
returns-else-was c state was =
    let apart = not (same_path c.args.path.now c.args.edited.now) in
    loose_without state c.args.path.now c.args.edited.now c.args.content.now c.args.was _ c.in-None.is (c.if-was.false ∙ sym (ap (λ b. b && apart) c.if-was.false)) was

pub returns-then-was-2 : goal.returns-then-was-2
returns-then-was-2 c state was =
    let apart = not (is_in_line c.args.path.now c.args.edited.now) in
    loose_beside state c.args.path.now c.args.edited.now c.args.content.now _ c.args.was _ c.in-Some.is (ap not c.are_in_line.ensures ∙ sym (ap (λ b. b && apart) c.if-was-2.true)) was

pub returns-else-was-2 : goal.returns-else-was-2
returns-else-was-2 c state was =
    let apart = not (is_in_line c.args.path.now c.args.edited.now) in
    loose_beside state c.args.path.now c.args.edited.now c.args.content.now _ c.args.was _ c.in-Some.is (c.if-was-2.false ∙ sym (ap (λ b. b && apart) c.if-was-2.false)) was

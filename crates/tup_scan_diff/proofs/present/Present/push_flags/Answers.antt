use Rattle.std.proofs.Common.{◌∙◌, ◌++◌, List, ℕ, ap, sym, refl, take, slice_index}
use Rattle.tup_closure.proofs.Asked.{taken}
use Rattle.tup_scan_diff.specs.Edits.{modify_edits}
use Rattle.tup_scan_diff.proofs.Editing.{pushed, modify_both}
use Rattle.tup_scan_diff.proofs.present.Present.push_flags.Goals as goal

pub loop-number-preserved : goal.loop-number-preserved
loop-number-preserved c =
    let g = c.args.self.now.nodes.now in
    let number = slice_index c.args.numbers.now c.loop-number.number-index in
    pushed (modify_edits g) (modify_both g) c.args.edits.now c.loop-number.edits c.push_if_unflagged.new.edits (take c.loop-number.number-index c.args.numbers.now) number c.loop-number.invariant c.in_ok-push_if_unflagged.ensures.ok
    ∙ ap (λ (l : List ℕ). c.args.edits.now ++ modify_edits g l) (sym (taken c.args.numbers.now c.loop-number.number-index number 0 c.loop-number-test.true refl))

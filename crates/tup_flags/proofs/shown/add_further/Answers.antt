use Rattle.std.proofs.Common.{◌≡◌, [], ◌∷◌, take, take_all, append_assoc, length-append, Err, ap, sym, ◌∙◌, arith}
use Rattle.tup_flags.specs.Shown.{shown, further}
use Rattle.tup_flags.proofs.Listed.{further-more, further-next, grown-none, grown-then, grown-as, no-room-then}
use Rattle.tup_flags.proofs.shown.add_further.Goals as goal

pub loop-path-init : goal.loop-path-init
loop-path-init c = grown-none c.args.answer.now

pub returns-in_err-add_text-clause-refused : goal.returns-in_err-add_text-clause-refused
returns-in_err-add_text-clause-refused c =
    let within = further-next c.args.dir.now c.args.side c.args.paths.now c.loop-path.path-index c.path-item.result c.loop-path-test.true c.path-item.is in
    let is : c.from_residual.result ≡ Err c.in_err-add_text.field-0.0 = grind arith in
    rw is (no-room-then _ _ _ (32 ∷ []) _ _ c.loop-path.invariant c.in_err-add_text.ensures.refused (omega arith))

pub returns-in_err-add_shown-clause-refused : goal.returns-in_err-add_shown-clause-refused
returns-in_err-add_shown-clause-refused c =
    let some = further c.args.dir.now c.args.side (take c.loop-path.path-index c.args.paths.now) in
    let path = shown c.args.dir.now c.args.side c.path-item.result in
    let within = further-next c.args.dir.now c.args.side c.args.paths.now c.loop-path.path-index c.path-item.result c.loop-path-test.true c.path-item.is in
    let is : c.from_residual-in_err-add_shown.result ≡ Err c.in_err-add_shown.field-0.0 = grind arith in
    rw is (no-room-then _ _ _ path _ _ (grown-then _ _ _ _ (32 ∷ []) c.loop-path.invariant c.in_ok-add_text.ensures.grown) c.in_err-add_shown.ensures.refused (omega (arith, within, length-append some (32 ∷ []))))

pub loop-path-preserved : goal.loop-path-preserved
loop-path-preserved c =
    let some = further c.args.dir.now c.args.side (take c.loop-path.path-index c.args.paths.now) in
    let path = shown c.args.dir.now c.args.side c.path-item.result in
    let more = further-more c.args.dir.now c.args.side c.args.paths.now c.loop-path.path-index c.path-item.result c.loop-path-test.true c.path-item.is in
    grown-as _ _ _ _ (append_assoc some (32 ∷ []) path ∙ sym more)
    (grown-then _ _ _ _ path (grown-then _ _ _ some (32 ∷ []) c.loop-path.invariant c.in_ok-add_text.ensures.grown) c.in_ok-add_shown.ensures.grown)

pub returns-clause-grown : goal.returns-clause-grown
returns-clause-grown c = grown-as _ _ _ _ (ap (further c.args.dir.now c.args.side) (take_all c.loop-path.path-index c.args.paths.now c.loop-path-test.false)) c.loop-path.invariant

use Rattle.std.proofs.Common.{arith, ◌∙◌}
use Rattle.tup_path.proofs.Padded.{decided_by_front, decided_by_length}
use Rattle.tup_path.proofs.text.order_short.Goals as goal

pub returns-then-front-back : goal.returns-then-front-back
returns-then-front-back c =
    c.cmp.ensures
    ∙ decided_by_front c.args.bytes.now c.args.others.now c.args.len c.args.many c.front-front.result c.front-back.result (omega arith) (omega arith)
    c.fits-bytes c.fits-others c.requires.first c.requires.second c.front-front.ensures c.front-back.ensures c.if-front-back.true

pub returns-then-many-le8 : goal.returns-then-many-le8
returns-then-many-le8 c =
    c.cmp-then-many-le8.ensures
    ∙ decided_by_length c.args.bytes.now c.args.others.now c.args.len c.args.many c.front-front.result c.front-back.result (omega arith) (omega arith)
    c.fits-bytes c.fits-others c.requires.first c.requires.second c.front-front.ensures c.front-back.ensures c.if-front-back.false
    c.if-len-le8.true c.if-many-le8.true

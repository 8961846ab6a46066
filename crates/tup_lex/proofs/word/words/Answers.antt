use Rattle.std.proofs.Common.{sym, ap, ◌∙◌, arith}
use Rattle.tup_lex.proofs.Cuts.{so-blank, so-other, so-end}
use Rattle.tup_lex.proofs.word.words.Goals as goal
use Rattle.tup_lex.proofs.word.words.Goals.{then-is_blank+in_ok-add, else-is_blank}

pub loop-end-preserved : goal.loop-end-preserved
loop-end-preserved c = elim c.if-is_blank.branch [
  | then-is_blank+in_ok-add w ↦
      let so = so-blank c.args.at c.args.part.now _ _ _ _ c.loop-end.invariant (omega arith) (sym c.is_blank.ensures ∙ w.if-is_blank.true) (ap (λ v. v.items) w.all-is ∙ w.in_ok-add.ensures.ok) in
      rw w.start-is so
  | else-is_blank w ↦
      let so = so-other c.args.at c.args.part.now _ _ _ c.loop-end.invariant (sym c.is_blank.ensures ∙ w.if-is_blank.false) in
      rw (w.all-is, w.start-is) so
]

pub returns-clause-ok : goal.returns-clause-ok
returns-clause-ok c = so-end c.args.at c.args.part.now _ _ _ _ c.loop-end.invariant (omega arith) c.in_ok-add-2.ensures.ok

use Rattle.std.proofs.Common.{is_ok, sym, ap, ◌∙◌, arith}
use Rattle.tup_mini.specs.Kept.{path_of}
use Rattle.tup_mini.proofs.Writing.{placed-unnamed, placed-if, placed-again, with-again, within}
use Rattle.tup_mini.proofs.written.Written.put.Goals as goal

pub invariant_of-self-in_default : goal.invariant_of-self-in_default
invariant_of-self-in_default c =
    let self = c.args.self.now in
    record {
      placed = placed-if self.dir self.writes.items c.push.new.self.items self.places (c.in_ok-clone.field-0, c.args.content) (is_ok c.push.result) c.push.ensures.items
          (placed-unnamed self.dir self.writes.items self.places c.in_ok-clone.field-0 c.args.content
          (sym c.in_default.is ∙ c.in_ok-path.ensures ∙ ap (path_of self.dir) (sym c.in_ok-clone.ensures.cases)) self.placed)
          self.placed;
    }

pub index_mut-write-requires : goal.index_mut-write-requires
index_mut-write-requires c =
    let self = c.args.self.now in
    omega (arith, within self.dir self.writes.items self.places c.in-Some.path c.in-Some-copied.at self.placed (sym c.get.ensures.value ∙ sym c.copied.ensures ∙ c.in-Some-copied.is), self.writes.ok.0)

pub invariant_of-self-in-Some-copied : goal.invariant_of-self-in-Some-copied
invariant_of-self-in-Some-copied c =
    let self = c.args.self.now in
    record { placed = placed-again self.dir self.writes.items self.places c.in-Some-copied.at c.index_mut-write.result.now c.args.content c.index_mut-write.ensures.value self.placed }

pub returns-in-Some-copied-clause-written : goal.returns-in-Some-copied-clause-written
returns-in-Some-copied-clause-written c =
    let self = c.args.self.now in
    with-again self.dir self.writes.items self.places c.args.text.now c.in-Some.path c.in-Some-copied.at c.index_mut-write.result.now c.args.content (sym c.in-Some.is ∙ c.in_ok-path.ensures)
    self.placed (sym c.get.ensures.value ∙ sym c.copied.ensures ∙ c.in-Some-copied.is) c.index_mut-write.ensures.value

use Rattle.std.proofs.Common.{Some, sym, ap, ◌∙◌, arith}
use Rattle.std.specs.Option.{option_copied}
use Rattle.tup_mini.proofs.Writing.{own-at, own-fresh, within}
use Rattle.tup_mini.proofs.written.Written.get.Goals as goal

pub index-requires : goal.index-requires
index-requires c =
    let self = c.args.self.now in
    omega (arith, within self.dir self.writes.items self.places c.in-Some.path c.in-Some-get.at.now self.placed (sym c.get.ensures.value ∙ ap option_copied c.in-Some-get.is), self.writes.ok.0)

pub returns-in-Some-get : goal.returns-in-Some-get
returns-in-Some-get c =
    let self = c.args.self.now in
    ap Some c.in_ok-clone-in-Some-get.ensures.cases
    ∙ own-at self.dir self.writes.items c.args.text.now c.in-Some.path c.in-Some-get.at.now c.index.result.now (sym c.in-Some.is ∙ c.in_ok-path.ensures)
    (sym (self.placed.each c.in-Some.path) ∙ sym c.get.ensures.value ∙ ap option_copied c.in-Some-get.is) c.index.ensures

pub returns : goal.returns
returns c =
    let self = c.args.self.now in
    own-fresh self.dir self.writes.items c.args.text.now c.in-Some.path (sym c.in-Some.is ∙ c.in_ok-path.ensures)
    (sym (self.placed.each c.in-Some.path) ∙ sym c.get.ensures.value ∙ ap option_copied c.in-None.is)

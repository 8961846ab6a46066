use Rattle.std.proofs.Common.{◌≡◌, ◌-◌, true, length, sym, ap, ◌∙◌, arith}
use Rattle.tup_path.specs.Name.{Content}
use Rattle.std.specs.Result.{is_ok}
use Rattle.tup_board.specs.declared.contents.Contents.{Contents}
use Rattle.tup_board.proofs.Keeping.{adds_taken, room_taken, when_ok}
use Rattle.tup_board.proofs.contents.Contents.take.Goals as goal

pub returns-then-is_ok-clause-adds : goal.returns-then-is_ok-clause-adds
returns-then-is_ok-clause-adds c =
    let new : Contents = record { by_stamp = c.insert.new.self; room = c.args.self.now.room - length c.as_slice-size.result.now } in
    let is : is_ok c.insert.result ≡ true = sym c.is_ok.ensures.value ∙ c.if-is_ok.true in
    adds_taken c.args.stamp c.args.content c.args.self.now new (when_ok _ is c.insert.ensures.updates).0

pub returns-then-is_ok-clause-room : goal.returns-then-is_ok-clause-room
returns-then-is_ok-clause-room c =
    let new : Contents = record { by_stamp = c.insert.new.self; room = c.args.self.now.room - length c.as_slice-size.result.now } in
    let is : is_ok c.insert.result ≡ true = sym c.is_ok.ensures.value ∙ c.if-is_ok.true in
    let size = ap (λ (content : Content). length content) c.as_slice-size.ensures in
    room_taken c.args.stamp c.args.content c.args.self.now new (when_ok _ is c.insert.ensures.entries) (omega (arith, size, c.requires))

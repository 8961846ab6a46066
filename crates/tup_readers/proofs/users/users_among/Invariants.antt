use Rattle.std.proofs.Common.{◌≡◌, take}
use Rattle.std.specs.Prelude.{filter}
use Rattle.tup_readers.specs.Users.{is_user}
use Rattle.tup_readers.proofs.users.users_among.Given as goal

abbrev pub invariant-loop-number : goal.invariant-loop-number
invariant-loop-number l = l.users.items ≡ filter (is_user l.way l.nodes l.path) (take l.number-index l.numbers)

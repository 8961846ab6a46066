use Rattle.std.proofs.Common.{◌≡◌, fold, take, bytes_eq}
use Rattle.tup_macro.specs.Gifts.{with_gift}
use Rattle.tup_rule_line.proofs.command.add_gifts.Given as goal

abbrev pub invariant-loop-path : goal.invariant-loop-path
invariant-loop-path l = l.bins ≡ fold (λ all path. with_gift bytes_eq all l.name path) l.fn.bins (take l.path-index l.paths)

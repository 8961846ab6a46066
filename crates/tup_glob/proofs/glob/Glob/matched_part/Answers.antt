use Rattle.std.proofs.Common.{◌≡◌, Some, None, is_some, ap, sym, ◌∙◌, rules}
use Rattle.std.specs.Str.{chars}
use Rattle.tup_glob.specs.Part.{part_of}
use Rattle.tup_glob.proofs.Cuts.{is_part, part_is_some}
use Rattle.tup_glob.proofs.glob.Glob.matched_part.Goals as goal

pub returns-in_err-from-clause-some : goal.returns-in_err-from-clause-some
returns-in_err-from-clause-some c =
    let none : part_of c.args.self.now (chars c.args.name.now) ≡ None = cc c.in_err-from.ensures in
    rw c.from_residual.ensures (ap is_some (sym none) ∙ part_is_some c.args.self.now (chars c.args.name.now))

pub overflow_sub-result : goal.overflow_sub-result
overflow_sub-result c =
    let found : part_of c.args.self.now (chars c.args.name.now) ≡ Some (chars c.in_ok-from.from.now, chars c.in_ok-from.behind.now) = cc c.in_ok-from.ensures in
    rw c.as_str-name.ensures.bytes (is_part c.args.self.now c.args.name.now c.in_ok-from.from.now c.in_ok-from.behind.now c.as_str-name.ensures.utf8 (search rules) (search rules) found).from_within

pub overflow_sub-result-2 : goal.overflow_sub-result-2
overflow_sub-result-2 c =
    let found : part_of c.args.self.now (chars c.args.name.now) ≡ Some (chars c.in_ok-from.from.now, chars c.in_ok-from.behind.now) = cc c.in_ok-from.ensures in
    rw c.as_str-name.ensures.bytes (is_part c.args.self.now c.args.name.now c.in_ok-from.from.now c.in_ok-from.behind.now c.as_str-name.ensures.utf8 (search rules) (search rules) found).behind_within

pub returns-clause-value : goal.returns-clause-value
returns-clause-value c =
    let found : part_of c.args.self.now (chars c.args.name.now) ≡ Some (chars c.in_ok-from.from.now, chars c.in_ok-from.behind.now) = cc c.in_ok-from.ensures in
    rw c.as_str-name.ensures.bytes (is_part c.args.self.now c.args.name.now c.in_ok-from.from.now c.in_ok-from.behind.now c.as_str-name.ensures.utf8 (search rules) (search rules) found).value

pub returns-clause-some : goal.returns-clause-some
returns-clause-some c =
    let found : part_of c.args.self.now (chars c.args.name.now) ≡ Some (chars c.in_ok-from.from.now, chars c.in_ok-from.behind.now) = cc c.in_ok-from.ensures in
    ap is_some (sym found) ∙ part_is_some c.args.self.now (chars c.args.name.now)

pub returns-clause-cut : goal.returns-clause-cut
returns-clause-cut c =
    let found : part_of c.args.self.now (chars c.args.name.now) ≡ Some (chars c.in_ok-from.from.now, chars c.in_ok-from.behind.now) = cc c.in_ok-from.ensures in
    rw c.as_str-name.ensures.bytes (is_part c.args.self.now c.args.name.now c.in_ok-from.from.now c.in_ok-from.behind.now c.as_str-name.ensures.utf8 (search rules) (search rules) found).cut

use Rattle.std.proofs.Common.{◌≡◌, ◌≤◌, false, true, length, sym, subst, rules, arith}
use Rattle.std.specs.Borrow.{Bor}
use Rattle.std.proofs.lemmas.Bool.{false≢true}
use Rattle.std.proofs.lemmas.Fn.{always_returns_same}
use Rattle.std.proofs.lemmas.Option.{MatchOption-at_none}
use Rattle.tup_path.specs.Name.{Names}
use Rattle.tup_path.specs.Tree.{IsBelow}
use Rattle.tup_apart.proofs.Behind.{found_over, is_over_at, not_behind, parted}
use Rattle.tup_apart.proofs.place.is_over.Goals as goal

pub returns-in-Some : goal.returns-in-Some
returns-in-Some c =
    let path = c.args.path.now in
    let seen = c.args.seen.now in
    let at = c.partition_point-behind.result in
    let end = c.partition_point-behind.ensures.bound in
    let point = c.partition_point-behind.ensures.partitioned (not_behind path) (always_returns_same _ _ _ (λ a r f called. (search rules, search rules))) (parted path seen c.requires) in
    let other = c.in-Some.other.now in
    let here = c.in-Some.ensures.lookup.3 in (
      λ is. is_over_at path seen c.requires at end point other here.0 (subst (λ (one : Bor Names). IsBelow path one.now) (here.1 other) (c.is_below.ensures.0 is)),
      λ over. c.is_below.ensures.1 (subst (λ (one : Bor Names). IsBelow path one.now) (sym (here.1 other)) ((found_over path seen c.requires at end point over).1 other)),
    )

pub returns-in-None : goal.returns-in-None
returns-in-None c =
    let path = c.args.path.now in
    let seen = c.args.seen.now in
    let at = c.partition_point-behind.result in
    let end = c.partition_point-behind.ensures.bound in
    let point = c.partition_point-behind.ensures.partitioned (not_behind path) (always_returns_same _ _ _ (λ a r f called. (search rules, search rules))) (parted path seen c.requires) in
    let past = MatchOption-at_none (length seen ≤ at) _ c.in-None.is c.get.ensures.lookup.3 in (
      λ (wrong : false ≡ true). absurd (false≢true wrong),
      λ over. absurd (omega (arith, (found_over path seen c.requires at end point over).0, past)),
    )

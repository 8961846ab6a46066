use Rattle.std.proofs.Common.{◌≡◌, true, false, cond, codes, sym, ap, ◌∙◌}
use Rattle.std.specs.Prelude.{bytes_eq}
use Rattle.std.specs.BTreeSet.{contains}
use Rattle.std.specs.Ordering.{eq_by_cmp}
use Rattle.tup_path.specs.Order.{by_names}
use Rattle.tup_readings.proofs.Indexed.{tupfile_added, no_tupfile}
use Rattle.tup_readings.proofs.sources.add_tupfile.Goals as goal

pub returns-in_ok-insert : goal.returns-in_ok-insert
returns-in_ok-insert c =
    let dirs = c.args.dirs.now in
    let name : bytes_eq c.args.name.now (codes "Tupfile") ≡ true = ap (λ b. bytes_eq b (codes "Tupfile")) (sym c.as_str.ensures.bytes) ∙ sym c.eq.ensures ∙ c.if-eq.true in
    λ path parted dir.
    c.in_ok-insert.ensures.updates.0 dir ∙ ap (λ d. cond (eq_by_cmp by_names d dir) true (contains by_names dirs dir)) c.in_ok-clone.ensures.cases
    ∙ tupfile_added (contains by_names dirs dir) path c.args.dir.now dir c.args.name.now parted name

pub returns-else-eq : goal.returns-else-eq
returns-else-eq c =
    let name : bytes_eq c.args.name.now (codes "Tupfile") ≡ false = ap (λ b. bytes_eq b (codes "Tupfile")) (sym c.as_str.ensures.bytes) ∙ sym c.eq.ensures ∙ c.if-eq.false in
    λ path parted dir. no_tupfile (contains by_names c.args.dirs.now dir) path c.args.dir.now dir c.args.name.now parted name

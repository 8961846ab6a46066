use Rattle.std.proofs.Common.{◌≡◌, ◌-◌, ◌<◌, ◌++◌, ◌∷◌, [], List, ℕ, codes, length, take, drop, sym, ap, ◌∙◌, arith, rules}
use Rattle.tup_path.proofs.Same.{same_bytes-decides}
use Rattle.tup_mini.proofs.Including.{quoted-none, quoted-some, named}
use Rattle.tup_mini.proofs.expand.included.Goals as goal
use Rattle.tup_mini.proofs.expand.included.Goals.{in_default-quoted-via-then-quoted-lt1, in_default-quoted-via-else-quoted-lt1+in_default-1}

pub returns-in_default-quoted : goal.returns-in_default-quoted
returns-in_default-quoted c =
    quoted-none c.args.line.now c.in-Some.quoted.now (c.in-Some.ensures.cases.1 ∙ ap (λ (p : List ℕ). drop (length p) c.args.line.now) c.as_slice.ensures)
    (elim c.in_default-quoted.branch [
      | in_default-quoted-via-then-quoted-lt1 w ↦ λ some. let short : length c.in-Some.quoted.now < 1 = search rules in absurd (omega (arith, short))
      | in_default-quoted-via-else-quoted-lt1+in_default-1 w ↦ λ some. search rules
    ])

pub returns : goal.returns
returns c =
    let line = c.args.line.now in
    let quoted = c.in-Some.quoted.now in
    let prefix = c.as_slice.result.now in
    let front : take 10 line ≡ codes "#include " ++ 34 ∷ [] =
    sym (ap (λ (p : List ℕ). take (length p) line) c.as_slice.ensures) ∙ (same_bytes-decides (take (length prefix) line) prefix).0 c.in-Some.ensures.cases.0 ∙ c.as_slice.ensures in
    let behind : quoted ≡ drop 10 line = c.in-Some.ensures.cases.1 ∙ ap (λ (p : List ℕ). drop (length p) line) c.as_slice.ensures in
    let is = quoted-some line quoted front behind c.in-34.len_at_least (search rules) in
    named line (take (length quoted - 1) quoted) c.is_empty.result c.contains.result c.new-2.result is c.is_empty.ensures c.if-is_empty.false c.contains.ensures.value c.if-contains.false
    (search (rules, c.new-2.ensures))

use Rattle.std.proofs.Common.{◌≡◌, ℕ, ◌+◌, ◌-◌, length, arith, List, refl, ap}
use Rattle.std.specs.List.{prefix_len}
use Rattle.tup_lex.specs.Blank.{is_blank, trim, BlankFrom, Ends}
use Rattle.tup_lex.specs.Word.{span}
use Rattle.tup_lex.specs.Parts.{trimmed_span}
use Rattle.tup_lex.proofs.Trims.{trim_none, prefix_len-none, prefix_len-ends, length-trim}
use Rattle.tup_lex.proofs.parts.trimmed_span.Goals as goal
use Rattle.tup_lex.proofs.parts.trimmed_span.Goals.{in-Some, in-None}

same : {a b c d : ℕ} → a ≡ c → b ≡ d → span a b ≡ span c d
same from to = rw (from, to) refl

span-ends : (at : ℕ) (part : List ℕ) (first last : ℕ) → Ends part first last → span (at + first) (at + (last + 1)) ≡ trimmed_span at part
span-ends at part first last e =
    let order = e.ordered in
    let p : prefix_len is_blank part ≡ first = prefix_len-ends part first last e in
    let t : length (trim part) ≡ last + 1 - first = length-trim part first last e in
    same (omega arith) (omega arith)

span-none : (at : ℕ) (part : List ℕ) → BlankFrom part 0 (length part) → span (at + length part) (at + length part) ≡ trimmed_span at part
span-none at part h =
    let p : prefix_len is_blank part ≡ length part = prefix_len-none part h in
    let t : length (trim part) ≡ 0 = ap length (trim_none part h) in
    same (omega arith) (omega arith)

pub returns : goal.returns
returns c = elim c.match-ends.branch [
  | in-Some w ↦ rw w.from-is (span-ends _ _ _ _ w.in-Some.ensures)
  | in-None w ↦ rw w.from-is (span-none _ _ w.in-None.ensures)
]

use Rattle.std.proofs.Common.{◌≡◌, ℕ, List, ◌++◌, ap, sym, subst, ◌∙◌}
use Rattle.std.specs.Int.{w64, to_be_bytes}
use Rattle.tup_disk.specs.Sum.{sum}
use Rattle.tup_fs.specs.NoteFile.{sealed}
use Rattle.tup_fs.proofs.note_file.entries_of.Goals as goal

-- bytes before their own sum are whole
whole : (bytes front last content : List ℕ) (said : ℕ) → bytes ≡ front ++ last → to_be_bytes w64 said ≡ last → said ≡ sum front → front ≡ content → bytes ≡ sealed content
whole bytes front last content said split spelled is same =
    subst (λ (t : List ℕ). bytes ≡ sealed t) same (split ∙ ap (λ (t : List ℕ). front ++ t) (sym spelled ∙ ap (λ (n : ℕ). to_be_bytes w64 n) is))

pub returns-then-began-now : goal.returns-then-began-now
returns-then-began-now c = (
  c.in_ok-began.began,
  c.if-began-now.true,
  whole c.args.bytes.now c.in_ok-front.front.now c.in_ok-front.last.now _ c.long_of.result c.in_ok-front.ensures c.long_of.ensures (c.if-long_of-sum.false ∙ c.sum.ensures) c.in_ok-began.ensures,
)

use Rattle.std.proofs.Common.{◌≡◌, ℕ, Bool, true, false, List, Err, ⊎_elim, inl, inr, ◌∙◌, sym, ap, refl, cond}
use Rattle.std.specs.Str.{IsUtf8, is_utf8}
use Rattle.std.proofs.lemmas.Str.{IsUtf8-from_is_utf8, is_utf8-from_IsUtf8}
use Rattle.std.specs.Str.Lines.{lines as cut_lines}
use Rattle.tup_lex.specs.Line.{lines, said, joined_lines, wrong_line}
use Rattle.tup_lex.specs.declared.fault.LexFault.TheVariants.{NotUtf8}
use Rattle.tup_lex.proofs.Coverage.{joined-Covers}
use Rattle.tup_lex.proofs.line.lines.Goals as goal

lines-utf8 : (file : List ℕ) → IsUtf8 file → lines file ≡ said (joined_lines file)
lines-utf8 file h = rw (is_utf8-from_IsUtf8 file h) refl

lines-wrong : (file : List ℕ) → ¬ (IsUtf8 file) → lines file ≡ Err (NotUtf8 (wrong_line file))
lines-wrong file h = by_test (is_utf8 file) refl
  where
    by_test : (b : Bool) → is_utf8 file ≡ b → cond b (said (joined_lines file)) (Err (NotUtf8 (wrong_line file))) ≡ Err (NotUtf8 (wrong_line file))
    by_test true e = absurd (h (IsUtf8-from_is_utf8 file e))
    by_test false e = refl

pub returns-in-Ok : goal.returns-in-Ok
returns-in-Ok c =
    let file = c.as_slice-bytes.ensures in
    let utf8 : IsUtf8 c.args.file.now = rw file at c.in-Ok.ensures.cases.1 in
    let same = ap (λ t. said (joined_lines t)) (c.in-Ok.ensures.cases.0 ∙ file) ∙ sym (lines-utf8 _ utf8) in
    record {
      lines = ⊎_elim inl (λ e. inr (e ∙ same)) c.said_lines.ensures;
      covered = joined-Covers 0 (cut_lines c.args.file.now);
    }

pub returns-in-Err : goal.returns-in-Err
returns-in-Err c =
    let file = c.as_slice-bytes.ensures in
    let wrong : ¬ (IsUtf8 c.args.file.now) = rw file at c.in-Err.ensures.cases.0 in
    let place = c.valid_up_to.ensures ∙ c.in-Err.ensures.valid_len in
    let number : c.last_line.result ≡ wrong_line c.args.file.now = rw (place, file) at c.last_line.ensures in
    record {
      lines = inr (ap (λ l. Err (NotUtf8 l)) number ∙ sym (lines-wrong _ wrong));
      covered = joined-Covers 0 (cut_lines c.args.file.now);
    }

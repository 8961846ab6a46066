use Rattle.std.proofs.Common.{◌≡◌, ℕ, Bool, true, false, List, Err, ⊎_elim, inl, inr, ◌∙◌, sym, ap, refl, if◌then◌else◌, IsUtf8}
use Rattle.std.specs.Str.{is_utf8}
use Rattle.std.proofs.lemmas.Str.{IsUtf8-from_is_utf8, is_utf8-from_IsUtf8}
use Rattle.std.specs.Str.Lines.{lines as cut_lines}
use Rattle.tup_lex.specs.Line.{wrong_line}
use Rattle.tup_lex.specs.declared.kind.ParseKind.TheVariants.{NotUtf8}
use Rattle.tup_vars.specs.Config.{settings, config_of}
use Rattle.tup_vars.specs.declared.fault.ConfigFault.TheVariants.{At}
use Rattle.tup_vars.proofs.Settings.{read-last}
use Rattle.tup_vars.proofs.config.read_config.Goals as goal

config_of-utf8 : (file : List ℕ) → IsUtf8 file → config_of file ≡ settings (cut_lines file)
config_of-utf8 file h = ap (λ b. if b then settings (cut_lines file) else Err (At (wrong_line file) NotUtf8)) (is_utf8-from_IsUtf8 file h)

config_of-wrong : (file : List ℕ) → ¬ (IsUtf8 file) → config_of file ≡ Err (At (wrong_line file) NotUtf8)
config_of-wrong file h = by_test (is_utf8 file) refl
  where
    by_test : (b : Bool) → is_utf8 file ≡ b → (if b then settings (cut_lines file) else Err (At (wrong_line file) NotUtf8)) ≡ Err (At (wrong_line file) NotUtf8)
    by_test true e = absurd (h (IsUtf8-from_is_utf8 file e))
    by_test false e = refl

pub returns-in-Ok : goal.returns-in-Ok
returns-in-Ok c =
    let file = c.as_slice-bytes.ensures in
    let utf8 : IsUtf8 c.args.file.now = rw file at c.in-Ok.ensures.cases.1 in
    let same = ap (λ t. settings (cut_lines t)) (c.in-Ok.ensures.cases.0 ∙ file) ∙ sym (config_of-utf8 _ utf8) in
    let read = ⊎_elim inl (λ e. inr (e ∙ same)) c.said.ensures in
    record { config = read; last = read-last c.args.file.now c.said.result read }

pub returns-in-Err : goal.returns-in-Err
returns-in-Err c =
    let file = c.as_slice-bytes.ensures in
    let wrong : ¬ (IsUtf8 c.args.file.now) = rw file at c.in-Err.ensures.cases.0 in
    let place = c.valid_up_to.ensures ∙ c.in-Err.ensures.valid_len in
    let number : c.last_line.result ≡ wrong_line c.args.file.now = rw (place, file) at c.last_line.ensures in
    record { config = inr (ap (λ l. Err (At l NotUtf8)) number ∙ sym (config_of-wrong _ wrong)); last = tt }

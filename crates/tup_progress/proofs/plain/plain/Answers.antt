use Rattle.std.proofs.Common.{◌≡◌, ◌++◌, ◌∷◌, [], ℕ, List, map, sym, ap, ◌∙◌}
use Rattle.std.specs.Prelude.{encode_utf8_all}
use Rattle.std.proofs.Math.Utf8.{encode}
use Rattle.std.proofs.lemmas.Iterator.{YieldsList-from_chars}
use Rattle.std.proofs.lemmas.Iterator.Consumers.{YieldsList-end}
use Rattle.std.proofs.lemmas.List.{append-nil, map-append, map-id}
use Rattle.std.proofs.lemmas.Str.{encodes-append}
use Rattle.tup_progress.specs.Plain.{plain_char}
use Rattle.tup_progress.proofs.plain.plain.Goals as goal

-- one character more
encoded_more : (cs : List ℕ) (c : ℕ) → encode_utf8_all (map plain_char (cs ++ c ∷ [])) ≡ encode_utf8_all (map plain_char cs) ++ encode (plain_char c)
encoded_more cs c =
    ap encode_utf8_all (map-append plain_char cs (c ∷ []))
    ∙ encodes-append (map plain_char cs) (plain_char c ∷ [])
    ∙ ap (λ (bytes : List ℕ). encode_utf8_all (map plain_char cs) ++ bytes) (append-nil (encode (plain_char c)))

pub loop-c-preserved : goal.loop-c-preserved
loop-c-preserved c =
    c.in_ok-push.ensures.bytes
    ∙ ap (λ (bytes : List ℕ). bytes ++ encode c.plain_char.result) c.loop-c.invariant
    ∙ ap (λ (d : ℕ). encode_utf8_all (map plain_char c.loop-c.yielded) ++ encode d) c.plain_char.ensures
    ∙ sym (encoded_more c.loop-c.yielded c.in-Some.c)

pub returns : goal.returns
returns c =
    let t = YieldsList-end (YieldsList-from_chars c.args.text.now c.utf8.text cc) c.loop-c.yielded _ c.loop-c.yielded_by _ _ c.in-None.is c.next.ensures.steps in
    c.loop-c.invariant
    ∙ ap (λ (cs : List ℕ). encode_utf8_all (map plain_char cs)) (sym (map-id c.loop-c.yielded) ∙ t.0)

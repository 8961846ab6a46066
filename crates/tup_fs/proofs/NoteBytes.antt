-- Bytes that are put together of parts, and taken apart.
use Rattle.std.proofs.Common.{◌≡◌, ℕ, List, [], ◌++◌, sym, ap, ◌∙◌}
use Rattle.std.proofs.lemmas.List.{append_assoc}

-- bytes that are taken apart into four parts, one after the other
pub parts : (bytes a b c d left after rest last : List ℕ) → bytes ≡ a ++ left → left ≡ b ++ after → after ≡ c ++ rest → rest ≡ d ++ last → bytes ≡ (a ++ (b ++ (c ++ d))) ++ last
parts bytes a b c d left after rest last first second third fourth =
    let two : after ≡ (c ++ d) ++ last = third ∙ ap (λ (t : List ℕ). c ++ t) fourth ∙ sym (append_assoc c d last) in
    let three : left ≡ (b ++ (c ++ d)) ++ last = second ∙ ap (λ (t : List ℕ). b ++ t) two ∙ sym (append_assoc b (c ++ d) last) in
    first ∙ ap (λ (t : List ℕ). a ++ t) three ∙ sym (append_assoc a (b ++ (c ++ d)) last)

-- bytes that four parts are put behind, one after the other
pub whole : (none one two three all a b c d : List ℕ) → none ≡ [] → one ≡ none ++ a → two ≡ one ++ b → three ≡ two ++ c → all ≡ three ++ d → all ≡ a ++ (b ++ (c ++ d))
whole none one two three all a b c d start first second third fourth =
    let i : one ≡ a = first ∙ ap (λ (t : List ℕ). t ++ a) start in
    let ii : two ≡ a ++ b = second ∙ ap (λ (t : List ℕ). t ++ b) i in
    let iii : three ≡ (a ++ b) ++ c = third ∙ ap (λ (t : List ℕ). t ++ c) ii in
    fourth ∙ ap (λ (t : List ℕ). t ++ d) iii ∙ append_assoc (a ++ b) c d ∙ append_assoc a b (c ++ d)

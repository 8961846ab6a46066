-- The line of `echo`, word by word.
use Rattle.std.proofs.Common.{◌≡◌, ℕ, zero, suc, ◌+◌, ◌<◌, ◌≤◌, List, [], ◌∷◌, ◌++◌, length, get_or, drop, append_assoc, refl, sym, ap, ◌∙◌, arith}
use Rattle.std.proofs.lemmas.List.{at_drop_more}
use Rattle.tup_path.specs.Name.{Content}
use Rattle.tup_mini.specs.Steps.{echoed}

-- what is behind so many words
abbrev pub behind : ℕ → List (List ℕ) → Content
behind zero words = echoed words
behind (suc n) [] = 10 ∷ []
behind (suc n) (word ∷ words) = 32 ∷ echoed (word ∷ words)

more : (word : List ℕ) (n : ℕ) (words : List (List ℕ)) → echoed (word ∷ words) ≡ word ++ behind (suc n) words
more word n [] = refl
more word n (next ∷ words) = refl

-- the first word
pub first_word : (words : List (List ℕ)) (at : ℕ) (word line : List ℕ) → at < length words → word ≡ get_or words at word → at ≤ 0
    → line ++ behind at (drop at words) ≡ echoed words → (line ++ word) ++ behind (at + 1) (drop (at + 1) words) ≡ echoed words
first_word words zero word line less here first so_far =
    append_assoc line word (behind 1 (drop 1 words))
    ∙ ap (λ t. line ++ t) (sym (at_drop_more echoed words 0 word less ∙ ap (λ w. echoed (w ∷ drop 1 words)) (sym here) ∙ more word 0 (drop 1 words)))
    ∙ so_far
first_word words (suc at) word line less here first so_far = absurd (omega arith)

-- another word
pub next_word : (words : List (List ℕ)) (at : ℕ) (word line : List ℕ) → at < length words → word ≡ get_or words at word → 0 < at
    → line ++ behind at (drop at words) ≡ echoed words → ((line ++ 32 ∷ []) ++ word) ++ behind (at + 1) (drop (at + 1) words) ≡ echoed words
next_word words zero word line less here later so_far = absurd (omega arith)
next_word words (suc at) word line less here later so_far =
    append_assoc (line ++ 32 ∷ []) word (behind (suc at + 1) (drop (suc at + 1) words))
    ∙ append_assoc line (32 ∷ []) (word ++ behind (suc at + 1) (drop (suc at + 1) words))
    ∙ ap (λ t. line ++ t) (sym (at_drop_more (behind (suc at)) words (suc at) word less
    ∙ ap (λ w. 32 ∷ echoed (w ∷ drop (suc at + 1) words)) (sym here) ∙ ap (λ t. 32 ∷ t) (more_at word (suc at + 1) (omega arith) (drop (suc at + 1) words))))
    ∙ so_far
  where
    more_at : (w : List ℕ) (n : ℕ) → 0 < n → (ws : List (List ℕ)) → echoed (w ∷ ws) ≡ w ++ behind n ws
    more_at w zero some ws = absurd (omega arith)
    more_at w (suc n) some ws = more w n ws

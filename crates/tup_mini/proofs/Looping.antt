-- One more turn of each loop, as the definitions have it.
use Rattle.std.specs.Prelude.{nat_lt, true, false, if◌then◌else◌}
use Rattle.std.proofs.Common.{◌≡◌, ℕ, zero, suc, ◌+◌, ◌-◌, ◌<◌, ◌≤◌, arith, List, ◌∷◌, ◌++◌, length, get_or, drop, Option, None, Some, refl, sym, ap, ◌∙◌}
use Rattle.std.proofs.lemmas.List.{at_drop_more}
use Rattle.tup_path.specs.Name.{Content}
use Rattle.tup_mini.specs.declared.step.MiniStep.{MiniStep}
use Rattle.tup_mini.specs.Kept.{Kept}
use Rattle.tup_mini.specs.Part.{Part, ◌>>=◌}
use Rattle.tup_mini.specs.Kept.{first_text, own_content, with_ask}
use Rattle.tup_mini.specs.Part.{ask_for, ask_on, ask_once}
use Rattle.tup_mini.specs.Files.{reads_own, reads, needs, gathers}
use Rattle.tup_mini.specs.Include.{lines_of, unended, included, folder_part, expands, includes}
use Rattle.tup_mini.specs.Means.{does, runs}

-- ---- a file that is read

pub reads-some : (kept : Kept) (text : List ℕ) (content : Content) (found : Option Content) → found ≡ own_content kept.dir kept.writes text → found ≡ Some content → reads text kept ≡ reads_own content kept
reads-some kept text content found is some = λ i asks. elim ((sym is ∙ some) i) [ Some c ↦ reads_own c kept asks | None ↦ ask_for text kept asks ]

pub reads-none : (kept : Kept) (text : List ℕ) (found : Option Content) → found ≡ own_content kept.dir kept.writes text → found ≡ None → reads text kept ≡ ask_for text kept
reads-none kept text found is none = λ i asks. elim ((sym is ∙ none) i) [ Some c ↦ reads_own c kept asks | None ↦ ask_for text kept asks ]

-- ---- a file that is asked for

pub asks-on : (kept : Kept) (text again : List ℕ) → nat_lt kept.asked 4095 ≡ false → again ≡ first_text kept.first text → ask_for text kept ≡ ask_on again
asks-on kept text again over is =
    λ i asks. if over i then ask_once text (with_ask text kept) asks else ask_on (sym is i) asks

pub asks-once : (kept after : Kept) (text : List ℕ) → nat_lt kept.asked 4095 ≡ true → after ≡ with_ask text kept → ask_for text kept ≡ ask_once text after
asks-once kept after text under is =
    λ i asks. if under i then ask_once text (sym is i) asks else ask_on (first_text kept.first text) asks

-- ---- files that are read in order

pub gathers-more : (whole : Content) (from : List (List ℕ)) (at : ℕ) (text : List ℕ) → at < length from → text ≡ get_or from at text
    → gathers whole (drop at from) ≡ (needs text >>= λ content. gathers (whole ++ content) (drop (at + 1) from))
gathers-more whole from at text less here = at_drop_more (gathers whole) from at text less ∙ ap (λ (t : List ℕ). gathers whole (t ∷ drop (at + 1) from)) (sym here)

-- ---- steps

pub runs-more : (steps : List MiniStep) (at : ℕ) (step : MiniStep) → at < length steps → step ≡ get_or steps at step → runs (drop at steps) ≡ (does step >>= λ done. runs (drop (at + 1) steps))
runs-more steps at step less here = at_drop_more runs steps at step less ∙ ap (λ (s : MiniStep). runs (s ∷ drop (at + 1) steps)) (sym here)

-- ---- lines

-- what a line comes to, by what it includes
abbrev line_part : (List ℕ → Content → Part Content) → List ℕ → Content → List ℕ → List (List ℕ) → Option (List ℕ) → Part Content
line_part include text whole line lines found = elim found [
  | None ↦ expands include text (whole ++ line) lines
  | Some name ↦ include (folder_part text ++ name) whole >>= λ grown. expands include text grown lines
]

pub line-include : (include : List ℕ → Content → Part Content) (text : List ℕ) (whole : Content) (rest line more name beside : List ℕ) → lines_of rest ≡ line ∷ lines_of more → Some name ≡ included (unended line)
    → beside ≡ folder_part text ++ name → expands include text whole (lines_of rest) ≡ (include beside whole >>= λ grown. expands include text grown (lines_of more))
line-include include text whole rest line more name beside cut some is =
    ap (expands include text whole) cut ∙ ap (line_part include text whole line (lines_of more)) (sym some)
    ∙ ap (λ (t : List ℕ). include t whole >>= λ grown. expands include text grown (lines_of more)) (sym is)

-- a file that may still stand there
pub includes-more : (left : ℕ) (text : List ℕ) (front : Content) → (left ≡ 0 → ⊥) → includes left text front ≡ (needs text >>= λ content. expands (includes (left - 1)) text front (lines_of content))
includes-more zero text front some = absurd (some refl)
includes-more (suc left) text front some =
    let less : left ≡ suc left - 1 = omega arith in ap (λ n. needs text >>= λ content. expands (includes n) text front (lines_of content)) less

-- A log has one spelling, and bytes that are refused by a line spell no log.
use Rattle.std.proofs.Common.{◌≡◌, ℕ, ◌<◌, Bool, true, false, eqb, List, [], ◌∷◌, ◌++◌, suc, ◌+◌, ◌≢◌, length, ◌-◌, ◌≤◌, take, drop, length-drop, All, refl, ap, sym, subst, ◌∙◌, append_assoc, length-append, arith}
use Rattle.std.proofs.lemmas.List.{append-nil, take_all, nil_from_length}
use Rattle.std.proofs.lemmas.Bool.Decides.{nat_tests}
use Rattle.std.proofs.lemmas.List.Elements.{All-head, All-tail, All-push}
use Rattle.tup_proc.specs.Log.{spelling_of, spelling, IsLine, IsStep, IsLog, IsBad, IsBadAt, is_end}
use Rattle.tup_proc.specs.Reading.{IsCut, IsUncut, BeginsWith}
use Rattle.tup_proc.specs.declared.line.LogLine.{LogLine}
use Rattle.tup_proc.specs.declared.line.LogLine.TheVariants.{Read, Absent, Wrote, End}
use Rattle.tup_proc.proofs.Marks.{cut_at}
use Rattle.tup_proc.proofs.Lines.{line_lacks, same_line}

-- two first lines that are spelled the same are the same, and so is what follows
first_same : (one two : LogLine) (more rest : List ℕ) → IsLine one → IsLine two → spelling_of one ++ 10 ∷ more ≡ spelling_of two ++ 10 ∷ rest → (one ≡ two) × (more ≡ rest)
first_same one two more rest is also e =
    let both = cut_at 10 (spelling_of one) (spelling_of two) more rest (line_lacks one is) (line_lacks two also) e in
    (same_line one two is also both.0, both.1)

no_step_ends : (line : LogLine) (status : ℕ) → IsStep line → line ≡ End status → ⊥
no_step_ends line status step same = let ends : is_end line ≡ true = ap is_end same in let goes = step.goes_on in absurd (cc)

fronts_same : (front other : List LogLine) (status last : ℕ) → All IsStep front → All IsStep other → status < 256 → last < 256
    → spelling (front ++ End status ∷ []) ≡ spelling (other ++ End last ∷ []) → front ++ End status ∷ [] ≡ other ++ End last ∷ []
fronts_same [] [] status last steps also fits ends e = ap (λ line. line ∷ []) (first_same (End status) (End last) [] [] fits ends e).0
fronts_same [] (b ∷ other) status last steps also fits ends e =
    let step = All-head IsStep b other also in
    absurd (no_step_ends b status step (sym (first_same (End status) b [] (spelling (other ++ End last ∷ [])) fits step.fits e).0))
fronts_same (a ∷ front) [] status last steps also fits ends e =
    let step = All-head IsStep a front steps in
    absurd (no_step_ends a last step (first_same a (End last) (spelling (front ++ End status ∷ [])) [] step.fits ends e).0)
fronts_same (a ∷ front) (b ∷ other) status last steps also fits ends e =
    let both = first_same a b (spelling (front ++ End status ∷ [])) (spelling (other ++ End last ∷ [])) (All-head IsStep a front steps).fits (All-head IsStep b other also).fits e in
    ap (λ line. line ∷ (front ++ End status ∷ [])) both.0
    ∙ ap (λ lines. b ∷ lines) (fronts_same front other status last (All-tail IsStep a front steps) (All-tail IsStep b other also) fits ends both.1)

pub one_spelling : (lines other : List LogLine) → IsLog lines → IsLog other → spelling lines ≡ spelling other → lines ≡ other
one_spelling lines other is also e =
    is.is ∙ fronts_same is.front also.front is.status also.status is.steps also.steps is.fits also.fits (ap spelling (sym is.is) ∙ e ∙ ap spelling also.is) ∙ sym also.is

spelled_first : (line : LogLine) (lines : List LogLine) (rest : List ℕ) → spelling (line ∷ lines) ++ rest ≡ spelling_of line ++ 10 ∷ (spelling lines ++ rest)
spelled_first line lines rest = append_assoc (spelling_of line) (10 ∷ spelling lines) rest

refused : (front other : List LogLine) (last : ℕ) (rest : List ℕ) → All IsStep front → All IsStep other → last < 256 → IsBad rest
    → spelling front ++ rest ≡ spelling (other ++ End last ∷ []) → ⊥
refused [] [] last rest steps also ends bad e = bad.no_end last ends e
refused [] (b ∷ other) last rest steps also ends bad e = bad.no_step b (spelling (other ++ End last ∷ [])) (All-head IsStep b other also) e
refused (a ∷ front) [] last rest steps also ends bad e =
    let step = All-head IsStep a front steps in
    no_step_ends a last step (first_same a (End last) (spelling front ++ rest) [] step.fits ends (sym (spelled_first a front rest) ∙ e)).0
refused (a ∷ front) (b ∷ other) last rest steps also ends bad e =
    let both = first_same a b (spelling front ++ rest) (spelling (other ++ End last ∷ [])) (All-head IsStep a front steps).fits (All-head IsStep b other also).fits (sym (spelled_first a front rest) ∙ e) in
    refused front other last rest (All-tail IsStep a front steps) (All-tail IsStep b other also) ends bad both.1

pub refused_is_no_log : (bytes : List ℕ) (number : ℕ) (lines : List LogLine) → IsBadAt bytes number → IsLog lines → bytes ≡ spelling lines → ⊥
refused_is_no_log bytes number lines at is e =
    refused at.front is.front is.status at.rest at.steps is.steps is.fits at.bad (sym at.before ∙ e ∙ ap spelling is.is)

-- ---- what is read, line by line
drop_front : (front back : List ℕ) → drop (length front + 1) (front ++ 10 ∷ back) ≡ back
drop_front [] back = refl
drop_front (a ∷ front) back =
    let size : length (a ∷ front) + 1 ≡ suc (length front + 1) = omega arith in
    ap (λ n. drop n (a ∷ front ++ 10 ∷ back)) size ∙ drop_front front back

pub begins : (bytes front back : List ℕ) (line : LogLine) → IsCut 10 bytes front back → IsLine line → front ≡ spelling_of line → (is_end line ≡ true → back ≡ []) → BeginsWith bytes line (length front + 1)
begins bytes front back line at fits said last =
    let behind : drop (length front + 1) bytes ≡ back = ap (drop (length front + 1)) at.is ∙ drop_front front back in
    let whole : length bytes ≡ length front + suc (length back) = ap length at.is ∙ length-append front (10 ∷ back) in
    record {
      fits = fits;
      within = omega (arith, whole);
      spelled = at.is ∙ ap (λ f. f ++ 10 ∷ back) said ∙ ap (λ b. spelling_of line ++ 10 ∷ b) (sym behind);
      last = λ ends. behind ∙ last ends;
    }

pub no_feed : (bytes : List ℕ) → IsUncut 10 bytes → IsBad bytes
no_feed bytes none = record { no_step = λ line more step e. none (spelling_of line) more e; no_end = λ status fits e. none (spelling_of (End status)) [] e }

pub no_line : (bytes front back : List ℕ) → IsCut 10 bytes front back → ((line : LogLine) → IsLine line → front ≢ spelling_of line) → IsBad bytes
no_line bytes front back at none = record {
  no_step = λ line more step e. none line step.fits (cut_at 10 front (spelling_of line) back more at.first (line_lacks line step.fits) (sym at.is ∙ e)).0;
  no_end = λ status fits e. none (End status) fits (cut_at 10 front (spelling_of (End status)) back [] at.first (line_lacks (End status) fits) (sym at.is ∙ e)).0;
}

pub early_end : (bytes front back : List ℕ) (line : LogLine) → IsCut 10 bytes front back → IsLine line → front ≡ spelling_of line → is_end line ≡ true → back ≢ [] → IsBad bytes
early_end bytes front back line at fits said ends more = record {
  no_step = λ other rest step e.
      let same = cut_at 10 front (spelling_of other) back rest at.first (line_lacks other step.fits) (sym at.is ∙ e) in
      let alike : line ≡ other = same_line line other fits step.fits (sym said ∙ same.0) in
      let is : is_end other ≡ true = sym (ap is_end alike) ∙ ends in
      let goes = step.goes_on in absurd (cc);
  no_end = λ status small e. more (cut_at 10 front (spelling_of (End status)) back [] at.first (line_lacks (End status) small) (sym at.is ∙ e)).1;
}

spelling-append : (lines more : List LogLine) → spelling (lines ++ more) ≡ spelling lines ++ spelling more
spelling-append [] more = refl
spelling-append (line ∷ lines) more = ap (λ rest. spelling_of line ++ 10 ∷ rest) (spelling-append lines more) ∙ sym (append_assoc (spelling_of line) (10 ∷ spelling lines) (spelling more))

abbrev pub IsReadTo : List ℕ → List LogLine → List ℕ → Type 0
IsReadTo bytes lines rest = (bytes ≡ spelling lines ++ rest) × All IsStep lines

-- the lines and one more, with what is left behind it
pub spelled_on : (bytes rest : List ℕ) (lines grown : List LogLine) (line : LogLine) (size : ℕ) → bytes ≡ spelling lines ++ rest → BeginsWith rest line size → grown ≡ lines ++ line ∷ [] → bytes ≡ spelling grown ++ drop size rest
spelled_on bytes rest lines grown line size so_far next push =
    let one : spelling (line ∷ []) ++ drop size rest ≡ rest = append_assoc (spelling_of line) (10 ∷ []) (drop size rest) ∙ sym next.spelled in
    so_far ∙ ap (λ r. spelling lines ++ r) (sym one) ∙ sym (append_assoc (spelling lines) (spelling (line ∷ [])) (drop size rest))
    ∙ ap (λ s. s ++ drop size rest) (sym (spelling-append lines (line ∷ [])) ∙ ap spelling (sym push))

pub reads_on : (bytes rest : List ℕ) (lines grown : List LogLine) (line : LogLine) (size : ℕ) (more : List ℕ) → IsReadTo bytes lines rest → BeginsWith rest line size → grown ≡ lines ++ line ∷ []
    → is_end line ≡ false → more ≡ drop size rest → IsReadTo bytes grown more
reads_on bytes rest lines grown line size more so_far next push goes is = (
  spelled_on bytes rest lines grown line size so_far.0 next push ∙ ap (λ r. spelling grown ++ r) (sym is),
  subst (All IsStep) (sym push) (All-push IsStep lines line so_far.1 (record { fits = next.fits; goes_on = goes })),
)

ended_by : (lines grown : List LogLine) (line : LogLine) → All IsStep lines → IsLine line → is_end line ≡ true → grown ≡ lines ++ line ∷ [] → IsLog grown
ended_by lines grown (End status) steps fits ends push = record { front = lines; status = status; is = push; steps = steps; fits = fits }
ended_by lines grown (Read stamp text) steps fits ends push = absurd (cc)
ended_by lines grown (Absent text) steps fits ends push = absurd (cc)
ended_by lines grown (Wrote file text) steps fits ends push = absurd (cc)

pub ended : (bytes rest : List ℕ) (lines grown : List LogLine) (line : LogLine) (size : ℕ) → IsReadTo bytes lines rest → BeginsWith rest line size → is_end line ≡ true → grown ≡ lines ++ line ∷ []
    → IsLog grown × (bytes ≡ spelling grown)
ended bytes rest lines grown line size so_far next ends push = (
  ended_by lines grown line so_far.1 next.fits ends push,
  spelled_on bytes rest lines grown line size so_far.0 next push ∙ ap (λ r. spelling grown ++ r) (next.last ends) ∙ append-nil (spelling grown),
)

pub is_nothing : (back : List ℕ) (test : Bool) → test ≡ eqb (length back) 0 → test ≡ true → back ≡ []
is_nothing back test is all = nil_from_length back (grind (arith, nat_tests))

pub is_something : (back : List ℕ) (test : Bool) → test ≡ eqb (length back) 0 → test ≡ false → back ≢ []
is_something back test is some none = let zero : length back ≡ 0 = ap length none in absurd (grind (arith, nat_tests))

-- a slice from here on goes to the end
pub rest_behind : (rest : List ℕ) (size : ℕ) → size ≤ length rest → take (length rest - size) (drop size rest) ≡ drop size rest
rest_behind rest size within = take_all (length rest - size) (drop size rest) (omega (arith, length-drop size rest))

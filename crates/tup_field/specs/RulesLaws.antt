-- The laws of rules, and of what the reading of a Tupfile leaves.
use Rattle.std.proofs.Common.{◌≡◌, ℕ, ◌∷◌, ◌++◌, Ok, refl, sym, subst}
use Rattle.tup_rule.specs.declared.draft.Piece.TheVariants as pieces
use Rattle.tup_rule.specs.declared.question.Kind.{Kind}
use Rattle.tup_rule.specs.declared.question.Kind.TheVariants.{Nothing, File, Dir}
use Rattle.tup_rule.specs.declared.question.Question.{Question}
use Rattle.tup_rule.specs.declared.question.Question.TheVariants as asks
use Rattle.tup_rule.specs.declared.question.Noted.{Noted}
use Rattle.tup_rule.specs.declared.question.Noted.TheVariants as notes
use Rattle.tup_field.specs.Format.{Format, IsExact}
use Rattle.tup_field.specs.Parts.{Arms, number, empty, ◌&◌, list, no_mark, arm, marked_at, option}
use Rattle.tup_field.specs.Values.{truth, text, path, stamp}
use Rattle.tup_field.specs.Rules.{group, PieceFits, piece_spelling, piece, draft, rule, kind_spelling, kind, QuestionFits, question_spelling, question, NotedFits, noted_spelling, noted_at, noted, asked, reading}
use Rattle.tup_field.specs.Steps.{Found, Again, Stands, then_reads}
use Rattle.tup_field.specs.PartsLaws.{number-exact, empty-exact, depending-exact, pair-exact, as_if-exact, list-exact, AreArms, no_arms, with_arm, marked_found, marked_stands, option-exact}
use Rattle.tup_field.specs.ValuesLaws.{truth-exact, text-exact, path-exact, stamp-exact}

pub group-exact : IsExact group
group-exact = as_if-exact (λ x. record { dir = x.0; name = x.1 }) (λ g. (g.dir, g.name)) (path & text) (λ x. refl) (λ g. refl) (pair-exact path text path-exact text-exact)

-- ---- pieces
piece_arms : AreArms PieceFits piece_spelling (arm 1 text (λ t. pieces.Text t) (arm 2 number (λ place. pieces.Group place) no_mark))
piece_arms =
    with_arm PieceFits piece_spelling 1 text (λ t. pieces.Text t) (arm 2 number (λ place. pieces.Group place) no_mark) text-exact (λ t fits. fits) (λ t. refl)
    (with_arm PieceFits piece_spelling 2 number (λ place. pieces.Group place) no_mark number-exact (λ n fits. fits) (λ n. refl) (no_arms PieceFits piece_spelling))

piece_again : Again PieceFits piece_spelling piece.reading
piece_again (pieces.Text t) rest fits = then_reads text.reading (λ t last. Ok (pieces.Text t, last)) (text.spelling t ++ rest) t rest (text-exact.again t rest fits)
piece_again (pieces.Group n) rest fits = then_reads number.reading (λ n last. Ok (pieces.Group n, last)) (number.spelling n ++ rest) n rest (number-exact.again n rest fits)

pub piece-exact : IsExact piece
piece-exact = record {
  found = marked_found PieceFits piece_spelling _ piece_arms;
  again = piece_again;
  stands = marked_stands PieceFits piece_spelling _ piece_arms;
}

-- ---- what stands at a path

-- each kind has a spelling
abbrev AnyKind : Kind → Type 0
AnyKind k = Unit {0}

kind_arms : AreArms AnyKind kind_spelling (arm 0 empty (λ _. Nothing) (arm 1 empty (λ _. File) (arm 2 empty (λ _. Dir) no_mark)))
kind_arms =
    with_arm AnyKind kind_spelling 0 empty (λ _. Nothing) (arm 1 empty (λ _. File) (arm 2 empty (λ _. Dir) no_mark)) empty-exact (λ a fits. tt) (λ a. refl)
    (with_arm AnyKind kind_spelling 1 empty (λ _. File) (arm 2 empty (λ _. Dir) no_mark) empty-exact (λ a fits. tt) (λ a. refl)
    (with_arm AnyKind kind_spelling 2 empty (λ _. Dir) no_mark empty-exact (λ a fits. tt) (λ a. refl) (no_arms AnyKind kind_spelling)))

kind_again : Again AnyKind kind_spelling kind.reading
kind_again Nothing rest fits = refl
kind_again File rest fits = refl
kind_again Dir rest fits = refl

pub kind-exact : IsExact kind
kind-exact = record {
  found = marked_found AnyKind kind_spelling _ kind_arms;
  again = kind_again;
  stands = marked_stands AnyKind kind_spelling _ kind_arms;
}

-- ---- questions
question_arms : AreArms QuestionFits question_spelling (arm 1 path (λ p. asks.Content p) (arm 2 text (λ name. asks.Config name) (arm 3 path (λ dir. asks.Names dir) (arm 4 path (λ p. asks.Kind p) no_mark))))
question_arms =
    with_arm QuestionFits question_spelling 1 path (λ p. asks.Content p) (arm 2 text (λ name. asks.Config name) (arm 3 path (λ dir. asks.Names dir) (arm 4 path (λ p. asks.Kind p) no_mark))) path-exact (λ p fits. fits) (λ p. refl)
    (with_arm QuestionFits question_spelling 2 text (λ name. asks.Config name) (arm 3 path (λ dir. asks.Names dir) (arm 4 path (λ p. asks.Kind p) no_mark)) text-exact (λ t fits. fits) (λ t. refl)
    (with_arm QuestionFits question_spelling 3 path (λ dir. asks.Names dir) (arm 4 path (λ p. asks.Kind p) no_mark) path-exact (λ p fits. fits) (λ p. refl)
    (with_arm QuestionFits question_spelling 4 path (λ p. asks.Kind p) no_mark path-exact (λ p fits. fits) (λ p. refl) (no_arms QuestionFits question_spelling))))

question_again : Again QuestionFits question_spelling question.reading
question_again (asks.Content p) rest fits = then_reads path.reading (λ p last. Ok (asks.Content p, last)) (path.spelling p ++ rest) p rest (path-exact.again p rest fits)
question_again (asks.Config name) rest fits = then_reads text.reading (λ name last. Ok (asks.Config name, last)) (text.spelling name ++ rest) name rest (text-exact.again name rest fits)
question_again (asks.Names dir) rest fits = then_reads path.reading (λ dir last. Ok (asks.Names dir, last)) (path.spelling dir ++ rest) dir rest (path-exact.again dir rest fits)
question_again (asks.Kind p) rest fits = then_reads path.reading (λ p last. Ok (asks.Kind p, last)) (path.spelling p ++ rest) p rest (path-exact.again p rest fits)

pub question-exact : IsExact question
question-exact = record {
  found = marked_found QuestionFits question_spelling _ question_arms;
  again = question_again;
  stands = marked_stands QuestionFits question_spelling _ question_arms;
}

-- ---- what was told of a question
module _ {A : Type 0} (own : ℕ) (f : Format A) (exact : IsExact f) (make : A → Noted) (q : Question) (fits : (a : A) → f.Fits a → NotedFits q (make a)) (spelled : (a : A) → noted_spelling (make a) ≡ own ∷ f.spelling a) where
  one_arm : AreArms (NotedFits q) noted_spelling (arm own f make no_mark)
  one_arm = with_arm (NotedFits q) noted_spelling own f make no_mark exact fits spelled (no_arms (NotedFits q) noted_spelling)

noted_arms : Question → Arms Noted
noted_arms (asks.Content p) = arm 1 (option stamp) (λ found. notes.Content found) no_mark
noted_arms (asks.Config name) = arm 2 (option text) (λ value. notes.Config value) no_mark
noted_arms (asks.Names dir) = arm 3 (list text) (λ names. notes.Names names) no_mark
noted_arms (asks.Kind p) = arm 4 kind (λ there. notes.Kind there) no_mark

are_noted_arms : (q : Question) → AreArms (NotedFits q) noted_spelling (noted_arms q)
unfolding noted_arms
are_noted_arms (asks.Content p) = one_arm 1 (option stamp) (option-exact stamp stamp-exact) (λ found. notes.Content found) (asks.Content p) (λ a fits. fits) (λ a. refl)
are_noted_arms (asks.Config name) = one_arm 2 (option text) (option-exact text text-exact) (λ value. notes.Config value) (asks.Config name) (λ a fits. fits) (λ a. refl)
are_noted_arms (asks.Names dir) = one_arm 3 (list text) (list-exact text text-exact) (λ names. notes.Names names) (asks.Names dir) (λ a fits. fits) (λ a. refl)
are_noted_arms (asks.Kind p) = one_arm 4 kind kind-exact (λ there. notes.Kind there) (asks.Kind p) (λ a fits. fits) (λ a. refl)

marked_noted : (q : Question) → noted_at q ≡ marked_at (noted_arms q)
unfolding noted_arms
marked_noted (asks.Content p) = refl
marked_noted (asks.Config name) = refl
marked_noted (asks.Names dir) = refl
marked_noted (asks.Kind p) = refl

noted_again : (q : Question) → Again (NotedFits q) noted_spelling (noted_at q)
noted_again (asks.Content p) (notes.Content found) rest fits = then_reads (option stamp).reading (λ a last. Ok (notes.Content a, last)) ((option stamp).spelling found ++ rest) found rest ((option-exact stamp stamp-exact).again found rest fits)
noted_again (asks.Config name) (notes.Config value) rest fits = then_reads (option text).reading (λ a last. Ok (notes.Config a, last)) ((option text).spelling value ++ rest) value rest ((option-exact text text-exact).again value rest fits)
noted_again (asks.Names dir) (notes.Names names) rest fits = then_reads (list text).reading (λ a last. Ok (notes.Names a, last)) ((list text).spelling names ++ rest) names rest ((list-exact text text-exact).again names rest fits)
noted_again (asks.Kind p) (notes.Kind there) rest fits = then_reads kind.reading (λ a last. Ok (notes.Kind a, last)) (kind.spelling there ++ rest) there rest (kind-exact.again there rest fits)
noted_again _ _ rest fits = absurd fits

noted-exact : (q : Question) → IsExact (noted q)
noted-exact q = record {
  found = subst (Found (NotedFits q) noted_spelling) (sym (marked_noted q)) (marked_found (NotedFits q) noted_spelling (noted_arms q) (are_noted_arms q));
  again = noted_again q;
  stands = subst Stands (sym (marked_noted q)) (marked_stands (NotedFits q) noted_spelling (noted_arms q) (are_noted_arms q));
}

pub asked-exact : IsExact asked
asked-exact = depending-exact question noted question-exact noted-exact

-- ---- rules and readings
paths-exact : IsExact (list path)
paths-exact = list-exact path path-exact

pieces-exact : IsExact (list piece)
pieces-exact = list-exact piece piece-exact

pub rule-exact : IsExact rule
rule-exact =
    as_if-exact _ _ _ (λ x. refl) (λ r. refl)
    (pair-exact path (text & option text & truth & list path & list path & list path) path-exact
    (pair-exact text (option text & truth & list path & list path & list path) text-exact
    (pair-exact (option text) (truth & list path & list path & list path) (option-exact text text-exact)
    (pair-exact truth (list path & list path & list path) truth-exact (pair-exact (list path) (list path & list path) paths-exact (pair-exact (list path) (list path) paths-exact paths-exact))))))

pub draft-exact : IsExact draft
draft-exact =
    as_if-exact _ _ _ (λ x. refl) (λ r. refl)
    (pair-exact path (number & list piece & option (list piece) & truth & list path & list path & list path & list group & option group) path-exact
    (pair-exact number (list piece & option (list piece) & truth & list path & list path & list path & list group & option group) number-exact
    (pair-exact (list piece) (option (list piece) & truth & list path & list path & list path & list group & option group) pieces-exact
    (pair-exact (option (list piece)) (truth & list path & list path & list path & list group & option group) (option-exact (list piece) pieces-exact)
    (pair-exact truth (list path & list path & list path & list group & option group) truth-exact
    (pair-exact (list path) (list path & list path & list group & option group) paths-exact
    (pair-exact (list path) (list path & list group & option group) paths-exact
    (pair-exact (list path) (list group & option group) paths-exact
    (pair-exact (list group) (option group) (list-exact group group-exact) (option-exact group group-exact))))))))))

pub reading-exact : IsExact reading
reading-exact = as_if-exact _ _ _ (λ x. refl) (λ r. refl) (pair-exact (list asked) (list draft) (list-exact asked asked-exact) (list-exact draft draft-exact))

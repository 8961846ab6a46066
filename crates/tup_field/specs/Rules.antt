-- The formats of rules, and of what the reading of a Tupfile leaves (own).
use Rattle.std.specs.Prelude.{ℕ, List, [], ◌∷◌}
use Rattle.tup_rule.specs.declared.draft.GroupRef.{GroupRef}
use Rattle.tup_rule.specs.declared.draft.Piece.{Piece}
use Rattle.tup_rule.specs.declared.draft.Piece.TheVariants as pieces
use Rattle.tup_rule.specs.declared.draft.Draft.{Draft}
use Rattle.tup_rule.specs.declared.rule.Rule.{Rule}
use Rattle.tup_rule.specs.declared.question.Kind.{Kind}
use Rattle.tup_rule.specs.declared.question.Kind.TheVariants.{Nothing, File, Dir}
use Rattle.tup_rule.specs.declared.question.Question.{Question}
use Rattle.tup_rule.specs.declared.question.Question.TheVariants as asks
use Rattle.tup_rule.specs.declared.question.Noted.{Noted}
use Rattle.tup_rule.specs.declared.question.Noted.TheVariants as notes
use Rattle.tup_rule.specs.declared.question.Reading.{Reading}
use Rattle.tup_field.specs.Format.{Read, Format}
use Rattle.tup_field.specs.Parts.{number, empty, depending, ◌&◌, as_if, list, no_mark, arm, marked_at, option}
use Rattle.tup_field.specs.Values.{truth, text, path, stamp}

-- a group: its folder, then its name
abbrev pub group : Format GroupRef
group = as_if (λ x. record { dir = x.0; name = x.1 }) (λ g. (g.dir, g.name)) (path & text)

-- a piece of a command: the mark 1 and a text, or the mark 2 and the place of a group
abbrev pub PieceFits : Piece → Type 0
PieceFits (pieces.Text t) = text.Fits t
PieceFits (pieces.Group place) = number.Fits place

-- one that isn't refused
abbrev pub PieceWritable : Piece → Type 0
PieceWritable (pieces.Text t) = text.Writable t
PieceWritable (pieces.Group place) = Unit {0}

-- its spelling
abbrev pub piece_spelling : Piece → List ℕ
piece_spelling (pieces.Text t) = 1 ∷ text.spelling t
piece_spelling (pieces.Group place) = 2 ∷ number.spelling place

-- its format
abbrev pub piece : Format Piece
piece = record {
  Fits = PieceFits;
  Writable = PieceWritable;
  spelling = piece_spelling;
  reading = marked_at (arm 1 text (λ t. pieces.Text t) (arm 2 number (λ place. pieces.Group place) no_mark));
}

-- a draft: its fields, one behind the other
abbrev pub draft : Format Draft
draft =
    as_if
    (λ (file, (line, (pieces, (display, (compare, (inputs, (order, (outputs, (groups, gives))))))))).
    record { file = file; line = line; pieces = pieces; display = display; compare = compare; inputs = inputs; order = order; outputs = outputs; groups = groups; gives = gives })
    (λ d. (d.file, (d.line, (d.pieces, (d.display, (d.compare, (d.inputs, (d.order, (d.outputs, (d.groups, d.gives))))))))))
    (path & number & list piece & option (list piece) & truth & list path & list path & list path & list group & option group)

-- a rule: its fields, one behind the other
abbrev pub rule : Format Rule
rule =
    as_if
    (λ (dir, (text, (display, (compare, (inputs, (order, outputs)))))).
    record { dir = dir; text = text; display = display; compare = compare; inputs = inputs; order = order; outputs = outputs })
    (λ r. (r.dir, (r.text, (r.display, (r.compare, (r.inputs, (r.order, r.outputs)))))))
    (path & text & option text & truth & list path & list path & list path)

-- what stands at a path: one byte
abbrev pub kind_spelling : Kind → List ℕ
kind_spelling Nothing = 0 ∷ []
kind_spelling File = 1 ∷ []
kind_spelling Dir = 2 ∷ []

-- its format
abbrev pub kind : Format Kind
kind = record {
  Fits = λ _. Unit {0};
  Writable = λ _. Unit {0};
  spelling = kind_spelling;
  reading = marked_at (arm 0 empty (λ _. Nothing) (arm 1 empty (λ _. File) (arm 2 empty (λ _. Dir) no_mark)));
}

-- a question: a mark, and the path or the name that is asked about
abbrev pub QuestionFits : Question → Type 0
QuestionFits (asks.Content p) = path.Fits p
QuestionFits (asks.Config name) = text.Fits name
QuestionFits (asks.Names dir) = path.Fits dir
QuestionFits (asks.Kind p) = path.Fits p

-- one that isn't refused
abbrev pub QuestionWritable : Question → Type 0
QuestionWritable (asks.Content p) = Unit {0}
QuestionWritable (asks.Config name) = text.Writable name
QuestionWritable (asks.Names dir) = Unit {0}
QuestionWritable (asks.Kind p) = Unit {0}

-- its spelling
abbrev pub question_spelling : Question → List ℕ
question_spelling (asks.Content p) = 1 ∷ path.spelling p
question_spelling (asks.Config name) = 2 ∷ text.spelling name
question_spelling (asks.Names dir) = 3 ∷ path.spelling dir
question_spelling (asks.Kind p) = 4 ∷ path.spelling p

-- its format
abbrev pub question : Format Question
question = record {
  Fits = QuestionFits;
  Writable = QuestionWritable;
  spelling = question_spelling;
  reading = marked_at (arm 1 path (λ p. asks.Content p) (arm 2 text (λ name. asks.Config name) (arm 3 path (λ dir. asks.Names dir) (arm 4 path (λ p. asks.Kind p) no_mark))));
}

-- what was told of a question has its kind, and a spelling
abbrev pub NotedFits : Question → Noted → Type 0
NotedFits (asks.Content p) (notes.Content found) = (option stamp).Fits found
NotedFits (asks.Config name) (notes.Config value) = (option text).Fits value
NotedFits (asks.Names dir) (notes.Names names) = (list text).Fits names
NotedFits (asks.Kind p) (notes.Kind there) = kind.Fits there
NotedFits _ _ = ⊥

-- what was told isn't refused
abbrev pub NotedWritable : Noted → Type 0
NotedWritable (notes.Content found) = Unit {0}
NotedWritable (notes.Config value) = (option text).Writable value
NotedWritable (notes.Names names) = (list text).Writable names
NotedWritable (notes.Kind there) = Unit {0}

-- its spelling: the mark of its kind, and what was told
abbrev pub noted_spelling : Noted → List ℕ
noted_spelling (notes.Content found) = 1 ∷ (option stamp).spelling found
noted_spelling (notes.Config value) = 2 ∷ (option text).spelling value
noted_spelling (notes.Names names) = 3 ∷ (list text).spelling names
noted_spelling (notes.Kind there) = 4 ∷ kind.spelling there

-- how it is read: only the question's own mark may stand behind it
abbrev pub noted_at : Question → List ℕ → Read Noted
noted_at (asks.Content p) = marked_at (arm 1 (option stamp) (λ found. notes.Content found) no_mark)
noted_at (asks.Config name) = marked_at (arm 2 (option text) (λ value. notes.Config value) no_mark)
noted_at (asks.Names dir) = marked_at (arm 3 (list text) (λ names. notes.Names names) no_mark)
noted_at (asks.Kind p) = marked_at (arm 4 kind (λ there. notes.Kind there) no_mark)

-- its format
abbrev pub noted : Question → Format Noted
noted q = record { Fits = NotedFits q; Writable = NotedWritable; spelling = noted_spelling; reading = noted_at q }

-- a question, and what was told of it
abbrev pub asked : Format (Question × Noted)
asked = depending question noted

-- what a reading leaves: the questions with what was told, then the drafts
abbrev pub reading : Format Reading
reading = as_if (λ x. record { asked = x.0; drafts = x.1 }) (λ r. (r.asked, r.drafts)) (list asked & list draft)

-- What is refused is long: a value isn't whose spelling has fewer than 2^32 bytes.
use Rattle.std.proofs.Common.{◌≡◌, ℕ, ◌+◌, ◌^◌, ◌<◌, ◌≤◌, List, [], ◌∷◌, ◌++◌, length, length-append, Option, Some, None, refl, ap, ◌∙◌, arith}
use Rattle.std.specs.List.{flat_map, AllByRecursion}
use Rattle.std.specs.Int.{w32, to_be_bytes}
use Rattle.std.proofs.lemmas.List.Concat.{flat_map-cons}
use Rattle.tup_rule.specs.declared.question.Noted.{Noted}
use Rattle.tup_rule.specs.declared.question.Noted.TheVariants as notes
use Rattle.tup_rule.specs.declared.question.Question.{Question}
use Rattle.tup_rule.specs.declared.question.Question.TheVariants as asks
use Rattle.tup_rule.specs.declared.question.Reading.{Reading}
use Rattle.tup_rule.specs.declared.draft.Piece.TheVariants as pieces
use Rattle.tup_field.specs.Format.{Format}
use Rattle.tup_field.specs.Parts.{number, ◌&◌, as_if, checked, sized, list, option}
use Rattle.tup_field.specs.Rules.{group, piece, draft, rule, question, noted_spelling, asked, reading, NotedWritable}
use Rattle.tup_field.specs.Values.{truth, text, path, stamp}

-- a value isn't refused whose spelling has fewer than 2^32 bytes
abbrev pub IsKeptShort : {A : Type 0} → Format A → A → Type 0
IsKeptShort f a = length (f.spelling a) < 2 ^ 32 → f.Writable a

-- none is
abbrev pub KeepsShort : {A : Type 0} → Format A → Type 0
KeepsShort {A} f = (a : A) → IsKeptShort f a

-- each value takes a byte at least
abbrev pub IsFilled : {A : Type 0} → Format A → Type 0
IsFilled {A} f = (a : A) → 1 ≤ length (f.spelling a)

-- ---- one behind another
pub pair_short : {A B : Type 0} (f : Format A) (g : Format B) (a : A) (b : B) → IsKeptShort f a → IsKeptShort g b → IsKeptShort (f & g) (a, b)
pair_short f g a b first second short =
    let all : length (f.spelling a) + length (g.spelling b) < 2 ^ 32 = omega (arith, short, length-append (f.spelling a) (g.spelling b)) in
    (first (omega (arith, all)), second (omega (arith, all)))

pub pairs_short : {A B : Type 0} (f : Format A) (g : Format B) → KeepsShort f → KeepsShort g → KeepsShort (f & g)
pairs_short f g first second (a, b) = pair_short f g a b (first a) (second b)

pub pairs_filled : {A B : Type 0} (f : Format A) (g : Format B) → IsFilled f → IsFilled (f & g)
pairs_filled f g first (a, b) = let one : 1 ≤ length (f.spelling a) = first a in omega (arith, one, length-append (f.spelling a) (g.spelling b))

-- ---- bytes behind their number
pub sized_short : KeepsShort (sized number)
sized_short bytes short = omega (arith, short, length-append (number.spelling (length bytes)) bytes)

-- ---- members behind their number
members_many : {A : Type 0} (f : Format A) → IsFilled f → (xs : List A) → length xs ≤ length (flat_map f.spelling xs)
members_many f filled [] = omega arith
members_many f filled (x ∷ xs) =
    let one : 1 ≤ length (f.spelling x) = filled x in
    let more : length xs ≤ length (flat_map f.spelling xs) = members_many f filled xs in
    let all : length (flat_map f.spelling (x ∷ xs)) ≡ length (f.spelling x) + length (flat_map f.spelling xs) = ap length (flat_map-cons f.spelling x xs) ∙ length-append (f.spelling x) (flat_map f.spelling xs) in
    omega (arith, one, more, all)

members_short : {A : Type 0} (f : Format A) (xs : List A) → AllByRecursion (IsKeptShort f) xs → length (flat_map f.spelling xs) < 2 ^ 32 → AllByRecursion f.Writable xs
members_short f [] each short = tt
members_short f (x ∷ xs) each short =
    let all : length (flat_map f.spelling (x ∷ xs)) ≡ length (f.spelling x) + length (flat_map f.spelling xs) = ap length (flat_map-cons f.spelling x xs) ∙ length-append (f.spelling x) (flat_map f.spelling xs) in
    (each.0 (omega (arith, short, all)), members_short f xs each.1 (omega (arith, short, all)))

pub list_short : {A : Type 0} (f : Format A) → IsFilled f → (xs : List A) → AllByRecursion (IsKeptShort f) xs → IsKeptShort (list f) xs
list_short f filled xs each short =
    let rest : length (flat_map f.spelling xs) < 2 ^ 32 = omega (arith, short, length-append (number.spelling (length xs)) (flat_map f.spelling xs)) in
    let many : length xs ≤ length (flat_map f.spelling xs) = members_many f filled xs in
    (omega (arith, many, rest), members_short f xs each rest)

each_of : {A : Type 0} (P : A → Type 0) → ((x : A) → P x) → (xs : List A) → AllByRecursion P xs
each_of P has [] = tt
each_of P has (x ∷ xs) = (has x, each_of P has xs)

pub lists_short : {A : Type 0} (f : Format A) → IsFilled f → KeepsShort f → KeepsShort (list f)
lists_short f filled each xs = list_short f filled xs (each_of (IsKeptShort f) each xs)

-- ---- options
pub options_short : {A : Type 0} (f : Format A) → KeepsShort f → KeepsShort (option f)
options_short f each None short = tt
options_short f each (Some a) short = each a (omega (arith, short))

-- ---- numbers, truths, stamps, paths and texts
pub numbers_short : KeepsShort number
numbers_short n short = tt

pub truths_short : KeepsShort truth
truths_short b short = tt

pub stamps_short : KeepsShort stamp
stamps_short s short = tt

pub paths_short : KeepsShort path
paths_short p short = tt

pub paths_filled : IsFilled path
paths_filled p = omega arith

pub texts_short : KeepsShort text
texts_short t short = sized_short t short

texts_filled : IsFilled text
texts_filled t =
    let four : length (to_be_bytes w32 (length t)) ≡ 4 = refl in
    omega (arith, four, length-append (to_be_bytes w32 (length t)) t)

-- ---- rules and drafts
groups_short : KeepsShort group
groups_short g = pairs_short path text paths_short texts_short (g.dir, g.name)

groups_filled : IsFilled group
groups_filled g = pairs_filled path text paths_filled (g.dir, g.name)

pieces_short : KeepsShort piece
pieces_short (pieces.Text t) short = texts_short t (omega (arith, short))
pieces_short (pieces.Group place) short = tt

pieces_filled : IsFilled piece
pieces_filled (pieces.Text t) = omega arith
pieces_filled (pieces.Group place) = omega arith

path_list : KeepsShort (list path)
path_list = lists_short path paths_filled paths_short

piece_list : KeepsShort (list piece)
piece_list = lists_short piece pieces_filled pieces_short

group_list : KeepsShort (list group)
group_list = lists_short group groups_filled groups_short

drafts_short : KeepsShort draft
drafts_short d =
    pairs_short path (number & list piece & option (list piece) & truth & list path & list path & list path & list group & option group) paths_short
    (pairs_short number (list piece & option (list piece) & truth & list path & list path & list path & list group & option group) numbers_short
    (pairs_short (list piece) (option (list piece) & truth & list path & list path & list path & list group & option group) piece_list
    (pairs_short (option (list piece)) (truth & list path & list path & list path & list group & option group) (options_short (list piece) piece_list)
    (pairs_short truth (list path & list path & list path & list group & option group) truths_short
    (pairs_short (list path) (list path & list path & list group & option group) path_list
    (pairs_short (list path) (list path & list group & option group) path_list
    (pairs_short (list path) (list group & option group) path_list
    (pairs_short (list group) (option group) group_list (options_short group groups_short)))))))))
    (d.file, (d.line, (d.pieces, (d.display, (d.compare, (d.inputs, (d.order, (d.outputs, (d.groups, d.gives)))))))))

drafts_filled : IsFilled draft
drafts_filled d =
    pairs_filled path (number & list piece & option (list piece) & truth & list path & list path & list path & list group & option group) paths_filled
    (d.file, (d.line, (d.pieces, (d.display, (d.compare, (d.inputs, (d.order, (d.outputs, (d.groups, d.gives)))))))))

pub rules_short : KeepsShort rule
rules_short r =
    pairs_short path (text & option text & truth & list path & list path & list path) paths_short
    (pairs_short text (option text & truth & list path & list path & list path) texts_short
    (pairs_short (option text) (truth & list path & list path & list path) (options_short text texts_short)
    (pairs_short truth (list path & list path & list path) truths_short
    (pairs_short (list path) (list path & list path) path_list (pairs_short (list path) (list path) path_list path_list)))))
    (r.dir, (r.text, (r.display, (r.compare, (r.inputs, (r.order, r.outputs))))))

-- ---- readings
questions_short : KeepsShort question
questions_short (asks.Content p) short = tt
questions_short (asks.Config name) short = texts_short name (omega (arith, short))
questions_short (asks.Names dir) short = tt
questions_short (asks.Kind p) short = tt

questions_filled : IsFilled question
questions_filled (asks.Content p) = omega arith
questions_filled (asks.Config name) = omega arith
questions_filled (asks.Names dir) = omega arith
questions_filled (asks.Kind p) = omega arith

told_short : (told : Noted) → length (noted_spelling told) < 2 ^ 32 → NotedWritable told
told_short (notes.Content found) short = tt
told_short (notes.Config value) short = options_short text texts_short value (omega (arith, short))
told_short (notes.Names names) short = lists_short text texts_filled texts_short names (omega (arith, short))
told_short (notes.Kind there) short = tt

asked_short : KeepsShort asked
asked_short one short =
    let all : length (question.spelling one.0) + length (noted_spelling one.1) < 2 ^ 32 = omega (arith, short, length-append (question.spelling one.0) (noted_spelling one.1)) in
    (questions_short one.0 (omega (arith, all)), told_short one.1 (omega (arith, all)))

asked_filled : IsFilled asked
asked_filled one =
    let first : 1 ≤ length (question.spelling one.0) = questions_filled one.0 in
    omega (arith, first, length-append (question.spelling one.0) (noted_spelling one.1))

pub readings_short : KeepsShort reading
readings_short r = pairs_short (list asked) (list draft) (lists_short asked asked_filled asked_short) (lists_short draft drafts_filled drafts_short) (r.asked, r.drafts)

-- What has a spelling isn't refused.
use Rattle.std.proofs.Common.{List, [], ◌∷◌, Option, Some, None}
use Rattle.std.specs.List.{AllByRecursion}
use Rattle.tup_rule.specs.declared.question.Noted.{Noted}
use Rattle.tup_rule.specs.declared.question.Noted.TheVariants as notes
use Rattle.tup_rule.specs.declared.question.Question.{Question}
use Rattle.tup_rule.specs.declared.question.Question.TheVariants as asks
use Rattle.tup_rule.specs.declared.draft.Piece.TheVariants as pieces
use Rattle.tup_field.specs.Format.{Format}
use Rattle.tup_field.specs.Parts.{number, ◌&◌, list, option}
use Rattle.tup_field.specs.Rules.{group, piece, draft, rule, question, asked, reading, NotedFits, NotedWritable}
use Rattle.tup_field.specs.Values.{truth, text, path, stamp}

-- each value that has a spelling isn't refused
abbrev pub KeepsFitting : {A : Type 0} → Format A → Type 0
KeepsFitting {A} f = (a : A) → f.Fits a → f.Writable a

-- ---- what formats are made of
pub pairs_fitting : {A B : Type 0} (f : Format A) (g : Format B) → KeepsFitting f → KeepsFitting g → KeepsFitting (f & g)
pairs_fitting f g first second (a, b) fits = (first a fits.0, second b fits.1)

members_fitting : {A : Type 0} (f : Format A) → KeepsFitting f → (xs : List A) → AllByRecursion f.Fits xs → AllByRecursion f.Writable xs
members_fitting f each [] fits = tt
members_fitting f each (x ∷ xs) fits = (each x fits.0, members_fitting f each xs fits.1)

pub lists_fitting : {A : Type 0} (f : Format A) → KeepsFitting f → KeepsFitting (list f)
lists_fitting f each xs fits = (fits.0, members_fitting f each xs fits.1)

pub options_fitting : {A : Type 0} (f : Format A) → KeepsFitting f → KeepsFitting (option f)
options_fitting f each None fits = tt
options_fitting f each (Some a) fits = each a fits

-- ---- numbers, truths, stamps, paths and texts
pub numbers_fitting : KeepsFitting number
numbers_fitting n fits = tt

truths_fitting : KeepsFitting truth
truths_fitting b fits = tt

pub stamps_fitting : KeepsFitting stamp
stamps_fitting s fits = tt

pub paths_fitting : KeepsFitting path
paths_fitting p fits = tt

texts_fitting : KeepsFitting text
texts_fitting t fits = fits.0

-- ---- rules and drafts
groups_fitting : KeepsFitting group
groups_fitting g fits = (tt, fits.1.0)

pieces_fitting : KeepsFitting piece
pieces_fitting (pieces.Text t) fits = fits.0
pieces_fitting (pieces.Group place) fits = tt

path_list : KeepsFitting (list path)
path_list = lists_fitting path paths_fitting

piece_list : KeepsFitting (list piece)
piece_list = lists_fitting piece pieces_fitting

drafts_fitting : KeepsFitting draft
drafts_fitting d =
    pairs_fitting path (number & list piece & option (list piece) & truth & list path & list path & list path & list group & option group) paths_fitting
    (pairs_fitting number (list piece & option (list piece) & truth & list path & list path & list path & list group & option group) numbers_fitting
    (pairs_fitting (list piece) (option (list piece) & truth & list path & list path & list path & list group & option group) piece_list
    (pairs_fitting (option (list piece)) (truth & list path & list path & list path & list group & option group) (options_fitting (list piece) piece_list)
    (pairs_fitting truth (list path & list path & list path & list group & option group) truths_fitting
    (pairs_fitting (list path) (list path & list path & list group & option group) path_list
    (pairs_fitting (list path) (list path & list group & option group) path_list
    (pairs_fitting (list path) (list group & option group) path_list
    (pairs_fitting (list group) (option group) (lists_fitting group groups_fitting) (options_fitting group groups_fitting)))))))))
    (d.file, (d.line, (d.pieces, (d.display, (d.compare, (d.inputs, (d.order, (d.outputs, (d.groups, d.gives)))))))))

pub rules_fitting : KeepsFitting rule
rules_fitting r =
    pairs_fitting path (text & option text & truth & list path & list path & list path) paths_fitting
    (pairs_fitting text (option text & truth & list path & list path & list path) texts_fitting
    (pairs_fitting (option text) (truth & list path & list path & list path) (options_fitting text texts_fitting)
    (pairs_fitting truth (list path & list path & list path) truths_fitting
    (pairs_fitting (list path) (list path & list path) path_list (pairs_fitting (list path) (list path) path_list path_list)))))
    (r.dir, (r.text, (r.display, (r.compare, (r.inputs, (r.order, r.outputs))))))

-- ---- readings
questions_fitting : KeepsFitting question
questions_fitting (asks.Content p) fits = tt
questions_fitting (asks.Config name) fits = fits.0
questions_fitting (asks.Names dir) fits = tt
questions_fitting (asks.Kind p) fits = tt

told_fitting : (q : Question) (told : Noted) → NotedFits q told → NotedWritable told
told_fitting (asks.Content p) (notes.Content found) fits = tt
told_fitting (asks.Content p) (notes.Config value) fits = absurd fits
told_fitting (asks.Content p) (notes.Names names) fits = absurd fits
told_fitting (asks.Content p) (notes.Kind there) fits = absurd fits
told_fitting (asks.Config name) (notes.Content found) fits = absurd fits
told_fitting (asks.Config name) (notes.Config value) fits = options_fitting text texts_fitting value fits
told_fitting (asks.Config name) (notes.Names names) fits = absurd fits
told_fitting (asks.Config name) (notes.Kind there) fits = absurd fits
told_fitting (asks.Names dir) (notes.Content found) fits = absurd fits
told_fitting (asks.Names dir) (notes.Config value) fits = absurd fits
told_fitting (asks.Names dir) (notes.Names names) fits = lists_fitting text texts_fitting names fits
told_fitting (asks.Names dir) (notes.Kind there) fits = absurd fits
told_fitting (asks.Kind p) (notes.Content found) fits = absurd fits
told_fitting (asks.Kind p) (notes.Config value) fits = absurd fits
told_fitting (asks.Kind p) (notes.Names names) fits = absurd fits
told_fitting (asks.Kind p) (notes.Kind there) fits = tt

asked_fitting : KeepsFitting asked
asked_fitting one fits = (questions_fitting one.0 fits.0, told_fitting one.0 one.1 fits.1)

pub readings_fitting : KeepsFitting reading
readings_fitting r = pairs_fitting (list asked) (list draft) (lists_fitting asked asked_fitting) (lists_fitting draft drafts_fitting) (r.asked, r.drafts)

-- What stands in the place of an answer that waits for the reading of a folder: it is no answer, and tells the folder.
use Rattle.std.proofs.Common.{◌≡◌, ℕ, zero, suc, true, false, List, [], ◌∷◌, Option, Some, None, refl, sym, ap, ◌∙◌}
use Rattle.tup_path.specs.Name.{Names}
use Rattle.tup_path.specs.Tree.{Tree}
use Rattle.tup_rule.specs.declared.question.Question.{Question}
use Rattle.tup_rule.specs.declared.question.Question.TheVariants as asks
use Rattle.tup_rule.specs.declared.question.Told.{Told}
use Rattle.tup_vars.specs.Table.{Entries}
use Rattle.tup_query.specs.Log.{fits}
use Rattle.tup_readings.specs.Answers.{Readings, awaited, answer}
use Rattle.tup_readings.specs.Asked.{answer_or_misfit, misfit}
use Rattle.tup_refresh.specs.Asking.{ended, in_one, waiting, answer_or_waiting}

-- ---- a path as one text

-- the path that a text is
abbrev put_byte : ℕ → Names → Names
put_byte byte [] = (byte ∷ []) ∷ []
put_byte byte (name ∷ path) = (byte ∷ name) ∷ path

abbrev parted : List ℕ → Names
parted [] = []
parted (zero ∷ text) = [] ∷ parted text
parted (suc byte ∷ text) = put_byte byte (parted text)

parted_ended : (name rest : List ℕ) → parted (ended name rest) ≡ name ∷ parted rest
parted_ended [] rest = refl
parted_ended (byte ∷ name) rest = ap (put_byte byte) (parted_ended name rest)

parted_in_one : (path : Names) → parted (in_one path) ≡ path
parted_in_one [] = refl
parted_in_one (name ∷ path) = parted_ended name (in_one path) ∙ ap (λ (p : Names). name ∷ p) (parted_in_one path)

one_path : (dir next : Names) → in_one dir ≡ in_one next → dir ≡ next
one_path dir next e = sym (parted_in_one dir) ∙ ap parted e ∙ parted_in_one next

-- ---- what stands in the place of an answer

module _ (outline : Tree) (settings : Entries) (readings : Readings) (reader : Names) (question : Question) where
  pub answer_where_ready : awaited outline readings reader question ≡ None → answer_or_waiting outline settings readings reader question ≡ answer outline settings readings reader question
  answer_where_ready e = ap (λ (next : Option Names). elim next as (λ _. Told) [ Some dir ↦ waiting question dir | None ↦ answer outline settings readings reader question ]) e

  pub where_waiting : (next : Names) → awaited outline readings reader question ≡ Some next → answer_or_waiting outline settings readings reader question ≡ waiting question next
  where_waiting next e = ap (λ (next : Option Names). elim next as (λ _. Told) [ Some dir ↦ waiting question dir | None ↦ answer outline settings readings reader question ]) e

-- it is of another kind than an answer
pub waiting_unfit : (question : Question) (next : Names) → fits question (waiting question next) ≡ false
waiting_unfit (asks.Content path) next = refl
waiting_unfit (asks.Config name) next = refl
waiting_unfit (asks.Names dir) next = refl
waiting_unfit (asks.Kind path) next = refl

-- it tells the folder
pub one_waited : (question : Question) (dir next : Names) → waiting question dir ≡ waiting question next → dir ≡ next
one_waited (asks.Content path) dir next e = cc
one_waited (asks.Config name) dir next e = cc
one_waited (asks.Names folder) dir next e = let same : in_one dir ≡ in_one next = cc in one_path dir next same
one_waited (asks.Kind path) dir next e = cc

-- what is told and is of the question's kind is the answer
pub fits_where_ready : (outline : Tree) (settings : Entries) (readings : Readings) (reader : Names) (question : Question) (given : Told) → answer_or_waiting outline settings readings reader question ≡ given
    → fits question given ≡ true → answer_or_misfit outline settings readings reader question ≡ given
fits_where_ready outline settings readings reader question given is fit = by (awaited outline readings reader question) is
  where
    by : (next : Option Names) → elim next as (λ _. Told) [ Some dir ↦ waiting question dir | None ↦ answer outline settings readings reader question ] ≡ given
        → elim next as (λ _. Told) [ Some dir ↦ misfit question | None ↦ answer outline settings readings reader question ] ≡ given
    by None is = is
    by (Some next) is = let wrong : false ≡ true = sym (waiting_unfit question next) ∙ ap (fits question) is ∙ fit in cc

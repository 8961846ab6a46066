-- Answers of their questions' kinds.
use Rattle.std.proofs.Common.{◌≡◌, true, [], ◌∷◌, ◌++◌, subst}
use Rattle.tup_rule.specs.Question.{noted, HasKindOf}
use Rattle.tup_rule.specs.declared.question.Question.{Question}
use Rattle.tup_rule.specs.declared.question.Question.TheVariants as asks
use Rattle.tup_rule.specs.declared.question.Told.{Told}
use Rattle.tup_rule.specs.declared.question.Told.TheVariants as told
use Rattle.tup_query.specs.Log.{AllOfKind, Log, fits}

-- a log with one more answer
pub kinds_more : (log : Log) (question : Question) (answer : Told) → AllOfKind log → fits question answer ≡ true → AllOfKind (log ++ (question, answer) ∷ [])
kinds_more [] question answer all kind = (kind, tt)
kinds_more (first ∷ log) question answer all kind = (all.0, kinds_more log question answer all.1 kind)

-- the first of a log, and the others
pub kind_first : (log rest : Log) (question : Question) (answer : Told) → log ≡ (question, answer) ∷ rest → AllOfKind log → (fits question answer ≡ true) × AllOfKind rest
kind_first log rest question answer first all = subst AllOfKind first all

-- an answer as it is kept has the kind of its question
pub kind_kept : (question : Question) (answer : Told) → fits question answer ≡ true → HasKindOf question (noted answer)
kind_kept (asks.Content p) (told.Content content) kind = tt
kind_kept (asks.Content p) (told.Config value) kind = absurd (cc)
kind_kept (asks.Content p) (told.Names names) kind = absurd (cc)
kind_kept (asks.Content p) (told.Kind there) kind = absurd (cc)
kind_kept (asks.Config name) (told.Content content) kind = absurd (cc)
kind_kept (asks.Config name) (told.Config value) kind = tt
kind_kept (asks.Config name) (told.Names names) kind = absurd (cc)
kind_kept (asks.Config name) (told.Kind there) kind = absurd (cc)
kind_kept (asks.Names dir) (told.Content content) kind = absurd (cc)
kind_kept (asks.Names dir) (told.Config value) kind = absurd (cc)
kind_kept (asks.Names dir) (told.Names names) kind = tt
kind_kept (asks.Names dir) (told.Kind there) kind = absurd (cc)
kind_kept (asks.Kind p) (told.Content content) kind = absurd (cc)
kind_kept (asks.Kind p) (told.Config value) kind = absurd (cc)
kind_kept (asks.Kind p) (told.Names names) kind = absurd (cc)
kind_kept (asks.Kind p) (told.Kind there) kind = tt

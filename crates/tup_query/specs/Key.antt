-- A question as a key (own): two are the same just where they are equal, and what a hasher is fed for one.
use Rattle.std.specs.Prelude.{◌≡◌, true, bytes_eq, Decides, refl}
use Rattle.std.specs.Hash.{HashWrites, slice, str}
use Rattle.std.specs.Cmp.Lexicographic.{bytes_decides, pointwise_decides}
use Rattle.std.proofs.Common.{ap, sym, ◌∙◌}
use Rattle.tup_rule.specs.declared.question.Question.{Question}
use Rattle.tup_rule.specs.declared.question.Question.TheVariants as question
use Rattle.tup_query.specs.Log.{same_question}

-- what a hasher is fed: the place or the name that a question is about
abbrev pub writes_of : Question → HashWrites
writes_of (question.Content path) = slice str path
writes_of (question.Config name) = str name
writes_of (question.Names dir) = slice str dir
writes_of (question.Kind path) = slice str path

pub same_question-true : (one other : Question) → same_question one other ≡ true → one ≡ other
same_question-true (question.Content one) (question.Content other) e = ap (λ p. question.Content p) ((pointwise_decides bytes_decides one other).0 e)
same_question-true (question.Config one) (question.Config other) e = ap (λ n. question.Config n) ((bytes_decides one other).0 e)
same_question-true (question.Names one) (question.Names other) e = ap (λ p. question.Names p) ((pointwise_decides bytes_decides one other).0 e)
same_question-true (question.Kind one) (question.Kind other) e = ap (λ p. question.Kind p) ((pointwise_decides bytes_decides one other).0 e)
same_question-true one other e = cc

same_question-refl : (asked : Question) → same_question asked asked ≡ true
same_question-refl (question.Content path) = (pointwise_decides bytes_decides path path).1 refl
same_question-refl (question.Config name) = (bytes_decides name name).1 refl
same_question-refl (question.Names dir) = (pointwise_decides bytes_decides dir dir).1 refl
same_question-refl (question.Kind path) = (pointwise_decides bytes_decides path path).1 refl

pub same_question-decides : (one other : Question) → Decides (same_question one other) (one ≡ other)
same_question-decides one other = (same_question-true one other, λ same. sym (ap (same_question one) same) ∙ same_question-refl one)

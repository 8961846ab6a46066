-- What is known of a folder for whose reading an answer waits.
use Rattle.std.proofs.Common.{◌≡◌, Bool, true, false, cond, not, ◌&&◌, ◌||◌, Option, Some, None, refl, sym, ap, ◌∙◌}
use Rattle.std.specs.Prelude.{is_none, option_and_then}
use Rattle.std.specs.FinMap as finite
use Rattle.std.specs.Result.{result_ok}
use Rattle.std.proofs.lemmas.Bool.{and_parts, not-true}
use Rattle.tup_path.specs.Name.{Names}
use Rattle.tup_path.specs.Order.{same_path}
use Rattle.tup_path.specs.Resolve.{above}
use Rattle.tup_path.specs.Tree.{Tree}
use Rattle.tup_rule.specs.declared.question.Question.{Question}
use Rattle.tup_rule.specs.declared.question.Question.TheVariants as asks
use Rattle.tup_rule.specs.declared.question.Reading.{Reading}
use Rattle.tup_readings.specs.Sources.{is_source, has_below, has_tupfile, home}
use Rattle.tup_readings.specs.Answers.{Readings, is_unread, unread, folder_told, awaited}
use Rattle.tup_readings.proofs.Homes.{homes_alike}

none_there : (found : Option Reading) → is_none found ≡ true → found ≡ None
none_there None e = refl
none_there (Some reading) e = cc

-- it is another one that has a Tupfile and isn't read
pub record IsUnread (sources : Tree) (readings : Readings) (reader next : Names) : Type 0 where
  pub apart : same_path reader next ≡ false
  pub has : has_tupfile sources next ≡ true
  pub none : finite.get readings next ≡ None

-- whether a folder waits, by its parts
unread_is : (sources : Tree) (readings : Readings) (reader dir next : Names) → unread sources readings reader dir ≡ Some next → (dir ≡ next) × IsUnread sources readings reader next
unread_is sources readings reader dir next e = by (is_unread sources readings reader dir) refl e
  where
    by : (b : Bool) → is_unread sources readings reader dir ≡ b → cond b (Some dir) None ≡ Some next → (dir ≡ next) × IsUnread sources readings reader next
    by false on e = cc
    by true on e =
        let same : dir ≡ next = cc in
        let here : (not (same_path reader next) && has_tupfile sources next && is_none (finite.get readings next)) ≡ true = ap (λ d. is_unread sources readings reader d) (sym same) ∙ on in
        let parts = and_parts (not (same_path reader next) && has_tupfile sources next) (is_none (finite.get readings next)) here in
        let two = and_parts (not (same_path reader next)) (has_tupfile sources next) parts.0 in
        (same, record { apart = not-true (same_path reader next) two.0; has = two.1; none = none_there (finite.get readings next) parts.1 })

pub unread_waits : (sources : Tree) (readings : Readings) (reader next : Names) → IsUnread sources readings reader next → unread sources readings reader next ≡ Some next
unread_waits sources readings reader next is =
    ap (λ b. cond b (Some next) None)
    (ap (λ b. not b && has_tupfile sources next && is_none (finite.get readings next)) is.apart
    ∙ ap (λ b. b && is_none (finite.get readings next)) is.has
    ∙ ap (λ (found : Option Reading). is_none found) is.none)

-- what an answer about a folder comes to
pub awaits : (sources : Tree) (readings : Readings) (reader next : Names) (dir : Option Names) → option_and_then (unread sources readings reader) dir ≡ Some next
    → (dir ≡ Some next) × IsUnread sources readings reader next
awaits sources readings reader next None e = cc
awaits sources readings reader next (Some dir) e = let is = unread_is sources readings reader dir next e in (ap (λ d. Some d) is.0, is.1)

-- an answer that waits does so for the folder of whose rules it tells
pub awaited_is : (sources : Tree) (readings : Readings) (reader next : Names) (question : Question) → awaited sources readings reader question ≡ Some next
    → (folder_told sources question ≡ Some next) × IsUnread sources readings reader next
awaited_is sources readings reader next question e = awaits sources readings reader next (folder_told sources question) e

-- that one is given by the question, over trees in which the same folders have a Tupfile
pub one_folder : (one other : Tree) → ((dir : Names) → has_tupfile one dir ≡ has_tupfile other dir) → (question : Question) (dir next : Names)
    → folder_told one question ≡ Some dir → folder_told other question ≡ Some next → dir ≡ next
one_folder one other same (asks.Content path) dir next e f = cc
one_folder one other same (asks.Config name) dir next e f = cc
one_folder one other same (asks.Names folder) dir next e f = let s : Some dir ≡ Some next = sym e ∙ homes_alike one other same folder ∙ f in cc
one_folder one other same (asks.Kind path) dir next e f =
    let s : Some dir ≡ Some next =
    sym (the (is_source one path || has_below (finite.keys one) path) (option_and_then (home one) (result_ok (above path))) dir e)
    ∙ alike (result_ok (above path))
    ∙ the (is_source other path || has_below (finite.keys other) path) (option_and_then (home other) (result_ok (above path))) next f in
    cc
  where
    the : (b : Bool) (found : Option Names) (dir : Names) → cond b None found ≡ Some dir → found ≡ Some dir
    the true found dir e = cc
    the false found dir e = e

    alike : (up : Option Names) → option_and_then (home one) up ≡ option_and_then (home other) up
    alike None = refl
    alike (Some dir) = homes_alike one other same dir

-- it waits over other readings too in which that folder isn't
pub awaited_elsewhere : (sources : Tree) (readings others : Readings) (reader next : Names) (question : Question) → awaited sources readings reader question ≡ Some next → finite.get others next ≡ None
    → awaited sources others reader question ≡ Some next
awaited_elsewhere sources readings others reader next question e none =
    let is = awaited_is sources readings reader next question e in
    ap (option_and_then (unread sources others reader)) is.0
    ∙ unread_waits sources others reader next (record { apart = is.1.apart; has = is.1.has; none = none })

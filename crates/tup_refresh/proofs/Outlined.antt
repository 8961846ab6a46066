-- What is answered by the paths of sources alone.
use Rattle.std.proofs.Common.{◌≡◌, ℕ, cond, not, ◌&&◌, ◌||◌, List, [], ◌++◌, Bool, Option, Some, None, Result, refl, sym, ap, ◌∙◌, subst}
use Rattle.std.specs.Prelude.{is_none, option_and_then}
use Rattle.std.specs.FinMap as finite
use Rattle.std.specs.Bool.{Decides}
use Rattle.std.specs.List.{list_any}
use Rattle.std.specs.Ordering.{eq_by_cmp}
use Rattle.std.specs.Result.{IfErr, IfOk, result_ok}
use Rattle.tup_path.specs.Name.{Names}
use Rattle.tup_path.specs.Order.{by_names, same_path}
use Rattle.tup_path.specs.Resolve.{above}
use Rattle.tup_path.specs.Tree.{Tree}
use Rattle.tup_rule.specs.Question.{noted as kept_as}
use Rattle.tup_rule.specs.declared.question.Kind.{Kind}
use Rattle.tup_rule.specs.declared.question.Kind.TheVariants.{Nothing, File, Dir}
use Rattle.tup_rule.specs.declared.question.Noted.{Noted}
use Rattle.tup_rule.specs.declared.question.Question.{Question}
use Rattle.tup_rule.specs.declared.question.Question.TheVariants as asks
use Rattle.tup_rule.specs.declared.question.Told.{Told}
use Rattle.tup_rule.specs.declared.question.Told.TheVariants as told
use Rattle.tup_rule.specs.declared.draft.Draft.{Draft}
use Rattle.tup_vars.specs.Table.{Entries}
use Rattle.tup_rule_line.specs.Glob.{names_among, in_order}
use Rattle.tup_rule_line.specs.State.{made_by, is_made}
use Rattle.tup_readings.specs.Answers.{Readings, other_drafts, seen_drafts, made_kind, unread, awaited, answer}
use Rattle.tup_readings.specs.Asked.{IsWait, misfit, answer_or_misfit}
use Rattle.tup_readings.specs.Sources.{is_source, has_below, has_tupfile, tupfile, home}
use Rattle.tup_readings.specs.declared.asked.Stop.{Stop}
use Rattle.tup_readings.proofs.Homes.{homes_alike}
use Rattle.tup_refresh.specs.Part.{HasPaths}

-- a question that isn't about a content
abbrev pub IsOfPaths : Question → Type 0
IsOfPaths (asks.Content path) = ⊥
IsOfPaths (asks.Config name) = Unit {0}
IsOfPaths (asks.Names dir) = Unit {0}
IsOfPaths (asks.Kind path) = Unit {0}

module _ (sources outline : Tree) (paths : HasPaths sources outline) where
  pub source_alike : (path : Names) → is_source outline path ≡ is_source sources path
  source_alike path =
      finite.contains_key-keys outline path ∙ ap (λ (keys : List Names). list_any (eq_by_cmp by_names path) keys) paths
      ∙ sym (finite.contains_key-keys sources path)

  pub tupfile_alike : (dir : Names) → has_tupfile outline dir ≡ has_tupfile sources dir
  tupfile_alike dir = source_alike (tupfile dir)

  -- so is the home of a folder
  home_alike : home outline ≡ home sources
  home_alike = λ i dir. homes_alike outline sources tupfile_alike dir i

  module _ (readings : Readings) (reader : Names) where
    unread_alike : (dir : Names) → unread outline readings reader dir ≡ unread sources readings reader dir
    unread_alike dir = ap (λ b. cond (not (same_path reader dir) && b && is_none (finite.get readings dir)) (Some dir) None) (tupfile_alike dir)

    unread_is_alike : unread outline readings reader ≡ unread sources readings reader
    unread_is_alike = λ i dir. unread_alike dir i

    pub awaited_alike : (question : Question) → awaited outline readings reader question ≡ awaited sources readings reader question
    awaited_alike (asks.Content path) = refl
    awaited_alike (asks.Config name) = refl
    awaited_alike (asks.Names dir) =
        ap (λ (waits : Names → Option Names). option_and_then waits (home outline dir)) unread_is_alike
        ∙ ap (λ (home_of : Names → Option Names). option_and_then (unread sources readings reader) (home_of dir)) home_alike
    awaited_alike (asks.Kind path) =
        ap (λ (waits : Names → Option Names). option_and_then waits (cond (is_source outline path || has_below (finite.keys outline) path) None (option_and_then (home outline) (result_ok (above path))))) unread_is_alike
        ∙ ap (λ b. option_and_then (unread sources readings reader) (cond (b || has_below (finite.keys outline) path) None (option_and_then (home outline) (result_ok (above path))))) (source_alike path)
        ∙ ap (λ (keys : List Names). option_and_then (unread sources readings reader) (cond (is_source sources path || has_below keys path) None (option_and_then (home outline) (result_ok (above path))))) paths
        ∙ ap (λ (home_of : Names → Option Names). option_and_then (unread sources readings reader) (cond (is_source sources path || has_below (finite.keys sources) path) None (option_and_then home_of (result_ok (above path))))) home_alike

    seen_is_alike : seen_drafts outline readings reader ≡ seen_drafts sources readings reader
    seen_is_alike = λ i dir. elim (home_alike i dir) as (λ _. List Draft) [ Some found ↦ other_drafts readings reader found | None ↦ [] ]

    pub ready_alike : (question : Question) (result : Result Bool Stop) → IfOk result (λ _. awaited outline readings reader question ≡ None) → IfOk result (λ _. awaited sources readings reader question ≡ None)
    ready_alike question result ready = subst (λ (next : Option Names). IfOk result (λ _. next ≡ None)) (awaited_alike question) ready

    pub wait_alike : (question : Question) (result : Result Bool Stop) → IfErr result (IsWait (awaited outline readings reader question)) → IfErr result (IsWait (awaited sources readings reader question))
    wait_alike question result waits = subst (λ (next : Option Names). IfErr result (IsWait next)) (awaited_alike question) waits

    module _ (settings : Entries) where
      pub setting_alike : (name : List ℕ) → answer_or_misfit outline settings readings reader (asks.Config name) ≡ answer_or_misfit sources settings readings reader (asks.Config name)
      setting_alike name = refl

      pub names_alike : (dir : Names) → answer outline settings readings reader (asks.Names dir) ≡ answer sources settings readings reader (asks.Names dir)
      names_alike dir =
          ap (λ (keys : List Names). told.Names (in_order (names_among dir (keys ++ made_by (seen_drafts outline readings reader dir))))) paths
          ∙ ap (λ (seen : Names → List Draft). told.Names (in_order (names_among dir (finite.keys sources ++ made_by (seen dir))))) seen_is_alike

      pub kind_alike : (path : Names) → answer outline settings readings reader (asks.Kind path) ≡ answer sources settings readings reader (asks.Kind path)
      kind_alike path =
          ap (λ b. told.Kind (cond b File (cond (has_below (finite.keys outline) path) Dir (elim (result_ok (above path)) as (λ _. Kind) [ Some dir ↦ made_kind outline readings reader dir path | None ↦ Nothing ])))) (source_alike path)
          ∙ ap (λ (keys : List Names). told.Kind (cond (is_source sources path) File (cond (has_below keys path) Dir (elim (result_ok (above path)) as (λ _. Kind) [ Some dir ↦ made_kind outline readings reader dir path | None ↦ Nothing ])))) paths
          ∙ ap (λ (seen : Names → List Draft). told.Kind (cond (is_source sources path) File (cond (has_below (finite.keys sources) path) Dir (elim (result_ok (above path)) as (λ _. Kind) [ Some dir ↦ cond (is_made (seen dir) path) File Nothing | None ↦ Nothing ])))) seen_is_alike

      -- where answers are, so is what stands in their place
      misfit_alike : (question : Question) → answer outline settings readings reader question ≡ answer sources settings readings reader question
          → answer_or_misfit outline settings readings reader question ≡ answer_or_misfit sources settings readings reader question
      misfit_alike question same =
          ap (λ (next : Option Names). elim next as (λ _. Told) [ Some dir ↦ misfit question | None ↦ answer outline settings readings reader question ]) (awaited_alike question)
          ∙ ap (λ (found : Told). elim (awaited sources readings reader question) as (λ _. Told) [ Some dir ↦ misfit question | None ↦ found ]) same

      pub told_names_alike : (dir : Names) → answer_or_misfit outline settings readings reader (asks.Names dir) ≡ answer_or_misfit sources settings readings reader (asks.Names dir)
      told_names_alike dir = misfit_alike (asks.Names dir) (names_alike dir)

      pub told_kind_alike : (path : Names) → answer_or_misfit outline settings readings reader (asks.Kind path) ≡ answer_or_misfit sources settings readings reader (asks.Kind path)
      told_kind_alike path = misfit_alike (asks.Kind path) (kind_alike path)

      answer_alike : (question : Question) → IsOfPaths question → answer outline settings readings reader question ≡ answer sources settings readings reader question
      answer_alike (asks.Content path) of = absurd of
      answer_alike (asks.Config name) of = refl
      answer_alike (asks.Names dir) of = names_alike dir
      answer_alike (asks.Kind path) of = kind_alike path

      pub stand_alike : (question : Question) (noted : Noted) (result : Result Bool Stop) → IsOfPaths question
          → IfOk result (λ stands. Decides stands (kept_as (answer outline settings readings reader question) ≡ noted))
          → IfOk result (λ stands. Decides stands (kept_as (answer sources settings readings reader question) ≡ noted))
      stand_alike question noted result of stand = subst (λ (given : Told). IfOk result (λ stands. Decides stands (kept_as given ≡ noted))) (answer_alike question of) stand

use Rattle.std.proofs.Common.{◌≡◌, cond, List, Option, Some, None, Bor, subst, sym, ap, ◌∙◌}
use Rattle.std.specs.Option.{option_copied}
use Rattle.std.proofs.lemmas.Result.{MatchResult-weaker}
use Rattle.tup_path.specs.Name.{Names}
use Rattle.tup_rule.specs.declared.draft.Draft.{Draft}
use Rattle.tup_rule.specs.declared.question.Kind.TheVariants.{Nothing, File}
use Rattle.tup_rule.specs.declared.question.Told.TheVariants as told
use Rattle.tup_rule_line.specs.Making.{is_made}
use Rattle.tup_readings.specs.Asked.{IsWait}
use Rattle.tup_readings.specs.Sources.{home}
use Rattle.tup_readings.proofs.Told.{seen_is, waits_for_home}
use Rattle.tup_readings.proofs.asked.Asked.kind_in.Goals as goal

pub returns-in-Some-clause-told : goal.returns-in-Some-clause-told
returns-in-Some-clause-told c =
    let self = c.args.self.now in
    let is = subst (λ (found : Option (Bor Names)). option_copied found ≡ home self.sources.now c.args.dir.now) c.in-Some.is c.in_ok-home.ensures in
    let seen = seen_is self.sources.now self.readings.now self.reader.now c.args.dir.now (Some c.in-Some.home.now) is in
    MatchResult-weaker c.other_kind.result c.other_kind.ensures.told
    (λ found e. e ∙ ap (λ (drafts : List Draft). told.Kind (cond (is_made drafts c.args.path.now) File Nothing)) seen) (λ stop no. tt)

pub returns-in-Some-clause-ready : goal.returns-in-Some-clause-ready
returns-in-Some-clause-ready c =
    let self = c.args.self.now in
    let is = subst (λ (found : Option (Bor Names)). option_copied found ≡ home self.sources.now c.args.dir.now) c.in-Some.is c.in_ok-home.ensures in
    MatchResult-weaker c.other_kind.result c.other_kind.ensures.ready
    (λ found e. sym (waits_for_home self.sources.now self.readings.now self.reader.now c.args.dir.now (Some c.in-Some.home.now) is) ∙ e) (λ stop no. tt)

pub returns-in-Some-clause-waits : goal.returns-in-Some-clause-waits
returns-in-Some-clause-waits c =
    let self = c.args.self.now in
    let is = subst (λ (found : Option (Bor Names)). option_copied found ≡ home self.sources.now c.args.dir.now) c.in-Some.is c.in_ok-home.ensures in
    let waits = waits_for_home self.sources.now self.readings.now self.reader.now c.args.dir.now (Some c.in-Some.home.now) is in
    MatchResult-weaker c.other_kind.result c.other_kind.ensures.waits (λ found yes. tt) (λ stop h. subst (λ (next : Option Names). IsWait next stop) waits h)

pub returns-in-None-clause-told : goal.returns-in-None-clause-told
returns-in-None-clause-told c =
    let self = c.args.self.now in
    let is = subst (λ (found : Option (Bor Names)). option_copied found ≡ home self.sources.now c.args.dir.now) c.in-None.is c.in_ok-home.ensures in
    ap (λ (drafts : List Draft). told.Kind (cond (is_made drafts c.args.path.now) File Nothing)) (seen_is self.sources.now self.readings.now self.reader.now c.args.dir.now None is)

pub returns-in-None-clause-ready : goal.returns-in-None-clause-ready
returns-in-None-clause-ready c =
    let self = c.args.self.now in
    let is = subst (λ (found : Option (Bor Names)). option_copied found ≡ home self.sources.now c.args.dir.now) c.in-None.is c.in_ok-home.ensures in
    sym (waits_for_home self.sources.now self.readings.now self.reader.now c.args.dir.now None is)

use Rattle.std.proofs.Common.{◌≡◌, Option, Some, None, Bor, subst, sym, ◌∙◌}
use Rattle.std.specs.Option.{option_copied}
use Rattle.std.proofs.lemmas.Result.{MatchResult-weaker}
use Rattle.tup_path.specs.Name.{Names}
use Rattle.tup_readings.specs.Asked.{IsWait}
use Rattle.tup_readings.specs.Sources.{home}
use Rattle.tup_readings.proofs.Told.{seen_is, waits_for_home}
use Rattle.tup_readings.proofs.asked.Asked.seen_drafts.Goals as goal

pub returns-in-Some-clause-seen : goal.returns-in-Some-clause-seen
returns-in-Some-clause-seen c =
    let self = c.args.self.now in
    let is = subst (λ (found : Option (Bor Names)). option_copied found ≡ home self.sources.now c.args.dir.now) c.in-Some.is c.in_ok-home.ensures in
    MatchResult-weaker c.other_drafts.result c.other_drafts.ensures.seen
    (λ drafts e. e ∙ seen_is self.sources.now self.readings.now self.reader.now c.args.dir.now (Some c.in-Some.home.now) is) (λ stop no. tt)

pub returns-in-Some-clause-ready : goal.returns-in-Some-clause-ready
returns-in-Some-clause-ready c =
    let self = c.args.self.now in
    let is = subst (λ (found : Option (Bor Names)). option_copied found ≡ home self.sources.now c.args.dir.now) c.in-Some.is c.in_ok-home.ensures in
    MatchResult-weaker c.other_drafts.result c.other_drafts.ensures.ready
    (λ drafts e. sym (waits_for_home self.sources.now self.readings.now self.reader.now c.args.dir.now (Some c.in-Some.home.now) is) ∙ e) (λ stop no. tt)

pub returns-in-Some-clause-waits : goal.returns-in-Some-clause-waits
returns-in-Some-clause-waits c =
    let self = c.args.self.now in
    let is = subst (λ (found : Option (Bor Names)). option_copied found ≡ home self.sources.now c.args.dir.now) c.in-Some.is c.in_ok-home.ensures in
    let waits = waits_for_home self.sources.now self.readings.now self.reader.now c.args.dir.now (Some c.in-Some.home.now) is in
    MatchResult-weaker c.other_drafts.result c.other_drafts.ensures.waits (λ drafts yes. tt) (λ stop h. subst (λ (next : Option Names). IsWait next stop) waits h)

pub returns-in-None-clause-seen : goal.returns-in-None-clause-seen
returns-in-None-clause-seen c =
    let self = c.args.self.now in
    let is = subst (λ (found : Option (Bor Names)). option_copied found ≡ home self.sources.now c.args.dir.now) c.in-None.is c.in_ok-home.ensures in
    seen_is self.sources.now self.readings.now self.reader.now c.args.dir.now None is

pub returns-in-None-clause-ready : goal.returns-in-None-clause-ready
returns-in-None-clause-ready c =
    let self = c.args.self.now in
    let is = subst (λ (found : Option (Bor Names)). option_copied found ≡ home self.sources.now c.args.dir.now) c.in-None.is c.in_ok-home.ensures in
    sym (waits_for_home self.sources.now self.readings.now self.reader.now c.args.dir.now None is)

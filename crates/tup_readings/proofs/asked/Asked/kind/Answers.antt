use Rattle.std.proofs.Common.{Option, subst, sym, ap, ◌∙◌}
use Rattle.std.proofs.lemmas.Result.{MatchResult-weaker}
use Rattle.tup_path.specs.Name.{Names}
use Rattle.tup_rule.specs.declared.question.Told.TheVariants as told
use Rattle.tup_readings.specs.Asked.{IsWait}
use Rattle.tup_readings.specs.Index.{IsParted}
use Rattle.tup_readings.proofs.Told.{not_a_source, kind_is, kind_waits}
use Rattle.tup_readings.proofs.asked.Asked.kind.Goals as goal

pub returns-in-Some-clause-told : goal.returns-in-Some-clause-told
returns-in-Some-clause-told c =
    let self = c.args.self.now in
    let path = c.args.path.now in
    let parted = subst (IsParted path) c.in-Some.is c.in_ok-dir.ensures in
    let no_file = not_a_source self.sources.now path c.content.result c.content.ensures (sym c.is_some.ensures ∙ c.if-is_some.false) in
    let no_dir = sym c.is_folder.ensures ∙ c.if-is_folder.false in
    let is = kind_is self.sources.now self.readings.now self.reader.now path c.in-Some.dir c.in-Some.field-0-1 no_file no_dir parted in
    MatchResult-weaker c.kind_in.result c.kind_in.ensures.told (λ found e. e ∙ ap (λ k. told.Kind k) is) (λ stop no. tt)

pub returns-in-Some-clause-ready : goal.returns-in-Some-clause-ready
returns-in-Some-clause-ready c =
    let self = c.args.self.now in
    let path = c.args.path.now in
    let parted = subst (IsParted path) c.in-Some.is c.in_ok-dir.ensures in
    let no_file = not_a_source self.sources.now path c.content.result c.content.ensures (sym c.is_some.ensures ∙ c.if-is_some.false) in
    let no_dir = sym c.is_folder.ensures ∙ c.if-is_folder.false in
    let waits = kind_waits self.sources.now self.readings.now self.reader.now path c.in-Some.dir c.in-Some.field-0-1 no_file no_dir parted in
    MatchResult-weaker c.kind_in.result c.kind_in.ensures.ready (λ found e. waits ∙ e) (λ stop no. tt)

pub returns-in-Some-clause-waits : goal.returns-in-Some-clause-waits
returns-in-Some-clause-waits c =
    let self = c.args.self.now in
    let path = c.args.path.now in
    let parted = subst (IsParted path) c.in-Some.is c.in_ok-dir.ensures in
    let no_file = not_a_source self.sources.now path c.content.result c.content.ensures (sym c.is_some.ensures ∙ c.if-is_some.false) in
    let no_dir = sym c.is_folder.ensures ∙ c.if-is_folder.false in
    let waits = kind_waits self.sources.now self.readings.now self.reader.now path c.in-Some.dir c.in-Some.field-0-1 no_file no_dir parted in
    MatchResult-weaker c.kind_in.result c.kind_in.ensures.waits (λ found yes. tt) (λ stop h. subst (λ (next : Option Names). IsWait next stop) (sym waits) h)

use Rattle.std.proofs.Common.{Bool, Option, sym, subst}
use Rattle.std.specs.Prelude.{Decides}
use Rattle.std.proofs.lemmas.Result.{IfOk-weaker}
use Rattle.tup_path.specs.Name.{Content}
use Rattle.tup_rule.specs.declared.question.Question.{Question}
use Rattle.tup_rule.specs.declared.question.Question.TheVariants as asks
use Rattle.tup_scan_diff.specs.Told.{IsToldSo}
use Rattle.tup_scan_diff.proofs.present.Present.stands.Goals as goal

pub returns-in-Content-clause-stands : goal.returns-in-Content-clause-stands
returns-in-Content-clause-stands c = λ config is.
    subst (λ (q : Question). Decides c.content_stands.result (IsToldSo config c.args.self.now c.args.reader.now q c.args.noted.now)) (sym c.in-Content.is) (c.content_stands.ensures config c.args.reader.now)

pub returns-in-Config-clause-stands : goal.returns-in-Config-clause-stands
returns-in-Config-clause-stands c = λ config is.
    subst (λ (q : Question). Decides c.setting_stands.result (IsToldSo config c.args.self.now c.args.reader.now q c.args.noted.now)) (sym c.in-Config.is) (c.setting_stands.ensures config c.args.reader.now is)

pub returns-in-Names-clause-stands : goal.returns-in-Names-clause-stands
returns-in-Names-clause-stands c = λ config is.
    IfOk-weaker c.names_stand.result (λ (b : Bool). (known : Option Content) → Decides b (IsToldSo known c.args.self.now c.args.reader.now (asks.Names c.in-Names.dir) c.args.noted.now))
    (λ (b : Bool). Decides b (IsToldSo config c.args.self.now c.args.reader.now c.args.question.now c.args.noted.now))
    (λ b told. subst (λ (q : Question). Decides b (IsToldSo config c.args.self.now c.args.reader.now q c.args.noted.now)) (sym c.in-Names.is) (told config))
    c.names_stand.ensures.stand

pub returns-in-Kind-clause-stands : goal.returns-in-Kind-clause-stands
returns-in-Kind-clause-stands c = λ config is.
    IfOk-weaker c.kind_stands.result (λ (b : Bool). (known : Option Content) → Decides b (IsToldSo known c.args.self.now c.args.reader.now (asks.Kind c.in-Kind.path) c.args.noted.now))
    (λ (b : Bool). Decides b (IsToldSo config c.args.self.now c.args.reader.now c.args.question.now c.args.noted.now))
    (λ b told. subst (λ (q : Question). Decides b (IsToldSo config c.args.self.now c.args.reader.now q c.args.noted.now)) (sym c.in-Kind.is) (told config))
    c.kind_stands.ensures.stands

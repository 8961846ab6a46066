use Rattle.tup_lex.proofs.Lies.{result-LieIn}
use Rattle.tup_lex.proofs.parts.rule_parts.Goals as goal

pub returns-clause-lie : goal.returns-clause-lie
returns-clause-lie c =
    let text = c.as_bytes.ensures.bytes in
    let h = rw text at c.parts_in.ensures in
    result-LieIn c.parts_in.result c.args.text.now h

use Rattle.std.proofs.lemmas.Str.Pattern.{strip_suffix_char}
use Rattle.tup_rule_line.proofs.Ends.{before_last-is}
use Rattle.tup_rule_line.proofs.last.before_last.Goals as goal

pub returns : goal.returns
returns c =
    before_last-is c.args.last c.args.text.now c.strip_suffix.result c.requires.some
    (strip_suffix_char c.args.last c.args.text.now c.strip_suffix.result c.strip_suffix.ensures.cases c.requires.ascii)

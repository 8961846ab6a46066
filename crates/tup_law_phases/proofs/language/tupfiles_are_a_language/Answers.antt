use Rattle.tup_law_phases.proofs.Tupfiles.{is_language}
use Rattle.tup_law_phases.proofs.language.tupfiles_are_a_language.Goals as goal

pub returns : goal.returns
returns c = is_language

use Rattle.std.proofs.Common.{◌≡◌, Result, Ok, Err, inl, inr, sym, ◌∙◌}
use Rattle.tup_vars.specs.Table.{Entries}
use Rattle.tup_vars.specs.declared.fault.ConfigFault.{ConfigFault}
use Rattle.tup_refresh.proofs.idle.is_config.Goals as goal

not_both : (settings : Entries) (fault : ConfigFault) → ◌≡◌ {A = Result Entries ConfigFault} (Ok settings) (Err fault) → ⊥
not_both settings fault e = cc

pub returns-in-Ok : goal.returns-in-Ok
returns-in-Ok c = λ is. elim c.read_config.ensures.config [
  | inl none ↦ absurd (not_both c.in-Ok.field-0 _ (sym c.in-Ok.is ∙ none))
  | inr set ↦ (c.in-Ok.field-0, sym set ∙ c.in-Ok.is)
]

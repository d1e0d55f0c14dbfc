use Rattle.std.proofs.Common.{sym, subst}
use Rattle.std.specs.List.Sorted.{IsStrictlySortedBy}
use Rattle.tough_names.specs.Named.{by_raw_then_resolved}
use Rattle.tough_roles.proofs.lemmas.Table.{keys_of-docs}
use Rattle.tough_schema.specs.Target.{target_doc}
use Rattle.tough_schema.proofs.fitting.are_fit.Goals as goal

pub returns-clause-ordered : goal.returns-clause-ordered
returns-clause-ordered c = λ _. subst (IsStrictlySortedBy by_raw_then_resolved) (sym (keys_of-docs target_doc c.args.targets.now.entries)) c.iter-target-items.ensures.ordered

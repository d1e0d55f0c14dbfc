use Rattle.std.proofs.Common.{Some, option_map, sym, ap, ◌∙◌}
use Rattle.tough_roles.specs.Timestamp.{MetafileDoc}
use Rattle.tough_roles.specs.Snapshot.{snapshot_doc}
use Rattle.tough_checks.proofs.lemmas.Looking.{version-listed}
use Rattle.tough_checks.proofs.snapshot_checks.listed_version.Goals as goal

pub returns-in-Some : goal.returns-in-Some
returns-in-Some c = ap Some c.get.ensures.value ∙ (ap (option_map (λ (m : MetafileDoc). m.version)) c.in-Some.ensures ∙ sym (version-listed (snapshot_doc c.args.snapshot.now).meta c.args.name.now))

pub returns-in-None : goal.returns-in-None
returns-in-None c = ap (option_map (λ (m : MetafileDoc). m.version)) c.in-None.ensures ∙ sym (version-listed (snapshot_doc c.args.snapshot.now).meta c.args.name.now)

use Rattle.std.proofs.Common.{true, Ok, subst}
use Rattle.tough_keys.specs.Demo.{demo_verifies}
use Rattle.tough_roles.specs.Root.{root_doc}
use Rattle.tough_roles.specs.Signature.{signed_doc}
use Rattle.tough_checks.specs.StoredDocuments.{root_where}
use Rattle.tough_vault.specs.Looking.{Looks}
use Rattle.tough_vault.specs.Memory.{memory_files}
use Rattle.tough_vault.specs.Vault.{parts_of}
use Rattle.witnesses.specs.Steps.{no_failure}
use Rattle.witnesses.proofs.Stored.{held}
use Rattle.witnesses.proofs.lives.holds_root.Goals as goal

pub returns-in-Ok-Some : goal.returns-in-Ok-Some
returns-in-Ok-Some c =
    let old = parts_of c.new-vault.result in
    let new = parts_of c.read_root.new.self in
    held c.args.store old new (signed_doc root_doc c.in-Ok-Some.field-0-0) c.new-vault.ensures.store
    (subst (λ r. Looks true memory_files no_failure demo_verifies 0 old new (Ok (root_where r))) c.in-Ok-Some.field-0-is c.in-Ok-Some.ensures)

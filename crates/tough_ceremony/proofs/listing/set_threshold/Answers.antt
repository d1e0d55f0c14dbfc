use Rattle.std.proofs.Common.{is_some, refl, sym, ap, Some, None, ◌∙◌}
use Rattle.std.specs.Int.NonZero.{non_zero_u64_get}
use Rattle.tough_roles.specs.Root.{root_doc, roles_doc}
use Rattle.tough_roles.specs.declared.root.RoleKeys.{RoleKeys}
use Rattle.tough_ceremony.specs.Listing.{Roles, with_threshold}
use Rattle.tough_ceremony.proofs.Rolls.{set_roles, role_is}
use Rattle.tough_ceremony.proofs.listing.set_threshold.Goals as goal

pub returns-in-Some-clause-set : goal.returns-in-Some-clause-set
returns-in-Some-clause-set c =
    let w : RoleKeys = record { keyids = c.in-Some.keys.now.keyids; threshold = c.args.threshold; _extra = c.in-Some.keys.now._extra } in
    ap (λ (rs : Roles). record (root_doc c.args.root.now) { roles = rs })
    (ap roles_doc (c.get_mut.follows.holds w).0 ∙ set_roles c.args.role c.args.root.now.roles.entries c.in-Some.keys.now w (with_threshold (non_zero_u64_get c.args.threshold)) (sym c.in-Some.ensures.value) refl)

pub returns-in-Some-clause-there : goal.returns-in-Some-clause-there
returns-in-Some-clause-there c = ap is_some (role_is c.args.root.now c.args.role (Some c.in-Some.keys.now) c.in-Some.ensures.value)

pub returns-in-None-clause-refused : goal.returns-in-None-clause-refused
returns-in-None-clause-refused c = (refl, role_is c.args.root.now c.args.role None c.in-None.ensures.value)

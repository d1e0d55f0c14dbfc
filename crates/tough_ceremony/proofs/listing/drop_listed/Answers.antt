use Rattle.std.proofs.Common.{List, sym, ap, ◌∙◌}
use Rattle.tough_decoded.specs.Spelled.{Spelled}
use Rattle.tough_roles.specs.Root.{role_keys_doc, roles_doc}
use Rattle.tough_roles.specs.declared.root.RoleKeys.{RoleKeys}
use Rattle.tough_ceremony.specs.Listing.{with_keyids, not_listed}
use Rattle.tough_ceremony.proofs.Rolls.{set_roles, no_roles}
use Rattle.tough_ceremony.proofs.listing.drop_listed.Goals as goal

pub returns-in-Some : goal.returns-in-Some
returns-in-Some c =
    let w : RoleKeys = record { keyids = c.drop_keyid.new.keyids; threshold = c.in-Some.keys.now.threshold; _extra = c.in-Some.keys.now._extra } in
    ap roles_doc (c.get_mut.follows.holds w).0
    ∙ set_roles c.args.role c.args.roles.now.entries c.in-Some.keys.now w (not_listed c.args.id.now) (sym c.in-Some.ensures.value) (ap (λ (ids : List Spelled). with_keyids ids (role_keys_doc c.in-Some.keys.now)) c.drop_keyid.ensures)

pub returns-in_default : goal.returns-in_default
returns-in_default c = ap (λ m. roles_doc m.entries) c.get_mut.follows.holds-at-none ∙ sym (no_roles c.args.role c.args.roles.now.entries (not_listed c.args.id.now) (sym c.in_default.ensures.value))

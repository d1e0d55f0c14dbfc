use Rattle.std.proofs.Common.{sym, ap, ◌∙◌}
use Rattle.std.specs.Global.{Vec}
use Rattle.tough_decoded.specs.Spelled.{Spelled}
use Rattle.tough_roles.specs.Root.{role_keys_doc, roles_doc}
use Rattle.tough_roles.specs.declared.root.RoleKeys.{RoleKeys}
use Rattle.tough_ceremony.specs.Listing.{with_keyids}
use Rattle.tough_ceremony.proofs.Rolls.{set_roles, no_roles}
use Rattle.tough_ceremony.proofs.listing.put_keyids.Goals as goal

pub returns-in-Some : goal.returns-in-Some
returns-in-Some c =
    let w : RoleKeys = record { keyids = c.replace-old.new.dest; threshold = c.in-Some.keys.now.threshold; _extra = c.in-Some.keys.now._extra } in
    ap roles_doc (c.get_mut.follows.holds w).0
    ∙ set_roles c.args.role c.args.roles.now.entries c.in-Some.keys.now w (with_keyids c.args.keyids.items) (sym c.in-Some.ensures.value) (ap (λ (v : Vec Spelled). with_keyids v.items (role_keys_doc c.in-Some.keys.now)) c.replace-old.ensures.after)

pub returns-in_default : goal.returns-in_default
returns-in_default c = ap (λ m. roles_doc m.entries) c.get_mut.follows.holds-at-none ∙ sym (no_roles c.args.role c.args.roles.now.entries (with_keyids c.args.keyids.items) (sym c.in_default.ensures.value))

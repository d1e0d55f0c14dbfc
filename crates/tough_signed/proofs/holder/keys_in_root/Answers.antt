use Rattle.std.proofs.Common.{Some, option_map, ap, sym, ◌∙◌}
use Rattle.std.specs.BTreeMap.{is_at}
use Rattle.tough_roles.specs.Roles.{role_cmp}
use Rattle.tough_roles.specs.Root.{role_keys_doc}
use Rattle.tough_signed.proofs.Looking.{roles_at}
use Rattle.tough_signed.proofs.holder.keys_in_root.Goals as goal

pub returns-in_ok-clone-in-Some : goal.returns-in_ok-clone-in-Some
returns-in_ok-clone-in-Some c =
    ap Some c.in_ok-clone-in-Some.ensures.cases ∙ (ap (option_map role_keys_doc) c.in-Some.ensures.value ∙ sym (roles_at (is_at (role_cmp c.args.role)) c.args.root.now.roles.entries))

pub returns-in-None : goal.returns-in-None
returns-in-None c = ap (option_map role_keys_doc) c.in-None.ensures.value ∙ sym (roles_at (is_at (role_cmp c.args.role)) c.args.root.now.roles.entries)

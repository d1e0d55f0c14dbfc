use Rattle.std.proofs.Common.{option_map, sym, ap, ◌∙◌}
use Rattle.tough_keys.specs.Key.{key_doc}
use Rattle.tough_roles.specs.Root.{keys_doc}
use Rattle.tough_roles.proofs.lemmas.Entry.{get-keys_doc}
use Rattle.tough_checks.proofs.Rotated.{key_in-at}
use Rattle.tough_checks.proofs.rotation.key_at.Goals as goal

pub returns-in-Some : goal.returns-in-Some
returns-in-Some c =
    let es = c.args.root.now.keys.entries in
    let id = c.in-Some.id.now in
    let there = c.in-Some.ensures.lookup.3 in
    ap (option_map key_doc) c.get-in-Some.ensures.value ∙ (sym (get-keys_doc es id) ∙ sym (key_in-at (keys_doc es) c.args.ids.now c.args.place id there.0 (there.1 id)))

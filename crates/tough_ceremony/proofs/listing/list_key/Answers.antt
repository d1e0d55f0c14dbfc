use Rattle.std.proofs.Common.{List, ap, ap₂, ◌∙◌}
use Rattle.std.specs.BTreeMap.{insert_entry}
use Rattle.tough_decoded.specs.Spelled.{Spelled}
use Rattle.tough_keys.specs.Key.{key_doc}
use Rattle.tough_roles.specs.Root.{root_doc, roles_doc, keys_doc, by_bytes}
use Rattle.tough_sign.specs.Making.{Known}
use Rattle.tough_sign.specs.Listing.{in_digits}
use Rattle.tough_ceremony.specs.Listing.{Roles, with_keyids, and_listed}
use Rattle.tough_ceremony.proofs.Rolls.{same_change}
use Rattle.tough_ceremony.proofs.listing.list_key.Goals as goal

pub returns-clause-listed : goal.returns-clause-listed
returns-clause-listed c =
    let p = c.in_ok-id.ensures.place in
    let r = c.args.root.now in
    record {
      id = p.0;
      own = p.1;
      free = p.3;
      put = ap₂ (λ (ks : Known) (rs : Roles). record (root_doc r) { keys = ks; roles = rs })
          (c.in_ok-put_key.ensures.put ∙ ap (λ (i : Spelled). insert_entry by_bytes (keys_doc r.keys.entries) i (key_doc c.args.key)) p.2)
          (c.put_keyids.ensures ∙ same_change c.args.role (roles_doc r.roles.entries) p.3.keys (with_keyids c.in_ok-id.keyids.items) (and_listed (in_digits p.0)) p.3.there (ap (λ (l : List Spelled). with_keyids l p.3.keys) p.4));
    }

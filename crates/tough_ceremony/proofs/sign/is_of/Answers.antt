use Rattle.std.proofs.Common.{sym, ap, option_map, ◌∙◌}
use Rattle.tough_keys.specs.Key.{key_doc}
use Rattle.tough_roles.proofs.lemmas.Entry.{get-keys_doc}
use Rattle.tough_ceremony.specs.Signing.{equals}
use Rattle.tough_ceremony.proofs.sign.is_of.Goals as goal

pub returns-in-Some : goal.returns-in-Some
returns-in-Some c = c.eq.ensures ∙ sym (ap (equals (key_doc c.args.key.now)) (get-keys_doc c.args.known.now.entries c.args.id.now ∙ ap (option_map key_doc) (sym c.in-Some.ensures.value)))

pub returns-in-None : goal.returns-in-None
returns-in-None c = sym (ap (equals (key_doc c.args.key.now)) (get-keys_doc c.args.known.now.entries c.args.id.now ∙ ap (option_map key_doc) (sym c.in-None.ensures.value)))

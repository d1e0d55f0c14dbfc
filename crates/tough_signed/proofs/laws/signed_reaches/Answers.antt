use Rattle.std.proofs.Common.{◌≡◌, Option, Some, None, option_map, refl, ap, ◌∙◌}
use Rattle.tough_roles.specs.Policy.{policy_of}
use Rattle.tough_roles.specs.Signature.{signatures_doc}
use Rattle.tough_schema.specs.Verify.{role_named, role_keys}
use Rattle.tough_signed.proofs.laws.signed_reaches.Goals as goal

mapped : {A B C : Type 0} (f : A → B) (h : B → C) (o : Option A) → option_map (λ a. h (f a)) o ≡ option_map h (option_map f o)
mapped f h None = refl
mapped f h (Some a) = refl

pub returns-clause-root : goal.returns-clause-root
returns-clause-root g c v r type signers s strict sorted well h = record {
  asked = policy_of r.keys h.asked;
  there = ap (option_map (policy_of r.keys)) h.there;
  text = h.text;
  canonical = h.canonical;
  reached = c.signatures_reach.ensures v r.keys h.asked signers h.text (signatures_doc s.signatures.items) sorted well h.made (h.enough strict);
}

pub returns-clause-delegated : goal.returns-clause-delegated
returns-clause-delegated g c v d name signers s strict sorted well h = record {
  asked = policy_of d.keys h.asked;
  there = mapped role_keys (policy_of d.keys) (role_named name d.roles) ∙ ap (option_map (policy_of d.keys)) h.there;
  text = h.text;
  canonical = h.canonical;
  reached = c.signatures_reach.ensures v d.keys h.asked signers h.text (signatures_doc s.signatures.items) sorted well h.made (h.enough strict);
}

use Rattle.std.proofs.Common.{List, ℕ, Some, None, refl, subst}
use Rattle.tough_roles.specs.Root.{root_doc, role_keys_doc, root_json, keys_doc}
use Rattle.tough_roles.specs.Signature.{signed_doc, signatures_doc}
use Rattle.tough_roles.specs.declared.role_type.RoleType.TheVariants as types
use Rattle.tough_roles.specs.declared.signature.Signature.{Signature}
use Rattle.tough_ceremony.specs.Tallying.{IsTallyOf, is_reached}
use Rattle.tough_ceremony.proofs.Rolls.{role_is}
use Rattle.tough_ceremony.proofs.Counting.{reached_by, reached_is}
use Rattle.tough_ceremony.proofs.tally.tally_root.Goals as goal

pub returns-in_default-clause-refused : goal.returns-in_default-clause-refused
returns-in_default-clause-refused g c = (refl, role_is c.args.by.now types.Root None c.in_default.ensures.value)

pub returns-clause-tally : goal.returns-clause-tally
returns-clause-tally g c =
    let v = g.V.Verify.verifies c.args.verifier.now in
    let known = keys_doc c.args.by.now.keys.entries in
    let asked = role_keys_doc c.in-Some.keys.now in
    record {
      asked = asked;
      there = role_is c.args.by.now types.Root (Some c.in-Some.keys.now) c.in-Some.ensures.value;
      text = c.in_ok-text.text.items;
      canonical = c.in_ok-text.ensures.text;
      tally = subst (λ (t : List ℕ). IsTallyOf v known asked t (signatures_doc c.args.document.now.signatures.items) c.in_ok-tally.tally) c.as_slice-text.ensures.value
          (subst (λ (ss : List Signature). IsTallyOf v known asked c.as_slice-text.result.now (signatures_doc ss) c.in_ok-tally.tally) c.deref.ensures.value c.in_ok-tally.ensures);
    }

pub returns-clause-reached : goal.returns-clause-reached
returns-clause-reached g c =
    let v = g.V.Verify.verifies c.args.verifier.now in
    let known = keys_doc c.args.by.now.keys.entries in
    let asked = role_keys_doc c.in-Some.keys.now in
    let ss = signatures_doc c.args.document.now.signatures.items in
    let text = c.in_ok-text.text.items in
    let made : IsTallyOf v known asked text ss c.in_ok-tally.tally = subst (λ (t : List ℕ). IsTallyOf v known asked t ss c.in_ok-tally.tally) c.as_slice-text.ensures.value
    (subst (λ (ss : List Signature). IsTallyOf v known asked c.as_slice-text.result.now (signatures_doc ss) c.in_ok-tally.tally) c.deref.ensures.value c.in_ok-tally.ensures) in
    reached_is v (root_doc c.args.by.now) (λ r. root_json (root_doc r)) (signed_doc (λ r. r) c.args.document.now) asked text (is_reached c.in_ok-tally.tally)
    (role_is c.args.by.now types.Root (Some c.in-Some.keys.now) c.in-Some.ensures.value) c.in_ok-text.ensures.text (reached_by v known asked text ss c.in_ok-tally.tally made)

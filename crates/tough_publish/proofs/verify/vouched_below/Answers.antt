use Rattle.std.proofs.Common.{is_some, ap, sym, subst, inl, inr}
use Rattle.tough_schema.specs.Whole.{tree_doc, held_doc, delegations_tree}
use Rattle.tough_schema.proofs.lemmas.Wholes.{held-below}
use Rattle.tough_release.specs.Closing.{IsLost}
use Rattle.tough_publish.specs.Verifying.{IsUnvouchedBelow}
use Rattle.tough_publish.proofs.Verdicts.{missing_is, vouched_by, unverified_by}
use Rattle.tough_publish.proofs.verify.vouched_below.Goals as goal

pub returns-in-Err-clause-refused : goal.returns-in-Err-clause-refused
returns-in-Err-clause-refused g c =
    let name = c.args.name.now in
    let t = tree_doc c.args.targets.now in
    subst (IsUnvouchedBelow (g.V.Verify.verifies c.args.verifier.now) t name c.args.document.now) (sym c.missing.ensures) (inl (missing_is c.in_ok-role.role name (IsLost name t) c.in-Err.source c.in_ok-role.ensures.ok (inl c.in-Err.ensures.refused)))

pub returns-in-Err-delegated_targets-clause-refused : goal.returns-in-Err-delegated_targets-clause-refused
returns-in-Err-delegated_targets-clause-refused g c =
    let name = c.args.name.now in
    let t = tree_doc c.args.targets.now in
    subst (IsUnvouchedBelow (g.V.Verify.verifies c.args.verifier.now) t name c.args.document.now) (sym c.missing-in-Err-delegated_targets.ensures)
    (inl (missing_is c.in_ok-role.role name (IsLost name t) c.in-Err-delegated_targets.source c.in_ok-role.ensures.ok (inr (ap is_some c.in-Ok.ensures.found, c.in-Err-delegated_targets.ensures.refused))))

pub returns-in-Ok-verify_by-clause-vouched : goal.returns-in-Ok-verify_by-clause-vouched
returns-in-Ok-verify_by-clause-vouched g c = record {
  delegations = delegations_tree c.in-Ok.parent.now;
  under = c.in-Ok.ensures.found;
  document = held_doc c.in-Ok-delegated_targets.held.now;
  held = c.in-Ok-delegated_targets.ensures.found;
  is = sym (held-below c.in-Ok-delegated_targets.held.now);
  reached = vouched_by (g.V.Verify.verifies c.args.verifier.now) c.in-Ok.parent.now c.args.name.now c.args.document.now c.in-Ok-verify_by.ensures.vouched;
}

pub returns-clause-refused : goal.returns-clause-refused
returns-clause-refused g c = inr (
  delegations_tree c.in-Ok.parent.now,
  c.in-Ok.ensures.found,
  ap is_some c.in-Ok-delegated_targets.ensures.found,
  unverified_by (g.V.Verify.verifies c.args.verifier.now) c.in-Ok.parent.now c.args.name.now c.args.document.now c.in-Err-verify_by.error c.in-Err-verify_by.ensures.refused,
)

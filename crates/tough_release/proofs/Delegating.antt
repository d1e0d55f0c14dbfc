-- A document that delegates.
use Rattle.std.proofs.Common.{◌≡◌, ℕ, List, [], map, Some, Result, Ok, Err, OnOk, IfErr, IsTrue, is_some, inr, ap, ◌∙◌}
use Rattle.tough_signed.specs.declared.error.EditError.{EditError}
use Rattle.tough_decoded.specs.Spelled.{Spelled}
use Rattle.tough_keys.specs.Key.{KeyDoc}
use Rattle.tough_roles.specs.declared.signed.Signed.{Signed}
use Rattle.tough_schema.specs.Whole.{held_doc}
use Rattle.tough_schema.specs.declared.targets.DelegatedTargets.{DelegatedTargets}
use Rattle.tough_sign.specs.Making.{Known}
use Rattle.tough_edit.specs.Edits.{EditsDoc}
use Rattle.tough_edit.specs.Roles.{delegated_to, with_role}
use Rattle.tough_edit.specs.Signed.{IsCreated}
use Rattle.tough_edit.specs.Signers.{AreIds, own_keys}
use Rattle.tough_release.specs.Changes.{HasDelegations, IsUndelegating, NewRole, new_document, IsDelegated, IsUndelegatable}
use Rattle.tough_release.specs.Edits.{ReleaseDoc, at_editor}

pub delegates : (r : Result (Unit {0}) EditError) (e : ReleaseDoc) (o : EditsDoc) → e.editor ≡ Some o → OnOk r (IsTrue (is_some o.keys)) → OnOk r (HasDelegations e)
delegates (Ok x) e o is h = (o, is, h)
delegates (Err error) e o is h = h

module _ {S : Type 0} (key_of : S → KeyDoc) (signs : S → List ℕ → List ℕ → Type 0) (fails : S → List ℕ → Type 0) (signers : List S) (role : NewRole) (e : ReleaseDoc) (d : Signed DelegatedTargets) where
  pub delegated_is : (ids : List Spelled) (shown : Known) (after : ReleaseDoc) (r : Result (Unit {0}) EditError) → IsCreated key_of signs (new_document role.name role.version role.expires) signers d → AreIds (map key_of signers) ids → shown ≡ own_keys [] (map key_of signers)
      → OnOk r (after ≡ at_editor (with_role shown (delegated_to (held_doc d) role.paths role.terminating ids role.threshold)) e) → OnOk r (HasDelegations e) → OnOk r (IsDelegated key_of signs role signers e after)
  delegated_is ids shown after (Ok u) created own same is there = record {
    document = d;
    created = created;
    ids = ids;
    own = own;
    there = there;
    added = is ∙ ap (λ (known : Known). at_editor (with_role known (delegated_to (held_doc d) role.paths role.terminating ids role.threshold)) e) same;
  }
  delegated_is ids shown after (Err error) created own same is there = there

  pub undelegatable : (r : Result (Unit {0}) EditError) → IsCreated key_of signs (new_document role.name role.version role.expires) signers d → IfErr r (IsUndelegating e) → IfErr r (IsUndelegatable key_of signs fails role signers e)
  undelegatable (Ok u) created h = h
  undelegatable (Err error) created h = inr (record { document = d; created = created; refused = h })

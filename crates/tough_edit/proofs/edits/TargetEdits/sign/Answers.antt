use Rattle.std.proofs.Common.{rules, List, map, inl, inr, sym, subst}
use Rattle.tough_schema.specs.declared.delegations.DelegatedRole.{DelegatedRole}
use Rattle.tough_schema.specs.Whole.{role_tree}
use Rattle.tough_signed.specs.Standing.{AllStanding}
use Rattle.tough_edit.specs.Edits.{edits_doc}
use Rattle.tough_edit.specs.Signed.{IsCreated, SomeUnstanding}
use Rattle.tough_edit.proofs.edits.TargetEdits.sign.Goals as goal

pub returns-in-Err-clause-refused : goal.returns-in-Err-clause-refused
returns-in-Err-clause-refused g c = inr (c.in_ok-document.document, c.in_ok-document.ensures.signed, inl c.in-Err.ensures.refused)

pub returns-clause-signed : goal.returns-clause-signed
returns-clause-signed g c =
    record {
      first = c.in-Ok.first;
      rest = c.in-Ok-all_standing.rest.items;
      whole = search rules;
      created = subst (IsCreated g.S.Sign.key g.S.Sign.signs (edits_doc c.args.self.now) c.args.signers.now) (sym c.in-Ok.ensures.signed) c.in_ok-document.ensures.signed;
      file = c.in-Ok.ensures.file;
      standing = subst (λ (rs : List DelegatedRole). AllStanding (map role_tree rs) c.in-Ok-all_standing.rest.items) c.deref.ensures.value c.in-Ok-all_standing.ensures.standing;
    }

pub returns-in-Err-all_standing-clause-refused : goal.returns-in-Err-all_standing-clause-refused
returns-in-Err-all_standing-clause-refused g c =
    let standing = subst (λ (rs : List DelegatedRole). SomeUnstanding (map role_tree rs) c.in-Err-all_standing.error) c.deref.ensures.value c.in-Err-all_standing.ensures.refused in
    inr (c.in_ok-document.document, c.in_ok-document.ensures.signed, inr standing)

use Rattle.std.proofs.Common.{rules, ◌≡◌, Some, string_bytes, ap, sym, ◌∙◌}
use Rattle.tough_roles.specs.Timestamp.{metafile_doc}
use Rattle.tough_schema.specs.declared.delegations.DelegatedRole.{out-DelegatedRole}
use Rattle.tough_schema.proofs.lemmas.Wholes.{role-named}
use Rattle.tough_trust.specs.Requests.{role_request}
use Rattle.tough_trust.specs.View.{request_doc}
use Rattle.tough_update.specs.Delegated.{metas_in}
use Rattle.tough_update.specs.delegations.Growing.{listed_as}
use Rattle.tough_client.specs.Repositories.{documents_of, limits_of}
use Rattle.tough_lazy.proofs.role.listing_of.Goals as goal

pub returns-clause-listed : goal.returns-clause-listed
returns-clause-listed g c =
    let r = c.args.wanted.now.role.now in
    let own = string_bytes (out-DelegatedRole r).name in
    let k = (documents_of c.args.repository.now).known in
    let m = metafile_doc c.in-Some.entry.now in
    let named : string_bytes c.in_ok-role.role ≡ own = search rules in
    let listed : Some m ≡ listed_as (metas_in k) own = search rules in
    let asked : request_doc c.in_ok-request.request ≡ role_request (limits_of c.args.repository.now) k.root.role.consistent_snapshot own m = search rules in
    record {
      entry = m;
      listed = ap (listed_as (metas_in k)) (role-named r) ∙ sym listed;
      role = named ∙ sym (role-named r);
      version = search rules;
      request = asked ∙ ap (λ n. role_request (limits_of c.args.repository.now) k.root.role.consistent_snapshot n m) (sym (role-named r));
    }

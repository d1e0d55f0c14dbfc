use Rattle.std.proofs.Common.{rules, ◌≡◌, ℕ, List, [], ◌∷◌, ◌++◌, string_bytes, map, ap, ◌∙◌}
use Rattle.std.proofs.lemmas.List.{map_push}
use Rattle.std.specs.Int.NonZero.{non_zero_u64_get}
use Rattle.tough_decoded.specs.Spelled.{Spelled}
use Rattle.tough_schema.specs.Delegations.{DelegatedRoleDoc, delegated_role_doc}
use Rattle.tough_schema.specs.Paths.{paths_doc}
use Rattle.tough_schema.specs.declared.delegations.Delegations.{out-Delegations, out-roll-Delegations}
use Rattle.tough_schema.specs.declared.delegations.DelegatedRole.{out-roll-DelegatedRole}
use Rattle.tough_demo.proofs.roles.delegate.Goals as goal

pub returns : goal.returns
returns c =
    let id : Spelled = c.in_ok-keyid.keyid in
    let same : c.in_ok-clone.field-0 ≡ id = search rules in
    let named : string_bytes c.in_ok-from_str.field-0 ≡ c.args.name.now = search rules in
    let held : c.push.new.self.items ≡ c.in_ok-clone.field-0 ∷ [] = search rules in
    let known : List DelegatedRoleDoc = map delegated_role_doc (out-Delegations c.args.delegations.now).roles.items in
    let doc : List ℕ → List Spelled → DelegatedRoleDoc =
    λ n ids. record { name = n; keyids = ids; threshold = 1; paths = paths_doc c.args.paths; terminating = c.args.terminating } in
    let more : (ds es : List DelegatedRoleDoc) (d : DelegatedRoleDoc) → ds ≡ es → ds ++ d ∷ [] ≡ es ++ d ∷ [] = λ ds es d e. ap (λ l. l ++ d ∷ []) e in
    record {
      id = id;
      key = c.in_ok-key.key;
      is_of_name = search rules;
      identifier = search rules;
      keys = ap (λ f. f.keys.entries) (out-roll-Delegations _) ∙ ap (λ f. f.keys.entries) (out-roll-Delegations _) ∙ c.in_ok-insert.ensures.entries;
      roles = ap (λ f. map delegated_role_doc f.roles.items) (out-roll-Delegations _)
          ∙ ap (map delegated_role_doc) c.in_ok-push-2.ensures.items ∙ map_push delegated_role_doc _ _
          ∙ more _ _ _ (ap (λ f. map delegated_role_doc f.roles.items) (out-roll-Delegations _))
          ∙ ap (λ f. known ++ record { name = string_bytes f.name; keyids = f.keyids.items; threshold = non_zero_u64_get f.threshold; paths = paths_doc f.paths; terminating = f.terminating } ∷ []) (out-roll-DelegatedRole _)
          ∙ ap (λ n. known ++ doc n c.push.new.self.items ∷ []) named
          ∙ ap (λ ids. known ++ doc c.args.name.now ids ∷ []) (held ∙ ap (λ d. d ∷ []) same);
    }

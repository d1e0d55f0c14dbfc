-- A root that reaches under itself can be stored.
use Rattle.std.proofs.Common.{◌≡◌, ◌≢◌, Some, None, Ok, ap, ◌∙◌}
use Rattle.tough_keys.specs.Same.{Verifies}
use Rattle.tough_roles.specs.Chain.{ReachesUnder, text_by}
use Rattle.tough_roles.specs.Root.{RootDoc, root_json}
use Rattle.tough_roles.specs.Signature.{SignedDoc, AreSpelled}
use Rattle.tough_roles.specs.Verdict.{MissingRole, verdict}
use Rattle.tough_roles.specs.declared.role_type.RoleType.TheVariants as types
use Rattle.tough_roles.proofs.lemmas.Reached.{reaches-to}
use Rattle.tough_roles.proofs.lemmas.Written.{verified-written}
use Rattle.tough_checks.specs.Documents.{root_text}
use Rattle.tough_json.proofs.lemmas.Write.{some_apart}

pub root-stored : (v : Verifies) (s : SignedDoc RootDoc) → ReachesUnder v s.role types.Root root_json s → AreSpelled s.signatures → root_text s ≢ None
root-stored v s r spelled none =
    let ok : verdict v (MissingRole types.Root) types.Root (Some r.asked) (text_by root_json s.role) s.signatures ≡ Ok tt =
    ap (λ t. verdict v (MissingRole types.Root) types.Root (Some r.asked) t s.signatures) r.canonical ∙ reaches-to v (MissingRole types.Root) types.Root r.asked r.text s.signatures r.reached in
    let t = verified-written v (MissingRole types.Root) types.Root (Some r.asked) (root_json s.role) s.signatures ok spelled in
    some_apart (root_text s) t.0 t.1 none

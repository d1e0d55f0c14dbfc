-- The verdict under delegations, case by case.
use Rattle.std.proofs.Common.{◌≡◌, ℕ, List, ◌∷◌, map, true, false, Option, Some, None, Result, Ok, Err, get_or, drop, length, ◌<◌, ◌+◌, IfOk, if◌then◌else◌, refl, sym, ap, subst, ◌∙◌}
use Rattle.std.proofs.lemmas.List.{drop_more}
use Rattle.std.specs.Str.{bytes_eq}
use Rattle.serde_json.specs.Data.{Data}
use Rattle.tough_keys.specs.Same.{Verifies}
use Rattle.tough_roles.specs.Signature.{SignedDoc}
use Rattle.tough_roles.specs.Policy.{Policy}
use Rattle.tough_roles.specs.Chain.{text_by}
use Rattle.tough_roles.specs.declared.role_type.RoleType.{RoleType}
use Rattle.tough_roles.specs.Verdict.{RoleNotFound, verdict, Answers, IsRefusal, IsOkOrMemory}
use Rattle.tough_roles.specs.declared.error.Error.{Error}
use Rattle.tough_roles.specs.declared.error.Error.TheVariants as errors
use Rattle.tough_roles.proofs.lemmas.Reached.{reaches-from, reaches-to}
use Rattle.tough_schema.specs.declared.delegations.DelegatedRole.{DelegatedRole}
use Rattle.tough_schema.specs.Delegations.{DelegationsDoc, delegated_role_doc}
use Rattle.tough_schema.specs.Verify.{role_named, delegated_policy, ReachesDelegated}

-- ---- the first role of the name

named_drop : (name : List ℕ) (rs : List DelegatedRole) (i : ℕ) (r : DelegatedRole) → i < length rs → r ≡ get_or rs i r
    → role_named name (map delegated_role_doc (drop i rs)) ≡ (if bytes_eq (delegated_role_doc r).name name then Some (delegated_role_doc r) else role_named name (map delegated_role_doc (drop (i + 1) rs)))
named_drop name rs i r h e =
    let rest : drop i rs ≡ r ∷ drop (i + 1) rs = drop_more rs i r h ∙ ap (λ y. y ∷ drop (i + 1) rs) (sym e) in
    ap (λ (l : List DelegatedRole). role_named name (map delegated_role_doc l)) rest

pub named-here : (name : List ℕ) (rs : List DelegatedRole) (i : ℕ) (r : DelegatedRole) → i < length rs → r ≡ get_or rs i r → bytes_eq (delegated_role_doc r).name name ≡ true
    → role_named name (map delegated_role_doc (drop i rs)) ≡ Some (delegated_role_doc r)
named-here name rs i r h e t = named_drop name rs i r h e ∙ ap (λ b. if b then Some (delegated_role_doc r) else role_named name (map delegated_role_doc (drop (i + 1) rs))) t

pub named-next : (name : List ℕ) (rs : List DelegatedRole) (i : ℕ) (r : DelegatedRole) → i < length rs → r ≡ get_or rs i r → bytes_eq (delegated_role_doc r).name name ≡ false
    → role_named name (map delegated_role_doc (drop i rs)) ≡ role_named name (map delegated_role_doc (drop (i + 1) rs))
named-next name rs i r h e t = named_drop name rs i r h e ∙ ap (λ b. if b then Some (delegated_role_doc r) else role_named name (map delegated_role_doc (drop (i + 1) rs))) t

-- ---- the verdict

ok_at : {A : Type 0} (v : Verifies) (holder : DelegationsDoc) (name : List ℕ) (type : RoleType) (json : A → Option Data) (s : SignedDoc A) (p : Option Policy) (text : Option (List ℕ)) → delegated_policy holder name ≡ p → text_by json s.role ≡ text → verdict v (RoleNotFound name) type p text s.signatures ≡ Ok tt → ReachesDelegated v holder name json s
unfolding verdict
ok_at v holder name type json s None text e f h = cc
ok_at v holder name type json s (Some p) None e f h = cc
ok_at v holder name type json s (Some p) (Some t) e f h = record { asked = p; there = e; text = t; canonical = f; reached = reaches-from v (RoleNotFound name) type p t s.signatures h }

pub ok-delegated : {A : Type 0} (v : Verifies) (holder : DelegationsDoc) (name : List ℕ) (type : RoleType) (json : A → Option Data) (s : SignedDoc A) (result : Result Unit Error) → Answers result (verdict v (RoleNotFound name) type (delegated_policy holder name) (text_by json s.role) s.signatures) → IfOk result (λ u. ReachesDelegated v holder name json s)
ok-delegated v holder name type json s (Ok u) h = ok_at v holder name type json s (delegated_policy holder name) (text_by json s.role) refl refl h
ok-delegated v holder name type json s (Err e) h = tt

reached_ok : {A : Type 0} (v : Verifies) (holder : DelegationsDoc) (name : List ℕ) (type : RoleType) (json : A → Option Data) (s : SignedDoc A) → ReachesDelegated v holder name json s → verdict v (RoleNotFound name) type (delegated_policy holder name) (text_by json s.role) s.signatures ≡ Ok tt
reached_ok v holder name type json s r =
    ap (λ p. verdict v (RoleNotFound name) type p (text_by json s.role) s.signatures) r.there ∙ ap (λ t. verdict v (RoleNotFound name) type (Some r.asked) t s.signatures) r.canonical ∙ reaches-to v (RoleNotFound name) type r.asked r.text s.signatures r.reached

no_refusal : (e : Error) → IsRefusal e (Ok tt) → IsOkOrMemory (Err e)
no_refusal (errors.RoleNotFound name) h = cc
no_refusal (errors.MissingRole role) h = cc
no_refusal (errors.JsonSerialization role) h = cc
no_refusal (errors.DuplicateKeyId keyid) h = cc
no_refusal (errors.SignatureThreshold role threshold valid) h = cc
no_refusal errors.Memory h = tt
no_refusal _ h = absurd h

not_refused : (result : Result Unit Error) → Answers result (Ok tt) → IsOkOrMemory result
not_refused (Ok u) h = tt
not_refused (Err e) h = no_refusal e h

pub delegated-ok : {A : Type 0} (v : Verifies) (holder : DelegationsDoc) (name : List ℕ) (type : RoleType) (json : A → Option Data) (s : SignedDoc A) (result : Result Unit Error) → Answers result (verdict v (RoleNotFound name) type (delegated_policy holder name) (text_by json s.role) s.signatures) → ReachesDelegated v holder name json s → IsOkOrMemory result
delegated-ok v holder name type json s result h r = not_refused result (subst (Answers result) (reached_ok v holder name type json s r) h)

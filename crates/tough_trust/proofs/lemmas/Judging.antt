-- Targets that were judged.
use Rattle.std.specs.Prelude.{◌≡◌, ℕ, ℤ, ◌==◌, List, Option, Some, None, Bool, false, not, Ok}
use Rattle.std.proofs.Common.{refl, sym, ap, ◌∙◌}
use Rattle.std.proofs.lemmas.Bool.{eqb-true}
use Rattle.tough_keys.specs.Same.{Verifies}
use Rattle.tough_roles.specs.Signature.{SignedDoc}
use Rattle.tough_roles.specs.Policy.{Policy}
use Rattle.tough_roles.specs.Verdict.{RoleNotFound, verdict}
use Rattle.tough_roles.specs.Chain.{text_by}
use Rattle.tough_roles.specs.declared.role_type.RoleType.TheVariants as role
use Rattle.tough_roles.proofs.lemmas.Reached.{reaches-from}
use Rattle.tough_schema.specs.Delegations.{DelegationsDoc}
use Rattle.tough_schema.specs.Targets.{TargetsDoc, targets_json}
use Rattle.tough_schema.specs.Verify.{delegated_policy, ReachesDelegated}
use Rattle.tough_schema.specs.Whole.{TreeDoc}
use Rattle.tough_trust.specs.delegations.Bare.{bare}
use Rattle.tough_checks.specs.Checks.{refuse, or_else, VersionMismatch, expiry, is_expired, verified}
use Rattle.tough_trust.specs.Failure.{ParseMetadata}
use Rattle.tough_trust.specs.Outcomes.{if_read, holds_json, unrefused, and_then}
use Rattle.tough_trust.specs.Listed.{targets_in, HolderDoc, targets_verdict, targets_refusal, parsed, judged}
use Rattle.tough_trust.proofs.lemmas.Passing.{or_first, or_second, not_refused, is_verified, not-expired, and_then-ok, ok-same, if_read-ok, unrefused-ok}

-- targets that were read and checked
pub judged-after : (v : Verifies) (enforced : Bool) (start : ℤ) (holder : HolderDoc) (listed : ℕ) (bytes : List ℕ) (page : SignedDoc TargetsDoc) → parsed bytes ≡ Ok page
    → targets_refusal v enforced start holder listed page ≡ None → judged v enforced start holder listed bytes ≡ Ok (bare page)
judged-after v enforced start holder listed bytes page h k =
    ap (λ o. and_then o (λ d. unrefused (targets_refusal v enforced start holder listed d) (bare d))) h
    ∙ ap (λ o. unrefused o (bare page)) k

-- the same by what the bytes are
pub judged-to : (v : Verifies) (enforced : Bool) (start : ℤ) (holder : HolderDoc) (listed : ℕ) (bytes : List ℕ) (page : SignedDoc TargetsDoc) → targets_in bytes ≡ Some page
    → targets_refusal v enforced start holder listed page ≡ None → judged v enforced start holder listed bytes ≡ Ok (bare page)
judged-to v enforced start holder listed bytes page h k =
    judged-after v enforced start holder listed bytes page (ap (λ o. if_read (ParseMetadata role.Targets (holds_json bytes)) o (λ d. Ok d)) h) k

-- targets that passed their checks
checked-ok : (verifies : Verifies) (enforced : Bool) (start : ℤ) (holder : HolderDoc) (listed : ℕ) (d : SignedDoc TargetsDoc) → targets_refusal verifies enforced start holder listed d ≡ None
    → (targets_verdict verifies holder d ≡ Ok (tt {0})) × (d.role.head.version ≡ listed) × (is_expired enforced start d.role.head.expires ≡ false)
checked-ok verifies enforced start holder listed d h =
    let mismatch = VersionMismatch role.Targets d.role.head.version listed in
    let expiring = expiry role.Targets enforced start d.role.head.expires in
    let later = or_second (verified role.Targets (targets_verdict verifies holder d)) (or_else (refuse (not (d.role.head.version == listed)) mismatch) (or_else expiring None)) h in (
      is_verified role.Targets (targets_verdict verifies holder d) (or_first _ _ h),
      eqb-true _ _ (not_refused (d.role.head.version == listed) mismatch (or_first _ _ later)),
      not-expired role.Targets enforced start d.role.head.expires (or_first _ _ (or_second (refuse (not (d.role.head.version == listed)) mismatch) (or_else expiring None) later)),
    )

-- targets that were read and passed
pub record Passed (verifies : Verifies) (enforced : Bool) (start : ℤ) (holder : HolderDoc) (listed : ℕ) (bytes : List ℕ) (d : SignedDoc TreeDoc) : Type 0 where
  pub page : SignedDoc TargetsDoc
  pub is : d ≡ bare page
  pub reading : targets_in bytes ≡ Some page
  pub verified : targets_verdict verifies holder page ≡ Ok (tt {0})
  pub version : page.role.head.version ≡ listed
  pub in_time : is_expired enforced start page.role.head.expires ≡ false

pub judged-ok : (verifies : Verifies) (enforced : Bool) (start : ℤ) (holder : HolderDoc) (listed : ℕ) (bytes : List ℕ) (d : SignedDoc TreeDoc) → judged verifies enforced start holder listed bytes ≡ Ok d
    → Passed verifies enforced start holder listed bytes d
judged-ok verifies enforced start holder listed bytes d h =
    let a = and_then-ok (parsed bytes) (λ x. unrefused (targets_refusal verifies enforced start holder listed x) (bare x)) d h in
    let r = if_read-ok (ParseMetadata role.Targets (holds_json bytes)) (targets_in bytes) (λ x. Ok x) a.0 a.1 in
    let p = unrefused-ok (targets_refusal verifies enforced start holder listed r.0) (bare r.0) d (ap (λ x. unrefused (targets_refusal verifies enforced start holder listed x) (bare x)) (ok-same r.0 a.0 (Ok r.0) refl r.2) ∙ a.2) in
    let c = checked-ok verifies enforced start holder listed r.0 p.0 in
    record { page = r.0; is = sym p.1; reading = r.1; verified = c.0; version = c.1; in_time = c.2 }

-- signatures that delegations ask for
pub delegated-at : (verifies : Verifies) (g : DelegationsDoc) (name : List ℕ) (d : SignedDoc TargetsDoc) (p : Option Policy) (text : Option (List ℕ)) → delegated_policy g name ≡ p → text_by targets_json d.role ≡ text
    → verdict verifies (RoleNotFound name) role.Targets p text d.signatures ≡ Ok tt → ReachesDelegated verifies g name targets_json d
unfolding verdict
delegated-at verifies g name d None text e f h = cc
delegated-at verifies g name d (Some p) None e f h = cc
delegated-at verifies g name d (Some p) (Some t) e f h = record { asked = p; there = e; text = t; canonical = f; reached = reaches-from verifies (RoleNotFound name) role.Targets p t d.signatures h }

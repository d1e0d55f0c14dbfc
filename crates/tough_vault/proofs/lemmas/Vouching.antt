-- A root that a look gives is newer, and verifies itself.
use Rattle.std.specs.Prelude.{◌≡◌, ◌<◌, ℕ, List, Option, Some, None, nat_lt, Bool, true, false, Result, Ok, Err, if◌then◌else◌}
use Rattle.std.proofs.Common.{refl, sym, subst}
use Rattle.std.proofs.lemmas.Bool.{ltb-true}
use Rattle.tough_json.specs.Reading.{◌>>=◌}
use Rattle.tough_keys.specs.Same.{Verifies}
use Rattle.tough_roles.specs.Root.{RootDoc, root_json}
use Rattle.tough_roles.specs.Signature.{SignedDoc}
use Rattle.tough_roles.specs.Verdict.{Refused}
use Rattle.tough_roles.specs.declared.role_type.RoleType.TheVariants as role
use Rattle.tough_roles.proofs.lemmas.Reached.{ok-reaches}
use Rattle.tough_checks.specs.Documents.{root_in, root_verdict}
use Rattle.tough_checks.specs.StoredDocuments.{if_verified, stored_root, newer_root}
use Rattle.tough_checks.specs.declared.checks.StepError.{StepError}
use Rattle.tough_vault.specs.Looking.{VouchesRoot, VouchesLook, Looks}
use Rattle.tough_vault.specs.Step.{Parts}
use Rattle.tough_vault.specs.Stored.{Files}

if-own : (v : Result Unit Refused) (d e : SignedDoc RootDoc) → if_verified v d ≡ Some e → (v ≡ Ok (tt {0})) × (d ≡ e)
if-own (Ok u) d e h = (refl, cc (h))
if-own (Err r) d e h = absurd (cc (h))

own : (verifies : Verifies) (o : Option (SignedDoc RootDoc)) (d : SignedDoc RootDoc) → (o >>= λ x. if_verified (root_verdict verifies x.role x) x) ≡ Some d → root_verdict verifies d.role d ≡ Ok (tt {0})
own verifies None d h = absurd (cc (h))
own verifies (Some e) d h = let p = if-own (root_verdict verifies e.role e) e d h in subst (λ (x : SignedDoc RootDoc). root_verdict verifies x.role x ≡ Ok (tt {0})) p.1 p.0

-- the stored root verifies itself
pub stored-verified : (verifies : Verifies) (found : Option (List ℕ)) (d : SignedDoc RootDoc) → stored_root verifies found ≡ Some d → root_verdict verifies d.role d ≡ Ok (tt {0})
stored-verified verifies None d h = absurd (cc (h))
stored-verified verifies (Some bytes) d h = own verifies (root_in bytes) d h

newer-at : (verifies : Verifies) (first : ℕ) (d : SignedDoc RootDoc) (b : Bool) → nat_lt first d.role.head.version ≡ b → root_verdict verifies d.role d ≡ Ok (tt {0}) → VouchesRoot verifies first (if b then Some d else None)
newer-at verifies first d true e h = (ltb-true first d.role.head.version e, ok-reaches verifies d.role role.Root root_json d (Ok (tt {0})) h)
newer-at verifies first d false e h = tt

newer-vouches : (verifies : Verifies) (first : ℕ) (o : Option (SignedDoc RootDoc)) → ((d : SignedDoc RootDoc) → o ≡ Some d → root_verdict verifies d.role d ≡ Ok (tt {0})) → VouchesRoot verifies first (newer_root first o)
newer-vouches verifies first None h = tt
newer-vouches verifies first (Some d) h = newer-at verifies first d (nat_lt first d.role.head.version) refl (h d refl)

module _ {S : Type 0} (tells : Bool) (files : S → Files) (count : S → ℕ) where
  pub look-vouches : (verifies : Verifies) (first : ℕ) (old new : Parts S) (result : Result (Option (SignedDoc RootDoc)) StepError) → Looks tells files count verifies first old new result → VouchesLook verifies first result
  look-vouches verifies first old new (Err e) h = tt
  look-vouches verifies first old new (Ok r) h =
      let s = h.sees.root in
      subst (VouchesRoot verifies first) (sym s.2) (newer-vouches verifies first (stored_root verifies s.0) (λ d e. stored-verified verifies s.0 d e))

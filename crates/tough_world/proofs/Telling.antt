-- What a look at the stored root gives, given what the stored roots are.
use Rattle.std.proofs.Common.{◌≡◌, ℕ, List, Option, Some, None, Result, Ok, Err, IfOk, Bool, true, false, if◌then◌else◌, nat_lt, refl, sym, ap, ◌∙◌, subst}
use Rattle.tough_json.specs.Reading.{◌>>=◌}
use Rattle.tough_keys.specs.Same.{Verifies}
use Rattle.tough_roles.specs.Root.{RootDoc}
use Rattle.tough_roles.specs.Signature.{SignedDoc}
use Rattle.tough_roles.specs.Verdict.{Refused}
use Rattle.tough_checks.specs.Documents.{root_in, root_verdict}
use Rattle.tough_checks.specs.Files.{root_file}
use Rattle.tough_checks.specs.StoredDocuments.{if_verified, newer_root, stored_root}
use Rattle.tough_checks.specs.declared.checks.StepError.{StepError}
use Rattle.tough_vault.specs.Step.{Parts, Finds}
use Rattle.tough_vault.specs.Stored.{Files}
use Rattle.tough_vault.proofs.Journals.{some_inj}
use Rattle.tough_trust.specs.View.{read_doc}
use Rattle.tough_update.specs.Answered.{AnswerDoc}
use Rattle.tough_update.specs.Answered as got
use Rattle.tough_update.specs.Questions.{Question}
use Rattle.tough_update.specs.Questions as ask
use Rattle.tough_world.specs.declared.turns.Answer.{Answer}
use Rattle.tough_world.specs.declared.turns.Answer.TheVariants as by
use Rattle.tough_world.specs.Turns.{Replies}
use Rattle.tough_world.proofs.Standing.{WasRead, Tells}

-- a stored root was read from the file's bytes
if-passed : (passes : Result Unit Refused) (d r : SignedDoc RootDoc) → if_verified passes d ≡ Some r → d ≡ r
if-passed (Ok u) d r e = some_inj d r e
if-passed (Err f) d r e = absurd (cc (e))

read-as : (verifies : Verifies) (bytes : List ℕ) (o : Option (SignedDoc RootDoc)) (r : SignedDoc RootDoc) → root_in bytes ≡ o → (o >>= λ d. if_verified (root_verdict verifies d.role d) d) ≡ Some r → WasRead r
read-as verifies bytes None r is e = absurd (cc (e))
read-as verifies bytes (Some d) r is e = (bytes, is ∙ ap Some (if-passed (root_verdict verifies d.role d) d r e))

pub stored-read : (verifies : Verifies) (found : Option (List ℕ)) (r : SignedDoc RootDoc) → stored_root verifies found ≡ Some r → WasRead r
stored-read verifies None r e = absurd (cc (e))
stored-read verifies (Some bytes) r e = read-as verifies bytes (root_in bytes) r refl e

module _ (G : SignedDoc RootDoc → Type 0) where
  newer-tells : (b : Bool) (d : SignedDoc RootDoc) → G d → Tells G (got.Stored (Ok (if b then Some d else None)))
  newer-tells true d h = h
  newer-tells false d h = tt

  stored-tells : (first : ℕ) (o : Option (SignedDoc RootDoc)) → ((r : SignedDoc RootDoc) → o ≡ Some r → G r) → Tells G (got.Stored (Ok (newer_root first o)))
  stored-tells first None h = tt
  stored-tells first (Some d) h = newer-tells (nat_lt first d.role.head.version) d (h d refl)

  look-tells : (verifies : Verifies) (tells : Bool) (files : Files) (first : ℕ) (x : Result (Option (SignedDoc RootDoc)) StepError)
      → IfOk x (λ r. (found : Option (List ℕ)) × Finds tells files root_file found × (r ≡ newer_root first (stored_root verifies found)))
      → ((found : Option (List ℕ)) → Finds tells files root_file found → (r : SignedDoc RootDoc) → stored_root verifies found ≡ Some r → G r) → Tells G (got.Stored (read_doc x))
  look-tells verifies tells files first (Ok r) h given = subst (λ (o : Option (SignedDoc RootDoc)). Tells G (got.Stored (Ok o))) (sym h.2) (stored-tells first (stored_root verifies h.0) (given h.0 h.1))
  look-tells verifies tells files first (Err e) h given = tt

  module _ {S : Type 0} (tells : Bool) (files : S → Files) (count : S → ℕ) (verifies : Verifies) where
    pub replies-tell-of : (q : Question) (answer : Answer) (old new : Parts S) (reply : AnswerDoc) → Replies tells files count verifies q answer old reply new
        → ((found : Option (List ℕ)) → Finds tells (files old.store) root_file found → (r : SignedDoc RootDoc) → stored_root verifies found ≡ Some r → G r) → Tells G reply
    replies-tell-of ask.Moment (by.Moment now) old new reply h given = subst (λ (a : AnswerDoc). Tells G a) (sym h.0) tt
    replies-tell-of (ask.Fetch r) (by.Bytes v) old new reply h given = subst (λ (a : AnswerDoc). Tells G a) (sym h.0) tt
    replies-tell-of (ask.Fetch r) (by.NotStarted f) old new reply h given = subst (λ (a : AnswerDoc). Tells G a) (sym h.0) tt
    replies-tell-of (ask.Fetch r) (by.Cut f) old new reply h given = subst (λ (a : AnswerDoc). Tells G a) (sym h.0) tt
    replies-tell-of (ask.Step act) by.Step old new reply h given = subst (λ (a : AnswerDoc). Tells G a) (sym h.1) tt
    replies-tell-of (ask.Stored first) by.Step old new reply h given = subst (λ (a : AnswerDoc). Tells G a) (sym h.1) (look-tells verifies tells (files old.store) first h.0 h.2.sees.root given)
    replies-tell-of _ _ old new reply h given = absurd (h)

pub replies-tell : {S : Type 0} (tells : Bool) (files : S → Files) (count : S → ℕ) (verifies : Verifies) (q : Question) (answer : Answer) (old new : Parts S) (reply : AnswerDoc)
    → Replies tells files count verifies q answer old reply new → Tells WasRead reply
replies-tell tells files count verifies q answer old new reply h = replies-tell-of WasRead tells files count verifies q answer old new reply h (λ found finds r e. stored-read verifies found r e)

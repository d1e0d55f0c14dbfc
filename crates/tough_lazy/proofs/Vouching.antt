-- The document that a search needed is vouched for by the delegations that its role stands in, and is in time.
use Rattle.std.specs.Prelude.{◌≡◌, ℕ, ◌≤ℤ◌, List, ◌++◌, length, codes, Option, Some, None, Bool, true, IsTrue, nat_le, Ok}
use Rattle.std.proofs.Common.{refl, sym, subst}
use Rattle.std.proofs.lemmas.Bool.{leb-true}
use Rattle.tough_keys.specs.Same.{Verifies}
use Rattle.tough_names.specs.Named.{Named}
use Rattle.tough_net.specs.Digests.{has_digests}
use Rattle.tough_net.specs.declared.limits.Limits.{Limits}
use Rattle.tough_roles.specs.Chain.{text_by}
use Rattle.tough_roles.specs.Signature.{SignedDoc}
use Rattle.tough_roles.specs.Timestamp.{MetafileDoc}
use Rattle.tough_roles.specs.Verdict.{verdict}
use Rattle.tough_schema.specs.Delegations.{DelegationsDoc}
use Rattle.tough_schema.specs.Targets.{TargetsDoc, targets_json}
use Rattle.tough_schema.specs.Verify.{delegated_policy}
use Rattle.tough_schema.specs.Whole.{TreeDoc}
use Rattle.tough_trust.specs.Listed.{targets_in, by_delegations, targets_verdict}
use Rattle.tough_trust.specs.Requests.{stated_digests}
use Rattle.tough_trust.specs.delegations.Bare.{bare, top_page, held_as}
use Rattle.tough_trust.proofs.lemmas.Bare.{top-bare, bare-none}
use Rattle.tough_trust.proofs.lemmas.Judging.{Passed, judged-ok, delegated-at}
use Rattle.tough_trust.proofs.lemmas.Passing.{has-true, size-stated, digests-stated}
use Rattle.tough_update.specs.Stages.{LoadedDoc}
use Rattle.tough_update.specs.Trusted.{Lists, IsVouched}
use Rattle.tough_update.specs.growth.Once.{IsBare}
use Rattle.tough_update.specs.growth.Under.{Relation, Below}
use Rattle.tough_update.proofs.Sound.{in-time}
use Rattle.tough_lazy.specs.Course.{needed}
use Rattle.tough_lazy.specs.Documents.{AddedDoc, IsDocument, file_for, sought_in, with_document}
use Rattle.tough_lazy.proofs.Standing.{below-stays}

module _ (verifies : Verifies) (limits : Limits) (enforced : Bool) (l : LoadedDoc) (a : AddedDoc) (is : IsDocument verifies limits enforced l a) where
  -- what was judged
  abbrev pub IsPassed : Type 0
  IsPassed = Passed verifies enforced l.known.start (by_delegations a.need.delegations a.need.entry.name) a.entry.version a.bytes a.document

  pub passed : IsPassed
  passed = judged-ok verifies enforced l.known.start (by_delegations a.need.delegations a.need.entry.name) a.entry.version a.bytes a.document is.judged

  -- the bytes fit what the entry states
  fits_both : IsTrue (nat_le (length a.bytes) (file_for limits l a.need a.entry).max_size) × IsTrue (has_digests (file_for limits l a.need a.entry).digests a.bytes)
  fits_both = has-true _ _ is.fits

  is_listed : (page : SignedDoc TargetsDoc) → targets_in a.bytes ≡ Some page → page.role.head.version ≡ a.entry.version
      → Lists targets_in l.known.snapshot.role.meta (a.need.entry.name ++ codes ".json") page.role.head.version page
  is_listed page reading version = (
    a.entry,
    is.listed,
    record {
      bytes = a.bytes;
      reading = reading;
      digests = digests-stated (stated_digests a.entry.hashes) a.bytes fits_both.1;
      size = size-stated a.entry.length limits.max_targets_size (length a.bytes) (leb-true _ _ fits_both.0);
      listed = version;
    },
  )

-- ---- delegations that vouch

vouched : (verifies : Verifies) (entries : List (List ℕ × MetafileDoc)) (g : Option DelegationsDoc) (name : List ℕ) (d : SignedDoc TargetsDoc) → targets_verdict verifies (by_delegations g name) d ≡ Ok tt
    → Lists targets_in entries (name ++ codes ".json") d.role.head.version d → IsVouched verifies entries g name d
unfolding verdict
vouched verifies entries None name d h l = cc
vouched verifies entries (Some g) name d h l = (delegated-at verifies g name d (delegated_policy g name) (text_by targets_json d.role) refl refl h, l)

-- ---- with the document

-- what was judged is the page of a bare document
page-is : (d : SignedDoc TreeDoc) (page : SignedDoc TargetsDoc) → d ≡ bare page → top_page d ≡ page
page-is d page is = subst (λ (x : SignedDoc TreeDoc). top_page x ≡ page) (sym is) (top-bare page)

bare-is : (name : List ℕ) (d : SignedDoc TreeDoc) (page : SignedDoc TargetsDoc) → d ≡ bare page → IsBare (held_as name d)
bare-is name d page is = subst (λ (x : SignedDoc TreeDoc). IsBare (held_as name x)) (sym is) (bare-none page)

pub stays-below : (U : Relation) (name : Named) (l : LoadedDoc) (a : AddedDoc) (page : SignedDoc TargetsDoc) → Below U l.targets.role → sought_in name l ≡ needed a.need
    → a.document ≡ bare page → U a.need.delegations a.need.entry.name page → Below U (with_document a l).targets.role
stays-below U name l a page under needs is fine =
    below-stays U name l.targets.role a.need (held_as a.need.entry.name a.document) needs under
    (subst (U a.need.delegations a.need.entry.name) (sym (page-is a.document page is)) fine) (bare-is a.need.entry.name a.document page is)

pub stays-vouched : (verifies : Verifies) (limits : Limits) (enforced : Bool) (name : Named) (l : LoadedDoc) (a : AddedDoc) → Below (IsVouched verifies l.known.snapshot.role.meta) l.targets.role
    → sought_in name l ≡ needed a.need → IsDocument verifies limits enforced l a → Below (IsVouched verifies l.known.snapshot.role.meta) (with_document a l).targets.role
stays-vouched verifies limits enforced name l a under needs is =
    let p = passed verifies limits enforced l a is in
    stays-below (IsVouched verifies l.known.snapshot.role.meta) name l a p.page under needs p.is
    (vouched verifies l.known.snapshot.role.meta a.need.delegations a.need.entry.name p.page p.verified (is_listed verifies limits enforced l a is p.page p.reading p.version))

pub stays-in-time : (verifies : Verifies) (limits : Limits) (enforced : Bool) (name : Named) (l : LoadedDoc) (a : AddedDoc) → enforced ≡ true → Below (λ g role page. l.known.start ≤ℤ page.role.head.expires) l.targets.role
    → sought_in name l ≡ needed a.need → IsDocument verifies limits enforced l a → Below (λ g role page. l.known.start ≤ℤ page.role.head.expires) (with_document a l).targets.role
stays-in-time verifies limits enforced name l a on under needs is =
    let p = passed verifies limits enforced l a is in
    stays-below (λ g role page. l.known.start ≤ℤ page.role.head.expires) name l a p.page under needs p.is (in-time enforced l.known.start p.page.role.head.expires on p.in_time)

use Rattle.std.proofs.Common.{◌≡◌, ◌<◌, true, false, length, subst, count_by, HoldsAt, [], if◌then◌else◌, Ok, Err, sym, ap, ◌∙◌}
use Rattle.std.specs.Prelude.{MatchOption}
use Rattle.std.proofs.lemmas.Bool.{le-leb, lt-leb}
use Rattle.tough_roles.specs.declared.signature.Signature.{Signature}
use Rattle.tough_roles.specs.Signature.{signature_doc, signatures_doc}
use Rattle.tough_roles.specs.Root.{keys_doc, role_keys_doc}
use Rattle.tough_roles.specs.Policy.{policy_of}
use Rattle.tough_roles.specs.Verdict.{SignatureThreshold, DuplicateKeyId, again, counted, some_twice}
use Rattle.tough_roles.specs.Counting.{bytes_of, is_valid}
use Rattle.tough_roles.proofs.Counts.{count_by-map}
use Rattle.tough_roles.proofs.Seen.{never, told-at}
use Rattle.tough_roles.proofs.lemmas.Verdicts.{verdict-twice, verdict-counted}
use Rattle.tough_roles.proofs.verify.judge.Goals as goal

pub returns-in-Some : goal.returns-in-Some
returns-in-Some g c = λ absent.
    let ss = signatures_doc c.args.signatures.now in
    let found = subst (λ o. MatchOption o (some_twice ss ≡ false) (λ i. (i < length c.args.signatures.now) × HoldsAt (λ s. again [] ss ≡ s.keyid.spelling) ss i × (some_twice ss ≡ true))) c.in-Some.is c.in_ok-twice.ensures in
    verdict-twice (g.V.Verify.verifies c.args.verifier.now) absent c.args.role (policy_of (keys_doc c.args.known.now.entries) (role_keys_doc c.args.keys.now)) c.args.text.now ss found.2
    ∙ ap (λ id. Err (DuplicateKeyId id)) (told-at (λ s. again [] ss ≡ s.keyid.spelling) c.args.signatures.now _ _ found.0 c.index-signatures-place.is found.1 ∙ ap (λ (s : Signature). (signature_doc s).keyid.spelling) c.index-signatures-place.is ∙ sym c.as_str.ensures.text ∙ sym c.in_ok-keyid.ensures.ok)

pub returns-then-valid-threshold : goal.returns-then-valid-threshold
returns-then-valid-threshold g c = λ absent.
    let v = g.V.Verify.verifies c.args.verifier.now in
    let keys = keys_doc c.args.known.now.entries in
    let ss = signatures_doc c.args.signatures.now in
    let r = role_keys_doc c.args.keys.now in
    let t = c.get-threshold.result in
    let n = c.valid_count-valid.result in
    let valid = is_valid v keys (bytes_of r.keyids) c.args.text.now in
    let count : n ≡ count_by valid ss =
    c.valid_count-valid.ensures ∙ ap (λ ids. count_by (λ s. is_valid v keys (bytes_of ids) c.args.text.now (signature_doc s)) c.args.signatures.now) (c.in_ok-listed.ensures ∙ c.deref.ensures.value) ∙ count_by-map valid signature_doc c.args.signatures.now in
    verdict-counted v absent c.args.role keys r c.args.text.now ss n (never _ _ c.in_default.not-Some c.in_ok-twice.ensures) count ∙ ap (λ x. counted c.args.role x n) (sym c.get-threshold.ensures.value)
    ∙ ap (λ b. if b then Ok tt else Err (SignatureThreshold c.args.role t n)) (lt-leb t n c.if-valid-threshold.true)

pub returns : goal.returns
returns g c = λ absent.
    let v = g.V.Verify.verifies c.args.verifier.now in
    let keys = keys_doc c.args.known.now.entries in
    let ss = signatures_doc c.args.signatures.now in
    let r = role_keys_doc c.args.keys.now in
    let t = c.get-threshold.result in
    let n = c.valid_count-valid.result in
    let valid = is_valid v keys (bytes_of r.keyids) c.args.text.now in
    let count : n ≡ count_by valid ss =
    c.valid_count-valid.ensures ∙ ap (λ ids. count_by (λ s. is_valid v keys (bytes_of ids) c.args.text.now (signature_doc s)) c.args.signatures.now) (c.in_ok-listed.ensures ∙ c.deref.ensures.value) ∙ count_by-map valid signature_doc c.args.signatures.now in
    verdict-counted v absent c.args.role keys r c.args.text.now ss n (never _ _ c.in_default.not-Some c.in_ok-twice.ensures) count ∙ ap (λ x. counted c.args.role x n) (sym c.get-threshold.ensures.value)
    ∙ ap (λ b. if b then Ok tt else Err (SignatureThreshold c.args.role t n)) (le-leb t n c.if-valid-threshold.false)

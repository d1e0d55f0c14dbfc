use Rattle.std.proofs.Common.{◌≡◌, ◌++◌, map, drop}
use Rattle.tough_roles.specs.Root.{keys_doc}
use Rattle.tough_roles.specs.Signature.{signatures_doc}
use Rattle.tough_ceremony.specs.Tallying.{signed_of, waiting_of}
use Rattle.tough_ceremony.proofs.tally.split.Given as goal

-- what comes of those that are left makes the whole
abbrev pub invariant-loop-place : goal.invariant-loop-place
invariant-loop-place g l = record {
  signed : map (λ id. id.now) l.signed.items ++ signed_of (g.V.Verify.verifies l.verifier) (keys_doc l.known.entries) l.text (signatures_doc l.signatures) (drop l.place l.ids)
      ≡ signed_of (g.V.Verify.verifies l.verifier) (keys_doc l.known.entries) l.text (signatures_doc l.signatures) l.ids;
  waiting : map (λ id. id.now) l.waiting.items ++ waiting_of (g.V.Verify.verifies l.verifier) (keys_doc l.known.entries) l.text (signatures_doc l.signatures) (drop l.place l.ids)
      ≡ waiting_of (g.V.Verify.verifies l.verifier) (keys_doc l.known.entries) l.text (signatures_doc l.signatures) l.ids;
}

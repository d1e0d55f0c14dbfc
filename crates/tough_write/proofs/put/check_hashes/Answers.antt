use Rattle.std.proofs.Common.{◌≢◌, inl, inr}
use Rattle.tough_roles.specs.Timestamp.{hashes_doc}
use Rattle.tough_write.specs.Errors.{TellsMismatch}
use Rattle.tough_write.specs.Putting.{second_of}
use Rattle.tough_write.proofs.Differing.{differ, agree, tells_back, some}
use Rattle.tough_write.proofs.put.check_hashes.Goals as goal

pub returns-then-ne : goal.returns-then-ne
returns-then-ne c =
    let listed = (hashes_doc c.args.hashes.now).sha256.bytes in
    let found = c.args.measured.now.sha256 in
    let a = c.as_slice-expected.result.now in
    let b = c.as_slice-found.result.now in
    inl (
      differ listed found a b c.as_slice-expected.ensures c.as_slice-found.ensures c.if-ne.ensures,
      tells_back listed found a b c.as_slice-expected.ensures c.as_slice-found.ensures _ c.mismatch.result c.mismatch.ensures,
    )

pub returns-then-ne-2 : goal.returns-then-ne-2
returns-then-ne-2 c =
    let e = c.mismatch-then-ne-2.result in
    let second = second_of c.args.measured.now in
    let a = c.as_slice-expected-in-Some.result.now in
    let b = c.second_of-found.result.now in
    inr (
      agree (hashes_doc c.args.hashes.now).sha256.bytes c.args.measured.now.sha256 c.as_slice-expected.result.now c.as_slice-found.result.now
          c.as_slice-expected.ensures c.as_slice-found.ensures c.if-ne.ensures,
      some (hashes_doc c.args.hashes.now).sha512 c.in-Some.sha512 (λ s. (s.bytes ≢ second) × TellsMismatch _ second s.bytes e) c.in-Some.is (
        differ c.in-Some.sha512.bytes second a b c.as_slice-expected-in-Some.ensures c.second_of-found.ensures c.if-ne-2.ensures,
        tells_back c.in-Some.sha512.bytes second a b c.as_slice-expected-in-Some.ensures c.second_of-found.ensures _ e c.mismatch-then-ne-2.ensures,
      ),
    )

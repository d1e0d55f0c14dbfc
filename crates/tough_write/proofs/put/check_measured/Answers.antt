use Rattle.std.proofs.Common.{◌≢◌, inl, inr}
use Rattle.tough_write.specs.Errors.{TellsMismatch}
use Rattle.tough_write.specs.Putting.{second_of}
use Rattle.tough_write.proofs.Differing.{differ, agree, tells, some}
use Rattle.tough_write.proofs.put.check_measured.Goals as goal

pub returns-then-ne : goal.returns-then-ne
returns-then-ne c =
    let found = c.args.measured.now.sha256 in
    let chosen = c.args.chosen.now.sha256 in
    let a = c.as_slice-found.result.now in
    let b = c.as_slice-expected.result.now in
    inl (
      differ found chosen a b c.as_slice-found.ensures c.as_slice-expected.ensures c.if-ne.ensures,
      tells found chosen a b c.as_slice-found.ensures c.as_slice-expected.ensures c.args.path.now c.mismatch.result c.mismatch.ensures,
    )

pub returns-then-ne-2 : goal.returns-then-ne-2
returns-then-ne-2 c =
    let e = c.mismatch-then-ne-2.result in
    let found = second_of c.args.measured.now in
    let a = c.second_of-found.result.now in
    let b = c.as_slice-expected-in-Some.result.now in
    inr (
      agree c.args.measured.now.sha256 c.args.chosen.now.sha256 c.as_slice-found.result.now c.as_slice-expected.result.now
          c.as_slice-found.ensures c.as_slice-expected.ensures c.if-ne.ensures,
      some c.args.chosen.now.sha512 c.in-Some.sha512 (λ x. (found ≢ x) × TellsMismatch c.args.path.now found x e) c.in-Some.is (
        differ found c.in-Some.sha512 a b c.second_of-found.ensures c.as_slice-expected-in-Some.ensures c.if-ne-2.ensures,
        tells found c.in-Some.sha512 a b c.second_of-found.ensures c.as_slice-expected-in-Some.ensures c.args.path.now e c.mismatch-then-ne-2.ensures,
      ),
    )

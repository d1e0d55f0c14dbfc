use Rattle.tough_schema.proofs.Plains.{hashes-both}
use Rattle.tough_schema.proofs.read_plain.both_digests.Goals as goal

pub returns-in-Some-2 : goal.returns-in-Some-2
returns-in-Some-2 c = λ d e h i.
    let first = rw c.in-Some.is at c.in_ok-sha256.ensures in
    let second = rw c.in-Some-2.is at c.in_ok-sha512.ensures in
    hashes-both d e c.in-Some.sha256 c.in-Some-2.sha512 c.new.result.entries (first d h) (second e i) c.new.ensures.empty

use Rattle.tough_schema.proofs.Plains.{hashes-one}
use Rattle.tough_schema.proofs.read_plain.one_digest.Goals as goal

pub returns-in-Some : goal.returns-in-Some
returns-in-Some c = λ d h.
    let read = rw c.in-Some.is at c.in_ok-sha256.ensures in
    hashes-one d c.in-Some.sha256 c.new.result.entries (read d h) c.new.ensures.empty

use Rattle.tough_roles.specs.Timestamp.{hashes_doc}
use Rattle.tough_schema.proofs.Plains.{target-stated}
use Rattle.tough_schema.proofs.read_plain.stated.Goals as goal

pub returns-in-Some-2 : goal.returns-in-Some-2
returns-in-Some-2 c = λ d e h i.
    let read = rw c.in-Some-2.is at c.in_ok-hashes.ensures in
    target-stated d e c.in-Some.length (hashes_doc c.in-Some-2.hashes) c.new.result.entries c.new-in-Some-2.result.entries (c.in-Some.ensures d h) (read e i) c.new.ensures.empty c.new-in-Some-2.ensures.empty

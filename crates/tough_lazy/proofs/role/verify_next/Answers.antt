use Rattle.std.proofs.Common.{rules, ◌≡◌, inr}
use Rattle.tough_client.specs.Repositories.{documents_of}
use Rattle.tough_lazy.specs.Course.{needed}
use Rattle.tough_lazy.specs.Documents.{sought_in}
use Rattle.tough_lazy.specs.Walking.{need_of}
use Rattle.tough_lazy.proofs.role.verify_next.Goals as goal

pub returns-in-Err-clause-refused : goal.returns-in-Err-clause-refused
returns-in-Err-clause-refused g c =
    let n = need_of c.in-Wanted.wanted in
    let is : sought_in c.args.name.now (documents_of c.args.repository.now) ≡ needed n = search rules in
    inr (n, is, c.in-Err.ensures.refused)

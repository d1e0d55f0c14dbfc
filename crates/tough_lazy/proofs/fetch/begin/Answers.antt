use Rattle.std.proofs.Common.{rules, ◌≡◌, refl, inl, inr}
use Rattle.tough_client.specs.Repositories.{documents_of}
use Rattle.tough_lazy.specs.Course.{needed}
use Rattle.tough_lazy.specs.Documents.{sought_in}
use Rattle.tough_lazy.specs.Walking.{need_of}
use Rattle.tough_lazy.proofs.fetch.begin.Goals as goal

pub returns-then-left-eq0-clause-refused : goal.returns-then-left-eq0-clause-refused
returns-then-left-eq0-clause-refused g c =
    let n = need_of c.in-Wanted.wanted in
    let is : sought_in c.args.name.now (documents_of c.args.repository.now) ≡ needed n = search rules in
    inr (refl, search rules, (n, is))

pub returns-in-Wanted-clause-refused : goal.returns-in-Wanted-clause-refused
returns-in-Wanted-clause-refused g c =
    let n = need_of c.in-Wanted.wanted in
    let is : sought_in c.args.name.now (documents_of c.args.repository.now) ≡ needed n = search rules in
    inl (inr (n, is, c.in-Err.ensures.refused))

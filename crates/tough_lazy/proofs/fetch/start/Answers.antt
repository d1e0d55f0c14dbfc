use Rattle.std.proofs.Common.{string_bytes}
use Rattle.tough_client.specs.Repositories.{documents_of, limits_of}
use Rattle.tough_lazy.specs.Walking.{need_of}
use Rattle.tough_lazy.proofs.Told.{fault-unfetched, listed-at}
use Rattle.tough_lazy.proofs.fetch.start.Goals as goal

pub returns-in-Err-clause-refused : goal.returns-in-Err-clause-refused
returns-in-Err-clause-refused g c =
    let x = c.in_ok-role.field-0 in
    let listing = c.in_ok-role.ensures.listed in
    let limits = limits_of c.args.repository.now in
    let l = documents_of c.args.repository.now in
    let n = need_of c.args.wanted.now in
    fault-unfetched limits l n listing.entry (string_bytes x.role) (string_bytes x.request.name) c.in-Err.fault c.unfetched.result (listed-at limits l n x listing) c.unfetched.ensures

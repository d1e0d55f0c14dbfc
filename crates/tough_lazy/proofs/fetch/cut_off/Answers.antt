use Rattle.std.proofs.Common.{rules, ◌≡◌, IfErr, string_bytes, inr}
use Rattle.tough_trust.specs.declared.fault.Fault.TheVariants as fault
use Rattle.tough_client.specs.Repositories.{documents_of, limits_of}
use Rattle.tough_lazy.specs.Course.{needed}
use Rattle.tough_lazy.specs.Documents.{sought_in}
use Rattle.tough_lazy.specs.Fetching.{IsCut}
use Rattle.tough_lazy.specs.Telling.{IsUnlisted}
use Rattle.tough_lazy.specs.Walking.{need_of}
use Rattle.tough_lazy.proofs.Told.{fault-unfetched, unlisted-unfetched, listed-at, if-err}
use Rattle.tough_lazy.proofs.fetch.cut_off.Goals as goal

pub returns-in_err-role-clause-refused : goal.returns-in_err-role-clause-refused
returns-in_err-role-clause-refused g c =
    let n = need_of c.in-Wanted.wanted in
    let limits = limits_of c.args.repository.now in
    let l = documents_of c.args.repository.now in
    let is : sought_in c.args.name.now l ≡ needed n = search rules in
    let told : IfErr c.from_residual-in_err-role.result (IsUnlisted l n) = search rules in
    if-err (IsUnlisted l n) (IsCut c.args.name.now c.args.repository.now) c.from_residual-in_err-role.result (λ e h. inr (n, is, unlisted-unfetched limits l n e h)) told

pub returns-clause-refused : goal.returns-clause-refused
returns-clause-refused g c =
    let n = need_of c.in-Wanted.wanted in
    let limits = limits_of c.args.repository.now in
    let l = documents_of c.args.repository.now in
    let is : sought_in c.args.name.now l ≡ needed n = search rules in
    let x = c.in_ok-role.field-0 in
    let listing = c.in_ok-role.ensures.listed in
    inr (n, is, fault-unfetched limits l n listing.entry (string_bytes x.role) (string_bytes x.request.name) (fault.Transport c.args.source) c.unfetched.result (listed-at limits l n x listing) c.unfetched.ensures)

use Rattle.std.proofs.Common.{rules, ◌≡◌, ◌+◌, ◌<◌, ◌≤◌, length, arith, ◌∙◌}
use Rattle.tough_schema.specs.declared.delegations.Delegations.{out-Delegations}
use Rattle.tough_schema.proofs.Exchanges.{along-inner, along-past}
use Rattle.tough_schema.proofs.lend.+lend.Goals as goal

pub lend_along-returns-in_default-checked_sub : goal.lend_along-returns-in_default-checked_sub
lend_along-returns-in_default-checked_sub t c =
    let beyond : length (out-Delegations c.in-Some-delegations.delegations).roles.items < c.in-Some.place.now = search rules in
    along-past c.args.way.now c.in-Some.others.now c.in-Some.place.now c.args.document.now c.in-Some-delegations.delegations c.in-Some.ensures.cases.0 c.in-Some-delegations.is (λ h. absurd (omega (arith, h, beyond)))

pub lend_along-returns-in-Some-get_mut : goal.lend_along-returns-in-Some-get_mut
lend_along-returns-in-Some-get_mut t c =
    let roles = (out-Delegations c.in-Some-delegations.delegations).roles.items in
    let sum : c.in-Some-checked_sub.at + c.in-Some.place.now ≡ length roles = search rules in
    let within : c.in-Some-checked_sub.at < length roles = search rules in
    c.lend_below.ensures
    ∙ along-inner c.args.way.now c.in-Some.others.now c.in-Some.place.now c.in-Some-checked_sub.at c.args.document.now c.in-Some-delegations.delegations c.in-Some-get_mut.role.now c.in-Some.ensures.cases.0 c.in-Some-delegations.is sum within c.in-Some-get_mut.ensures.value

pub lend_along-returns-in-None : goal.lend_along-returns-in-None
lend_along-returns-in-None t c =
    let roles = (out-Delegations c.in-Some-delegations.delegations).roles.items in
    let sum : c.in-Some-checked_sub.at + c.in-Some.place.now ≡ length roles = search rules in
    let past : length roles ≤ c.in-Some-checked_sub.at = search rules in
    along-past c.args.way.now c.in-Some.others.now c.in-Some.place.now c.args.document.now c.in-Some-delegations.delegations c.in-Some.ensures.cases.0 c.in-Some-delegations.is (λ h. omega (arith, sum, past))

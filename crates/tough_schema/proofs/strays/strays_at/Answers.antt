use Rattle.std.proofs.Common.{rules, ◌≡◌, ◌++◌, ◌&&◌, List, Bor, not, string_bytes, ap, ◌∙◌, arith}
use Rattle.tough_schema.specs.declared.delegations.DelegatedRole.{DelegatedRole, out-DelegatedRole}
use Rattle.tough_schema.specs.declared.strays.Step.{Step}
use Rattle.tough_schema.specs.declared.strays.Step.TheVariants.{Visit}
use Rattle.tough_schema.specs.declared.targets.DelegatedTargets.{out-DelegatedTargets}
use Rattle.tough_schema.specs.declared.targets.Targets.{out-Targets}
use Rattle.tough_schema.specs.Below.{count}
use Rattle.tough_schema.specs.Passing.{pass, all_stepped, weights}
use Rattle.tough_schema.specs.Strays.{names_past, strays, strays_of, way, names_of}
use Rattle.tough_schema.specs.Targets.{listing_doc}
use Rattle.tough_schema.specs.Visited.{names_in}
use Rattle.tough_schema.specs.Whole.{role_tree, role_branches}
use Rattle.tough_schema.proofs.Belows.{under-some}
use Rattle.tough_schema.proofs.Straying.{added, bare-passed, document-passed, step-push, weights-push}
use Rattle.tough_schema.proofs.lemmas.Wholes.{role-named}
use Rattle.tough_schema.proofs.strays.strays_at.Goals as goal

pub returns-in_default-clause-passed : goal.returns-in_default-clause-passed
returns-in_default-clause-passed c =
    let r = c.args.role.now in
    let set = c.args.seen.now in
    let same : string_bytes c.in_ok-clone.field-0 ≡ string_bytes (out-DelegatedRole r).name = search rules in
    let more = added set c.insert.new.self r c.in_ok-clone.field-0 same c.in_ok-insert.ensures.updates in
    ap (all_stepped c.args.steps.now.items) (bare-passed c.args.above.now.items set c.insert.new.self c.args.found.now.items r c.args.is_open more c.in_default.is)

pub returns-clause-passed : goal.returns-clause-passed
returns-clause-passed c =
    let r = c.args.role.now in
    let set = c.args.seen.now in
    let new = c.insert.new.self in
    let found = c.args.found.now.items in
    let more = c.add_strays.new.found.items in
    let with_it = c.enter.new.above.items in
    let first = not c.contains.result in
    let is_open = c.args.is_open && first in
    let below = c.roles_of.result in
    let doc = (out-DelegatedTargets c.in-Some.signed.signed).targets in
    let same : string_bytes c.in_ok-clone.field-0 ≡ string_bytes (out-DelegatedRole r).name = search rules in
    let named = added set new r c.in_ok-clone.field-0 same c.in_ok-insert.ensures.updates in
    let new_name : first ≡ not (names_in set (role_tree r).0.name) = ap not (search (rules, role-named)) in
    let own = c.in_ok-add_strays.ensures ∙ ap (λ (rs : List (Bor DelegatedRole)). names_of found ++ strays_of (way is_open rs) (listing_doc (out-Targets doc).targets.entries)) c.as_slice.ensures.value in
    ap (λ (l : List Step). all_stepped l (pass with_it new more)) c.in_ok-push.ensures.items
    ∙ step-push c.enter.new.steps.items (Visit below is_open) (pass with_it new more)
    ∙ c.in_ok-enter.ensures.back (names_past (names_in new) (role_branches below.now)) (names_of more ++ strays (names_in new) (way is_open with_it) (role_branches below.now))
    ∙ ap (all_stepped c.args.steps.now.items)
    (document-passed c.args.above.now.items with_it set new found more r c.in-Some.signed c.args.is_open first below.now named c.in-Some.is new_name c.in_ok-enter.ensures.way c.roles_of.ensures.branches own)

pub returns-clause-few : goal.returns-clause-few
returns-clause-few c =
    let is_open = c.args.is_open && not c.contains.result in
    omega (arith, ap weights c.in_ok-push.ensures.items, weights-push c.enter.new.steps.items (Visit c.roles_of.result is_open), c.in_ok-enter.ensures.few, ap count c.roles_of.ensures.branches, ap count (under-some c.args.role.now c.in-Some.signed c.in-Some.is))

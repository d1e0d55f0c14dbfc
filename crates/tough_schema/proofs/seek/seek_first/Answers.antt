use Rattle.std.proofs.Common.{rules, ◌≡◌, ◌<◌, length, vec_len, sym, ◌∙◌, arith, true, false, string_bytes}
use Rattle.std.proofs.lemmas.List.{nil_from_length}
use Rattle.std.specs.Str.{bytes_eq}
use Rattle.tough_schema.specs.declared.delegations.DelegatedRole.{out-DelegatedRole}
use Rattle.tough_schema.proofs.Seeks.{first-found, bare-last, bare-inner, first-below, below-fewer}
use Rattle.tough_schema.proofs.seek.seek_first.Goals as goal

pub returns-then-eq-clause-seen : goal.returns-then-eq-clause-seen
returns-then-eq-clause-seen c =
    let r = c.in-Some.role.now in
    let same : bytes_eq (string_bytes (out-DelegatedRole r).name) c.args.name.now ≡ true = search rules in
    first-found c.args.name.now c.args.lists.now.items c.args.roles.now c.in-Some.others.now r c.in-Some.ensures.cases.0 same

pub returns-then-is_empty-clause-seen : goal.returns-then-is_empty-clause-seen
returns-then-is_empty-clause-seen c =
    let r = c.in-Some.role.now in
    let other : bytes_eq (string_bytes (out-DelegatedRole r).name) c.args.name.now ≡ false = search rules in
    let size : vec_len c.args.lists.now ≡ length c.args.lists.now.items = search rules in
    let zero : vec_len c.args.lists.now ≡ 0 = search rules in
    bare-last c.args.name.now c.args.lists.now.items c.args.roles.now c.in-Some.others.now r c.in-Some.ensures.cases.0 other c.in_default-targets.is (nil_from_length c.args.lists.now.items (sym size ∙ zero))

pub returns-in_default-targets-clause-seen : goal.returns-in_default-targets-clause-seen
returns-in_default-targets-clause-seen c =
    let r = c.in-Some.role.now in
    let other : bytes_eq (string_bytes (out-DelegatedRole r).name) c.args.name.now ≡ false = search rules in
    let size : vec_len c.args.lists.now ≡ length c.args.lists.now.items = search rules in
    let some : 0 < vec_len c.args.lists.now = search rules in
    bare-inner c.args.name.now c.args.lists.now.items c.args.roles.now c.in-Some.others.now r c.in-Some.ensures.cases.0 other c.in_default-targets.is (omega (arith, size, some))

pub returns-clause-seen : goal.returns-clause-seen
returns-clause-seen c =
    let r = c.in-Some.role.now in
    let other : bytes_eq (string_bytes (out-DelegatedRole r).name) c.args.name.now ≡ false = search rules in
    first-below c.args.name.now c.args.lists.now.items c.push.new.self.items c.push-2.new.self.items c.in-Some.others c.roles_of.result c.args.roles.now r c.in-Some-targets.signed
    c.in_ok-push.ensures.items c.in_ok-push-2.ensures.items c.in-Some.ensures.cases.0 other c.in-Some-targets.is c.roles_of.ensures.branches

pub returns-clause-fewer : goal.returns-clause-fewer
returns-clause-fewer c =
    below-fewer c.args.lists.now.items c.push.new.self.items c.push-2.new.self.items c.in-Some.others c.roles_of.result c.args.roles.now c.in-Some.role.now c.in-Some-targets.signed
    c.in_ok-push.ensures.items c.in_ok-push-2.ensures.items c.in-Some.ensures.cases.0 c.in-Some-targets.is c.roles_of.ensures.branches

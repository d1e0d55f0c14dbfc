use Rattle.std.proofs.Common.{rules, ◌≡◌, true, false, string_bytes, sym}
use Rattle.std.specs.BTreeSet.{contains_text}
use Rattle.tough_schema.specs.declared.delegations.DelegatedRole.{out-DelegatedRole}
use Rattle.tough_schema.specs.Search.{matches}
use Rattle.tough_schema.specs.Visited.{names_in}
use Rattle.tough_schema.specs.Whole.{role_tree}
use Rattle.tough_schema.specs.Found.{lists}
use Rattle.tough_schema.proofs.Looks.{seen-name}
use Rattle.tough_schema.proofs.Rests.{sight-known, sight-other, sight-lists, sight-open}
use Rattle.tough_schema.proofs.Straying.{added}
use Rattle.tough_schema.proofs.nodes.see.Goals as goal

pub returns-then-contains-clause-sight : goal.returns-then-contains-clause-sight
returns-then-contains-clause-sight c =
    let there : contains_text c.args.reached.now (string_bytes (out-DelegatedRole c.args.role.now).name) ≡ true = search rules in
    sym (sight-known c.args.name.now.name.now (names_in c.args.reached.now) (role_tree c.args.role.now) (seen-name c.args.reached.now c.args.role.now true there))

pub returns-then-not-matches-clause-sight : goal.returns-then-not-matches-clause-sight
returns-then-not-matches-clause-sight c =
    let absent : contains_text c.args.reached.now (string_bytes (out-DelegatedRole c.args.role.now).name) ≡ false = search rules in
    let other : matches c.args.name.now.name.now (role_tree c.args.role.now).0 ≡ false = search rules in
    sym (sight-other c.args.name.now.name.now (names_in c.args.reached.now) (role_tree c.args.role.now) (seen-name c.args.reached.now c.args.role.now false absent) other)

pub returns-then-lists-clause-sight : goal.returns-then-lists-clause-sight
returns-then-lists-clause-sight c =
    let absent : contains_text c.args.reached.now (string_bytes (out-DelegatedRole c.args.role.now).name) ≡ false = search rules in
    let fits : matches c.args.name.now.name.now (role_tree c.args.role.now).0 ≡ true = search rules in
    let here : lists c.args.name.now.name.now (role_tree c.args.role.now) ≡ true = search rules in
    sym (sight-lists c.args.name.now.name.now (names_in c.args.reached.now) (role_tree c.args.role.now) (seen-name c.args.reached.now c.args.role.now false absent) fits here)

pub returns-then-lists-clause-names : goal.returns-then-lists-clause-names
returns-then-lists-clause-names c =
    let same : string_bytes c.in_ok-clone.field-0 ≡ string_bytes (out-DelegatedRole c.args.role.now).name = search rules in
    sym (added c.args.reached.now c.insert.new.self c.args.role.now c.in_ok-clone.field-0 same c.in_ok-insert.ensures.updates)

pub returns-clause-sight : goal.returns-clause-sight
returns-clause-sight c =
    let absent : contains_text c.args.reached.now (string_bytes (out-DelegatedRole c.args.role.now).name) ≡ false = search rules in
    let fits : matches c.args.name.now.name.now (role_tree c.args.role.now).0 ≡ true = search rules in
    let elsewhere : lists c.args.name.now.name.now (role_tree c.args.role.now) ≡ false = search rules in
    sym (sight-open c.args.name.now.name.now (names_in c.args.reached.now) (role_tree c.args.role.now) (seen-name c.args.reached.now c.args.role.now false absent) fits elsewhere)

pub returns-clause-names : goal.returns-clause-names
returns-clause-names c =
    let same : string_bytes c.in_ok-clone.field-0 ≡ string_bytes (out-DelegatedRole c.args.role.now).name = search rules in
    sym (added c.args.reached.now c.insert.new.self c.args.role.now c.in_ok-clone.field-0 same c.in_ok-insert.ensures.updates)

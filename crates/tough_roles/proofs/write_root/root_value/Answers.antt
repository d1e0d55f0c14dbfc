use Rattle.std.proofs.Common.{◌≡◌, List, ℕ, Some, codes, string_bytes, sym, ap, ◌∙◌, rules}
use Rattle.std.specs.NonZero.{non_zero_u64_get}
use Rattle.serde_json.specs.View.{members_view}
use Rattle.serde_json.proofs.Views.{view-Object}
use Rattle.tough_json.specs.Writing.{with}
use Rattle.tough_roles.specs.Head.{head_json}
use Rattle.tough_roles.specs.Root.{root_doc, tables_json}
use Rattle.tough_roles.proofs.lemmas.Table.{root_json-is}
use Rattle.tough_roles.proofs.write_root.root_value.Goals as goal

pub returns-clause-written : goal.returns-clause-written
returns-clause-written c =
    let r = root_doc c.args.root.now in
    let consistent = members_view c.in_ok-consistent.consistent.entries in
    let members = members_view c.in_ok-members.members.entries in
    let named : c.as_str-name.result.now ≡ string_bytes c.args.root.now.spec_version = search rules in
    let keys = ap (tables_json r) (sym c.in_ok-extra.ensures) ∙ c.in_ok-keys.ensures.written in
    let head = ap (λ (s : List ℕ). head_json (codes "root") (record { spec_version = s; version = non_zero_u64_get c.args.root.now.version; expires = c.args.root.now.expires.nanosecond }) consistent) (sym named) ∙ c.in_ok-members.ensures in
    root_json-is r (members_view c.in_ok-keys.keys.entries) consistent members keys (ap (λ v. with (codes "consistent_snapshot") v (members_view c.in_ok-keys.keys.entries)) (sym c.truth_value-found.ensures) ∙ c.in_ok-consistent.ensures) head ∙ ap Some (sym (view-Object c.in_ok-members.members))

use Rattle.std.proofs.Common.{rules, ◌≡◌, ◌<◌, ◌+◌, ◌-◌, length, Some, string_bytes, ◌∙◌, arith}
use Rattle.std.proofs.lemmas.Map.Text.{btree_map_updates_text}
use Rattle.std.specs.BTreeMap.{get_by_text}
use Rattle.tough_schema.specs.declared.delegations.DelegatedRole.{out-DelegatedRole}
use Rattle.tough_update.proofs.tree.Firsts.{seen-from}
use Rattle.tough_update.proofs.delegations.firsts.Firsts.new.Goals as goal

pub loop-at-preserved : goal.loop-at-preserved
loop-at-preserved c = λ name.
    let rs = c.args.roles.now in
    let at = c.loop-at.at - 1 in
    let r = c.index-roles-at.result in
    let key = string_bytes c.in_ok-clone.field-0 in
    let old = c.loop-at.places in
    let within : at < length rs = search rules in
    let same : key ≡ string_bytes (out-DelegatedRole r).name = search rules in
    let next : c.loop-at.at ≡ at + 1 = omega arith in
    btree_map_updates_text key old c.insert.new.self (Some at) c.in_ok-insert.ensures.updates name
    ∙ seen-from rs at c.loop-at.at r key name (get_by_text old name) within c.index-roles-at.is same next (c.loop-at.invariant name)

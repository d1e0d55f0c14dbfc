use Rattle.std.proofs.Common.{rules, ◌≡◌, ◌+◌, ◌<◌, ◌^◌, ◌∷◌, List, drop, length, nat_cmp, string_bytes, ap, sym, ◌∙◌, arith}
use Rattle.std.specs.BTreeMap.{insert_entry}
use Rattle.std.specs.Cmp.Lexicographic.{slice_cmp}
use Rattle.tough_schema.specs.Tree.{Entry}
use Rattle.tough_schema.specs.Update.{listed_roles}
use Rattle.tough_schema.specs.Whole.{role_tree, held_doc}
use Rattle.tough_schema.specs.declared.delegations.DelegatedRole.{out-DelegatedRole}
use Rattle.tough_update.specs.delegations.Numbered.{last_document}
use Rattle.tough_update.specs.delegations.Placed.{placed_doc}
use Rattle.tough_update.specs.delegations.View.{fetched_doc, waiting_in, work_doc}
use Rattle.tough_update.proofs.tree.Listing.{role-name}
use Rattle.tough_update.proofs.tree.Sizing.{small-last}
use Rattle.tough_update.proofs.tree.Turning.{some-within, first-some, drop-next, fetched-inserted, taken-some}
use Rattle.tough_update.proofs.delegations.growth.Growth.take.Goals as goal

pub overflow_add-self : goal.overflow_add-self
overflow_add-self c =
    let g = c.args.self.now in
    let es = listed_roles (last_document (placed_doc g.nodes)).below in
    let within : g.at < length es = some-within es g.at (role_tree c.in-Some.role.now).0 c.in-Some.ensures in
    let small : length es < 2 ^ 63 = small-last g.nodes.nodes in
    omega arith

pub returns : goal.returns
returns c =
    let g = c.args.self.now in
    let role = c.in-Some.role.now in
    let e = (role_tree role).0 in
    let h = held_doc c.args.document in
    let es = listed_roles (last_document (placed_doc g.nodes)).below in
    let rest = drop (g.at + 1) es in
    let name : string_bytes c.in_ok-name.name ≡ string_bytes (out-DelegatedRole role).name = search rules in
    let waiting : waiting_in (placed_doc g.nodes) g.at ≡ e ∷ rest = first-some (drop g.at es) e c.in-Some.ensures ∙ ap (λ (l : List Entry). e ∷ l) (sym (drop-next es g.at)) in
    let fetched : fetched_doc c.insert.new.self.entries ≡ insert_entry (slice_cmp nat_cmp) (fetched_doc g.fetched.entries) e.name h =
    ap fetched_doc c.in_ok-insert.ensures.entries ∙ fetched-inserted g.fetched.entries c.in_ok-name.name c.args.document
    ∙ ap (λ n. insert_entry (slice_cmp nat_cmp) (fetched_doc g.fetched.entries) n h) (name ∙ sym (role-name role)) in
    taken-some (work_doc g) h e rest (fetched_doc c.insert.new.self.entries) waiting fetched

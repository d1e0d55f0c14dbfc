use Rattle.std.proofs.Common.{rules, ◌≡◌, true, false, Option, Some, None, string_bytes, sym, ◌∙◌}
use Rattle.tough_roles.specs.Timestamp.{MetafileDoc, metafile_doc}
use Rattle.tough_schema.specs.declared.delegations.DelegatedRole.{out-DelegatedRole}
use Rattle.tough_update.specs.delegations.Growing.{listed_as}
use Rattle.tough_trust.specs.delegations.Indexed.{names_of}
use Rattle.tough_update.specs.delegations.View.{metas_of}
use Rattle.tough_trust.specs.View.{index_doc}
use Rattle.tough_update.proofs.tree.Listing.{look-past, look-wanted, look-unlisted}
use Rattle.tough_update.proofs.delegations.look.look_from.Goals as goal

pub returns-in-Some-2 : goal.returns-in-Some-2
returns-in-Some-2 c =
    let names = names_of (index_doc c.args.index.now) in
    let metas = metas_of c.args.snapshot.now in
    let name = string_bytes (out-DelegatedRole c.in-Some.role.now).name in
    let new : names name ≡ false = search rules in
    let listed : Some (metafile_doc c.in-Some-2.entry.now) ≡ listed_as metas name = search rules in
    look-wanted metas names c.args.roles.now c.loop-role.at c.in-Some.role c.in-Some.ensures.lookup (metafile_doc c.in-Some-2.entry.now) new listed ∙ c.loop-role.invariant

pub returns-in_ok-clone-in-None : goal.returns-in_ok-clone-in-None
returns-in_ok-clone-in-None c =
    let names = names_of (index_doc c.args.index.now) in
    let metas = metas_of c.args.snapshot.now in
    let name = string_bytes (out-DelegatedRole c.in-Some.role.now).name in
    let new : names name ≡ false = search rules in
    let none : Option MetafileDoc = None in
    let listed : none ≡ listed_as metas name = search rules in
    let same : string_bytes c.in_ok-clone-in-None.field-0 ≡ name = search rules in
    look-unlisted metas names c.args.roles.now c.loop-role.at c.in-Some.role c.in-Some.ensures.lookup (string_bytes c.in_ok-clone-in-None.field-0) new listed same ∙ c.loop-role.invariant

pub loop-role-preserved : goal.loop-role-preserved
loop-role-preserved c =
    let names = names_of (index_doc c.args.index.now) in
    let metas = metas_of c.args.snapshot.now in
    let known : names (string_bytes (out-DelegatedRole c.in-Some.role.now).name) ≡ true = search rules in
    sym (look-past metas names c.args.roles.now c.loop-role.at c.in-Some.role c.in-Some.ensures.lookup known) ∙ c.loop-role.invariant

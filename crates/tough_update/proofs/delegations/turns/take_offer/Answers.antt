use Rattle.std.proofs.Common.{rules, ◌≡◌, true, false, Some, None, option_map, string_bytes, ap, sym, ◌∙◌}
use Rattle.std.specs.Map.{lookup, remove_entry}
use Rattle.tough_schema.specs.declared.delegations.DelegatedRole.{out-DelegatedRole}
use Rattle.tough_trust.specs.delegations.Indexed.{names_of}
use Rattle.tough_update.specs.delegations.Documents.{node_doc}
use Rattle.tough_trust.specs.View.{index_doc}
use Rattle.tough_update.proofs.tree.Listing.{query}
use Rattle.tough_update.proofs.tree.Turning.{left-after, offer_for-none, offer_for-known, offer_for-new}
use Rattle.tough_update.proofs.delegations.turns.take_offer.Goals as goal

pub returns-in_err-document-clause-offer : goal.returns-in_err-document-clause-offer
returns-in_err-document-clause-offer c =
    let es = c.args.task.now.fetched.entries in
    let none : c.from_residual.result ≡ None = search rules in
    let missing : c.remove.result ≡ None = search rules in
    let here : c.remove.result ≡ lookup (query (string_bytes (out-DelegatedRole c.args.role.now).name)) es = c.remove.ensures.value ∙ ap (λ n. lookup (query n) es) c.as_str.ensures.value in
    ap (option_map node_doc) none ∙ offer_for-none c.args.role.now es (names_of (index_doc c.args.index.now)) c.args.task.now.node c.args.task.now.at (sym missing ∙ here)

pub returns-in_err-document-clause-fetched : goal.returns-in_err-document-clause-fetched
returns-in_err-document-clause-fetched c =
    let es = c.args.task.now.fetched.entries in
    left-after c.args.role.now es c.remove.new.self.entries (c.remove.ensures.entries ∙ ap (λ n. remove_entry (query n) es) c.as_str.ensures.value)

pub returns-then-contains-clause-offer : goal.returns-then-contains-clause-offer
returns-then-contains-clause-offer c =
    let es = c.args.task.now.fetched.entries in
    let names = names_of (index_doc c.args.index.now) in
    let name = string_bytes (out-DelegatedRole c.args.role.now).name in
    let found : c.remove.result ≡ Some c.in_ok-document.document = search rules in
    let here : c.remove.result ≡ lookup (query name) es = c.remove.ensures.value ∙ ap (λ n. lookup (query n) es) c.as_str.ensures.value in
    let known : names name ≡ true = search rules in
    offer_for-known c.args.role.now es names c.args.task.now.node c.args.task.now.at c.in_ok-document.document (sym found ∙ here) known

pub returns-then-contains-clause-fetched : goal.returns-then-contains-clause-fetched
returns-then-contains-clause-fetched c =
    let es = c.args.task.now.fetched.entries in
    left-after c.args.role.now es c.remove.new.self.entries (c.remove.ensures.entries ∙ ap (λ n. remove_entry (query n) es) c.as_str.ensures.value)

pub returns-clause-offer : goal.returns-clause-offer
returns-clause-offer c =
    let es = c.args.task.now.fetched.entries in
    let names = names_of (index_doc c.args.index.now) in
    let name = string_bytes (out-DelegatedRole c.args.role.now).name in
    let found : c.remove.result ≡ Some c.in_ok-document.document = search rules in
    let here : c.remove.result ≡ lookup (query name) es = c.remove.ensures.value ∙ ap (λ n. lookup (query n) es) c.as_str.ensures.value in
    let new : names name ≡ false = search rules in
    offer_for-new c.args.role.now es names c.args.task.now.node c.args.task.now.at c.in_ok-document.document (sym found ∙ here) new

pub returns-clause-fetched : goal.returns-clause-fetched
returns-clause-fetched c =
    let es = c.args.task.now.fetched.entries in
    left-after c.args.role.now es c.remove.new.self.entries (c.remove.ensures.entries ∙ ap (λ n. remove_entry (query n) es) c.as_str.ensures.value)

use Rattle.std.proofs.Common.{◌++◌, take, sym, ap, ◌∙◌, append_assoc}
use Rattle.tough_schema.specs.Tree.{Listing}
use Rattle.tough_schema.specs.Whole.{listing_of, tree_doc, role_tree}
use Rattle.tough_schema.specs.Entries.{listed_of, listed_in}
use Rattle.tough_schema.specs.Gather.{shown}
use Rattle.tough_schema.proofs.Listings.{listed_in-more}
use Rattle.tough_schema.proofs.targets.Targets.targets_iter.Goals as goal

pub loop-role-preserved : goal.loop-role-preserved
loop-role-preserved c =
    let rs = c.deref-role-items.result.now in
    let i = c.loop-role.role-index in
    let r = c.role-item.result in
    let top = listing_of (tree_doc c.args.self.now) in
    let own = listed_of (role_tree r.now).1 in
    c.in_ok-add_document.ensures ∙ ap (λ (l : Listing). l ++ own) c.loop-role.invariant ∙ append_assoc top (listed_in (shown (take i rs))) own ∙ ap (λ l. top ++ l) (sym (listed_in-more rs i r c.loop-role-test.true c.role-item.is))

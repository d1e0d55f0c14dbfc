-- Lists of roles are short enough to count.
use Rattle.std.proofs.Common.{◌≡◌, ℕ, suc, ◌<◌, ◌≤◌, ◌^◌, List, [], ◌∷◌, map, length, Bool, true, false, if◌then◌else◌, Option, Some, None, ap, sym, ◌∙◌, arith}
use Rattle.std.proofs.lemmas.List.{length-map}
use Rattle.std.proofs.Math.Dec.{eqb}
use Rattle.tough_roles.specs.declared.signed.Signed.{Signed}
use Rattle.tough_schema.specs.declared.delegations.Delegations.{Delegations, out-Delegations}
use Rattle.tough_schema.specs.declared.targets.DelegatedTargets.{DelegatedTargets, out-DelegatedTargets}
use Rattle.tough_schema.specs.declared.targets.Targets.{out-Targets}
use Rattle.tough_schema.specs.Tree.{Entry}
use Rattle.tough_schema.specs.Below.{roles_at as roles_under}
use Rattle.tough_schema.specs.Update.{listed_roles}
use Rattle.tough_schema.specs.Whole.{role_tree, held_doc}
use Rattle.tough_update.specs.declared.delegations.nodes.Node.{Node}
use Rattle.tough_update.specs.declared.delegations.nodes.Nodes as real
use Rattle.tough_update.specs.delegations.Numbered.{Nodes, targets, also, last_number, last_document, roles_at}
use Rattle.tough_trust.specs.delegations.Dressed.{listed_in}
use Rattle.tough_update.specs.delegations.Documents.{node_doc, all_also, nodes_doc}
use Rattle.tough_update.proofs.tree.Listing.{listed-held}

abbrev pub IsSmall : List Entry → Type 0
IsSmall es = length es < 2 ^ 63

small-under : (o : Option Delegations) → length (roles_under o) < 2 ^ 63
small-under None = omega arith
small-under (Some g) = let v = (out-Delegations g).roles in let is : v.len ≡ length v.items = v.ok.0 in let within : v.len ≤ v.cap = v.ok.1 in let fits : v.cap < 2 ^ 63 = v.small in omega arith

pub same-held : (s : Signed DelegatedTargets) → length (listed_roles (held_doc s).below) ≡ length (listed_in s)
same-held s = ap length (sym (listed-held s)) ∙ length-map (listed_in s) (λ r. (role_tree r).0)

pub small-held : (s : Signed DelegatedTargets) → IsSmall (listed_roles (held_doc s).below)
small-held s =
    let short : length (listed_in s) < 2 ^ 63 = small-under (out-Targets (out-DelegatedTargets s.signed).targets).delegations in
    omega (arith, short, same-held s)

small-if : (b : Bool) (xs ys : List Entry) → IsSmall xs → IsSmall ys → IsSmall (if b then xs else ys)
small-if true xs ys h k = h
small-if false xs ys h k = k

small-all : (ns : Nodes) (xs : List Node) (number : ℕ) → ((k : ℕ) → IsSmall (roles_at k ns)) → IsSmall (roles_at number (all_also ns (map node_doc xs)))
small-all ns [] number h = h number
small-all ns (x ∷ xs) number h =
    small-all (also ns (node_doc x)) xs number (λ k. small-if (eqb k (suc (last_number ns))) (listed_roles (held_doc x.document).below) (roles_at k ns) (small-held x.document) (h k))

pub small-roles : (ns : real.Nodes) (number : ℕ) → IsSmall (roles_at number (nodes_doc ns))
small-roles ns number = small-all (targets (held_doc ns.top)) ns.others.items number (λ k. small-if (eqb k 0) (listed_roles (held_doc ns.top).below) [] (small-held ns.top) (omega arith))

small-end : (ns : Nodes) (xs : List Node) → IsSmall (listed_roles (last_document ns).below) → IsSmall (listed_roles (last_document (all_also ns (map node_doc xs))).below)
small-end ns [] h = h
small-end ns (x ∷ xs) h = small-end (also ns (node_doc x)) xs (small-held x.document)

pub small-last : (ns : real.Nodes) → IsSmall (listed_roles (last_document (nodes_doc ns)).below)
small-last ns = small-end (targets (held_doc ns.top)) ns.others.items (small-held ns.top)

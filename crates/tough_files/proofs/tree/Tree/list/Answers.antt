use Rattle.std.proofs.Common.{◌≡◌, Some, arith, map, refl, sym, subst, string_bytes}
use Rattle.std.proofs.lemmas.Grind.{common_steps}
use Rattle.tough_files.specs.Contents.{folder, node_at}
use Rattle.tough_files.specs.Changes.{IsListing}
use Rattle.tough_files.specs.Tree.{contents_of}
use Rattle.tough_files.proofs.Listing.{listing}
use Rattle.tough_files.proofs.tree.Tree.list.Goals as goal

pub returns-in-Ok : goal.returns-in-Ok
returns-in-Ok c =
    let tree = c.args.self.now in
    let dir = c.args.path.now in
    let place : node_at (contents_of tree) dir ≡ Some folder = grind (arith, common_steps) in
    (map string_bytes c.in-Ok.names.items, λ e. subst (IsListing dir (contents_of tree)) (sym c.in-Ok.ensures) (listing tree dir), rw place (refl, λ path. refl))

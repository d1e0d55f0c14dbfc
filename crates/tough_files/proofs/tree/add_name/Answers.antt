use Rattle.std.proofs.Common.{◌≡◌, false, ◌++◌, ◌∷◌, [], map, string_bytes, bytes_eq, sym, ap, ◌∙◌}
use Rattle.std.proofs.lemmas.List.{map-append}
use Rattle.std.specs.List.{list_any}
use Rattle.tough_files.proofs.Listing.{among}
use Rattle.tough_files.proofs.tree.add_name.Goals as goal

pub returns : goal.returns
returns c =
    let name = c.args.name.now in
    let names = c.args.names.now.items in
    let new : list_any (bytes_eq name) (map string_bytes names) ≡ false =
    among name names ∙ sym (c.is_among.ensures ∙ ap (list_any (λ known. bytes_eq name (string_bytes known))) c.deref.ensures.value) ∙ c.if-is_among.false in
    rw new (ap (map string_bytes) c.in_ok-push.ensures.items ∙ map-append string_bytes names _ ∙ ap (λ n. map string_bytes names ++ n ∷ []) c.in_ok-from_str.ensures.ok)

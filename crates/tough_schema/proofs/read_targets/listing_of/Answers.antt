use Rattle.std.proofs.Common.{◌≡◌, [], ◌∷◌, ◌++◌, true, false, is_some, ap, ◌∙◌, rules}
use Rattle.std.specs.BTreeMap.{is_at}
use Rattle.std.specs.Map.{lookup}
use Rattle.json.specs.Value.{members_view as json_members}
use Rattle.serde_json.specs.Data.{no_members}
use Rattle.serde_json.specs.Read.{of_members}
use Rattle.tough_json.proofs.lemmas.Each.{refuses-map}
use Rattle.tough_names.specs.Named.{by_raw_then_resolved}
use Rattle.tough_schema.specs.Target.{target_doc, target_at}
use Rattle.tough_schema.specs.Targets.{listing_from, listing_doc, name_at}
use Rattle.tough_schema.proofs.ListingLemmas.{insert-listing_doc}
use Rattle.tough_schema.proofs.Lasts.{stands-first, stands-last, stands-more, stands-passed, here_last, refused-unnamed, refused-none, listed-doc}
use Rattle.tough_schema.proofs.read_targets.listing_of.Goals as goal

pub loop-raw-init : goal.loop-raw-init
loop-raw-init c = λ ms h. stands-first ms _ _ (search rules) (search rules)

pub returns-in-Err : goal.returns-in-Err
returns-in-Err c = λ ms h.
    let last : c.loop-raw.left.items ≡ c.pop.new.self.items ++ (c.in-Some.raw, c.in-Some.value) ∷ [] = search rules in
    refuses-map (name_at c.in-Some.raw.now) (listing_from [] ms) c.in-Err.error
    (refused-unnamed ms c.pop.new.self.items c.loop-raw.left.items (c.in-Some.raw, c.in-Some.value) (listing_doc c.loop-raw.targets.entries) last (c.loop-raw.invariant ms h)) c.in-Err.ensures

pub loop-raw-preserved-then-contains_key : goal.loop-raw-preserved-then-contains_key
loop-raw-preserved-then-contains_key c = λ ms h.
    let last : c.loop-raw.left.items ≡ c.pop.new.self.items ++ (c.in-Some.raw, c.in-Some.value) ∷ [] = search rules in
    let there : is_some (lookup (is_at (by_raw_then_resolved c.in-Ok.name)) c.loop-raw.targets.entries) ≡ true = search rules in
    stands-passed ms c.pop.new.self.items c.loop-raw.left.items (c.in-Some.raw, c.in-Some.value) (listing_doc c.loop-raw.targets.entries) last (c.loop-raw.invariant ms h) c.in-Ok.name c.in-Ok.ensures
    (listed-doc (is_at (by_raw_then_resolved c.in-Ok.name)) c.loop-raw.targets.entries ∙ there)

pub returns-in-Err-target_in : goal.returns-in-Err-target_in
returns-in-Err-target_in c = λ ms h.
    let last : c.loop-raw.left.items ≡ c.pop.new.self.items ++ (c.in-Some.raw, c.in-Some.value) ∷ [] = search rules in
    let free : is_some (lookup (is_at (by_raw_then_resolved c.in-Ok.name)) c.loop-raw.targets.entries) ≡ false = search rules in
    let docs = listing_doc c.loop-raw.targets.entries in
    let was = c.loop-raw.invariant ms h in
    let here = here_last ms c.pop.new.self.items c.loop-raw.left.items (c.in-Some.raw, c.in-Some.value) docs last was in
    refuses-map (target_at here.0) (listing_from [] ms) c.in-Err-target_in.error
    (λ bad. refused-none ms c.pop.new.self.items c.loop-raw.left.items (c.in-Some.raw, c.in-Some.value) docs last was c.in-Ok.name c.in-Ok.ensures bad (listed-doc (is_at (by_raw_then_resolved c.in-Ok.name)) c.loop-raw.targets.entries ∙ free))
    (c.in-Err-target_in.ensures here.0 here.2)

pub loop-raw-preserved : goal.loop-raw-preserved
loop-raw-preserved c = λ ms h.
    let last : c.loop-raw.left.items ≡ c.pop.new.self.items ++ (c.in-Some.raw, c.in-Some.value) ∷ [] = search rules in
    let free : is_some (lookup (is_at (by_raw_then_resolved c.in-Ok.name)) c.loop-raw.targets.entries) ≡ false = search rules in
    let docs = listing_doc c.loop-raw.targets.entries in
    let was = c.loop-raw.invariant ms h in
    let here = here_last ms c.pop.new.self.items c.loop-raw.left.items (c.in-Some.raw, c.in-Some.value) docs last was in
    let put = ap listing_doc c.in_ok-insert.ensures.entries ∙ insert-listing_doc c.loop-raw.targets.entries c.in-Ok.name c.in-Ok-target_in.target in
    stands-more ms c.pop.new.self.items c.loop-raw.left.items (c.in-Some.raw, c.in-Some.value) docs last was c.in-Ok.name (target_doc c.in-Ok-target_in.target) (listing_doc c.insert.new.self.entries) c.in-Ok.ensures (c.in-Ok-target_in.ensures here.0 here.2)
    (listed-doc (is_at (by_raw_then_resolved c.in-Ok.name)) c.loop-raw.targets.entries ∙ free) put

pub returns : goal.returns
returns c = λ ms h.
    let none : c.loop-raw.left.items ≡ [] = search rules in
    stands-last (json_members c.args.members.items) ms _ (listing_doc c.loop-raw.targets.entries) h (ap (λ l. of_members (json_members l) no_members) none) (c.loop-raw.invariant ms h)

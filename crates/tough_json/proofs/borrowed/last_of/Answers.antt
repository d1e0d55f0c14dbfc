use Rattle.std.proofs.Common.{◌≡◌, ◌++◌, [], ◌∷◌, true, false, bytes_eq, cond, Some, sym, ap, ◌∙◌, rules}
use Rattle.json.specs.Value.{value_view as json_view, members_view as json_members}
use Rattle.json.specs.Find.{get_member as last_member}
use Rattle.tough_json.proofs.lemmas.Borrowed.{last-pushed}
use Rattle.tough_json.proofs.borrowed.last_of.Goals as goal

pub returns-then-eq : goal.returns-then-eq
returns-then-eq c =
    let popped : c.loop-key.left.items ≡ c.pop.new.self.items ++ (c.in-Some.key, c.in-Some.value) ∷ [] = search rules in
    let same : bytes_eq c.in-Some.key.now c.args.name.now ≡ true = search rules in
    sym (c.loop-key.invariant ∙ ap (λ xs. last_member c.args.name.now (json_members xs)) popped ∙ last-pushed c.pop.new.self.items (c.in-Some.key, c.in-Some.value) c.args.name.now
    ∙ ap (λ b. cond b (Some (json_view c.in-Some.value)) (last_member c.args.name.now (json_members c.pop.new.self.items))) same)

pub loop-key-preserved-else-eq : goal.loop-key-preserved-else-eq
loop-key-preserved-else-eq c =
    let popped : c.loop-key.left.items ≡ c.pop.new.self.items ++ (c.in-Some.key, c.in-Some.value) ∷ [] = search rules in
    let other : bytes_eq c.in-Some.key.now c.args.name.now ≡ false = search rules in
    c.loop-key.invariant ∙ ap (λ xs. last_member c.args.name.now (json_members xs)) popped ∙ last-pushed c.pop.new.self.items (c.in-Some.key, c.in-Some.value) c.args.name.now
    ∙ ap (λ b. cond b (Some (json_view c.in-Some.value)) (last_member c.args.name.now (json_members c.pop.new.self.items))) other

pub loop-key-preserved-else-eq-2 : goal.loop-key-preserved-else-eq-2
loop-key-preserved-else-eq-2 c =
    let popped : c.loop-key.left.items ≡ c.pop.new.self.items ++ (c.in-Some.key, c.in-Some.value) ∷ [] = search rules in
    let other : bytes_eq c.in-Some.key.now c.args.name.now ≡ false = search rules in
    c.loop-key.invariant ∙ ap (λ xs. last_member c.args.name.now (json_members xs)) popped ∙ last-pushed c.pop.new.self.items (c.in-Some.key, c.in-Some.value) c.args.name.now
    ∙ ap (λ b. cond b (Some (json_view c.in-Some.value)) (last_member c.args.name.now (json_members c.pop.new.self.items))) other

pub loop-key-preserved : goal.loop-key-preserved
loop-key-preserved c =
    let popped : c.loop-key.left.items ≡ c.pop.new.self.items ++ (c.in-Some.key, c.in-Some.value) ∷ [] = search rules in
    let other : bytes_eq c.in-Some.key.now c.args.name.now ≡ false = search rules in
    c.loop-key.invariant ∙ ap (λ xs. last_member c.args.name.now (json_members xs)) popped ∙ last-pushed c.pop.new.self.items (c.in-Some.key, c.in-Some.value) c.args.name.now
    ∙ ap (λ b. cond b (Some (json_view c.in-Some.value)) (last_member c.args.name.now (json_members c.pop.new.self.items))) other

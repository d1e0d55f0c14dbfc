use Rattle.std.proofs.Common.{rules, ◌∙◌, ap, string_bytes, Some, subst}
use Rattle.std.specs.BTreeMap.{UpdatesBy}
use Rattle.std.specs.Ordering.{nat_cmp}
use Rattle.std.specs.Cmp.Lexicographic.{slice_cmp}
use Rattle.tough_client.proofs.Planned.{place_next}
use Rattle.tough_client.proofs.plan.places.Goals as goal

pub loop-place-preserved : goal.loop-place-preserved
loop-place-preserved c = λ q.
    let d = c.index-received-place.result in
    let i = c.loop-place.place in
    let same = c.as_str.ensures.value ∙ ap (λ x. string_bytes x.role) c.index-received-place.is in
    place_next c.args.received.now i d (search rules) q c.loop-place.places c.insert.new.self
    (subst (λ w. UpdatesBy (λ x y. slice_cmp nat_cmp x.now y.now) (λ k. slice_cmp nat_cmp w k.now) c.loop-place.places c.insert.new.self (Some i)) same c.in_ok-insert.ensures.updates)
    ∙ c.loop-place.invariant q

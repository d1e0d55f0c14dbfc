use Rattle.std.proofs.Common.{◌≡◌, ℕ, List, drop}
use Rattle.std.specs.BTreeMap.{get_by}
use Rattle.std.specs.Ordering.{nat_cmp}
use Rattle.std.specs.Cmp.Lexicographic.{slice_cmp}
use Rattle.tough_update.specs.View.{received_docs}
use Rattle.tough_client.specs.Plans.{last_place, place_from}
use Rattle.tough_client.proofs.plan.places.Given as goal

abbrev pub invariant-loop-place : goal.invariant-loop-place
invariant-loop-place l = (q : List ℕ) → place_from l.place (received_docs (drop l.place l.received)) q (get_by (λ k. slice_cmp nat_cmp q k.now) l.places) ≡ last_place (received_docs l.received) q

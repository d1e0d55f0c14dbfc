-- How many roles the documents list that have their place, as the program counts them.
use Rattle.std.specs.Prelude.{min}
use Rattle.std.proofs.Common.{◌≡◌, ℕ, ◌+◌, ◌-◌, ◌^◌, ◌<◌, ◌≤◌, length, ap, sym, ◌∙◌, arith}
use Rattle.std.proofs.Math.Nat.{min-eq_left}
use Rattle.tough_roles.specs.declared.signed.Signed.{Signed}
use Rattle.tough_schema.specs.declared.targets.DelegatedTargets.{DelegatedTargets}
use Rattle.tough_schema.specs.Update.{listed_roles}
use Rattle.tough_schema.specs.Whole.{HeldDoc, held_doc}
use Rattle.tough_trust.specs.delegations.Dressed.{listed_in}
use Rattle.tough_update.specs.delegations.Numbered.{Nodes, targets, also, NodeDoc}
use Rattle.tough_update.specs.growth.Tallies.{tally, counted_tally}
use Rattle.tough_update.proofs.tree.Sizing.{small-held, same-held}

-- the targets alone
pub counted-top : (s : Signed DelegatedTargets) (k : ℕ) → k ≡ length (listed_in s) → k ≡ counted_tally (targets (held_doc s))
counted-top s k is =
    let small : tally (targets (held_doc s)) ≤ 2 ^ 64 - 1 = omega (arith, small-held s) in
    is ∙ sym (same-held s) ∙ sym (min-eq_left small)

sum : (k t l : ℕ) → k ≡ min t (2 ^ 64 - 1) → min (k + l) (2 ^ 64 - 1) ≡ min (l + t) (2 ^ 64 - 1)
sum k t l is = omega (arith, is)

-- one document more
pub counted-more : (ns : Nodes) (n : NodeDoc) (s : Signed DelegatedTargets) (k l : ℕ) → n.document ≡ held_doc s → k ≡ counted_tally ns → l ≡ length (listed_in s) → min (k + l) (2 ^ 64 - 1) ≡ counted_tally (also ns n)
counted-more ns n s k l of is listed =
    let own : l ≡ length (listed_roles n.document.below) = listed ∙ sym (same-held s) ∙ sym (ap (λ (h : HeldDoc). length (listed_roles h.below)) of) in
    ap (λ x. min (k + x) (2 ^ 64 - 1)) own ∙ sum k (tally ns) (length (listed_roles n.document.below)) is

use Rattle.std.proofs.Common.{option_map, ap, sym, ◌∙◌}
use Rattle.tough_schema.specs.Delegations.{delegations_doc}
use Rattle.tough_schema.specs.Whole.{HeldDoc, top_doc}
use Rattle.tough_update.proofs.tree.Listing.{delegations-held}
use Rattle.tough_update.proofs.delegations.growth.Growth.delegations.Goals as goal

pub returns-in-Some : goal.returns-in-Some
returns-in-Some c = sym (ap (option_map delegations_doc) c.in-Some.is) ∙ delegations-held c.last.result.now ∙ ap (λ (h : HeldDoc). (top_doc h.below).delegations) c.last.ensures

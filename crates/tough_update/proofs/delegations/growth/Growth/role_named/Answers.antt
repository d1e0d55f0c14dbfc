use Rattle.std.proofs.Common.{rules, ◌≡◌, ℕ, List, Bor, Option, Some, None, option_map, sym, ap, subst, ◌∙◌}
use Rattle.std.specs.Prelude.{option_and_then}
use Rattle.std.specs.Slice.{IsItemAt}
use Rattle.tough_roles.specs.declared.signed.Signed.{Signed}
use Rattle.tough_schema.specs.Delegations.{DelegationsDoc, delegated_role_doc}
use Rattle.tough_schema.specs.Tree.{Entry}
use Rattle.tough_schema.specs.Update.{listed_roles}
use Rattle.tough_schema.specs.Verify.{role_named}
use Rattle.tough_schema.specs.Whole.{HeldDoc, held_doc, top_doc}
use Rattle.tough_schema.specs.declared.delegations.DelegatedRole.{DelegatedRole}
use Rattle.tough_schema.specs.declared.targets.DelegatedTargets.{DelegatedTargets}
use Rattle.tough_update.specs.declared.delegations.growth.Growth.{Growth}
use Rattle.tough_trust.specs.delegations.Dressed.{entries_of, listed_in}
use Rattle.tough_update.specs.delegations.Documents.{firsts_doc}
use Rattle.tough_update.specs.delegations.Placed.{placed_doc}
use Rattle.tough_update.specs.delegations.Firsts.{first_places}
use Rattle.tough_update.specs.delegations.Numbered.{last_document}
use Rattle.tough_update.proofs.tree.Firsts.{none-in, some-in}
use Rattle.tough_update.proofs.tree.Listing.{listed-held}
use Rattle.tough_update.proofs.delegations.growth.Growth.role_named.Goals as goal

-- what the map tells is so in the document whose list it is
told : (g : Growth) (s : Signed DelegatedTargets) (name : List ℕ) (place : Option ℕ) → held_doc s ≡ last_document (placed_doc g.nodes) → place ≡ firsts_doc g.firsts name → first_places (entries_of (listed_in s)) name ≡ place
told g s name place last found =
    ap (λ (es : List Entry). first_places es name) (listed-held s) ∙ ap (λ (h : HeldDoc). first_places (listed_roles h.below) name) last ∙ sym (found ∙ g.first name)

pub returns-in_err-get : goal.returns-in_err-get
returns-in_err-get c =
    let g = c.args.self.now in
    let name = c.args.name.now in
    let s = c.last.result.now in
    let found : None ≡ firsts_doc g.firsts name = search rules in
    let none : c.from_residual.result ≡ None = search rules in
    ap (option_map (λ (r : Bor DelegatedRole). delegated_role_doc r.now)) none
    ∙ none-in name s (told g s name None c.last.ensures found)
    ∙ ap (λ (h : HeldDoc). option_and_then (λ (d : DelegationsDoc). role_named name d.roles) (top_doc h.below).delegations) c.last.ensures

pub returns : goal.returns
returns c =
    let g = c.args.self.now in
    let name = c.args.name.now in
    let s = c.last.result.now in
    let place = c.in_ok-get.field-0 in
    let found : Some place ≡ firsts_doc g.firsts name = search rules in
    let there : IsItemAt (listed_in s) place c.get-2.result = subst (λ (l : List DelegatedRole). IsItemAt l place c.get-2.result) c.roles_of-roles.ensures c.get-2.ensures.lookup in
    some-in name s place c.get-2.result (told g s name (Some place) c.last.ensures found) there
    ∙ ap (λ (h : HeldDoc). option_and_then (λ (d : DelegationsDoc). role_named name d.roles) (top_doc h.below).delegations) c.last.ensures

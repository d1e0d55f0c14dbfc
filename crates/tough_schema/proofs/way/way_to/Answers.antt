use Rattle.std.proofs.Common.{rules, ◌≡◌, ◌∷◌, ◌++◌, [], List, Bor, length, true, Some, sym, ap, ◌∙◌}
use Rattle.tough_schema.specs.declared.delegations.DelegatedRole.{DelegatedRole}
use Rattle.tough_schema.specs.Putting.{way_through, is_first, places}
use Rattle.tough_schema.proofs.Ways.{through-some, first-way}
use Rattle.tough_schema.proofs.way.way_to.Goals as goal

pub returns : goal.returns
returns c =
    let name = c.args.name.now in
    let above = c.loop-above.above.items in
    let here = c.loop-above.here.now in
    let first : is_first name here ≡ true = search rules in
    ap Some (c.in_ok-way.ensures ∙ ap (λ (ls : List (Bor (List DelegatedRole))). places ls ++ length here ∷ []) c.deref.ensures.value) ∙ sym (through-some name above (length here ∷ []))
    ∙ ap (way_through name above) (sym (first-way name here first)) ∙ c.loop-above.invariant

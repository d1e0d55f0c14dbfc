use Rattle.std.proofs.Common.{rules, ◌≡◌, true, false, not, is_none, List, sym, ap, ◌∙◌}
use Rattle.std.specs.List.{find}
use Rattle.tough_names.specs.Named.{Named}
use Rattle.tough_schema.specs.Whole.{tree_doc}
use Rattle.tough_schema.specs.Search.{search}
use Rattle.tough_schema.specs.Entries.{is_found}
use Rattle.tough_schema.specs.Strays.{names_of}
use Rattle.tough_schema.proofs.Looks.{shown-some, shown-none, invalid-missing}
use Rattle.tough_schema.proofs.Sure.{first-stray, stray-later, stray-here}
use Rattle.tough_schema.proofs.targets.Targets.validate.Goals as goal

pub returns-then-is_none-clause-refused : goal.returns-then-is_none-clause-refused
returns-then-is_none-clause-refused c =
    let t = tree_doc c.args.self.now in
    let ns = c.deref-name-items.result.now in
    let i = c.loop-name.name-index in
    let n = c.name-item.result in
    let none : is_none c.in_ok-found.found ≡ true = Prim.search rules in
    let missing = ap (search true n.now) (sym (ap (λ d. d.0) c.in_ok-nodes.ensures.nodes)) ∙ shown-none c.in_ok-found.found _ c.in_ok-found.ensures.found none in
    invalid-missing t n.now c.in_ok-not_found.field-0 c.in_ok-not_found.ensures (sym c.loop-name.invariant ∙ stray-here t ns i n c.loop-name-test.true c.name-item.is missing)

pub loop-name-init : goal.loop-name-init
loop-name-init c =
    let t = tree_doc c.args.self.now in
    ap (λ (ns : List Named). find (λ name. not (is_found t name)) ns) (ap names_of c.deref-name-items.ensures.value ∙ c.in_ok-strays.ensures) ∙ first-stray t

pub loop-name-preserved : goal.loop-name-preserved
loop-name-preserved c =
    let t = tree_doc c.args.self.now in
    let ns = c.deref-name-items.result.now in
    let i = c.loop-name.name-index in
    let n = c.name-item.result in
    let some : is_none c.in_ok-found.found ≡ false = Prim.search rules in
    let there : is_found t n.now ≡ true = ap (λ d. is_found d n.now) (sym (ap (λ d. d.0) c.in_ok-nodes.ensures.nodes)) ∙ shown-some c.in_ok-found.found _ c.in_ok-found.ensures.found some in
    sym (stray-later t ns i n c.loop-name-test.true c.name-item.is there) ∙ c.loop-name.invariant

use Rattle.std.proofs.Common.{rules, ◌≡◌, option_map, sym, ap, ◌∙◌}
use Rattle.tough_schema.specs.Target.{target_doc}
use Rattle.tough_schema.specs.Search.{search}
use Rattle.tough_schema.proofs.targets.Targets.find_target.Goals as goal

pub returns-in-Some-clause-found : goal.returns-in-Some-clause-found
returns-in-Some-clause-found c =
    ap (search c.args.permissive c.args.name.now) (sym (ap (λ d. d.0) c.in_ok-nodes.ensures.nodes)) ∙ sym c.in_ok-target.ensures.found ∙ ap (option_map (λ t. target_doc t.now)) c.in-Some.is

pub returns : goal.returns
returns c =
    let same : c.in_ok-clone-in-None.field-0 ≡ c.args.name.now = Prim.search rules in
    record {
      found = tt;
      missing = (same, ap (search c.args.permissive c.args.name.now) (sym (ap (λ d. d.0) c.in_ok-nodes.ensures.nodes)) ∙ sym c.in_ok-target.ensures.found ∙ ap (option_map (λ t. target_doc t.now)) c.in-None.is);
    }

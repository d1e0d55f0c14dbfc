use Rattle.std.proofs.Common.{not, sym, ap, ◌∙◌}
use Rattle.tough_keys.specs.Key.{key_doc}
use Rattle.tough_roles.specs.Root.{keys_doc}
use Rattle.tough_checks.proofs.Rotated.{next-place, other-place, turned}
use Rattle.tough_checks.proofs.rotation.are_same_keys.Goals as goal

pub loop-place-preserved : goal.loop-place-preserved
loop-place-preserved c =
    sym (next-place (keys_doc c.args.old.now.keys.entries) c.args.old_ids.now (keys_doc c.args.new.now.keys.entries) c.args.new_ids.now c.loop-place.place
    (key_doc c.in-Some-Some.old.now) (key_doc c.in-Some-Some.new.now) (sym c.in-Some-Some.ensures) (sym c.in-Some-Some.ensures') (turned _ _ c.ne.ensures ∙ ap not c.if-ne.false))
    ∙ c.loop-place.invariant

pub returns-then-ne : goal.returns-then-ne
returns-then-ne c =
    sym (other-place (keys_doc c.args.old.now.keys.entries) c.args.old_ids.now (keys_doc c.args.new.now.keys.entries) c.args.new_ids.now c.loop-place.place
    (key_doc c.in-Some-Some.old.now) (key_doc c.in-Some-Some.new.now) (sym c.in-Some-Some.ensures) (sym c.in-Some-Some.ensures') (turned _ _ c.ne.ensures ∙ ap not c.if-ne.true))
    ∙ c.loop-place.invariant

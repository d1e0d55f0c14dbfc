use Rattle.std.proofs.Common.{option_map}
use Rattle.tough_schema.specs.Whole.{tree_doc, held_doc}
use Rattle.tough_schema.proofs.Ways.{put-whole}
use Rattle.tough_schema.proofs.targets.Targets.put_along.Goals as goal

pub returns : goal.returns
returns c = λ each.
    put-whole c.args.way.now c.in-Some.others.now c.in-Some.first.now (held_doc c.args.new) (tree_doc c.args.self.now) (tree_doc c.exchange_in-old.new.document) (tree_doc c.exchange_in.new.document)
    (option_map held_doc c.exchange_in-old.result) (option_map held_doc c.turn-last.result) (option_map held_doc c.turn_back-whole.result)
    c.in-Some.ensures.cases.0 c.exchange_in-old.ensures.tree c.exchange_in-old.ensures.old c.turn-last.ensures c.turn_back-whole.ensures c.exchange_in.ensures.tree each

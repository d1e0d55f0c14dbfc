use Rattle.std.proofs.Common.{◌≡◌, [], ap, sym, ◌∙◌}
use Rattle.std.proofs.lemmas.List.{nil_from_length}
use Rattle.tough_schema.specs.Putting.{rest_of}
use Rattle.tough_schema.proofs.Ways.{behind-way, behind-work}
use Rattle.tough_schema.proofs.way.behind.Goals as goal

pub returns-in-Some-split_first-clause-way : goal.returns-in-Some-split_first-clause-way
returns-in-Some-split_first-clause-way c = λ name.
    behind-way name c.pop.new.self.items c.args.above.now.items c.in-Some.list c.in-Some-split_first.others.now c.in-Some.ensures.items (ap rest_of c.in-Some-split_first.ensures.cases.0)

pub returns-in-Some-split_first-clause-fewer : goal.returns-in-Some-split_first-clause-fewer
returns-in-Some-split_first-clause-fewer c =
    behind-work c.pop.new.self.items c.args.above.now.items c.in-Some.list c.in-Some-split_first.others.now c.in-Some.ensures.items (ap rest_of c.in-Some-split_first.ensures.cases.0)

pub returns-in-None-clause-way : goal.returns-in-None-clause-way
returns-in-None-clause-way c = λ name.
    let none : c.in-Some.list.now ≡ [] = nil_from_length c.in-Some.list.now c.in-None.ensures.cases in
    behind-way name c.pop.new.self.items c.args.above.now.items c.in-Some.list c.in-Some.list.now c.in-Some.ensures.items (ap rest_of none ∙ sym none)

pub returns-in-None-clause-fewer : goal.returns-in-None-clause-fewer
returns-in-None-clause-fewer c =
    let none : c.in-Some.list.now ≡ [] = nil_from_length c.in-Some.list.now c.in-None.ensures.cases in
    behind-work c.pop.new.self.items c.args.above.now.items c.in-Some.list c.in-Some.list.now c.in-Some.ensures.items (ap rest_of none ∙ sym none)

use Rattle.tough_names.proofs.Seeking.{sought-first, sought-none}
use Rattle.tough_names.proofs.pattern.matching.first_place.Goals as goal

pub returns-in-None : goal.returns-in-None
returns-in-None c = λ parts. sought-none c.args.plain.now c.args.text.now c.utf8.plain c.utf8.text c.in-None.ensures.cases parts

pub returns-in-Some : goal.returns-in-Some
returns-in-Some c = λ parts.
    let found = c.in-Some.ensures.cases in
    sought-first c.args.plain.now c.args.text.now c.utf8.plain c.utf8.text c.in-Some.at c.range_from.result.now c.range_from.ensures.value found.3 found.3.0 found.1.0 parts

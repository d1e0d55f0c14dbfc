use Rattle.tough_names.proofs.Texts.{tail_from_char}
use Rattle.tough_names.proofs.pattern.matching.split_first.Goals as goal

pub returns : goal.returns
returns c = tail_from_char c.args.text.now c.as_str.result.now c.in_ok-first.first c.utf8.text c.as_str.utf8 (let h = c.in_ok-first.ensures.steps.0 in cc)

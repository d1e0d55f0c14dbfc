use Rattle.std.proofs.Common.{[], refl}
use Rattle.tough_json.proofs.pieces.ObjectText.behind.Goals as goal

pub returns : goal.returns
returns c = record {
  kind = refl;
  simple = tt;
  above = λ n less. tt;
  pieces = [];
  told = refl;
  text = c.in_ok-extend_from_slice.ensures.items;
  first = refl;
}

use Rattle.std.proofs.Common.{Some, ap, sym, ◌∙◌}
use Rattle.serde_json.specs.View.{view}
use Rattle.tough_json.specs.Pieces.{text_in}
use Rattle.tough_json.proofs.lemmas.Piece.{if_ok}
use Rattle.tough_json.proofs.pieces.ObjectText.push.Goals as goal

pub returns : goal.returns
returns c = if_ok c.push_text.result
    (λ told base form ms s. told base form ms (view c.args.value.now) s (ap (λ k. text_in k (view c.args.value.now)) (sym s.kind) ∙ c.in_ok-text.ensures ∙ ap Some (sym c.as_slice.ensures.value)))
    c.push_text.ensures

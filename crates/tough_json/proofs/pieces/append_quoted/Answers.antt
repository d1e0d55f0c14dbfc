use Rattle.std.proofs.Common.{[], ◌∷◌, ◌++◌, ap, ◌∙◌}
use Rattle.tough_json.proofs.lemmas.Piece.{quoted-behind, quoted-text}
use Rattle.tough_json.proofs.pieces.append_quoted.Goals as goal

pub returns : goal.returns
returns c = λ form.
    let s = c.args.text.now in (
      34 ∷ (s ++ 34 ∷ []),
      quoted-text form s (c.is_simple.ensures c.if-not-is_simple.false),
      quoted-behind c.args.out.items s _ _ _ c.in_ok-extend_from_slice.ensures.items (c.in_ok-extend_from_slice-2.ensures.items ∙ ap (λ l. c.extend_from_slice.new.self.items ++ l) c.as_bytes.ensures.value) c.in_ok-extend_from_slice-3.ensures.items,
    )

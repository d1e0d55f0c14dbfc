use Rattle.std.proofs.Common.{◌≡◌, ◌++◌, false, refl, ap, sym, ◌∙◌, string_bytes, nat_cmp}
use Rattle.std.specs.Cmp.Lexicographic.{slice_cmp}
use Rattle.std.specs.Ordering.{is_le}
use Rattle.tough_json.specs.Pieces.{IsSimple}
use Rattle.tough_json.proofs.lemmas.Piece.{below-from, named-next}
use Rattle.tough_json.proofs.pieces.ObjectText.write_name.Goals as goal

pub returns-clause-named : goal.returns-clause-named
returns-clause-named c = λ base form ms s.
    let here : IsSimple c.args.name.now = c.is_simple.ensures c.if-not-is_simple.false in
    let low : is_le (slice_cmp nat_cmp c.args.name.now (string_bytes c.args.self.now.last)) ≡ false = ap (λ l. is_le (slice_cmp nat_cmp c.args.name.now l)) (sym c.as_str.ensures.value) ∙ sym c.le.ensures ∙ c.if-le.false in
    named-next base form ms c.args.name.now c.args.self.now _ _ _ s here (below-from (string_bytes c.args.self.now.last) c.args.name.now low) refl (c.in_ok-push_str.ensures.bytes ∙ ap (λ l. l ++ c.args.name.now) c.clear.ensures.bytes) c.in_ok-append_name.ensures

use Rattle.std.proofs.Common.{◌≡◌, ℕ, List, [], ◌∷◌, length, ◌==◌, true, false, option_map, refl, sym, ap, arith, ◌∙◌}
use Rattle.std.proofs.lemmas.Bool.{eqb-true, eqb-false}
use Rattle.std.specs.Prelude.{option_copied}
use Rattle.tough_decoded.specs.Spelled.{Spelled}
use Rattle.tough_keys.specs.Key.{KeyDoc}
use Rattle.tough_roles.specs.Root.{root_doc}
use Rattle.tough_ceremony.specs.Signing.{noted, noted_in, root_ids}
use Rattle.tough_ceremony.proofs.Noting.{are_ids, none_listed}
use Rattle.tough_ceremony.proofs.sign.signer_ids.Goals as goal

is_none : (ids : List Spelled) (n : ℕ) → n ≡ length ids → (n == 0) ≡ true → ids ≡ []
is_none [] n e h = refl
is_none (id ∷ ids) n e h = let zero : n ≡ 0 = eqb-true n 0 h in absurd (omega (arith, e, zero))

is_some : (ids : List Spelled) (n : ℕ) → n ≡ length ids → (n == 0) ≡ false → ids ≡ [] → ⊥
is_some [] n e h w = eqb-false n 0 h e
is_some (id ∷ ids) n e h w = cc

pub returns-then-is_empty-clause-refused : goal.returns-then-is_empty-clause-refused
returns-then-is_empty-clause-refused g c =
    let r = root_doc c.args.root.now in
    let old = option_map root_doc (option_copied c.args.old) in
    none_listed (g.S.Sign.key c.args.signer.now) r old c.in_ok-ids.ids.items (c.in_ok-ids.ensures ∙ ap (λ (k : KeyDoc). noted_in k (noted r.keys k [] (root_ids r)) old) c.in_ok-key.ensures.key)
    (is_none c.in_ok-ids.ids.items c.in_ok-ids.ids.len c.in_ok-ids.ids.ok.0 (sym c.is_empty.ensures ∙ c.if-is_empty.true))

pub returns-clause-ids : goal.returns-clause-ids
returns-clause-ids g c =
    let r = root_doc c.args.root.now in
    let old = option_map root_doc (option_copied c.args.old) in
    are_ids (g.S.Sign.key c.args.signer.now) r old c.in_ok-ids.ids.items (c.in_ok-ids.ensures ∙ ap (λ (k : KeyDoc). noted_in k (noted r.keys k [] (root_ids r)) old) c.in_ok-key.ensures.key)
    (is_some c.in_ok-ids.ids.items c.in_ok-ids.ids.len c.in_ok-ids.ids.ok.0 (sym c.is_empty.ensures ∙ c.if-is_empty.false))

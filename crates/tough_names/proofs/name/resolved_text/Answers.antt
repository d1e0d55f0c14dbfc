use Rattle.std.proofs.Common.{◌≡◌, ℕ, List, [], ◌∷◌, ◌++◌, ap, ◌∙◌, sym, lit<, IfOk, string_bytes, subst, get_or, ◌==◌, Bor}
use Rattle.std.specs.List.{join_by}
use Rattle.tough_names.proofs.Joining.{resolved, mark_some, mark_none}
use Rattle.tough_names.proofs.name.resolved_text.Goals as goal

pub returns-then-starts_with : goal.returns-then-starts_with
returns-then-starts_with c =
    let b : c.starts_with.result ≡ (get_or c.args.text.now 0 0 == 47) = c.starts_with.ensures.byte (lit< tt) (lit< tt) (λ w o h. h) in
    let m = mark_some c.args.text.now (cc) in
    let P : List ℕ → Type 0 = λ t. IfOk c.format.result (λ r. string_bytes r ≡ t) in
    subst P (ap (λ t. t ++ string_bytes c.in_ok-path.path) (sym m) ∙ resolved c.args.text.now (string_bytes c.in_ok-path.path) c.in_ok-kept.kept.items (c.in_ok-path.ensures.ok ∙ ap (join_by (λ (x : Bor (List ℕ)). x.now) (47 ∷ [])) c.as_slice.ensures.value) c.in_ok-kept.ensures) c.format.ensures.ok

pub returns : goal.returns
returns c =
    let b : c.starts_with.result ≡ (get_or c.args.text.now 0 0 == 47) = c.starts_with.ensures.byte (lit< tt) (lit< tt) (λ w o h. h) in
    let m = mark_none c.args.text.now (cc) in
    ap (λ t. t ++ string_bytes c.in_ok-path.path) (sym m) ∙ resolved c.args.text.now (string_bytes c.in_ok-path.path) c.in_ok-kept.kept.items (c.in_ok-path.ensures.ok ∙ ap (join_by (λ (x : Bor (List ℕ)). x.now) (47 ∷ [])) c.as_slice.ensures.value) c.in_ok-kept.ensures

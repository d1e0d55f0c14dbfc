-- Keeping components one by one.
use Rattle.std.proofs.Common.{◌≡◌, ℕ, Bool, true, false, List, [], ◌∷◌, ◌++◌, refl, sym, ◌∙◌, ap, take, length, ◌-◌, map, Bor, cond}
use Rattle.std.proofs.lemmas.List.{map-append, take-map, length-map}
use Rattle.std.proofs.lemmas.List.Splits.{join_with_byte-slice_split}
use Rattle.std.specs.List.{join_with_byte}
use Rattle.tough_names.specs.Clean.{components, keep, keep_all, kept_of, mark, resolve, is_idle, is_parent}

pub keep_all-snoc : (kept xs : List (List ℕ)) (x : List ℕ) → keep_all kept (xs ++ x ∷ []) ≡ keep (keep_all kept xs) x
keep_all-snoc kept [] x = refl
keep_all-snoc kept (y ∷ ys) x = keep_all-snoc (keep kept y) ys x

-- the texts behind the references
abbrev pub texts : List (Bor (List ℕ)) → List (List ℕ)
texts xs = map (λ x. x.now) xs

pub after_one : (kept seen : List (Bor (List ℕ))) (x : Bor (List ℕ)) (new : List (Bor (List ℕ))) → texts kept ≡ keep_all [] (texts seen) → texts new ≡ keep (texts kept) x.now → texts new ≡ keep_all [] (texts (seen ++ x ∷ []))
after_one kept seen x new before now =
    now ∙ ap (λ k. keep k x.now) before ∙ sym (ap (keep_all []) (map-append (λ y. y.now) seen (x ∷ [])) ∙ keep_all-snoc [] (texts seen) x.now)

pub chosen_first : (A : Type 0) (b : Bool) (x y : A) → b ≡ true → cond b x y ≡ x
chosen_first A true x y e = refl
chosen_first A false x y e = cc

pub chosen_second : (A : Type 0) (b : Bool) (x y : A) → b ≡ false → cond b x y ≡ y
chosen_second A true x y e = cc
chosen_second A false x y e = refl

pub keeps_parent : (kept : List (Bor (List ℕ))) (x : Bor (List ℕ)) → is_parent x.now ≡ true → texts (take (length kept - 1) kept) ≡ keep (texts kept) x.now
keeps_parent kept x e =
    sym (take-map (λ y. y.now) (length kept - 1) kept) ∙ (ap (λ n. take (n - 1) (texts kept)) (sym (length-map kept (λ y. y.now))) ∙ sym (chosen_first _ (is_parent x.now) _ _ e))

pub keeps_idle : (kept : List (Bor (List ℕ))) (x : Bor (List ℕ)) → is_parent x.now ≡ false → is_idle x.now ≡ true → texts kept ≡ keep (texts kept) x.now
keeps_idle kept x e f = sym (chosen_second _ (is_parent x.now) _ _ e ∙ chosen_first _ (is_idle x.now) _ _ f)

pub keeps_named : (kept : List (Bor (List ℕ))) (x : Bor (List ℕ)) → is_parent x.now ≡ false → is_idle x.now ≡ false → texts (kept ++ x ∷ []) ≡ keep (texts kept) x.now
keeps_named kept x e f = map-append (λ y. y.now) kept (x ∷ []) ∙ sym (chosen_second _ (is_parent x.now) _ _ e ∙ chosen_second _ (is_idle x.now) _ _ f)

-- a text of which each component is kept, and with no slash before the first, resolves to itself
pub all_kept : (text : List ℕ) (seen : List (Bor (List ℕ))) → mark text ≡ [] → texts seen ≡ components text → texts seen ≡ keep_all [] (texts seen) → resolve text ≡ text
all_kept text seen m e h =
    ap (λ t. t ++ join_with_byte 47 (kept_of text)) m
    ∙ ap (join_with_byte 47) (ap (keep_all []) (sym e) ∙ sym h ∙ e)
    ∙ join_with_byte-slice_split 47 text

-- Resolved texts: no part of them is idle, none leads back, and they resolve to themselves.
use Rattle.std.proofs.Common.{◌≡◌, ◌≢◌, ℕ, Bool, true, false, List, [], ◌∷◌, ◌++◌, ◌⊎◌, inl, inr, refl, sym, ◌∙◌, ap, subst, length, take, cond, ◌==◌, ◌-◌, ◌<◌, codes, append_assoc, append-nil, arith, zero, suc, get_or}
use Rattle.std.specs.List.{onto_first, join_with_byte, AllByRecursion, All}
use Rattle.std.proofs.lemmas.List.Splits.{slice_split_at, slice_split_none}
use Rattle.tough_names.specs.Clean.{components, keep, keep_all, kept_of, mark, resolve, is_idle, is_parent, IsProper, IsSafe, after_mark}
use Rattle.tough_names.proofs.Keeping.{chosen_second}

abbrev pub NoSlash : List ℕ → Type 0
NoSlash part = AllByRecursion (λ b. (b == 47) ≡ false) part

pub record IsPlain (part : List ℕ) : Type 0 where
  pub parent : is_parent part ≡ false
  pub idle : is_idle part ≡ false
  pub slash : NoSlash part

abbrev pub ArePlain : List (List ℕ) → Type 0
ArePlain parts = AllByRecursion IsPlain parts

abbrev pub HaveNoSlash : List (List ℕ) → Type 0
HaveNoSlash parts = AllByRecursion NoSlash parts

all_from_at : {X : Type 0} (P : X → Type 0) (x : X) (xs : List X) → P x → All P xs → (k : ℕ) (d : X) → k < length (x ∷ xs) → P (get_or (x ∷ xs) k d)
all_from_at P x xs p h zero d lt = p
all_from_at P x xs p h (suc k) d lt = h k d (omega arith)

all_from : {X : Type 0} (P : X → Type 0) (xs : List X) → AllByRecursion P xs → All P xs
all_from P [] h = λ k d lt. absurd (omega arith)
all_from P (x ∷ xs) (p, ps) = λ k d. all_from_at P x xs p (all_from P xs ps) k d

onto_first_no_slash : (b : ℕ) (parts : List (List ℕ)) → (b == 47) ≡ false → HaveNoSlash parts → HaveNoSlash (onto_first b parts)
onto_first_no_slash b [] e h = ((e, tt), tt)
onto_first_no_slash b (part ∷ parts) e (p, ps) = ((e, p), ps)

split_step : (b : ℕ) (parts : List (List ℕ)) (v : Bool) → (b == 47) ≡ v → HaveNoSlash parts → HaveNoSlash (cond v ([] ∷ parts) (onto_first b parts))
split_step b parts true e h = (tt, h)
split_step b parts false e h = onto_first_no_slash b parts e h

pub no_slash_in_parts : (text : List ℕ) → HaveNoSlash (components text)
no_slash_in_parts [] = (tt, tt)
no_slash_in_parts (b ∷ bs) = split_step b (components bs) (b == 47) refl (no_slash_in_parts bs)

plain_take : (n : ℕ) (parts : List (List ℕ)) → ArePlain parts → ArePlain (take n parts)
plain_take zero parts h = tt
plain_take (suc n) [] h = tt
plain_take (suc n) (part ∷ parts) (p, ps) = (p, plain_take n parts ps)

plain_more : (parts : List (List ℕ)) (part : List ℕ) → ArePlain parts → IsPlain part → ArePlain (parts ++ part ∷ [])
plain_more [] part h p = (p, tt)
plain_more (x ∷ xs) part (h, hs) p = (h, plain_more xs part hs p)

keep_step : (kept : List (List ℕ)) (part : List ℕ) (v w : Bool) → is_parent part ≡ v → is_idle part ≡ w → NoSlash part → ArePlain kept → ArePlain (cond v (take (length kept - 1) kept) (cond w kept (kept ++ part ∷ [])))
keep_step kept part true w e f n h = plain_take (length kept - 1) kept h
keep_step kept part false true e f n h = h
keep_step kept part false false e f n h = plain_more kept part h (record { parent = e; idle = f; slash = n })

keep_all_plain : (kept parts : List (List ℕ)) → ArePlain kept → HaveNoSlash parts → ArePlain (keep_all kept parts)
keep_all_plain kept [] h n = h
keep_all_plain kept (part ∷ parts) h (n, ns) =
    keep_all_plain (keep kept part) parts (keep_step kept part (is_parent part) (is_idle part) refl refl n h) ns

pub kept_plain : (text : List ℕ) → ArePlain (kept_of text)
kept_plain text = keep_all_plain [] (components text) tt (no_slash_in_parts text)

keep_plain_same : (kept : List (List ℕ)) (part : List ℕ) → IsPlain part → keep kept part ≡ kept ++ part ∷ []
keep_plain_same kept part p = chosen_second _ (is_parent part) _ _ p.parent ∙ chosen_second _ (is_idle part) _ _ p.idle

keep_all_same : (kept parts : List (List ℕ)) → ArePlain parts → keep_all kept parts ≡ kept ++ parts
keep_all_same kept [] h = sym (append-nil kept)
keep_all_same kept (part ∷ parts) (p, ps) =
    ap (λ k. keep_all k parts) (keep_plain_same kept part p) ∙ keep_all_same (kept ++ part ∷ []) parts ps ∙ append_assoc kept (part ∷ []) parts

split_join : (part : List ℕ) (parts : List (List ℕ)) → ArePlain (part ∷ parts) → components (join_with_byte 47 (part ∷ parts)) ≡ part ∷ parts
split_join part [] (p, ps) = slice_split_none (λ b. b == 47) part (all_from _ part p.slash)
split_join part (next ∷ parts) (p, ps) =
    slice_split_at (λ b. b == 47) part 47 (join_with_byte 47 (next ∷ parts)) (all_from _ part p.slash) refl ∙ ap (λ x. part ∷ x) (split_join next parts ps)

kept_join : (parts : List (List ℕ)) → ArePlain parts → kept_of (join_with_byte 47 parts) ≡ parts
kept_join [] h = refl
kept_join (part ∷ parts) h = ap (keep_all []) (split_join part parts h) ∙ keep_all_same [] (part ∷ parts) h

not_empty : (part : List ℕ) → IsPlain part → part ≢ []
not_empty part p e = let h : is_idle [] ≡ false = (let P : List ℕ → Type 0 = λ t. is_idle t ≡ false in subst P e p.idle) in cc

join_front : (b : ℕ) (bs : List ℕ) (parts : List (List ℕ)) → (rest : List ℕ) × (join_with_byte 47 ((b ∷ bs) ∷ parts) ≡ b ∷ rest)
join_front b bs [] = (bs, refl)
join_front b bs (next ∷ parts) = (bs ++ (47 ∷ join_with_byte 47 (next ∷ parts)), refl)

mark_join_at : (b : ℕ) (rest text : List ℕ) → (b == 47) ≡ false → text ≡ b ∷ rest → (mark text ≡ []) × (after_mark text ≡ text)
mark_join_at b rest text e f = (ap mark f ∙ chosen_second _ (b == 47) _ _ e, ap after_mark f ∙ (chosen_second _ (b == 47) _ _ e ∙ sym f))

mark_join : (parts : List (List ℕ)) → ArePlain parts → (mark (join_with_byte 47 parts) ≡ []) × (after_mark (join_with_byte 47 parts) ≡ join_with_byte 47 parts)
mark_join [] h = (refl, refl)
mark_join ([] ∷ parts) (p, ps) = absurd (not_empty [] p refl)
mark_join ((b ∷ bs) ∷ parts) (p, ps) =
    let f = join_front b bs parts in mark_join_at b f.0 (join_with_byte 47 ((b ∷ bs) ∷ parts)) p.slash.0 f.1

mark_step : (b : ℕ) (v : Bool) → (cond {A = List ℕ} v (47 ∷ []) [] ≡ []) ⊎ (cond {A = List ℕ} v (47 ∷ []) [] ≡ 47 ∷ [])
mark_step b true = inr refl
mark_step b false = inl refl

mark_cases : (text : List ℕ) → (mark text ≡ []) ⊎ (mark text ≡ 47 ∷ [])
mark_cases [] = inl refl
mark_cases (b ∷ bs) = mark_step b (b == 47)

-- a resolved text, its mark and its parts apart
again_plain : (parts : List (List ℕ)) → ArePlain parts → resolve (join_with_byte 47 parts) ≡ join_with_byte 47 parts
again_plain parts h = ap (λ m. m ++ join_with_byte 47 (kept_of (join_with_byte 47 parts))) (mark_join parts h).0 ∙ ap (join_with_byte 47) (kept_join parts h)

again_marked : (parts : List (List ℕ)) → ArePlain parts → resolve (47 ∷ join_with_byte 47 parts) ≡ 47 ∷ join_with_byte 47 parts
again_marked parts h = ap (λ p. 47 ∷ join_with_byte 47 p) (kept_join parts h)

again_from : (text m : List ℕ) (parts : List (List ℕ)) → ArePlain parts → (m ≡ []) ⊎ (m ≡ 47 ∷ []) → resolve (m ++ join_with_byte 47 parts) ≡ m ++ join_with_byte 47 parts
again_from text m parts h (inl e) = let P : List ℕ → Type 0 = λ x. resolve (x ++ join_with_byte 47 parts) ≡ x ++ join_with_byte 47 parts in subst P (sym e) (again_plain parts h)
again_from text m parts h (inr e) = let P : List ℕ → Type 0 = λ x. resolve (x ++ join_with_byte 47 parts) ≡ x ++ join_with_byte 47 parts in subst P (sym e) (again_marked parts h)

pub resolves_once : (text : List ℕ) → resolve (resolve text) ≡ resolve text
resolves_once text = again_from text (mark text) (kept_of text) (kept_plain text) (mark_cases text)

after_from : (m : List ℕ) (parts : List (List ℕ)) → ArePlain parts → (m ≡ []) ⊎ (m ≡ 47 ∷ []) → after_mark (m ++ join_with_byte 47 parts) ≡ join_with_byte 47 parts
after_from m parts h (inl e) = ap (λ x. after_mark (x ++ join_with_byte 47 parts)) e ∙ (mark_join parts h).1
after_from m parts h (inr e) = ap (λ x. after_mark (x ++ join_with_byte 47 parts)) e

plain_proper : (part : List ℕ) → IsPlain part → IsProper part
plain_proper part p = (
  not_empty part p,
  λ e. (let h : is_idle (codes ".") ≡ false = (let P : List ℕ → Type 0 = λ t. is_idle t ≡ false in subst P e p.idle) in cc),
  λ e. (let h : is_parent (codes "..") ≡ false = (let P : List ℕ → Type 0 = λ t. is_parent t ≡ false in subst P e p.parent) in cc),
)

proper_parts : (parts : List (List ℕ)) → ArePlain parts → AllByRecursion IsProper parts
proper_parts [] h = tt
proper_parts (part ∷ parts) (p, ps) = (plain_proper part p, proper_parts parts ps)

safe_parts : (parts : List (List ℕ)) → ArePlain parts → parts ≢ [] → All IsProper (components (join_with_byte 47 parts))
safe_parts [] h some = absurd (some refl)
safe_parts (part ∷ parts) h some =
    let P : List (List ℕ) → Type 0 = λ x. All IsProper x in
    subst P (sym (split_join part parts h)) (all_from IsProper (part ∷ parts) (proper_parts (part ∷ parts) h))

pub safe_from : (text : List ℕ) → kept_of text ≢ [] → IsSafe (resolve text)
safe_from text some =
    let P : List ℕ → Type 0 = λ t. All IsProper (components t) in
    subst P (sym (after_from (mark text) (kept_of text) (kept_plain text) (mark_cases text))) (safe_parts (kept_of text) (kept_plain text) some)

none_from : (m : List ℕ) (parts : List (List ℕ)) → parts ≡ [] → (m ≡ []) ⊎ (m ≡ 47 ∷ []) → (m ++ join_with_byte 47 parts ≡ []) ⊎ (m ++ join_with_byte 47 parts ≡ 47 ∷ [])
none_from m parts e (inl f) = inl (ap (λ p. m ++ join_with_byte 47 p) e ∙ (append-nil m ∙ f))
none_from m parts e (inr f) = inr (ap (λ p. m ++ join_with_byte 47 p) e ∙ (append-nil m ∙ f))

pub some_kept : (text : List ℕ) → resolve text ≢ [] → resolve text ≢ 47 ∷ [] → kept_of text ≢ []
some_kept text f g e = elim (none_from (mark text) (kept_of text) e (mark_cases text)) [ inl a ↦ f a | inr b ↦ g b ]

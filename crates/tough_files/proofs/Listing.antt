-- The names of a folder's entries, and what stands in the folder.
use Rattle.std.proofs.Common.{◌≡◌, ◌⊎◌, inl, inr, ℕ, Bool, true, false, cond, if◌then◌else◌, ◌||◌, map, List, [], ◌∷◌, ◌++◌, Option, Some, None, Contains, IsSome, String, option_map, string_bytes, bytes_eq, is_eq, nat_cmp, arith, refl, sym, ap, subst, ◌∙◌, ⊎_elim}
use Rattle.std.specs.Cmp.Lexicographic.{slice_cmp, bytes_decides}
use Rattle.std.specs.List.{list_any, IsDistinct}
use Rattle.std.specs.Map.{lookup}
use Rattle.std.specs.BTreeMap.{is_at}
use Rattle.std.proofs.lemmas.Bool.{cases_Bool, false≢true}
use Rattle.std.proofs.lemmas.Cmp.{nat_list_eq_equiv}
use Rattle.std.proofs.lemmas.Map.Keys.{IsDistinct-push}
use Rattle.std.proofs.lemmas.Map.Text.{is_eq-slice_cmp}
use Rattle.std.proofs.lemmas.Map.Views.{Contains-from_any}
use Rattle.std.proofs.lemmas.List.Elements.{Contains-append_left, Contains-append_right, Contains-append_cases}
use Rattle.tough_files.specs.declared.tree.Stored.{Stored}
use Rattle.tough_files.specs.declared.tree.Tree.{Tree}
use Rattle.tough_files.specs.Contents.{Node}
use Rattle.tough_files.specs.Changes.{IsListing, name_in}
use Rattle.tough_files.specs.Tree.{node_of, contents_of, and_name, entry_names}

-- what stands at the path, among these entries
abbrev at : {A : Type 0} → List ℕ → List (String A × Stored) → Option Node
at path entries = option_map node_of (lookup (is_at (λ k. slice_cmp nat_cmp path (string_bytes k))) entries)

IsSome-cond : {X Y : Type 0} (f : X → Y) (b : Bool) (x : X) (o : Option X) → (b ≡ false → IsSome (option_map f o)) → IsSome (option_map f (cond b (Some x) o))
IsSome-cond f true x o later = refl
IsSome-cond f false x o later = later refl

-- ---- one more name

pub among : {A : Type 0} (name : List ℕ) (names : List (String A)) → list_any (bytes_eq name) (map string_bytes names) ≡ list_any (λ known. bytes_eq name (string_bytes known)) names
among name [] = refl
among name (n ∷ ns) = ap (λ b. bytes_eq name (string_bytes n) || b) (among name ns)

alone : (n name : List ℕ) → Contains (n ∷ []) name → n ≡ name
alone n name c = grind (arith, c)

was-if : (b : Bool) (names : List (List ℕ)) (n name : List ℕ) → Contains (if b then names else names ++ n ∷ []) name → Contains names name ⊎ (Some n ≡ Some name)
was-if true names n name c = inl c
was-if false names n name c = ⊎_elim inl (λ h. inr (ap Some (alone n name h))) (Contains-append_cases names (n ∷ []) name c)

was : (names : List (List ℕ)) (o : Option (List ℕ)) (name : List ℕ) → Contains (and_name names o) name → Contains names name ⊎ (o ≡ Some name)
was names None name c = inl c
was names (Some n) name c = was-if (list_any (bytes_eq n) names) names n name c

kept-if : (b : Bool) (names : List (List ℕ)) (n name : List ℕ) → Contains names name → Contains (if b then names else names ++ n ∷ []) name
kept-if true names n name c = c
kept-if false names n name c = Contains-append_left names (n ∷ []) name c

kept : (names : List (List ℕ)) (o : Option (List ℕ)) (name : List ℕ) → Contains names name → Contains (and_name names o) name
kept names None name c = c
kept names (Some n) name c = kept-if (list_any (bytes_eq n) names) names n name c

same-bytes : (x y : List ℕ) → bytes_eq x y ≡ true → x ≡ y
same-bytes x y e = (bytes_decides x y).0 e

added-if : (b : Bool) (names : List (List ℕ)) (n : List ℕ) → list_any (bytes_eq n) names ≡ b → Contains (if b then names else names ++ n ∷ []) n
added-if true names n e = Contains-from_any same-bytes n names e
added-if false names n e = Contains-append_right names (n ∷ []) n (0, omega arith, refl)

added : (names : List (List ℕ)) (n : List ℕ) → Contains (and_name names (Some n)) n
added names n = added-if (list_any (bytes_eq n) names) names n refl

once-if : (b : Bool) (names : List (List ℕ)) (n : List ℕ) → list_any (bytes_eq n) names ≡ b → IsDistinct bytes_eq names → IsDistinct bytes_eq (if b then names else names ++ n ∷ [])
once-if true names n e d = d
once-if false names n e d = IsDistinct-push nat_list_eq_equiv names n d e

once-more : (names : List (List ℕ)) (o : Option (List ℕ)) → IsDistinct bytes_eq names → IsDistinct bytes_eq (and_name names o)
once-more names None d = d
once-more names (Some n) d = once-if (list_any (bytes_eq n) names) names n refl d

-- ---- the names of all entries

there : {A : Type 0} (dir : List ℕ) (names : List (List ℕ)) (entries : List (String A × Stored)) (name : List ℕ) → Contains (entry_names dir names entries) name
    → Contains names name ⊎ ((path : List ℕ) × IsSome (at path entries) × (name_in dir path ≡ Some name))
there dir names [] name c = inl c
there dir names (e ∷ es) name c =
    let key = string_bytes e.0 in
    ⊎_elim
    (λ before. ⊎_elim inl
    (λ here.
    let same : is_eq (slice_cmp nat_cmp key key) ≡ true = is_eq-slice_cmp key key ∙ (bytes_decides key key).1 refl in
    inr (key, subst (λ b. IsSome (option_map node_of (cond b (Some e.1) (lookup (is_at (λ k. slice_cmp nat_cmp key (string_bytes k))) es)))) (sym same) refl, here))
    (was names (name_in dir key) name before))
    (λ found. inr (found.0, IsSome-cond node_of (is_eq (slice_cmp nat_cmp found.0 key)) e.1 (lookup (is_at (λ k. slice_cmp nat_cmp found.0 (string_bytes k))) es) (λ no. found.1), found.2))
    (there dir (and_name names (name_in dir key)) es name c)

stays : {A : Type 0} (dir : List ℕ) (names : List (List ℕ)) (entries : List (String A × Stored)) (name : List ℕ) → Contains names name → Contains (entry_names dir names entries) name
stays dir names [] name c = c
stays dir names (e ∷ es) name c = stays dir (and_name names (name_in dir (string_bytes e.0))) es name (kept names (name_in dir (string_bytes e.0)) name c)

all_at : {A : Type 0} (dir : List ℕ) (names : List (List ℕ)) (entries : List (String A × Stored)) (path name : List ℕ) → IsSome (at path entries) → name_in dir path ≡ Some name → Contains (entry_names dir names entries) name
all_at dir names [] path name some e = absurd (false≢true some)
all_at dir names (e ∷ es) path name some named =
    let key = string_bytes e.0 in
    let same = is_eq (slice_cmp nat_cmp path key) in
    ⊎_elim
    (λ yes.
    let at_key : path ≡ key = (bytes_decides path key).0 (sym (is_eq-slice_cmp path key) ∙ yes) in
    let is : name_in dir key ≡ Some name = subst (λ p. name_in dir p ≡ Some name) at_key named in
    stays dir (and_name names (name_in dir key)) es name (subst (λ o. Contains (and_name names o) name) (sym is) (added names name)))
    (λ no. all_at dir (and_name names (name_in dir key)) es path name (subst (λ b. IsSome (option_map node_of (cond b (Some e.1) (lookup (is_at (λ k. slice_cmp nat_cmp path (string_bytes k))) es)))) no some) named)
    (cases_Bool same)

once : {A : Type 0} (dir : List ℕ) (names : List (List ℕ)) (entries : List (String A × Stored)) → IsDistinct bytes_eq names → IsDistinct bytes_eq (entry_names dir names entries)
once dir names [] d = d
once dir names (e ∷ es) d = once dir (and_name names (name_in dir (string_bytes e.0))) es (once-more names (name_in dir (string_bytes e.0)) d)

none-twice : IsDistinct bytes_eq []
unfolding IsDistinct
none-twice = tt

none-yet : (name : List ℕ) → Contains [] name → ⊥
none-yet name c = omega (arith, c.1)

pub listing : (tree : Tree) (dir : List ℕ) → IsListing dir (contents_of tree) (entry_names dir [] tree.nodes.entries)
listing tree dir =
    record {
      there = λ name c. ⊎_elim (λ none. absurd (none-yet name none)) (λ found. found) (there dir [] tree.nodes.entries name c);
      all = all_at dir [] tree.nodes.entries;
      once = once dir [] tree.nodes.entries none-twice;
    }

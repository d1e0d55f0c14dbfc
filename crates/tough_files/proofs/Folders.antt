-- Making a folder after the one above it.
use Rattle.std.proofs.Common.{◌≡◌, ℕ, false, List, Option, Some, None, is_some, ◌⊎◌, inl, inr, ⊎_elim, refl, sym, ap, subst, ◌∙◌, bytes_eq, length, length-append, ◌<◌, ◌+◌, [], ◌∷◌, arith}
use Rattle.std.specs.Path.{path_parent, path_components}
use Rattle.std.proofs.lemmas.Paths.{path_components_parent}
use Rattle.std.specs.Cmp.Lexicographic.{bytes_decides}
use Rattle.std.proofs.lemmas.Bool.{cases_Bool, false≢true}
use Rattle.tough_files.specs.declared.files.FilesError.{FilesError}
use Rattle.tough_files.specs.declared.files.FilesError.TheVariants.{Failed, Memory}
use Rattle.tough_files.specs.Calls.{Answered, done, refused}
use Rattle.tough_files.specs.Contents.{Node, file, folder, link, Contents, Same, node_at, is_folder}
use Rattle.tough_files.specs.Changes.{Outcome, Gives, IsAbove, itself, under, Grows, MakesFolders, folder_over, put}

-- what a call gave, by whether it found memory
gave : (outcome : Outcome) (before after : Contents) (answered : Answered) → Gives outcome before answered after
    → ((answered ≡ refused Memory) × Same before after) ⊎ ((answered ≡ outcome.answered) × Same outcome.after after)
gave outcome before after (refused Memory) g = inl (refl, g)
gave outcome before after answered g = inr g

above : {p path : List ℕ} → IsAbove p path → (dir : List ℕ) → path_parent path ≡ Some dir → (p ≡ path) ⊎ IsAbove p dir
above itself dir e = inl refl
above {p} (under {dir = upper} up over) dir e =
    let same : upper ≡ dir = cc (up, e) in
    inr (subst (IsAbove p) same over)

carry : (path dir p : List ℕ) (first before after : Option Node) → path_parent path ≡ Some dir → after ≡ before → Grows dir p first before → Grows path p first after
carry path dir p first before after parent e (inl same) = inl (e ∙ same)
carry path dir p first before after parent e (inr new) = inr (new.0, e ∙ new.1, under parent new.2)

put_there : (contents : Contents) (path p : List ℕ) (there : Option Node) → path ≡ p → put contents path there p ≡ there
put_there contents path p there e = rw ((bytes_decides path p).1 e) refl

put_elsewhere : (contents : Contents) (path p : List ℕ) (there : Option Node) → bytes_eq path p ≡ false → put contents path there p ≡ contents p
put_elsewhere contents path p there apart = rw apart refl

none_before : (dir p : List ℕ) (first before : Option Node) → Grows dir p first before → before ≡ None → first ≡ None
none_before dir p first before (inl same) none = sym same ∙ none
none_before dir p first before (inr new) none = new.0

module _ (path dir : List ℕ) (first before after : Contents) (parent : path_parent path ≡ Some dir) (held : MakesFolders dir first done before) where
  -- nothing more was made
  unchanged_grows : Same before after → (p : List ℕ) → Grows path p (first p) (after p)
  unchanged_grows same p = carry path dir p (first p) (before p) (after p) parent (same p) (held.grows p)

  none_more : (answered : Answered) → answered ≡ refused Memory → Same before after → MakesFolders path first answered after
  none_more answered e same = record { grows = unchanged_grows same; made = λ d p over base. absurd (cc (e, d)); stopped = λ f. absurd (cc (e, f)); found = λ n. cc (e, n) }

  new_folder : (answered : Answered) → before path ≡ None → answered ≡ done → Same (put before path (Some folder)) after → MakesFolders path first answered after
  new_folder answered none d same =
      let here : (p : List ℕ) → path ≡ p → after p ≡ Some folder = λ p e. same p ∙ put_there before path p (Some folder) e in
      let there : (p : List ℕ) → bytes_eq path p ≡ false → after p ≡ before p = λ p no. same p ∙ put_elsewhere before path p (Some folder) no in
      record {
        grows = λ p. ⊎_elim
            (λ yes.
            let e : path ≡ p = (bytes_decides path p).0 yes in
            inr (none_before dir p (first p) (before p) (held.grows p) (ap before (sym e) ∙ none), here p e, subst (λ q. IsAbove q path) e itself))
            (λ no. carry path dir p (first p) (before p) (after p) parent (there p no) (held.grows p))
            (cases_Bool (bytes_eq path p));
        made = λ e p over base. ⊎_elim
            (λ yes. here p ((bytes_decides path p).0 yes))
            (λ no. ⊎_elim
            (λ itself_. absurd (false≢true (sym no ∙ (bytes_decides path p).1 (sym itself_))))
            (λ higher. there p no ∙ held.made refl p higher base)
            (above over dir parent))
            (cases_Bool (bytes_eq path p));
        stopped = λ f. absurd (cc (d, f));
        found = λ n. cc (d, n);
      }

  old_folder : (answered : Answered) → before path ≡ Some folder → answered ≡ done → Same before after → MakesFolders path first answered after
  old_folder answered there d same =
      record {
        grows = unchanged_grows same;
        made = λ e p over base. ⊎_elim
            (λ itself_. ap after itself_ ∙ same path ∙ there)
            (λ higher. same p ∙ held.made refl p higher base)
            (above over dir parent);
        stopped = λ f. absurd (cc (d, f));
        found = λ n. cc (d, n);
      }

  in_the_way : (answered : Answered) (node : Node) → before path ≡ Some node → is_folder (Some node) ≡ false → answered ≡ refused Failed → Same before after → MakesFolders path first answered after
  in_the_way answered node there none d same =
      record {
        grows = unchanged_grows same;
        made = λ e p over base. absurd (cc (d, e));
        stopped = λ f. ⊎_elim
            (λ kept. (path, itself, ap (λ o. is_some o) (sym kept ∙ there), ap is_folder (sym kept ∙ there) ∙ none))
            (λ new. absurd (false≢true (sym none ∙ ap is_folder (sym there ∙ new.1))))
            (held.grows path);
        found = λ n. cc (d, n);
      }

  step : (answered : Answered) (there : Option Node) → before path ≡ there → ((answered ≡ refused Memory) × Same before after) ⊎ ((answered ≡ (folder_over path before there).answered) × Same (folder_over path before there).after after) → MakesFolders path first answered after
  step answered there at (inl short) = none_more answered short.0 short.1
  step answered None at (inr g) = new_folder answered at g.0 g.1
  step answered (Some folder) at (inr g) = old_folder answered at g.0 g.1
  step answered (Some (file bytes)) at (inr g) = in_the_way answered (file bytes) at refl g.0 g.1
  step answered (Some (link target)) at (inr g) = in_the_way answered (link target) at refl g.0 g.1

  pub grown : (answered : Answered) → Gives (folder_over path before (node_at before path)) before answered after → MakesFolders path first answered after
  grown answered g =
      let below : node_at before path ≡ before path = rw parent refl in
      step answered (before path) refl (gave (folder_over path before (before path)) before after answered (subst (λ there. Gives (folder_over path before there) before answered after) below g))

pub passed_on : (path dir : List ℕ) (first after : Contents) (e : FilesError) → path_parent path ≡ Some dir → MakesFolders dir first (refused e) after → MakesFolders path first (refused e) after
passed_on path dir first after e parent held =
    record {
      grows = λ p. carry path dir p (first p) (after p) (after p) parent refl (held.grows p);
      made = λ d p over base. absurd (cc (d));
      stopped = λ f. let s = held.stopped f in (s.0, under parent s.1, s.2, s.3);
      found = held.found;
    }

pub shorter : (path dir : List ℕ) → path_parent path ≡ Some dir → length (path_components dir) < length (path_components path)
shorter path dir parent =
    let parts = path_components_parent path dir parent in
    let longer : length (path_components path) ≡ length (path_components dir) + 1 = ap length parts.1 ∙ length-append (path_components dir) (parts.0 ∷ []) in
    omega (arith, longer)

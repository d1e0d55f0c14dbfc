-- The turns of roles, a step at a time.
use Rattle.std.proofs.Common.{◌≡◌, ℕ, zero, suc, ◌+◌, ◌<◌, List, [], ◌∷◌, map, drop, length, Bool, true, false, if◌then◌else◌, Option, Some, None, option_map, Ordering, Less, Equal, Greater, nat_cmp, Result, Ok, Err, IfOk, String, string_bytes, refl, ap, ◌∙◌, sym, arith}
use Rattle.std.proofs.lemmas.List.{drop-drop}
use Rattle.std.proofs.Math.Seq.{drop-nil}
use Rattle.std.specs.declared.alloc.Global.{Global}
use Rattle.std.specs.BTreeMap.{insert_entry}
use Rattle.std.specs.Cmp.Lexicographic.{slice_cmp}
use Rattle.std.specs.Map.{lookup, remove_entry}
use Rattle.std.specs.Ordering.{match_ordering}
use Rattle.std.specs.String.{string_cmp}
use Rattle.tough_roles.specs.Timestamp.{MetafileDoc}
use Rattle.tough_roles.specs.declared.signed.Signed.{Signed}
use Rattle.tough_schema.specs.Tree.{Entry}
use Rattle.tough_schema.specs.Update.{listed_roles}
use Rattle.tough_schema.specs.Search.{Names}
use Rattle.tough_schema.specs.Whole.{HeldDoc, role_tree, held_doc}
use Rattle.tough_schema.specs.declared.delegations.DelegatedRole.{DelegatedRole, out-DelegatedRole}
use Rattle.tough_schema.specs.declared.targets.DelegatedTargets.{DelegatedTargets}
use Rattle.tough_update.specs.delegations.Numbered.{NodeDoc, Nodes, also, last_number, last_document, roles_at}
use Rattle.tough_update.specs.delegations.Growing.{Metas, Look, through, unlisted, wanted, look, Turn, past, stopped, turn_by_look, place_node, offer_for, turn, by_turn, Turns, turns, Fetched, at_name, fetched_for, fetched_after, TaskDoc, WorkDoc, all_past, stopped_at, resumed, by_turns, settle, wants, first_of, with_taken}
use Rattle.tough_trust.specs.delegations.Indexed.{Index, put, names_of}
use Rattle.tough_trust.specs.delegations.Dressed.{entries_of, listed_in}
use Rattle.tough_update.specs.delegations.View.{fetched_doc}
use Rattle.tough_update.proofs.tree.Listing.{Held, query, role-name, listed-held, fetched-lookup, fetched-removed}
use Rattle.tough_update.proofs.tree.Noding.{roles-kept}

pub if_ok-to : {A E : Type 0} (r : Result A E) (P Q : A → Type 0) → ((a : A) → P a → Q a) → IfOk r P → IfOk r Q
if_ok-to (Ok a) P Q f h = f a h
if_ok-to (Err e) P Q f h = tt

-- ---- the document that a role gets

module _ (role : DelegatedRole) (es : List Held) where
  abbrev named : List ℕ
  named = string_bytes (out-DelegatedRole role).name

  found : (o : Option (Signed DelegatedTargets)) → o ≡ lookup (query named) es → fetched_for (role_tree role).0 (fetched_doc es) ≡ option_map held_doc o
  found o is = ap (λ n. lookup (at_name n) (fetched_doc es)) (role-name role) ∙ fetched-lookup named es ∙ ap (option_map held_doc) (sym is)

  pub left-after : (fs : List Held) → fs ≡ remove_entry (query named) es → fetched_doc fs ≡ fetched_after (role_tree role).0 (fetched_doc es)
  left-after fs is = ap fetched_doc is ∙ sym (fetched-removed named es) ∙ ap (λ n. remove_entry (at_name n) (fetched_doc es)) (sym (role-name role))

  module _ (names : Names) (number place : ℕ) where
    pub offer_for-none : None ≡ lookup (query named) es → None ≡ offer_for names number place (role_tree role).0 (fetched_for (role_tree role).0 (fetched_doc es))
    offer_for-none is = sym (ap (offer_for names number place (role_tree role).0) (found None is))

    offer_for-by : (s : Signed DelegatedTargets) (b : Bool) → Some s ≡ lookup (query named) es → names named ≡ b
        → (if b then None else Some (record { parent = number; at = place; document = held_doc s })) ≡ offer_for names number place (role_tree role).0 (fetched_for (role_tree role).0 (fetched_doc es))
    offer_for-by s b is seen =
        let node : Option NodeDoc = Some (record { parent = number; at = place; document = held_doc s }) in
        sym (ap (offer_for names number place (role_tree role).0) (found (Some s) is) ∙ ap (λ n. if names n then None else node) (role-name role) ∙ ap (λ c. if c then None else node) seen)

    pub offer_for-known : (s : Signed DelegatedTargets) → Some s ≡ lookup (query named) es → names named ≡ true → None ≡ offer_for names number place (role_tree role).0 (fetched_for (role_tree role).0 (fetched_doc es))
    offer_for-known s is seen = offer_for-by s true is seen

    pub offer_for-new : (s : Signed DelegatedTargets) → Some s ≡ lookup (query named) es → names named ≡ false
        → Some (record { parent = number; at = place; document = held_doc s }) ≡ offer_for names number place (role_tree role).0 (fetched_for (role_tree role).0 (fetched_doc es))
    offer_for-new s is seen = offer_for-by s false is seen

-- ---- the role whose turn it is

pub first-some : (es : List Entry) (e : Entry) → Some e ≡ first_of es → es ≡ e ∷ drop 1 es
first-some [] e h = absurd (cc (h))
first-some (x ∷ es) e h = let same : x ≡ e = cc in ap (λ y. y ∷ es) same

pub some-within : (es : List Entry) (at : ℕ) (e : Entry) → Some e ≡ first_of (drop at es) → at < length es
some-within [] at e h = let none : None ≡ Some e = sym (h ∙ ap first_of (drop-nil at)) in absurd (cc (none))
some-within (x ∷ es) zero e h = omega arith
some-within (x ∷ es) (suc at) e h = let below : at < length es = some-within es at e h in omega arith

some-there : (es : List Entry) (at : ℕ) (e : Entry) → Some e ≡ first_of (drop at es) → es ≡ [] → ⊥
some-there es at e h none = let lt : at < length es = some-within es at e h in let nil : length es ≡ 0 = ap length none in omega arith

pub drop-next : (es : List Entry) (at : ℕ) → drop (at + 1) es ≡ drop 1 (drop at es)
drop-next es at = sym (drop-drop 1 at es)

pub turn_by_look-nodes : (ms ns : Nodes) (more x : Index) (l : Look) → past ms more ≡ turn_by_look ns x l → ms ≡ ns
turn_by_look-nodes ms ns more x through h = cc
turn_by_look-nodes ms ns more x (unlisted name) h = cc
turn_by_look-nodes ms ns more x (wanted waiting m) h = absurd (cc (h))

-- ---- a document gets its place

-- the roles of the last document
pub listed-last : (ns : Nodes) (s : Signed DelegatedTargets) (rs : List DelegatedRole) → held_doc s ≡ last_document ns → rs ≡ listed_in s → entries_of rs ≡ listed_roles (last_document ns).below
listed-last ns s rs is own = ap entries_of own ∙ listed-held s ∙ ap (λ (x : HeldDoc). listed_roles x.below) is

module _ (metas : Metas) (x more : Index) (ns ms : Nodes) (n : NodeDoc) (s : Signed DelegatedTargets) (rs : List DelegatedRole) (name : List ℕ)
    (marked : more ≡ put name (Some (last_number ms)) x) (pushed : ms ≡ also ns n) (last : held_doc s ≡ last_document ms) (own : rs ≡ listed_in s) where
  abbrev pub entry : Turn
  entry = place_node metas ns x name n

  pub enters : (l : Look) → l ≡ look metas (names_of more) (entries_of rs) → turn_by_look ms more l ≡ entry
  enters l seen =
      let listed : entries_of rs ≡ listed_roles n.document.below = listed-last ms s rs last own ∙ ap (λ (y : Nodes). listed_roles (last_document y).below) pushed in
      let numbered : more ≡ put name (Some (last_number (also ns n))) x = marked ∙ ap (λ (y : Nodes). put name (Some (last_number y)) x) pushed in
      ap (turn_by_look ms more) (seen ∙ ap (look metas (names_of more)) listed) ∙ ap (λ (y : Nodes). turn_by_look y more (look metas (names_of more) (listed_roles n.document.below))) pushed
      ∙ ap (λ (y : Index). turn_by_look (also ns n) y (look metas (names_of y) (listed_roles n.document.below))) numbered

  pub enters-wanted : (at : ℕ) (m : MetafileDoc) → wanted (drop at (entries_of rs)) m ≡ look metas (names_of more) (entries_of rs) → stopped ms (drop at (listed_roles (last_document ms).below)) m more ≡ entry
  enters-wanted at m seen = ap (λ (es : List Entry). stopped ms (drop at es) m more) (sym (listed-last ms s rs last own)) ∙ enters (wanted (drop at (entries_of rs)) m) seen

-- ---- the turns of a list

-- what is left after this role
abbrev pub next_task : TaskDoc → Entry → TaskDoc
next_task t e = record { node = t.node; at = t.at + 1; fetched = fetched_after e t.fetched }

pub next-is : (t : TaskDoc) (e : Entry) (number place : ℕ) (fetched : Fetched) → number ≡ t.node → place ≡ t.at → fetched ≡ fetched_after e t.fetched
    → ◌≡◌ {A = TaskDoc} (record { node = number; at = place + 1; fetched = fetched }) (next_task t e)
next-is t e number place fetched a b c =
    let f : ℕ → ℕ → Fetched → TaskDoc = λ n p g. record { node = n; at = p + 1; fetched = g } in
    ap (λ n. f n place fetched) a ∙ ap (λ p. f t.node p fetched) b ∙ ap (f t.node t.at) c

module _ (metas : Metas) (x : Index) (ns : Nodes) (t : TaskDoc) where
  abbrev pub now : List Entry
  now = drop t.at (roles_at t.node ns)

  module _ (e : Entry) (there : Some e ≡ first_of now) where
    abbrev pub turned : Turn
    turned = turn metas x ns e (offer_for (names_of x) t.node t.at e (fetched_for e t.fetched))

    pub turn-none : None ≡ offer_for (names_of x) t.node t.at e (fetched_for e t.fetched) → past ns x ≡ turned
    turn-none h = ap (turn metas x ns e) h

    pub turn-some : (n : NodeDoc) (name : List ℕ) (r : Turn) → Some n ≡ offer_for (names_of x) t.node t.at e (fetched_for e t.fetched) → name ≡ e.name → r ≡ place_node metas ns x name n → r ≡ turned
    turn-some n name r offer same h = h ∙ ap (λ (q : List ℕ). place_node metas ns x q n) same ∙ ap (turn metas x ns e) offer

    step : (r : Turn) → r ≡ turned
        → by_turn (record { node = t.node; at = suc t.at; fetched = fetched_after e t.fetched }) r (λ ms y. turns metas y ms t.node (suc t.at) (fetched_after e t.fetched) (drop 1 now)) ≡ resumed metas x ns t
    step r h =
        ap (λ (u : Turn). by_turn (record { node = t.node; at = suc t.at; fetched = fetched_after e t.fetched }) u (λ ms y. turns metas y ms t.node (suc t.at) (fetched_after e t.fetched) (drop 1 now))) h
        ∙ sym (ap (turns metas x ns t.node t.at t.fetched) (first-some now e there))

    pub resumed-past : (ms : Nodes) (more : Index) → past ms more ≡ turned → roles_at t.node ms ≡ roles_at t.node ns → resumed metas more ms (next_task t e) ≡ resumed metas x ns t
    resumed-past ms more h same =
        let next : t.at + 1 ≡ suc t.at = omega arith in
        ap (λ rs. turns metas more ms t.node (t.at + 1) (fetched_after e t.fetched) (drop (t.at + 1) rs)) same
        ∙ ap (λ rs. turns metas more ms t.node (t.at + 1) (fetched_after e t.fetched) rs) (drop-next (roles_at t.node ns) t.at)
        ∙ ap (λ (k : ℕ). turns metas more ms t.node k (fetched_after e t.fetched) (drop 1 now)) next ∙ step (past ms more) h

    pub resumed-stopped : (ms : Nodes) (more : Index) (waiting : List Entry) (m : MetafileDoc) → stopped ms waiting m more ≡ turned → stopped_at ms (next_task t e) waiting m more ≡ resumed metas x ns t
    resumed-stopped ms more waiting m h =
        let next : t.at + 1 ≡ suc t.at = omega arith in
        ap (λ (k : ℕ). stopped_at ms (record { node = t.node; at = k; fetched = fetched_after e t.fetched }) waiting m more) next ∙ step (stopped ms waiting m more) h

    pub still-there : (n : NodeDoc) → roles_at t.node (also ns n) ≡ roles_at t.node ns
    still-there n = roles-kept ns n t.node (some-there (roles_at t.node ns) t.at e there)

-- ---- outwards

pub settle-past : (metas : Metas) (x more : Index) (ns ms : Nodes) (t : TaskDoc) (outer : List TaskDoc) → all_past ms more ≡ resumed metas x ns t
    → settle metas more ms outer ≡ settle metas x ns (t ∷ outer)
settle-past metas x more ns ms t outer h = ap (λ (r : Turns). by_turns outer r (λ xs y. settle metas y xs outer)) h

pub settle-stopped : (metas : Metas) (x more : Index) (ns ms : Nodes) (t inner : TaskDoc) (outer : List TaskDoc) (waiting : List Entry) (m : MetafileDoc)
    → stopped_at ms inner waiting m more ≡ resumed metas x ns t
    → wants (record { nodes = ms; outer = inner ∷ outer; index = more; fetched = []; waiting = waiting }) m ≡ settle metas x ns (t ∷ outer)
settle-stopped metas x more ns ms t inner outer waiting m h = ap (λ (r : Turns). by_turns outer r (λ xs y. settle metas y xs outer)) h

-- ---- a document that is taken

chosen-map : (f : Held → List ℕ × HeldDoc) (o : Ordering) (a b c : List Held) (d : Fetched) → map f c ≡ d → map f (match_ordering o a b c) ≡ match_ordering o (map f a) (map f b) d
chosen-map f Less a b c d h = refl
chosen-map f Equal a b c d h = refl
chosen-map f Greater a b c d h = h

pub fetched-inserted : (es : List Held) (k : String Global) (v : Signed DelegatedTargets) → fetched_doc (insert_entry string_cmp es k v) ≡ insert_entry (slice_cmp nat_cmp) (fetched_doc es) (string_bytes k) (held_doc v)
fetched-inserted [] k v = refl
fetched-inserted (e ∷ es) k v =
    let f : Held → List ℕ × HeldDoc = λ x. (string_bytes x.0, held_doc x.1) in
    chosen-map f (string_cmp k e.0) ((k, v) ∷ e ∷ es) ((e.0, v) ∷ es) (e ∷ insert_entry string_cmp es k v) (f e ∷ insert_entry (slice_cmp nat_cmp) (fetched_doc es) (string_bytes k) (held_doc v))
    (ap (λ l. f e ∷ l) (fetched-inserted es k v))

pub taken-some : (w : WorkDoc) (h : HeldDoc) (e : Entry) (rest : List Entry) (f : Fetched) → w.waiting ≡ e ∷ rest → f ≡ insert_entry (slice_cmp nat_cmp) w.fetched e.name h
    → record w { fetched = f; waiting = rest } ≡ with_taken w w.waiting h
taken-some w h e rest f is found = ap (λ g. let x : WorkDoc = record w { fetched = g; waiting = rest } in x) found ∙ sym (ap (λ ws. with_taken w ws h) is)

-- What is left of what is planned, turn by turn.
use Rattle.std.proofs.Common.{◌≡◌, ℕ, ◌+◌, ◌<◌, ◌≤◌, List, [], ◌∷◌, ◌++◌, length, map, drop, get_or, append_assoc, append-nil, Option, Some, None, String, string_bytes, Bor, Bool, subst, refl, sym, ap, ◌∙◌}
use Rattle.std.specs.declared.alloc.Global.{Global}
use Rattle.tough_names.specs.Named.{Named}
use Rattle.std.specs.BTreeMap.{BTreeMap, UpdatesBy, get_by}
use Rattle.std.specs.Cmp.Lexicographic.{slice_cmp}
use Rattle.std.specs.Ordering.{nat_cmp}
use Rattle.std.proofs.lemmas.List.{drop_more, drop_all}
use Rattle.std.proofs.lemmas.Map.Text.{btree_map_updates_str}
use Rattle.tough_client.specs.Plans.{AreNamed, AddsNamed, AddsTargets, first_root, left_in, metadata_turns, roots_down, roots_in, turns_in, last_place, place_from, with_role, role_turns}
use Rattle.tough_update.specs.declared.stage.Received.{Received}
use Rattle.std.specs.Map.{keys_of}
use Rattle.tough_schema.specs.declared.target.Target.{Target}
use Rattle.tough_schema.specs.Gather.{map_docs}
use Rattle.tough_schema.specs.Whole.{TreeDoc}
use Rattle.tough_update.specs.View.{received_docs}
use Rattle.tough_update.specs.Stages.{LoadedDoc, ReceivedDoc}
use Rattle.tough_client.specs.Caching.{PlansAll}
use Rattle.tough_client.specs.declared.plan.Plan.{Plan}
use Rattle.tough_client.specs.declared.plan.Turn.{Turn}
use Rattle.tough_client.specs.declared.plan.Turn.TheVariants as turn

-- one more turn
pub turn_added : (old turns new later : List Turn) (t : Turn) → new ≡ turns ++ t ∷ [] → turns ++ t ∷ later ≡ old → new ++ later ≡ old
turn_added old turns new later t e h = ap (λ ts. ts ++ later) e ∙ append_assoc turns (t ∷ []) later ∙ h

module _ {S : Type 0} (text : S → List ℕ) (names : List S) (i : ℕ) where
  pub named_next : (d : S) → i < length names → (t : String Global) → string_bytes t ≡ text (get_or names i d) → (later : List Turn)
      → AreNamed (map text (drop (i + 1) names)) later → AreNamed (map text (drop i names)) (turn.Named t ∷ later)
  named_next d within t is later h = rw (drop_more names i d within) (is, h)

  pub named_end : length names ≤ i → AreNamed (map text (drop i names)) []
  named_end past = rw (drop_all i names past) tt

pub added_named : (texts : List (List ℕ)) (old turns new later : List Turn) (t : Turn) → new ≡ turns ++ t ∷ [] → AddsNamed texts old (turns ++ t ∷ later) → AddsNamed texts old (new ++ later)
added_named texts old turns new later t e h = (h.0, h.1, turn_added (old ++ h.0) turns new later t e h.2)

pub all_named : (texts : List (List ℕ)) (old turns : List Turn) → AddsNamed texts old (turns ++ []) → AddsNamed texts old turns
all_named texts old turns h = (h.0, h.1, sym (append-nil turns) ∙ h.2)

module _ (received : List Received) (i : ℕ) (d : Received) (within : i < length received) (q : List ℕ) (m n : BTreeMap (Bor (List ℕ)) ℕ) where
  pub place_next : UpdatesBy (λ x y. slice_cmp nat_cmp x.now y.now) (λ k. slice_cmp nat_cmp (string_bytes (get_or received i d).role) k.now) m n (Some i)
      → place_from (i + 1) (received_docs (drop (i + 1) received)) q (get_by (λ k. slice_cmp nat_cmp q k.now) n) ≡ place_from i (received_docs (drop i received)) q (get_by (λ k. slice_cmp nat_cmp q k.now) m)
  place_next h = rw (drop_more received i d within, btree_map_updates_str (string_bytes (get_or received i d).role) m n (Some i) h q) refl

module _ (received : List ReceivedDoc) (names : List (Bor (List ℕ))) (i : ℕ) (d : Bor (List ℕ)) (within : i < length names) where
  role_put : (found : Option ℕ) (turns rest : List Turn) → (turns ++ with_role found []) ++ rest ≡ turns ++ with_role found rest
  role_put None turns rest = ap (λ ts. ts ++ rest) (append-nil turns)
  role_put (Some place) turns rest = append_assoc turns (turn.Role place ∷ []) rest

  pub role_next : (turns new rest : List Turn) (found : Option ℕ) → new ≡ turns ++ with_role found [] → found ≡ last_place received (get_or names i d).now
      → turns ++ role_turns received (map (λ n. n.now) (drop i names)) ≡ rest → new ++ role_turns received (map (λ n. n.now) (drop (i + 1) names)) ≡ rest
  role_next turns new rest found e is h =
      let later : List Turn = role_turns received (map (λ n. n.now) (drop (i + 1) names)) in
      let now : turns ++ with_role found later ≡ turns ++ role_turns received (map (λ n. n.now) (drop i names)) = rw (drop_more names i d within, is) refl in
      ap (λ ts. ts ++ later) e ∙ role_put found turns later ∙ now ∙ h

module _ (left rest : List Named) (name given : Named) where
  -- one more target
  pub target_next : (turns new goal : List Turn) → left ≡ name ∷ rest → given ≡ name → new ≡ turns ++ turn.Target given ∷ [] → turns ++ map turn.Target left ≡ goal
      → new ++ map turn.Target rest ≡ goal
  target_next turns new goal steps same e h =
      turn_added goal turns new (map turn.Target rest) (turn.Target given) e (rw same (ap (λ ns. turns ++ map turn.Target ns) (sym steps) ∙ h))

-- the names of what is listed
pub listed_keys : (es : List (Named × Bor Target)) → keys_of (map_docs es) ≡ keys_of es
listed_keys [] = refl
listed_keys (e ∷ es) = ap (λ ns. e.0 ∷ ns) (listed_keys es)

-- the whole plan: nothing, then the targets, then the metadata
pub all_planned : (l : LoadedDoc) (subset : Option (List (List ℕ))) (chain : Bool) (start mid end : Plan) → turns_in start ≡ [] → roots_in start ≡ first_root chain l
    → (t : TreeDoc) → t ≡ l.targets.role → AddsTargets t subset (turns_in start) (turns_in mid) → roots_in mid ≡ roots_in start → turns_in end ≡ turns_in mid ++ metadata_turns l → roots_in end ≡ roots_in mid
    → PlansAll l subset chain (left_in end)
all_planned l subset chain start mid end none first t is targets same metadata last =
    let P : List Turn → Type 0 = λ ts. AddsTargets t subset ts (turns_in mid) in
    let Q : TreeDoc → Type 0 = λ x. AddsTargets x subset [] (turns_in mid) in (
      turns_in mid,
      subst Q is (subst P none targets),
      ap (λ ts. ts ++ roots_down (roots_in end)) metadata ∙ append_assoc (turns_in mid) (metadata_turns l) (roots_down (roots_in end))
          ∙ ap (λ n. turns_in mid ++ (metadata_turns l ++ roots_down n)) (last ∙ same ∙ first),
    )

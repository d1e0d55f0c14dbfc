-- A tree as numbered nodes.
use Rattle.std.proofs.Common.{◌≡◌, ℕ, ◌+◌, ◌<◌, List, [], ◌∷◌, ◌++◌, length, slice_set, Bor, None, Some, refl, sym, ap, ◌∙◌, arith, append_assoc, length-append}
use Rattle.std.proofs.lemmas.List.{map-append, length-map}
use Rattle.std.proofs.Math.Seq.{set-append_seam}
use Rattle.tough_schema.specs.declared.nodes.Node.{Node}
use Rattle.tough_schema.specs.declared.nodes.Step.{Step}
use Rattle.tough_schema.specs.declared.nodes.Step.TheVariants.{Add, Close}
use Rattle.tough_schema.specs.declared.delegations.DelegatedRole.{DelegatedRole}
use Rattle.tough_schema.specs.Whole.{TreeDoc, Branches, RoleTree, put_branch, role_tree, role_branches}
use Rattle.tough_schema.specs.Preorder.{Occurrence, stop, preorder, preorder_below}
use Rattle.tough_schema.specs.Numbered.{Span, spans, node_spans, inside, preorder_at}
use Rattle.tough_schema.specs.Below.{branches_under, count, work}
use Rattle.tough_schema.specs.Adding.{added, stepped, all_stepped, weight, weights}
use Rattle.tough_schema.proofs.Belows.{inside-under, count-put}

abbrev span : Occurrence → Span
span o = (o.role, stop o)

abbrev node_span : Node → Span
node_span n = (role_tree n.role.now, n.end)

pub length-node_spans : (ns : List Node) → length (node_spans ns) ≡ length ns
length-node_spans ns = length-map ns node_span

pub length-spans : (os : List Occurrence) → length (spans os) ≡ length os
length-spans os = length-map os span

-- ---- roles one after another

preorder-put : (k : ℕ) (r : RoleTree) (bs : Branches) → preorder k (put_branch r bs) ≡ preorder_at k r ++ preorder (k + length (preorder_at k r)) bs
preorder-put k (e, None) bs = refl
preorder-put k (e, Some h) bs =
    let same : k + 1 + length (preorder_below (k + 1) h.below) ≡ k + length (preorder_at k (e, Some h)) = omega arith in ap (λ (n : ℕ). preorder_at k (e, Some h) ++ preorder n bs) same

spans-put : (k : ℕ) (r : RoleTree) (bs : Branches) → spans (preorder k (put_branch r bs)) ≡ spans (preorder_at k r) ++ spans (preorder (k + length (preorder_at k r)) bs)
spans-put k r bs = ap spans (preorder-put k r bs) ∙ map-append span (preorder_at k r) (preorder (k + length (preorder_at k r)) bs)

-- what is below a role was added behind it
below-added : (found : List Span) (r : RoleTree) (below : List DelegatedRole) → role_branches below ≡ branches_under r.1
    → added below (found ++ (r, 0) ∷ []) ≡ found ++ (r, 0) ∷ spans (inside (length found + 1) r.1)
below-added found r below h =
    let one = found ++ (r, 0) ∷ [] in
    let size : length one ≡ length found + 1 = length-append found ((r, 0) ∷ []) in
    ap (λ (bs : Branches). one ++ spans (preorder (length one) bs)) h ∙ ap (λ (os : List Occurrence). one ++ spans os) (sym (inside-under (length one) r.1))
    ∙ ap (λ (k : ℕ). one ++ spans (inside k r.1)) size ∙ append_assoc found ((r, 0) ∷ []) (spans (inside (length found + 1) r.1))

-- then its end is known
closed : (found : List Span) (r : RoleTree) (below : List DelegatedRole) → role_branches below ≡ branches_under r.1
    → (let two = added below (found ++ (r, 0) ∷ []) in slice_set two (length found) (r, length two)) ≡ found ++ spans (preorder_at (length found) r)
closed found r below h =
    let inner = spans (inside (length found + 1) r.1) in
    let full = found ++ (r, 0) ∷ inner in
    let size : length full ≡ length found + 1 + length (inside (length found + 1) r.1) = length-append found ((r, 0) ∷ inner) ∙ omega (arith, length-spans (inside (length found + 1) r.1)) in
    ap (λ (l : List Span). slice_set l (length found) (r, length l)) (below-added found r below h)
    ∙ set-append_seam found (r, 0) inner (r, length full)
    ∙ ap (λ (m : ℕ). found ++ (r, m) ∷ inner) size

-- and the others come after it
pub all-added : (found : List Span) (r : DelegatedRole) (others below : List DelegatedRole) → role_branches below ≡ branches_under (role_tree r).1
    → (let two = added below (found ++ (role_tree r, 0) ∷ []) in added others (slice_set two (length found) (role_tree r, length two))) ≡ added (r ∷ others) found
all-added found r others below h =
    let k = length found in
    let here = preorder_at k (role_tree r) in
    let bs = role_branches others in
    let size : length (found ++ spans here) ≡ k + length here = length-append found (spans here) ∙ omega (arith, length-spans here) in
    ap (added others) (closed found (role_tree r) below h)
    ∙ ap (λ (n : ℕ). (found ++ spans here) ++ spans (preorder n bs)) size
    ∙ append_assoc found (spans here) (spans (preorder (k + length here) bs))
    ∙ ap (λ (l : List Span). found ++ l) (sym (spans-put k (role_tree r) bs))

-- ---- steps

pub step-push : (steps : List Step) (s : Step) (found : List Span) → all_stepped (steps ++ s ∷ []) found ≡ all_stepped steps (stepped s found)
step-push [] s found = refl
step-push (x ∷ steps) s found = ap (stepped x) (step-push steps s found)

-- the step that is taken next
pub step-taken : (steps all : List Step) (s : Step) (found : List Span) → all ≡ steps ++ s ∷ [] → all_stepped steps (stepped s found) ≡ all_stepped all found
step-taken steps all s found h = sym (ap (λ (l : List Step). all_stepped l found) h ∙ step-push steps s found)

pub weights-push : (steps : List Step) (s : Step) → weights (steps ++ s ∷ []) ≡ weights steps + weight s
weights-push [] s = omega arith
weights-push (x ∷ steps) s = omega (arith, weights-push steps s)

-- the steps that the first of the roles leads to
pub first-stepped : (steps one two three : List Step) (found new : List Span) (r : Bor DelegatedRole) (others below : Bor (List DelegatedRole)) (roles : List DelegatedRole) (k : ℕ)
    → one ≡ steps ++ Add others ∷ [] → two ≡ one ++ Close r k ∷ [] → three ≡ two ++ Add below ∷ [] → new ≡ found ++ (role_tree r.now, 0) ∷ [] → k ≡ length found
    → roles ≡ r.now ∷ others.now → role_branches below.now ≡ branches_under (role_tree r.now).1
    → all_stepped three new ≡ all_stepped steps (added roles found)
first-stepped steps one two three found new r others below roles k e f g n s h b =
    ap (λ (l : List Step). all_stepped l new) g ∙ step-push two (Add below) new
    ∙ ap (λ (l : List Step). all_stepped l (added below.now new)) f ∙ step-push one (Close r k) (added below.now new)
    ∙ ap (λ (l : List Step). all_stepped l (slice_set (added below.now new) k (role_tree r.now, length (added below.now new)))) e
    ∙ step-push steps (Add others) (slice_set (added below.now new) k (role_tree r.now, length (added below.now new)))
    ∙ ap (λ (l : List Span). all_stepped steps (added others.now (slice_set (added below.now l) k (role_tree r.now, length (added below.now l))))) n
    ∙ ap (λ (i : ℕ). let two = added below.now (found ++ (role_tree r.now, 0) ∷ []) in all_stepped steps (added others.now (slice_set two i (role_tree r.now, length two)))) s
    ∙ ap (all_stepped steps) (all-added found r.now others.now below.now b)
    ∙ ap (λ (l : List DelegatedRole). all_stepped steps (added l found)) (sym h)

pub first-fewer : (steps one two three : List Step) (r : Bor DelegatedRole) (others below : Bor (List DelegatedRole)) (roles : List DelegatedRole) (k : ℕ)
    → one ≡ steps ++ Add others ∷ [] → two ≡ one ++ Close r k ∷ [] → three ≡ two ++ Add below ∷ []
    → roles ≡ r.now ∷ others.now → role_branches below.now ≡ branches_under (role_tree r.now).1
    → weights three < weights steps + work roles
first-fewer steps one two three r others below roles k e f g h b =
    let all : count (role_branches roles) ≡ 1 + (count (role_branches below.now) + count (role_branches others.now)) =
    ap (λ (l : List DelegatedRole). count (role_branches l)) h ∙ count-put (role_tree r.now) (role_branches others.now) ∙ ap (λ (bs : Branches). 1 + (count bs + count (role_branches others.now))) (sym b) in
    let last : weights three ≡ weights two + work below.now = ap weights g ∙ weights-push two (Add below) in
    let middle : weights two ≡ weights one + 1 = ap weights f ∙ weights-push one (Close r k) in
    let first : weights one ≡ weights steps + work others.now = ap weights e ∙ weights-push steps (Add others) in
    omega (arith, all, last, middle, first)

pub spans-push : (old new : List Node) (n : Node) → new ≡ old ++ n ∷ [] → node_spans new ≡ node_spans old ++ (role_tree n.role.now, n.end) ∷ []
spans-push old new n h = ap node_spans h ∙ map-append node_span old (n ∷ [])

-- nothing stands before them
pub from-none : (old new : List Node) (t : TreeDoc) → old ≡ [] → node_spans new ≡ node_spans old ++ spans (preorder_below (length old) t) → node_spans new ≡ spans (preorder_below 0 t)
from-none old new t h e = e ∙ ap (λ (l : List Node). node_spans l ++ spans (preorder_below (length l) t)) h

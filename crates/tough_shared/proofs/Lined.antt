-- A journal as lines.
use Rattle.std.proofs.Common.{◌≡◌, ℕ, zero, suc, ◌+◌, ◌≤◌, inl, inr, ◌⊎◌, List, [], ◌∷◌, ◌++◌, length, Some, Result, Ok, Err, IfOk, true, false, slice_get, refl, sym, ap, ◌∙◌, subst, arith, length-append}
use Rattle.std.proofs.lemmas.List.{append-nil}
use mathlib.Core.List.{IsPrefix}
use Rattle.tough_checks.specs.Versions.{Item}
use Rattle.tough_checks.specs.declared.checks.StepError.{StepError}
use Rattle.tough_vault.specs.declared.entry.Entry.{Entry}
use Rattle.tough_vault.specs.declared.entry.Receipt.{Receipt}
use Rattle.tough_vault.specs.Journal.{Note, Noted, Root, Timestamp, Snapshot, Cleared, Document, Broken, note_of, notes_of, number_of, entry_of}
use Rattle.tough_shared.specs.declared.line.Line.{Line}
use Rattle.tough_shared.specs.declared.line.Line.TheVariants.{Begun, End}
use Rattle.tough_shared.specs.Lines.{pairs_of, items_from, line_of, note_at, lines, history, begun_in, entry_at, is_end, none_left, is_open, ends_well, Grows}
use Rattle.tough_shared.proofs.Fronts.{prefix_get, prefix_length}
use Rattle.tough_shared.specs.Shares.{Alone}
use Rattle.tough_shared.proofs.Going.{GoesOn}

items-back : (is : List Item) → items_from (pairs_of is) ≡ is
items-back [] = refl
items-back (i ∷ is) = ap (λ x. i ∷ x) (items-back is)

-- a line tells its entry
pub note-back : (n : Note) → note_at (line_of n) ≡ Some n
note-back (Noted t) = refl
note-back (Root v c) = refl
note-back (Timestamp p had) = refl
note-back (Snapshot r had) = ap (λ is. Some (Snapshot (record { version = r.version; items = is }) had)) (items-back r.items)
note-back Cleared = refl
note-back (Document name) = refl
note-back Broken = refl

some-inj : (m n : Note) → Some m ≡ Some n → m ≡ n
some-inj m n h = cc

pub line-inj : (m n : Note) → line_of m ≡ line_of n → m ≡ n
line-inj m n h = some-inj m n (sym (note-back m) ∙ (ap note_at h ∙ note-back n))

no-end : (n : Note) → is_end (line_of n) ≡ false
no-end (Noted t) = refl
no-end (Root v c) = refl
no-end (Timestamp p had) = refl
no-end (Snapshot r had) = refl
no-end Cleared = refl
no-end (Document name) = refl
no-end Broken = refl

pub lines-open : (ns : List Note) → is_open (lines ns) ≡ true
lines-open [] = refl
lines-open (n ∷ ns) = rw (no-end n) (lines-open ns)

pub lines-push : (ns : List Note) (n : Note) → lines (ns ++ n ∷ []) ≡ lines ns ++ line_of n ∷ []
lines-push [] n = refl
lines-push (x ∷ ns) n = ap (λ l. line_of x ∷ l) (lines-push ns n)

pub lines-length : (ns : List Note) → length (lines ns) ≡ length ns
lines-length [] = refl
lines-length (n ∷ ns) = ap suc (lines-length ns)

pub at-end : (ls : List Line) (l : Line) → slice_get (ls ++ l ∷ []) (length ls) ≡ Some l
at-end [] l = refl
at-end (x ∷ ls) l = at-end ls l

line-some : (k l : Line) → Some k ≡ Some l → k ≡ l
line-some k l h = cc

left-none : (rest : List Line) → none_left rest ≡ true → rest ≡ []
left-none [] h = refl
left-none (l ∷ rest) h = absurd (cc (h))

nothing-behind : (ns : List Note) (rest : List Line) → ends_well ((lines ns ++ End ∷ []) ++ rest) ≡ true → rest ≡ []
nothing-behind [] rest h = left-none rest h
nothing-behind (n ∷ ns) rest h = nothing-behind ns rest (rw (no-end n) at h)

is-end-of : (n : Note) → Some End ≡ Some (line_of n) → ⊥
is-end-of n h = let e : is_end End ≡ is_end (line_of n) = ap is_end (line-some End (line_of n) h) in absurd (cc (e, no-end n))

ended-get : (ns : List Note) (k : ℕ) (n : Note) → slice_get (lines ns ++ End ∷ []) k ≡ Some (line_of n) → slice_get ns k ≡ Some n
ended-get [] zero n h = absurd (is-end-of n h)
ended-get [] (suc k) n h = absurd (cc (h))
ended-get (x ∷ ns) zero n h = ap Some (line-inj x n (line-some (line_of x) (line_of n) h))
ended-get (x ∷ ns) (suc k) n h = ended-get ns k n h

prefix-entry : (xs ys : List Line) (k : ℕ) (l : Line) → IsPrefix xs ys → entry_at xs k ≡ Some l → entry_at ys k ≡ Some l
prefix-entry [] ys k l p h = absurd (cc (h))
prefix-entry (x ∷ xs) [] k l p h = absurd (cc (p.1))
prefix-entry (x ∷ xs) (y ∷ ys) k l p h = prefix_get xs ys k l (p.0, cc (p.1)) h

-- in a history that has ended, each line that was seen is an entry of the journal, at its place
pub final : (begun : ℕ) (ns : List Note) (k : ℕ) (n : Note) (mine theirs both : List Line) → ends_well both ≡ true → mine ≡ history begun ns ++ End ∷ [] → IsPrefix mine both → IsPrefix theirs both
    → entry_at theirs k ≡ Some (line_of n) → slice_get ns k ≡ Some n
final begun ns k n mine theirs both ends is ours other stands =
    let all : (history begun ns ++ End ∷ []) ++ ours.0 ≡ both = ap (λ m. m ++ ours.0) (sym is) ∙ ours.1 in
    let none : ours.0 ≡ [] = nothing-behind ns ours.0 (ap ends_well all ∙ ends) in
    let whole : both ≡ history begun ns ++ End ∷ [] = sym all ∙ (ap (λ r. (history begun ns ++ End ∷ []) ++ r) none ∙ append-nil (history begun ns ++ End ∷ [])) in
    ended-get ns k n (ap (λ b. entry_at b k) (sym whole) ∙ prefix-entry theirs both k (line_of n) other stands)

-- a journal that is one entry longer, and its history
pub grown-lines : (begun : ℕ) (log grown : List Line) (old new : List Note) (n : Note) → log ≡ history begun old → new ≡ old ++ n ∷ [] → grown ≡ log ++ line_of n ∷ [] → grown ≡ history begun new
grown-lines begun log grown old new n same longer added = added ∙ (ap (λ x. x ++ line_of n ∷ []) same ∙ ap (λ x. Begun begun ∷ x) (sym (lines-push old n) ∙ ap lines (sym longer)))

last-entry : (log : List Line) (l : Line) (k : ℕ) → k + 1 ≡ length log → entry_at (log ++ l ∷ []) k ≡ Some l
last-entry [] l k is = absurd (omega (arith, is))
last-entry (x ∷ ls) l k is = let e : k ≡ length ls = omega (arith, is) in ap (λ j. slice_get (ls ++ l ∷ []) j) e ∙ at-end ls l

-- the new line stands at its number
pub stands-new : (log grown seen : List Line) (n : Note) (k : ℕ) → k + 1 ≡ length log → grown ≡ log ++ line_of n ∷ [] → seen ≡ grown → entry_at seen k ≡ Some (line_of n)
stands-new log grown seen n k is added copy = ap (λ x. entry_at x k) (copy ∙ added) ∙ last-entry log (line_of n) k is

-- how long it is
pub behind-new : (log grown seen : List Line) (n : Note) (k : ℕ) → k + 1 ≡ length log → grown ≡ log ++ line_of n ∷ [] → seen ≡ grown
    → (length log ≤ k + 1) × (length seen ≡ k + 2)
behind-new log grown seen n k is added copy =
    let m : length seen ≡ length log + 1 = ap length (copy ∙ added) ∙ length-append log (line_of n ∷ []) in
    (omega (arith, is), omega (arith, is, m))

-- ---- what an answer of the vault adds

pub history-length : (begun : ℕ) (log : List Line) (ns : List Note) → log ≡ history begun ns → length log ≡ length ns + 1
history-length begun log ns same = let l : length log ≡ suc (length (lines ns)) = ap length same in omega (arith, l, lines-length ns)

pub numbered : (begun : ℕ) (log : List Line) (old new : List Note) (answer : Result Receipt StepError) → log ≡ history begun old → GoesOn old new answer → IfOk answer (λ r. number_of r + 1 ≡ length log)
numbered begun log old new (Ok r) same g = omega (arith, g.1, history-length begun log old same)
numbered begun log old new (Err e) same g = tt

notes-length : (es : List Entry) → length (notes_of es) ≡ length es
notes-length [] = refl
notes-length (e ∷ es) = ap suc (notes-length es)

pub fits : (old new : List Note) (es : List Entry) (after : ℕ) (answer : Result Receipt StepError) → GoesOn old new answer → new ≡ notes_of es → after ≡ length es → IfOk answer (λ r. number_of r + 1 ≡ after)
fits old new es after (Ok r) g is len =
    let m : length new ≡ length old + 1 = ap length g.0 ∙ length-append old (note_of (entry_of r) ∷ []) in
    let n : length new ≡ length es = ap length is ∙ notes-length es in
    omega (arith, g.1, m, n, len)
fits old new es after (Err e) g is len = tt

broke : (begun : ℕ) (log grown : List Line) (old new : List Note) (before after : ℕ) (e : StepError) → log ≡ history begun old → (new ≡ old) ⊎ (new ≡ old ++ Broken ∷ []) → before ≡ length old → after ≡ length new → Grows before after (Err e) log grown → grown ≡ history begun new
broke begun log grown old new before after e same (inl is) was len grows =
    let m : length new ≡ length old = ap length is in
    grows.1 (omega (arith, m, was, len)) ∙ (same ∙ ap (history begun) (sym is))
broke begun log grown old new before after e same (inr is) was len grows =
    let m : length new ≡ length old + 1 = ap length is ∙ length-append old (Broken ∷ []) in
    grown-lines begun log grown old new Broken same is (grows.0 (omega (arith, m, was, len)))

-- the history is the journal again
pub follows : (begun : ℕ) (log grown : List Line) (old new : List Note) (es fs : List Entry) (before after : ℕ) (answer : Result Receipt StepError) → log ≡ history begun old → GoesOn old new answer
    → old ≡ notes_of es → new ≡ notes_of fs → before ≡ length es → after ≡ length fs → Grows before after answer log grown → grown ≡ history begun new
follows begun log grown old new es fs before after (Ok r) same g was is from len grows = grown-lines begun log grown old new (note_of (entry_of r)) same g.0 grows
follows begun log grown old new es fs before after (Err e) same g was is from len grows =
    broke begun log grown old new before after e same g (from ∙ sym (ap length was ∙ notes-length es)) (len ∙ sym (ap length is ∙ notes-length fs)) grows

-- what was counted is by so much more as the journal is longer
pub counts : (begun : ℕ) (log grown : List Line) (old new : List Note) (made more : ℕ) → log ≡ history begun old → grown ≡ history begun new → more + length log ≡ made + length grown → more + length old ≡ made + length new
counts begun log grown old new made more same is add =
    let l : length log ≡ length old + 1 = history-length begun log old same in
    let m : length grown ≡ length new + 1 = history-length begun grown new is in
    omega (arith, l, m, add)

-- and so is the whole count
pub counts-all : (begun : ℕ) (log grown : List Line) (old new : List Note) (total all : ℕ) → log ≡ history begun old → grown ≡ history begun new → total ≡ length old → all + length log ≡ total + length grown → all ≡ length new
counts-all begun log grown old new total all same is was add =
    let c : all + length old ≡ total + length new = counts begun log grown old new total all same is add in
    omega (arith, c, was)

-- ---- where it began

first-told : (x : Line) (xs ys : List Line) → begun_in (x ∷ ys) ≡ begun_in (x ∷ xs)
first-told (Begun n) xs ys = refl
first-told x xs ys = refl

-- what begins a history tells where that began
pub begun-there : (begun : ℕ) (seen log : List Line) (ns : List Note) → (seen ≡ [] → ⊥) → IsPrefix seen log → log ≡ history begun ns → begun_in seen ≡ begun
begun-there begun [] log ns some p is = absurd (some refl)
begun-there begun (x ∷ seen) log ns some p is =
    let e : (x ∷ seen) ++ p.0 ≡ Begun begun ∷ lines ns = p.1 ∙ is in
    let b : begun_in ((x ∷ seen) ++ p.0) ≡ begun = ap begun_in e in
    first-told x (seen ++ p.0) seen ∙ b

-- so it does itself
pub again : (begun : ℕ) (log : List Line) (ns : List Note) → log ≡ history begun ns → log ≡ history (begun_in log) ns
again begun log ns e = e ∙ ap (λ n. history n ns) (sym (ap begun_in e))

-- what a keeper had seen and what it has seen, where its step was all
pub alone-by : (seen later log grown : List Line) (old new : List Note) (made more : ℕ) → (seen ≡ [] → ⊥) → IsPrefix seen log → log ≡ history (begun_in log) old
    → later ≡ grown → grown ≡ history (begun_in log) new → more + length old ≡ made + length new → Alone (begun_in seen) old new seen later made more
alone-by seen later log grown old new made more some begins same shown is add =
    let b : begun_in log ≡ begun_in seen = sym (begun-there (begun_in log) seen log old some begins same) in
    record {
      before = subst (IsPrefix seen) (same ∙ ap (λ n. history n old) b) begins;
      after = shown ∙ (is ∙ ap (λ n. history n new) b);
      counted = add;
    }

grows-to : (old new : List Note) (answer : Result Receipt StepError) → GoesOn old new answer → length old ≤ length new
grows-to old new (Ok r) g = let m : length new ≡ length old + 1 = ap length g.0 ∙ length-append old (note_of (entry_of r) ∷ []) in omega (arith, m)
grows-to old new (Err e) (inl is) = let m : length new ≡ length old = ap length is in omega (arith, m)
grows-to old new (Err e) (inr is) = let m : length new ≡ length old + 1 = ap length is ∙ length-append old (Broken ∷ []) in omega (arith, m)

longer-by : (begun : ℕ) (old new : List Note) (seen later : List Line) (made more : ℕ) → Alone begun old new seen later made more → length old ≤ length new → length seen ≤ length later
longer-by begun old new seen later made more a le =
    let p : length seen ≤ length (history begun old) = prefix_length seen (history begun old) a.before in
    let l : length (history begun old) ≡ length old + 1 = history-length begun (history begun old) old refl in
    let m : length later ≡ length new + 1 = history-length begun later new a.after in
    omega (arith, p, l, m, le)

-- a keeper has then seen no less
pub longer : (begun : ℕ) (old new : List Note) (seen later : List Line) (made more : ℕ) (answer : Result Receipt StepError) → Alone begun old new seen later made more → GoesOn old new answer → length seen ≤ length later
longer begun old new seen later made more answer a g = longer-by begun old new seen later made more a (grows-to old new answer g)

pub as-long-as : (begun : ℕ) (old new : List Note) (seen later : List Line) (made more : ℕ) → Alone begun old new seen later made more → new ≡ old → length seen ≤ length later
as-long-as begun old new seen later made more a is = let m : length new ≡ length old = ap length is in longer-by begun old new seen later made more a (omega (arith, m))

-- the receipt's number is behind all that it had seen, and it has then seen just the entry
pub ahead : (begun : ℕ) (old new : List Note) (seen later : List Line) (made more : ℕ) (r : Receipt) → Alone begun old new seen later made more → GoesOn old new (Ok r)
    → (length seen ≤ number_of r + 1) × (length later ≡ number_of r + 2)
ahead begun old new seen later made more r a g =
    let p : length seen ≤ length (history begun old) = prefix_length seen (history begun old) a.before in
    let l : length (history begun old) ≡ length old + 1 = history-length begun (history begun old) old refl in
    let m : length later ≡ length new + 1 = history-length begun later new a.after in
    let n : length new ≡ length old + 1 = ap length g.0 ∙ length-append old (note_of (entry_of r) ∷ []) in
    (omega (arith, p, l, g.1), omega (arith, m, n, g.1))

-- The steps keep the rule.
use Rattle.std.proofs.Common.{◌≡◌, ℕ, zero, suc, ◌<◌, ◌==◌, cond, Bool, true, false, List, [], ◌∷◌, ◌++◌, length, set, refl, ap, sym, ◌∙◌, subst, arith, inl, None}
use Rattle.std.proofs.lemmas.List.{append-nil}
use Rattle.std.proofs.lemmas.Bool.Decides.{nat_tests}
use mathlib.Core.List.{IsPrefix}
use prog.Atomic.{either}
use Rattle.logbook.specs.Pages.{Cell, cell, Nib, may_write, keeps, gives, adds, no_nib, step, Moves, Goes}
use Rattle.tough_shared.specs.declared.line.Line.{Line}
use Rattle.tough_shared.specs.declared.line.Mark.{Mark}
use Rattle.tough_shared.specs.Lines.{is_end, is_open, ends_well, told}
use Rattle.tough_shared.specs.Rules.{IsUsed, Chain, Chained, turn_from, turn_of, gate_of, IsKept, Draws, Opens, Adds, Sees}
use Rattle.tough_shared.proofs.Fronts.{prefix_trans}

abbrev pub shown : List Mark → List Mark
shown log = []

abbrev pub moved : List Mark → List Mark → ℕ → Type 0
moved xs ys n = Unit {0}

-- ---- the end stands last

alone : (b : Bool) → cond b true true ≡ true
alone true = refl
alone false = refl

push_at : (l x : Line) (log : List Line) (b : Bool) → is_end l ≡ b → is_open (l ∷ log) ≡ true → (is_open log ≡ true → ends_well (log ++ x ∷ []) ≡ true) → ends_well (l ∷ (log ++ x ∷ [])) ≡ true
push_at l x log true e h next = absurd (cc (e, h))
push_at l x log false e h next = rw e (next (rw e at h))

pub ends_push : (log : List Line) (l : Line) → is_open log ≡ true → ends_well (log ++ l ∷ []) ≡ true
ends_push [] l h = alone (is_end l)
ends_push (x ∷ log) l h = push_at x l log (is_end x) refl h (λ o. ends_push log l o)

pub told-push : (log : List Mark) (m : Mark) → told (log ++ m ∷ []) ≡ told log ++ m.line ∷ []
told-push [] m = refl
told-push (x ∷ log) m = ap (λ ls. x.line ∷ ls) (told-push log m)

-- ---- cells

used-set : (cs : List Cell) (k j n : ℕ) → IsUsed cs j → IsUsed (set cs k (n, true)) j
used-set [] k j n u = u
used-set (c ∷ cs) zero zero n u = refl
used-set (c ∷ cs) zero (suc j) n u = u
used-set (c ∷ cs) (suc k) zero n u = u
used-set (c ∷ cs) (suc k) (suc j) n u = used-set cs k j n u

used-here : (cs : List Cell) (k n : ℕ) → k < length cs → IsUsed (set cs k (n, true)) k
used-here [] k n h = absurd (omega (arith, h))
used-here (c ∷ cs) zero n h = refl
used-here (c ∷ cs) (suc k) n h = used-here cs k n (omega (arith, h))

used-more : (cs ds : List Cell) (j : ℕ) → IsUsed cs j → IsUsed (cs ++ ds) j
used-more [] ds j u = absurd (cc (u))
used-more (c ∷ cs) ds zero u = u
used-more (c ∷ cs) ds (suc j) u = used-more cs ds j u

gate-set : (cs : List Cell) (k : ℕ) (c : Cell) → 0 < k → cell (set cs k c) 0 ≡ cell cs 0
gate-set [] k c h = refl
gate-set (d ∷ cs) zero c h = absurd (omega (arith, h))
gate-set (d ∷ cs) (suc k) c h = refl

gate-more : (cs ds : List Cell) (n : ℕ) → cell cs 0 ≡ (n, true) → cell (cs ++ ds) 0 ≡ (n, true)
gate-more [] ds n h = let b : false ≡ true = ap (λ (c : Cell). c.1) h in absurd (cc (b))
gate-more (c ∷ cs) ds n h = h

some-cells : (cs : List Cell) (n : ℕ) → cell cs 0 ≡ (n, true) → 0 < length cs
some-cells [] n h = let b : false ≡ true = ap (λ (c : Cell). c.1) h in absurd (cc (b))
some-cells (c ∷ cs) n h = omega arith

same-cells : (cs : List Cell) (n : ℕ) → cell cs 0 ≡ (n, true) → set cs 0 (n, true) ≡ cs
same-cells [] n h = refl
same-cells (c ∷ cs) n h = ap (λ (d : Cell). d ∷ cs) (sym h)

-- ---- the chain of pens

chain-more : (cs ds : List Cell) (k : ℕ) (ms : List Mark) → ((j : ℕ) → IsUsed cs j → IsUsed ds j) → Chain cs k ms → Chain ds k ms
chain-more cs ds k [] f c = tt
chain-more cs ds k (m ∷ ms) f c = (f k c.0, chain-more cs ds m.next ms f c.1)

chained-more : (cs ds : List Cell) (log : List Mark) → ((j : ℕ) → IsUsed cs j → IsUsed ds j) → Chained cs log → Chained ds log
chained-more cs ds [] f c = tt
chained-more cs ds (m ∷ ms) f c = chain-more cs ds m.next ms f c

chain-push : (cs ds : List Cell) (k : ℕ) (ms : List Mark) (m : Mark) → ((j : ℕ) → IsUsed cs j → IsUsed ds j) → IsUsed ds (turn_from k ms) → Chain cs k ms → Chain ds k (ms ++ m ∷ [])
chain-push cs ds k [] m f u c = (u, tt)
chain-push cs ds k (x ∷ ms) m f u c = (f k c.0, chain-push cs ds x.next ms m f u c.1)

chained-push : (cs ds : List Cell) (log : List Mark) (m : Mark) → ((j : ℕ) → IsUsed cs j → IsUsed ds j) → IsUsed ds (turn_of log) → Chained cs log → Chained ds (log ++ m ∷ [])
chained-push cs ds [] m f u c = tt
chained-push cs ds (x ∷ ms) m f u c = chain-push cs ds x.next ms m f u c

none-behind : (cs : List Cell) (k : ℕ) (ms rest : List Mark) → Chain cs k (ms ++ rest) → (cell cs (turn_from k ms)).1 ≡ false → rest ≡ []
none-behind cs k [] [] c a = refl
none-behind cs k [] (r ∷ rest) c a = absurd (cc (c.0, a))
none-behind cs k (m ∷ ms) rest c a = none-behind cs m.next ms rest c.1 a

turn-push-from : (k : ℕ) (log : List Mark) (m : Mark) → turn_from k (log ++ m ∷ []) ≡ m.next
turn-push-from k [] m = refl
turn-push-from k (x ∷ log) m = turn-push-from x.next log m

pub turn-push : (log : List Mark) (m : Mark) → turn_of (log ++ m ∷ []) ≡ m.next
turn-push log m = turn-push-from 0 log m

-- what the owner of the unused pen has seen is the whole history
whole : (cs : List Cell) (mine log : List Mark) → (mine ≡ [] → ⊥) → IsPrefix mine log → Chained cs log → (cell cs (turn_of mine)).1 ≡ false → log ≡ mine
whole cs [] log some p c a = absurd (some refl)
whole cs (m ∷ ms) log some p c a =
    let e : Chained cs ((m ∷ ms) ++ p.0) = subst (Chained cs) (sym p.1) c in
    let n : p.0 ≡ [] = none-behind cs m.next ms p.0 e a in
    sym p.1 ∙ (ap (λ r. (m ∷ ms) ++ r) n ∙ append-nil (m ∷ ms))

gate-some : (log : List Mark) → (log ≡ [] → ⊥) → gate_of log ≡ 1
gate-some [] some = absurd (some refl)
gate-some (m ∷ ms) some = refl

gate-push : (log : List Mark) (m : Mark) → gate_of (log ++ m ∷ []) ≡ 1
gate-push [] m = refl
gate-push (x ∷ ms) m = refl

-- ---- the steps

either-same : (k n : ℕ) (b : Bool) → (n == k) ≡ b → either (n == k) k n ≡ n
either-same k n true e = let is : n ≡ k = grind (arith, nat_tests) in rw e (sym is)
either-same k n false e = rw e refl

kept-cells : (cs : List Cell) (log : List Mark) (k : ℕ) → IsKept cs log → set cs 0 (either ((cell cs 0).0 == k) k (cell cs 0).0, true) ≡ cs
kept-cells cs log k kept =
    let n : ℕ = (cell cs 0).0 in
    let i : (cell cs 0).0 ≡ gate_of log = ap (λ (c : Cell). c.0) kept.gate in
    ap (λ (n : ℕ). set cs 0 (n, true)) (either-same k (cell cs 0).0 ((cell cs 0).0 == k) refl ∙ i) ∙ same-cells cs (gate_of log) kept.gate

-- a pen is drawn
pub draws_moves : (v : List Mark) (m : Mark) → Moves IsKept shown moved 0 (v, (no_nib, None)) (λ n. either (n == 0) 0 n) (Draws (step 0 0 0 m) (v, (no_nib, None)))
draws_moves v m cs log kept pre away =
    let len : 0 < length cs = some-cells cs (gate_of log) kept.gate in
    let after : IsKept (cs ++ (0, false) ∷ []) (log ++ []) = subst (IsKept (cs ++ (0, false) ∷ [])) (sym (append-nil log))
    (record { gate = gate-more cs ((0, false) ∷ []) (gate_of log) kept.gate; turns = chained-more cs (cs ++ (0, false) ∷ []) log (used-more cs ((0, false) ∷ [])) kept.turns; ends = kept.ends }) in (
      len,
      ap (λ (c : Cell). c.1) kept.gate,
      (
        adds,
        [],
        None,
        tt,
        subst (λ (ds : List Cell). IsKept (ds ++ (0, false) ∷ []) (log ++ [])) (sym (kept-cells cs log 0 kept)) after,
        inl (refl, refl),
        (refl, len),
      ),
    )

-- the owner of the pen adds a line
pub adds_moves : (v : List Mark) (p : Nib) (m : Mark) → (v ≡ [] → ⊥) → p.right ≡ may_write → 0 < p.key → turn_of v ≡ p.key → is_open (told v) ≡ true
    → Moves IsKept shown moved 0 (v, (p, None)) (λ n. either (n == 1) 1 n) (Adds (step 0 1 1 m) (v, (p, None)))
adds_moves v p m some may key turn still_open cs log kept pre away =
    let a = away may in
    let same : log ≡ v = whole cs v log some pre kept.turns (ap (λ (k : ℕ). (cell cs k).1) turn ∙ a.1) in
    let ds : List Cell = set cs p.key (p.value, true) in
    let mine : turn_of log ≡ p.key = ap turn_of same ∙ turn in
    let used : IsUsed (set cs p.key (p.value, true)) (turn_of log) = subst (IsUsed (set cs p.key (p.value, true))) (sym mine) (used-here cs p.key p.value a.0) in
    let one : gate_of log ≡ 1 = ap gate_of same ∙ gate-some v some in
    let after : IsKept (set cs p.key (p.value, true)) (log ++ m ∷ []) =
    record {
      gate = gate-set cs p.key (p.value, true) key ∙ (kept.gate ∙ ap (λ (n : ℕ). (n, true)) (one ∙ sym (gate-push log m)));
      turns = chained-push cs (set cs p.key (p.value, true)) log m (λ j. used-set cs p.key j p.value) used kept.turns;
      ends = ap ends_well (told-push log m) ∙ ends_push (told log) m.line (ap (λ l. is_open (told l)) same ∙ still_open);
    } in (
      some-cells cs (gate_of log) kept.gate,
      ap (λ (c : Cell). c.1) kept.gate,
      (
        gives,
        m ∷ [],
        None,
        may,
        subst (λ (ds : List Cell). IsKept (set ds p.key (p.value, true)) (log ++ m ∷ [])) (sym (kept-cells cs log 1 kept)) after,
        inl (refl, refl),
        ap (λ l. l ++ m ∷ []) same,
      ),
    )

-- the owner of the pen sees that nothing was added
pub looks_moves : (v : List Mark) (p : Nib) (m : Mark) → p.right ≡ may_write
    → Moves IsKept shown moved 0 (v, (p, None)) (λ n. either (n == 1) 1 n) (Sees (step 0 1 1 m) (v, (p, None)))
looks_moves v p m may cs log kept pre away =
    let a = away may in
    let all : log ++ [] ≡ log = append-nil log in (
      some-cells cs (gate_of log) kept.gate,
      ap (λ (c : Cell). c.1) kept.gate,
      (
        keeps,
        [],
        None,
        tt,
        subst (λ (ds : List Cell). IsKept ds (log ++ [])) (sym (kept-cells cs log 1 kept)) (subst (IsKept cs) (sym all) kept),
        inl (refl, refl),
        (refl, λ mine some turn begins. all ∙ whole cs mine log some (prefix_trans mine v log begins pre) kept.turns (ap (λ (k : ℕ). (cell cs k).1) turn ∙ a.1)),
      ),
    )

opened : (cs : List Cell) (n : ℕ) → cell cs 0 ≡ (n, true) → cell (set cs 0 (1, true)) 0 ≡ (1, true)
opened [] n h = let b : false ≡ true = ap (λ (c : Cell). c.1) h in absurd (cc (b))
opened (c ∷ cs) n h = refl

opens_at : (cs : List Cell) (log : List Mark) (m : Mark) → IsKept cs log
    → Goes IsKept shown moved 0 ([], (no_nib, None)) (λ n. either (n == 0) 1 n) (Opens (step 0 0 1 m) ([], (no_nib, None))) cs log
opens_at cs [] m kept =
    let n : (cell cs 0).0 ≡ 0 = ap (λ (c : Cell). c.0) kept.gate in
    let cells : set cs 0 (either ((cell cs 0).0 == 0) 1 (cell cs 0).0, true) ≡ set cs 0 (1, true) = ap (λ (n : ℕ). set cs 0 (either (n == 0) 1 n, true)) n in (
      keeps,
      m ∷ [],
      None,
      tt,
      subst (λ (ds : List Cell). IsKept ds (m ∷ [])) (sym cells) (record { gate = opened cs 0 kept.gate; turns = tt; ends = alone (is_end m.line) }),
      inl (refl, refl),
      λ _. refl,
    )
opens_at cs (x ∷ log) m kept =
    let n : (cell cs 0).0 ≡ 1 = ap (λ (c : Cell). c.0) kept.gate in
    let cells : set cs 0 (either ((cell cs 0).0 == 0) 1 (cell cs 0).0, true) ≡ cs = ap (λ (n : ℕ). set cs 0 (either (n == 0) 1 n, true)) n ∙ same-cells cs 1 kept.gate in
    let all : (x ∷ log) ++ [] ≡ x ∷ log = append-nil (x ∷ log) in (
      keeps,
      [],
      None,
      tt,
      subst (λ (ds : List Cell). IsKept ds ((x ∷ log) ++ [])) (sym cells) (subst (IsKept cs) (sym all) kept),
      inl (refl, refl),
      λ e. absurd (omega (arith, n, e)),
    )

-- the first line is added, where there was none
pub opens_moves : (m : Mark) → Moves IsKept shown moved 0 ([], (no_nib, None)) (λ n. either (n == 0) 1 n) (Opens (step 0 0 1 m) ([], (no_nib, None)))
opens_moves m cs log kept pre away = (some-cells cs (gate_of log) kept.gate, ap (λ (c : Cell). c.1) kept.gate, opens_at cs log m kept)

pub told-prefix : (xs ys : List Mark) → IsPrefix xs ys → IsPrefix (told xs) (told ys)
told-prefix [] ys p = (told ys, refl)
told-prefix (x ∷ xs) [] p = absurd (cc (p.1))
told-prefix (x ∷ xs) (y ∷ ys) p =
    let r = told-prefix xs ys (p.0, cc (p.1)) in
    let e : x ≡ y = cc (p.1) in (r.0, ap (λ (m : Mark). m.line ∷ (told xs ++ r.0)) e ∙ ap (λ ls. y.line ∷ ls) r.1)

pub told-some : (xs : List Mark) (l : Line) (ls : List Line) → told xs ≡ l ∷ ls → xs ≡ [] → ⊥
told-some [] l ls h e = cc (h)
told-some (x ∷ xs) l ls h e = cc (e)

pub push-some : (xs : List Mark) (m : Mark) → xs ++ m ∷ [] ≡ [] → ⊥
push-some [] m e = cc (e)
push-some (x ∷ xs) m e = cc (e)

pub told-none : (xs : List Mark) → (xs ≡ [] → ⊥) → told xs ≡ [] → ⊥
told-none [] some e = some refl
told-none (x ∷ xs) some e = cc (e)

-- Following links, a step at a time.
use Rattle.std.proofs.Common.{◌≡◌, ◌-◌, ◌<◌, ℕ, zero, suc, List, Option, Some, arith, refl, ap}
use Rattle.tough_files.specs.Contents.{Contents, Node, link, node_at, past_link, follow}

pub past : (n : ℕ) (contents : Contents) (path target : List ℕ) → 0 < n → node_at contents path ≡ Some (link target) → follow n contents path ≡ follow (n - 1) contents target
unfolding follow
past zero contents path target low at = absurd (omega (arith, low))
past (suc n) contents path target low at =
    let back : suc n - 1 ≡ n = omega arith in
    rw back (ap (λ there. past_link there (follow n contents) path) at)

pub stays : (n : ℕ) (contents : Contents) (path : List ℕ) (there : Option Node) → node_at contents path ≡ there → ((go : List ℕ → List ℕ) → past_link there go path ≡ path) → follow n contents path ≡ path
unfolding follow
stays zero contents path there at same = refl
stays (suc n) contents path there at same = rw at (same (follow n contents))

pub ends : (contents : Contents) (path : List ℕ) → follow 0 contents path ≡ path
unfolding follow
ends contents path = refl

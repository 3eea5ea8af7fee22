-- Labels of edges that cancel around every vertex, and what the loss of some edges keeps.
use Rattle.std.specs.Prelude.{◌≡◌, cond, ◌||◌, List, [], ◌∷◌, ℕ, eqb}
use Rattle.std.specs.Int.Bits.{bit_xor}
use Rattle.connectivity.specs.Graph.{Graph, Vertex, edges}
use Rattle.connectivity.specs.Reach.{Reach, Without}

-- the labels of those of some edges that end at v, xored
unfoldable pub around : Graph → (ℕ → ℕ) → ℕ → List ℕ → ℕ
around g label v [] = 0
around g label v (e ∷ l) =
    let rest = around g label v l in
    cond (eqb (g.left e) v || eqb (g.right e) v) (bit_xor (label e) rest) rest

-- around every vertex they xor to 0
abbrev pub Balanced : Graph → (ℕ → ℕ) → Type 0
Balanced g label = (v : ℕ) → Vertex g v → around g label v (edges g) ≡ 0

-- the loss of the edges of `cut` parts nothing that was joined
abbrev pub Keeps : Graph → List ℕ → Type 0
Keeps g cut = (x y : ℕ) → Reach g (Without []) x y → Reach g (Without cut) x y

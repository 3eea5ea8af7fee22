-- A way shortens to a path, which leaves no vertex twice: where a way leads from a set to a vertex outside it, an edge and a path lead back.
use mathlib.Core.Path.{◌≡◌, refl, ap, subst}
use mathlib.Core.Logic.{◌⊎◌, inl, inr}
use mathlib.Core.List.Memᴰ.{cases_cons as in-cons}
use mathlib.Core.List.Memᴰ.{not-nil as not_in}
use mathlib.Core.List.{List, [], ◌∷◌, ◌++◌, Memᴰ as In}
use Prim.Native.Nat.{ℕ}
use native.Mathlib.Decide.{ℕ_discrete}
use Rattle.connectivity.specs.Lists.{Distinct, no_member, one}
use Rattle.connectivity.specs.Graph.{Graph, Joins}
use Rattle.connectivity.specs.Walk.{Leg, Walk, last, then, froms, edges_of}
use Rattle.connectivity.proofs.Lists.{in_dec}
use Rattle.connectivity.proofs.Distinct.{right_distinct}
use Rattle.connectivity.proofs.Reach.{joins_sym}
use Rattle.connectivity.proofs.Through.{Through, closed_through}
use Rattle.connectivity.proofs.Legs.{leg}

-- a walk, or none, over live edges, that leaves only new vertices
pub data Path (g : Graph) (live new : ℕ → Type 0) : ℕ → List Leg → ℕ → Type 0 where
  there : {v : ℕ} → Path g live new v [] v
  on : {u v w : ℕ} {legs : List Leg} (e : ℕ) → live e → new u → Joins g e u v → Path g live new v legs w
      → Path g live new u (record { edge = e; from = u } ∷ legs) w

-- a path that is parted at y
pub record Parted (g : Graph) (live new : ℕ → Type 0) (u : ℕ) (legs : List Leg) (w y : ℕ) : Type 0 where
  pub low : List Leg
  pub high : List Leg
  pub parts : froms legs ≡ froms low ++ froms high
  pub path_low : Path g live new u low y
  pub path_high : Path g live new y high w

module _ {g : Graph} {live new : ℕ → Type 0} where
  pub path_live : {u w e : ℕ} {legs : List Leg} → Path g live new u legs w → In e (edges_of legs) → live e
  path_live there i = absurd (not_in i)
  path_live (on d l h j k) i = elim (in-cons i) [ inl p ↦ rw p l | inr m ↦ path_live k m ]

  pub path_new : {u w v : ℕ} {legs : List Leg} → Path g live new u legs w → In v (froms legs) → new v
  path_new there i = absurd (not_in i)
  path_new (on d l h j k) i = elim (in-cons i) [ inl p ↦ rw p h | inr m ↦ path_new k m ]

  -- a walk, with an edge before it or after it
  pub edge_path : {e x u w : ℕ} {legs : List Leg} → Joins g e x u → Path g live new u legs w → Walk g x (leg e x ∷ legs) w
  edge_path j there = last _ j
  edge_path j (on e l h i k) = then _ j (edge_path i k)

  pub path_edge : {e x u w : ℕ} {legs : List Leg} → Path g live new u legs w → Joins g e w x → Walk g u (legs ++ (leg e w ∷ [])) x
  path_edge there j = last _ j
  path_edge (on e l h i k) j = then _ i (path_edge k j)

  pub part_at : {u w y : ℕ} {legs : List Leg} → Path g live new u legs w → In y (froms legs) ⊎ (y ≡ w) → Parted g live new u legs w y
  part_at {y = y} there i = elim i [
    | inl m ↦ absurd (not_in m)
    | inr p ↦ record { low = []; high = []; parts = refl; path_low = rw p there; path_high = rw p there }
  ]
  part_at {y = y} (on {u = u} {w = w} {legs = legs} e l h j k) i = elim (ℕ_discrete y u) [
    | yes p ↦ record { low = []; high = leg e u ∷ legs; parts = refl; path_low = rw p there; path_high = rw p (on e l h j k) }
    | no n ↦
        let q = part_at {y = y} k (elim i [ inl m ↦ elim (in-cons m) [ inl p ↦ absurd (n p) | inr o ↦ inl o ] | inr p ↦ inr p ]) in
        record {
          low = leg e u ∷ q.low;
          high = q.high;
          parts = ap (λ (l : List ℕ). u ∷ l) q.parts;
          path_low = on e l h j q.path_low;
          path_high = q.path_high;
        }
  ]

-- a path from v into the set S that leaves no vertex twice
pub record Way (g : Graph) (live new S : ℕ → Type 0) (v : ℕ) : Type 0 where
  pub legs : List Leg
  pub to : ℕ
  pub path : Path g live new v legs to
  pub ends : S to
  pub once : Distinct (froms legs)

-- an edge from v, and such a path from where it leads to
pub record Back (g : Graph) (live new S : ℕ → Type 0) (v : ℕ) : Type 0 where
  pub edge : ℕ
  pub next : ℕ
  pub over : live edge
  pub joins : Joins g edge v next
  pub way : Way g live new S next

module _ {g : Graph} {live new S : ℕ → Type 0} where
  within : {v : ℕ} → S v → Way g live new S v
  within {v} s = record { legs = []; to = v; path = there; ends = s; once = no_member }

  -- without the round where the path comes by v
  shorter : {v : ℕ} → new v → Back g live new S v → Way g live new S v
  shorter {v} h b = let w = b.way in elim (in_dec v (froms w.legs)) [
    | yes i ↦ let q = part_at w.path (inl i) in
        record { legs = q.high; to = w.to; path = q.path_high; ends = w.ends; once = right_distinct (froms q.low) (subst Distinct q.parts w.once) }
    | no n ↦ record { legs = leg b.edge v ∷ w.legs; to = w.to; path = on b.edge b.over h b.joins w.path; ends = w.ends; once = one n w.once }
  ]

  pub enter : {v : ℕ} → S v ⊎ new v → S v ⊎ Back g live new S v → Way g live new S v
  enter (inl s) b = within s
  enter (inr h) (inl s) = within s
  enter (inr h) (inr b) = shorter h b

  -- where every vertex that may be passed through is in S or new
  pub back : {pass : ℕ → Type 0} {s t : ℕ} → ((v : ℕ) → pass v → S v ⊎ new v) → S s → Through g live pass s t → S t ⊎ Back g live new S t
  back f i r = closed_through (λ v. S v ⊎ Back g live new S v)
      (λ e u v l p j b. inr (record { edge = e; next = u; over = l; joins = joins_sym j; way = enter (f u p) b })) r (inl i)

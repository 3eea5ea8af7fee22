-- Where no Mader-path is left, every edge is built: a way out of a link, and one back from an edge, gives a Mader-path.
use mathlib.Core.Path.{◌≡◌, refl, sym, subst}
use mathlib.Core.Logic.{◌⊎◌, inl, inr}
use mathlib.Core.List.Memᴰ.{cases_cons as in-cons}
use mathlib.Core.List.Memᴰ.{not-nil as not_in}
use mathlib.Core.List.{List, [], ◌∷◌, ◌++◌, Memᴰ as In}
use Prim.Native.Nat.{ℕ}
use native.Mathlib.Omega.{arith}
use native.Mathlib.Decide.{ℕ_discrete, dec_le}
use Rattle.connectivity.specs.Lists.{Distinct, no_member, one}
use Rattle.connectivity.specs.Graph.{Graph, Edge, Joins}
use Rattle.connectivity.specs.Reach.{Without, ThreeEdgeConnected}
use Rattle.connectivity.proofs.Through.{Through}
use Rattle.connectivity.specs.Walk.{Leg, Walk, last, froms, inner, edges_of, all_edges, degree, Built, Branch}
use Rattle.connectivity.specs.Mader.{MaderPath, Steps, theta, mader}
use Rattle.connectivity.proofs.Lists.{in_dec}
use Rattle.connectivity.proofs.Distinct.{join_distinct}
use Rattle.connectivity.proofs.Reach.{joins_sym, reach_trans, reach_sym}
use Rattle.connectivity.proofs.Degree.{degree-append, built_vertex}
use Rattle.connectivity.proofs.Stage.{all_degree}
use Rattle.connectivity.proofs.Link.{link_bare}
use Rattle.connectivity.proofs.Sound.{stage}
use Rattle.connectivity.proofs.Legs.{leg, walk_snoc, edges_snoc, distinct_between}
use Rattle.connectivity.proofs.Build.{steps_edges}
use Rattle.connectivity.proofs.Fresh.{Fresh, ear_fresh, fresh_snoc}
use Rattle.connectivity.proofs.Grow.{Inside, inside_built, next_edge}
use Rattle.connectivity.proofs.Exit.{FromLink, link_exit, branch_exit}
use Rattle.connectivity.proofs.Once.{walk_once, path_once}
use Rattle.connectivity.proofs.Shorten.{path_live, path_new, edge_path, Back, back}

-- a walk over new vertices from a built vertex outside the link of p to one inside it is a Mader-path
path_from_link : {g : Graph} {built : List ℕ} {p s t : ℕ} {legs : List Leg} → Built g built p → Inside g built p s
    → Built g built t → (Inside g built p t → ⊥) → Walk g t legs s → ((v : ℕ) → In v (inner legs) → Built g built v → ⊥)
    → Distinct (inner legs) → MaderPath g built t legs s
path_from_link {g} {built} {p} h i b n k f d = record {
  walk = k;
  begins = b;
  ends = inside_built h i;
  fresh = f;
  simple = d;
  closed = λ q. absurd (n (subst (Inside g built p) (sym q) i));
  links = λ m o l. n (reach_trans i (reach_sym (link_bare l)));
}

-- where every built vertex is a branch, a walk over new vertices between built ones is a Mader-path
path_from_branch : {g : Graph} {built : List ℕ} {a t : ℕ} {legs : List Leg} → ((v : ℕ) → Built g built v → Branch g built v)
    → Built g built a → Built g built t → Walk g t legs a → ((v : ℕ) → In v (inner legs) → Built g built v → ⊥)
    → Distinct (inner legs) → MaderPath g built t legs a
path_from_branch {t = t} all h b k f d = record {
  walk = k;
  begins = b;
  ends = h;
  fresh = f;
  simple = d;
  closed = λ q. all t b;
  links = λ m o l. m (all t b);
}

-- a Mader-path over edges that are not built, none twice
pub record Next (g : Graph) (built : List ℕ) : Type 0 where
  pub from : ℕ
  pub legs : List Leg
  pub to : ℕ
  pub path : MaderPath g built from legs to
  pub once : Distinct (edges_of legs ++ built)

module _ {g : Graph} {built : List ℕ} (once : Distinct built) where
  -- from a built vertex outside a link back into it
  link_path : {p s t : ℕ} → Built g built p → Inside g built p s → Built g built t → (Inside g built p t → ⊥)
      → Through g (Without built) (FromLink g built p) s t → Next g built
  link_path {p} {s} {t} h i b n r = elim (back (λ v k. k) i r) [
    | inl k ↦ absurd (n k)
    | inr k ↦ let way = k.way in
        let q = path_from_link h way.ends b n (edge_path k.joins way.path) (λ v m. path_new way.path m) way.once in
        record {
          from = t;
          legs = leg k.edge t ∷ way.legs;
          to = way.to;
          path = q;
          once = path_once q (λ o. n (subst (Inside g built p) (sym o) way.ends))
              (λ e m. elim (in-cons m) [ inl o ↦ rw o k.over | inr o ↦ path_live way.path o ]) once;
        }
  ]

  module _ (all : (v : ℕ) → Built g built v → Branch g built v) {e a u : ℕ} (j : Joins g e a u) (h : Built g built a) (new : In e built → ⊥) where
    -- an edge between built vertices
    single_path : Built g built u → Next g built
    single_path b = record {
      from = u;
      legs = leg e u ∷ [];
      to = a;
      path = path_from_branch all h b (last e (joins_sym j)) (λ v i. absurd (not_in i)) no_member;
      once = one new once;
    }

    -- from a built vertex back to the end u of an edge, and over the edge
    abbrev Off : ℕ → Type 0
    Off v = (Built g built v → ⊥) × (v ≡ u → ⊥)

    abbrev Live : ℕ → Type 0
    Live x = (In x built → ⊥) × (x ≡ e → ⊥)

    module _ (fresh : Built g built u → ⊥) {t : ℕ} (b : Built g built t) (k : Back g Live Off (λ v. v ≡ u) t) where
      abbrev low : List Leg
      low = leg k.edge t ∷ k.way.legs

      to_u : Walk g t low u
      to_u = subst (Walk g t low) k.way.ends (edge_path k.joins k.way.path)

      over_low : {x : ℕ} → In x (edges_of low) → Live x
      over_low i = elim (in-cons i) [ inl p ↦ rw p k.over | inr m ↦ path_live k.way.path m ]

      off_u : In u (froms low) → ⊥
      off_u i = elim (in-cons i) [ inl p ↦ fresh (rw p b) | inr m ↦ (path_new k.way.path m).1 refl ]

      low_once : Distinct (froms low)
      low_once = one (λ i. (path_new k.way.path i).0 b) k.way.once

      long_fresh : Fresh g built (low ++ (leg e u ∷ []))
      long_fresh = (fresh_snoc e to_u).1 (record { once = low_once; new = λ v i. (path_new k.way.path i).0 }, off_u, fresh)

      long_path : Next g built
      long_path = let w = walk_snoc to_u (joins_sym j) in let f = (ear_fresh w b).1 long_fresh in record {
        from = t;
        legs = low ++ (leg e u ∷ []);
        to = a;
        path = path_from_branch all h b w f.1 f.0;
        once = subst (λ (l : List ℕ). Distinct (l ++ built)) (sym (edges_snoc low (leg e u))) (distinct_between (edges_of low) built (λ i. (over_low i).1 refl) new
            (join_distinct (edges_of low) (walk_once to_u low_once off_u) once (λ x i. (over_low i).0)));
      }

-- some vertex is built
pub steps_built : {g : Graph} {walks : List (List Leg)} → Steps g walks → (v : ℕ) × Built g (all_edges walks) v
steps_built (theta {a = a} {walks = walks} t) = (a, omega (arith, t.three, all_degree walks t.between))
steps_built {g} (mader {walks = walks} {u = u} {legs = legs} s k) = (u, omega (arith, k.begins, degree-append g (edges_of legs) (all_edges walks) u))

module _ {g : Graph} {walks : List (List Leg)} (t : ThreeEdgeConnected g) (s : Steps g walks) (once : Distinct (all_edges walks))
    (stuck : Next g (all_edges walks) → ⊥) where
  abbrev built : List ℕ
  built = all_edges walks

  -- every built vertex is a branch
  branches : (v : ℕ) → Built g built v → Branch g built v
  branches v h = elim (dec_le 3 (degree g built v)) [
    | yes b ↦ b
    | no n ↦ absurd (link_exit t (stage s once) h n (λ u w i b o hw r. stuck (link_path once h i b o r)))
  ]

  -- an edge at a built vertex is built
  at_built : (e a u : ℕ) → Joins g e a u → Built g built a → In e built
  at_built e a u j h = elim (in_dec e built) [
    | yes i ↦ i
    | no n ↦ elim (dec_le 1 (degree g built u)) [
      | yes b ↦ absurd (stuck (single_path once branches j h n b))
      | no f ↦ absurd (branch_exit {built = built} t j h (λ w b r. elim (back new refl r) [
        | inl p ↦ f (rw (← p) b)
        | inr k ↦ stuck (long_path once branches j h n f b k)
      ]))
    ]
  ]
    where
      new : (v : ℕ) → (Built g built v → ⊥) → (v ≡ u) ⊎ ((Built g built v → ⊥) × (v ≡ u → ⊥))
      new v m = elim (ℕ_discrete v u) [ yes p ↦ inl p | no n ↦ inr (m, n) ]

  pub every_edge : (e : ℕ) → Edge g e → In e built
  every_edge = let (v, b) = steps_built s in next_edge t at_built v (built_vertex built (λ e i. steps_edges s i) b) b

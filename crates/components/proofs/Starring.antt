-- The edges tried alone, then those that are not claimed together with each later one of their label: what is kept from try to try, and that in the
-- end the groups are those of the definition.
use mathlib.Core.Bool.{Bool, cond}
use mathlib.Core.Path.{◌≡◌, refl, sym, ap, ◌∙◌}
use mathlib.Core.Logic.{inl, inr}
use mathlib.Core.List.{List, [], ◌∷◌}
use Prim.Native.Nat.{ℕ, ◌+◌, ◌≤◌, ◌<◌}
use native.Mathlib.Omega.{arith}
use native.Mathlib.Decide.{ℕ_discrete, dec_lt}
use lib.ListN.{length, get_or, set}
use lib.Seq.{get_or-set_same, get_or-set_other}
use Rattle.connectivity.specs.Graph.{Graph, Vertex, Edge, is_vertex, is_edge}
use Rattle.connectivity.specs.Reach.{Reach, Without}
use Rattle.connectivity.specs.Component.{Together, Component, component_of}
use Rattle.connectivity.proofs.Lists.{T-dec}
use Rattle.connectivity.proofs.Search.{is_vertex_lem, is_edge_lem}
use Rattle.connectivity.proofs.Together.{reach_dec}
use Rattle.connectivity.proofs.Component.{component_found, component_none, component_unique}
use Rattle.graph.specs.Marks.{read}
use Rattle.labels.specs.Label.{Balanced, Keeps}
use Rattle.labels.proofs.CutLabels.{NoLoops, label_one, label_two}
use Rattle.components.specs.Pair.{CutPair, LowestPair}
use Rattle.components.specs.Stars.{Respects, Grouping, Attempt, joined, parted, Singles, Done, Stars}
use Rattle.components.proofs.Pair.{across, keeps_one, keeps_none, pair_sym, pair_trans, pair_differ}
use Rattle.components.proofs.Lowest.{lowest_self, lowest_found, told-together}
use Rattle.components.proofs.Trying.{reach_vertex, reach_vertices, alone_keeps, alone_parts, both_keep, both_part, parted_grouping, respects_on, respects_one, respects_two}

keeps_dec : {g : Graph} {e : ℕ} → Edge g e → Dec (Keeps g (e ∷ []))
keeps_dec {g} {e} h = elim (reach_dec g (e ∷ []) (g.left e) h.right) [
  | yes r ↦ yes (keeps_one h r)
  | no n ↦ no (λ k. n (k (g.left e) (g.right e) (across h)))
]

done_less : {k d r x : ℕ} → (x ≡ d → ⊥) → Done k (d + 1) r x → Done k d r x
done_less q (inl e) = inl e
done_less q (inr e) = inr (e.0, omega (arith, e.1))

-- a graph whose vertices are below n and whose edges are below m, and labels that cancel
pub record Setting (g : Graph) (n m : ℕ) (label : ℕ → ℕ) : Type 0 where
  pub below : (v : ℕ) → Vertex g v → v < n
  pub inside : (e : ℕ) → Edge g e → e < m
  pub loops : NoLoops g
  pub balanced : Balanced g label

module _ {g : Graph} {n m : ℕ} {label : ℕ → ℕ} (t : Setting g n m label) where
  -- Edges alone.

  pub singles-start : (claimed table : List ℕ) → Grouping g n (read table) → ((x : ℕ) → Edge g x → get_or claimed x 0 ≡ 0) → Singles g n m 0 claimed table
  singles-start claimed table s f = record {
    groups = s;
    one = λ x l. absurd (omega arith);
    loose = λ x l. absurd (omega arith);
    bridge = λ x l. absurd (omega arith);
    fresh = λ x l b e. f x e;
  }

  module _ {k : ℕ} (h : k < m) {claimed table₀ : List ℕ} (s : Singles g n m k claimed table₀) where
    -- one that parts nothing need not be tried
    singles-keep : Keeps g (k ∷ []) → Singles g n m (k + 1) claimed table₀
    singles-keep keeps = record {
      groups = s.groups;
      one = λ x l. elim (ℕ_discrete x k) [ yes q ↦ rw q (λ u v a b e. keeps u v (s.groups.whole u v a b e)) | no q ↦ s.one x (omega arith) ];
      loose = λ x l z. elim (ℕ_discrete x k) [ yes q ↦ rw q keeps | no q ↦ s.loose x (omega arith) z ];
      bridge = λ x l e z. elim (ℕ_discrete x k) [ yes q ↦ absurd (z (s.fresh x (omega arith) (omega arith) e)) | no q ↦ s.bridge x (omega arith) e z ];
      fresh = λ x l b. s.fresh x (omega arith) b;
    }

    -- an edge with another label than 0
    pub singles_pass : (label k ≡ 0 → ⊥) → Singles g n m (k + 1) claimed table₀
    singles_pass ne = singles-keep (elim (T-dec (is_edge g k)) [
      | yes y ↦ let e = (is_edge_lem g k).0 y in elim (keeps_dec e) [ yes p ↦ p | no n ↦ absurd (ne (label_one g label t.balanced t.loops k e n)) ]
      | no n ↦ keeps_none (λ e. n ((is_edge_lem g k).1 e))
    ])

    -- what is claimed already is no edge
    pub singles_claimed : (get_or claimed k 0 ≡ 0 → ⊥) → Singles g n m (k + 1) claimed table₀
    singles_claimed ne = singles-keep (keeps_none (λ e. ne (s.fresh k (omega arith) h e)))

    -- a try tells whether it does
    pub singles_try : {table : List ℕ} {r : Bool} → k < length claimed → Attempt g n (k ∷ k ∷ []) k table₀ table r → Singles g n m (k + 1) (set claimed k (cond r 1 0)) table
    singles_try room (joined same root far j w) = let keeps = alone_keeps j w in record {
      groups = rw same s.groups;
      one = λ x l. rw same (elim (ℕ_discrete x k) [ yes q ↦ rw q (λ u v a b e. keeps u v (s.groups.whole u v a b e)) | no q ↦ s.one x (omega arith) ]);
      loose = λ x l z. elim (ℕ_discrete x k) [ yes q ↦ rw q keeps | no q ↦ s.loose x (omega arith) (sym (get_or-set_other claimed k x 0 0 q) ∙ z) ];
      bridge = λ x l e z. elim (ℕ_discrete x k) [
        | yes q ↦ absurd (z (rw q (get_or-set_same claimed k 0 0 room)))
        | no q ↦ s.bridge x (omega arith) e (λ y. z (get_or-set_other claimed k x 0 0 q ∙ y))
      ];
      fresh = λ x l b e. get_or-set_other claimed k x 0 0 (omega arith) ∙ s.fresh x (omega arith) b e;
    }
    singles_try room (parted long root far j ne side tells p) = record {
      groups = parted_grouping (k ∷ k ∷ []) (omega arith) root side tells p s.groups;
      one = λ x l. elim (ℕ_discrete x k) [
        | yes q ↦ rw q (respects_one (k ∷ k ∷ []) (omega arith) root side tells p s.groups refl j ne)
        | no q ↦ respects_on (k ∷ k ∷ []) (omega arith) root side tells p s.groups (s.one x (omega arith))
      ];
      loose = λ x l z. elim (ℕ_discrete x k) [
        | yes q ↦ let w = get_or-set_same claimed k 1 0 room in absurd (omega (arith, w, ap (λ (i : ℕ). get_or (set claimed k 1) i 0) (sym q) ∙ z))
        | no q ↦ s.loose x (omega arith) (sym (get_or-set_other claimed k x 1 0 q) ∙ z)
      ];
      bridge = λ x l e z. elim (ℕ_discrete x k) [ yes q ↦ rw q (alone_parts j ne) | no q ↦ s.bridge x (omega arith) e (λ y. z (get_or-set_other claimed k x 1 0 q ∙ y)) ];
      fresh = λ x l b e. get_or-set_other claimed k x 1 0 (omega arith) ∙ s.fresh x (omega arith) b e;
    }

  -- Edges with later ones.

  pub stars_start : {claimed table : List ℕ} → Singles g n m m claimed table → Stars g n m 0 0 claimed table
  stars_start s = record {
    groups = s.groups;
    one = s.one;
    loose = s.loose;
    free = λ r x l b z d. elim d [ inl a ↦ absurd (omega arith) | inr a ↦ absurd (omega (arith, a.1)) ];
    tied = λ x l e z k. absurd (s.bridge x l e z k);
  }

  module _ {k : ℕ} (h : k < m) {claimed table : List ℕ} where
    -- a claimed edge is no cut pair with a later one that is not claimed
    pub stars_pass : Stars g n m k 0 claimed table → (get_or claimed k 0 ≡ 0 → ⊥) → Stars g n m (k + 1) 0 claimed table
    stars_pass s ne = record { groups = s.groups; one = s.one; loose = s.loose; free = λ r x l b z d c. free r x l b z d c; tied = s.tied }
      where
        later : (x : ℕ) → k < x → x < m → get_or claimed x 0 ≡ 0 → CutPair g k x → ⊥
        later x l b z c = let a = s.tied k h c.one ne c.without_one in
            s.free a.by x (omega (arith, a.before)) b z (inl a.before) (pair_trans (pair_sym a.pair) c (λ q. omega (arith, a.before)))

        free : (r x : ℕ) → r < x → x < m → get_or claimed x 0 ≡ 0 → Done (k + 1) 0 r x → CutPair g r x → ⊥
        free r x l b z (inl a) c = elim (ℕ_discrete r k) [ yes q ↦ later x (omega arith) b z (rw q at c) | no q ↦ s.free r x l b z (inl (omega arith)) c ]
        free r x l b z (inr a) c = absurd (omega (arith, a.1))

    -- one that is not claimed is the lowest that it is a cut pair with
    pub stars_head : Stars g n m k 0 claimed table → get_or claimed k 0 ≡ 0 → Keeps g (k ∷ []) × LowestPair g k k
    stars_head s z = (s.loose k h z, lowest_self (λ r l c. s.free r k l h z (inl l) c))

    -- those with another label need not be tried
    pub star_skip : (y y' : ℕ) → ((x : ℕ) → k < x → y ≤ x → x < y' → x < m → label k ≡ label x → ⊥) → Stars g n m k y claimed table → Stars g n m k y' claimed table
    star_skip y y' f s = record { groups = s.groups; one = s.one; loose = s.loose; free = free; tied = s.tied }
      where
        free : (r x : ℕ) → r < x → x < m → get_or claimed x 0 ≡ 0 → Done k y' r x → CutPair g r x → ⊥
        free r x l b z (inl a) c = s.free r x l b z (inl a) c
        free r x l b z (inr a) c = elim (dec_lt x y) [
          | yes d ↦ s.free r x l b z (inr (a.0, d)) c
          | no d ↦ let w = rw a.0 at c in f x (omega (arith, a.0)) (omega arith) a.1 b
              (label_two g label t.balanced t.loops k x w.one w.other (pair_differ w) w.without_one w.without_other w.parts)
        ]

    pub star_end : Stars g n m k m claimed table → Stars g n m (k + 1) 0 claimed table
    star_end s = record { groups = s.groups; one = s.one; loose = s.loose; free = free; tied = s.tied }
      where
        free : (r x : ℕ) → r < x → x < m → get_or claimed x 0 ≡ 0 → Done (k + 1) 0 r x → CutPair g r x → ⊥
        free r x l b z (inl a) c = elim (ℕ_discrete r k) [ yes q ↦ s.free r x l b z (inr (q, b)) c | no q ↦ s.free r x l b z (inl (omega arith)) c ]
        free r x l b z (inr a) c = absurd (omega (arith, a.1))

    module _ {d : ℕ} (l : k < d) (b : d < m) (s : Stars g n m k d claimed table) where
      -- a claimed one is passed over
      pub star_claimed : (get_or claimed d 0 ≡ 0 → ⊥) → Stars g n m k (d + 1) claimed table
      star_claimed ne = record { groups = s.groups; one = s.one; loose = s.loose; free = free; tied = s.tied }
        where
          free : (r x : ℕ) → r < x → x < m → get_or claimed x 0 ≡ 0 → Done k (d + 1) r x → CutPair g r x → ⊥
          free r x o i z (inl a) c = s.free r x o i z (inl a) c
          free r x o i z (inr a) c = elim (ℕ_discrete x d) [ yes q ↦ ne (rw q at z) | no q ↦ s.free r x o i z (inr (a.0, omega (arith, a.1))) c ]

      -- any other is tried
      pub star_try : {table' : List ℕ} {r : Bool} → d < length claimed → get_or claimed d 0 ≡ 0 → Edge g k → Keeps g (k ∷ []) → LowestPair g k k → Attempt g n (k ∷ d ∷ []) d table table' r
          → Stars g n m k (d + 1) (set claimed d (cond r 1 0)) table'
      star_try room z ek kk low (joined same root far j w) = record {
        groups = rw same s.groups;
        one = rw same s.one;
        loose = λ x i y. elim (ℕ_discrete x d) [ yes q ↦ s.loose x i (rw q z) | no q ↦ s.loose x i (sym (get_or-set_other claimed d x 0 0 q) ∙ y) ];
        free = free;
        tied = λ x i f y. rw same (elim (ℕ_discrete x d) [
          | yes q ↦ absurd (y (rw q (get_or-set_same claimed d 0 0 room)))
          | no q ↦ s.tied x i f (λ p. y (get_or-set_other claimed d x 0 0 q ∙ p))
        ]);
      }
        where
          free : (r x : ℕ) → r < x → x < m → get_or (set claimed d 0) x 0 ≡ 0 → Done k (d + 1) r x → CutPair g r x → ⊥
          free r x o i y a c = elim (ℕ_discrete x d) [
            | yes q ↦ go q a
            | no q ↦ s.free r x o i (sym (get_or-set_other claimed d x 0 0 q) ∙ y) (done_less q a) c
          ]
            where
              go : x ≡ d → Done k (d + 1) r x → ⊥
              go q (inl e) = s.free r x o i (rw q z) (inl e) c
              go q (inr e) = both_keep j ek kk (s.loose d b z) w (rw (e.0, q) at c)
      star_try {table' = table'} room z ek kk low (parted long root far j ne side tells p) = record {
        groups = parted_grouping (k ∷ d ∷ []) (omega arith) root side tells p s.groups;
        one = λ x i. on (s.one x i);
        loose = λ x i y. elim (ℕ_discrete x d) [ yes q ↦ s.loose x i (rw q z) | no q ↦ s.loose x i (sym (get_or-set_other claimed d x 1 0 q) ∙ y) ];
        free = free;
        tied = λ x i f y keeps. elim (ℕ_discrete x d) [
          | yes q ↦ rw q (record {
            by = k;
            before = l;
            pair = pair;
            lowest = lowest_found low (omega arith) pair;
            respects = respects_two k d root far side tells p s.groups j ne kk kd (s.one k h) (s.one d b);
          })
          | no q ↦ let a = s.tied x i f (λ e. y (get_or-set_other claimed d x 1 0 q ∙ e)) keeps in record { by = a.by; before = a.before; pair = a.pair; lowest = a.lowest; respects = on a.respects }
        ];
      }
        where
          kd : Keeps g (d ∷ [])
          kd = s.loose d b z

          pair : CutPair g k d
          pair = both_part j ek kk kd ne

          on : {cut : List ℕ} → Respects g n (read table) cut → Respects g n (read table') cut
          on f = respects_on (k ∷ d ∷ []) (omega arith) root side tells p s.groups f

          free : (r x : ℕ) → r < x → x < m → get_or (set claimed d 1) x 0 ≡ 0 → Done k (d + 1) r x → CutPair g r x → ⊥
          free r x o i y a c = elim (ℕ_discrete x d) [
            | yes q ↦ let w = get_or-set_same claimed d 1 0 room in absurd (omega (arith, w, ap (λ (i : ℕ). get_or (set claimed d 1) i 0) (sym q) ∙ y))
            | no q ↦ s.free r x o i (sym (get_or-set_other claimed d x 1 0 q) ∙ y) (done_less q a) c
          ]

  -- In the end.

  module _ {claimed table : List ℕ} (s : Stars g n m m 0 claimed table) where
    same-together : (u v : ℕ) → Vertex g u → Vertex g v → get_or table u 0 ≡ get_or table v 0 → Together g u v
    same-together u v hu hv q = let l = t.below u hu in let b = t.below v hv in told-together hu hv (record {
      whole = s.groups.whole u v l b q;
      one = λ e h. s.one e (t.inside e h) u v l b q;
      two = λ e h. elim (ℕ_discrete (get_or claimed e 0) 0) [
        | yes z ↦ record { with_edge = e; lowest = lowest_self (λ r o c. s.free r e o (t.inside e h) z (inl (omega (arith, t.inside e h))) c); reach = λ ne. absurd (ne refl) }
        | no z ↦ elim (keeps_dec h) [
          | yes k ↦ let a = s.tied e (t.inside e h) h z k in record { with_edge = a.by; lowest = a.lowest; reach = λ ne. a.respects u v l b q }
          | no k ↦ record { with_edge = e; lowest = lowest_self (λ r o c. k c.without_other); reach = λ ne. absurd (ne refl) }
        ]
      ];
    })

    root : (v : ℕ) → v < n → Reach g (Without []) v (get_or table v 0)
    root v l = let c = s.groups.classes in s.groups.whole v (get_or table v 0) l (omega (arith, c.own v l)) (sym (c.fixed v l))

    -- the table has the lowest vertex of each group
    stars_vertex : (v : ℕ) → Vertex g v → Component g v (get_or table v 0)
    stars_vertex v h =
        let c = s.groups.classes in
        let l = t.below v h in
        let b = reach_vertex (root v l) h in
        record {
          vertex = b;
          together = same-together (get_or table v 0) v b h (c.fixed v l);
          lowest = λ w k o. let i = t.below w k in omega (arith, s.groups.sound w v i l o, c.own w i);
        }

    -- what is no vertex is alone
    pub stars_component : (v : ℕ) → v < n → get_or table v 0 ≡ component_of g v
    stars_component v l = elim (T-dec (is_vertex g v)) [
      | yes y ↦ let h = (is_vertex_lem g v).0 y in component_unique (stars_vertex v h) (component_found g h)
      | no y ↦
          let n : Vertex g v → ⊥ = λ h. y ((is_vertex_lem g v).1 h) in
          elim (ℕ_discrete v (get_or table v 0)) [ yes q ↦ sym q ∙ sym (component_none g v n) | no ne ↦ absurd (n (reach_vertices (root v l) ne).0) ]
    ]

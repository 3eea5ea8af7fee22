-- Labels that cancel around every vertex cancel over every cut, in a graph of any number of bodies: an edge whose loss alone parts what was
-- joined has label 0, and two that do so only together have the same label.
use mathlib.Core.Path.{◌≡◌, refl, sym, ap, ap₂, ◌∙◌, subst}
use mathlib.Core.Logic.{◌⊎◌, inl, inr}
use mathlib.Core.Bool.{Bool, true, false, not, cond, ◌||◌}
use mathlib.Core.List.Memᴰ.{cases_cons as in-cons}
use mathlib.Core.List.Memᴰ.{eq_of_singleton}
use mathlib.Core.List.Memᴰ.{head as first}
use mathlib.Core.List.Memᴰ.{not-nil as not_in}
use mathlib.Core.List.{List, [], ◌∷◌, Memᴰ as In}
use Prim.Native.Nat.{ℕ}
use lib.Bits.{bit_xor, xor_self, xor_zero_r}
use lib.Dec.{T, eqb, eqb→eq, T_not, not_T}
use Rattle.connectivity.specs.Lists.{Distinct, no_member, one, keep, mem}
use Rattle.connectivity.specs.Plan.{Plan, graph, Limits}
use Rattle.connectivity.specs.Graph.{Graph, Vertex, Edge, Joins, vertices, edges}
use Rattle.connectivity.specs.Reach.{Reach, here, over, Without, Connected}
use Rattle.connectivity.specs.Cut.{unreached, disconnects}
use Rattle.labels.specs.Label.{around, Balanced, Keeps}
use Rattle.connectivity.specs.Admission.{Admitted}
use Rattle.labels.proofs.Xor.{xor_equal, xors, when, xors_same, xors_zero, xors_both, xors_swap, xors_at, xors_part}
use Rattle.connectivity.proofs.Lists.{T-dec, T_true, T_false, true-T, false-T, eq-T, mem_in, in_mem, in_dec, not_mem, keep_is}
use Rattle.connectivity.proofs.Reach.{joins_sym, joins_vertex, reach_sym, reach_trans, reach_map, closed_reach}
use Rattle.connectivity.proofs.Search.{vertices_are, edges_are, unreached_not, unreached_or}
use Rattle.connectivity.proofs.Order.{ordered_keep, ordered_vertices, ordered_edges}
use Rattle.connectivity.proofs.Distinct.{ordered_distinct}
use Rattle.connectivity.proofs.Disconnects.{disconnects_is, connected_is, connected_less}

-- Edges with one end on each side.

-- one of two tests holds and the other does not
abbrev pub unlike : Bool → Bool → Bool
unlike true b = not b
unlike false b = b

unfoldable pub crossing : Graph → (ℕ → Bool) → ℕ → Bool
crossing g side e = unlike (side (g.left e)) (side (g.right e))

-- no edge has the same vertex at both ends
abbrev pub NoLoops : Graph → Type 0
NoLoops g = (e : ℕ) → Edge g e → g.left e ≡ g.right e → ⊥

around_xors : (g : Graph) (label : ℕ → ℕ) (v : ℕ) (l : List ℕ) → around g label v l ≡ xors (λ e. when (eqb (g.left e) v || eqb (g.right e) v) (label e)) l
unfolding around xors
around_xors g label v [] = refl
around_xors g label v (e ∷ l) = go (eqb (g.left e) v || eqb (g.right e) v) (around_xors g label v l)
  where
    go : (t : Bool) {a b : ℕ} → a ≡ b → cond t (bit_xor (label e) a) a ≡ bit_xor (when t (label e)) b
    go true p = ap (bit_xor (label e)) p
    go false p = p

when_or : (a b : Bool) (n : ℕ) → (T a → T b → ⊥) → when (a || b) n ≡ bit_xor (when a n) (when b n)
when_or true true n h = absurd (h tt tt)
when_or true false n h = sym (xor_zero_r n)
when_or false b n h = refl

when_unlike : (a b : Bool) (n : ℕ) → bit_xor (when a n) (when b n) ≡ when (unlike a b) n
when_unlike true true n = xor_self n
when_unlike true false n = xor_zero_r n
when_unlike false b n = refl

module _ (g : Graph) (side : ℕ → Bool) where
  abbrev pub inside : List ℕ
  inside = keep side (vertices g)

  mem_inside : {v : ℕ} → Vertex g v → mem v inside ≡ side v
  mem_inside {v} h = go (side v) refl
    where
      go : (t : Bool) → side v ≡ t → mem v inside ≡ t
      go true q = T_true (mem v inside) (in_mem ((keep_is side v (vertices g)).1 ((vertices_are g v).1 h, true-T q)))
      go false q = T_false (mem v inside) (λ t. false-T q ((keep_is side v (vertices g)).0 (mem_in v inside t)).1)

  -- an edge is counted at its ends inside: twice, once or not at all
  ends_inside : NoLoops g → {e : ℕ} (n : ℕ) → Edge g e → xors (λ v. when (eqb (g.left e) v || eqb (g.right e) v) n) inside ≡ when (crossing g side e) n
  unfolding crossing
  ends_inside loops {e} n h =
      xors_same inside (λ v i. when_or (eqb (g.left e) v) (eqb (g.right e) v) n (λ s t. loops e h (eqb→eq (g.left e) v s ∙ sym (eqb→eq (g.right e) v t))))
      ∙ xors_both (λ v. when (eqb (g.left e) v) n) (λ v. when (eqb (g.right e) v) n) inside
      ∙ ap₂ bit_xor (at h.left) (at h.right)
      ∙ when_unlike (side (g.left e)) (side (g.right e)) n
    where
      at : {v : ℕ} → Vertex g v → xors (λ x. when (eqb v x) n) inside ≡ when (side v) n
      at {v} k = xors_at v n (ordered_distinct (ordered_keep side (ordered_vertices g))) ∙ ap (λ (t : Bool). when t n) (mem_inside k)

  module _ (label : ℕ → ℕ) (loops : NoLoops g) where
    -- what is around the vertices of one side is over the edges between the sides
    pub inside_crossing : xors (λ v. around g label v (edges g)) inside ≡ xors (λ e. when (crossing g side e) (label e)) (edges g)
    inside_crossing =
        xors_same inside (λ v i. around_xors g label v (edges g))
        ∙ xors_swap (λ v e. when (eqb (g.left e) v || eqb (g.right e) v) (label e)) inside (edges g)
        ∙ xors_same (edges g) (λ e i. ends_inside loops (label e) ((edges_are g e).0 i))

    -- so labels that cancel around every vertex cancel over the edges between any two sides
    pub crossing_cancels : Balanced g label → xors (λ e. when (crossing g side e) (label e)) (edges g) ≡ 0
    crossing_cancels b =
        sym inside_crossing
        ∙ xors_same inside (λ v i. b v ((vertices_are g v).0 ((keep_is side v (vertices g)).0 i).0))
        ∙ xors_zero inside

    -- and what is around the vertices of a side that no edge leaves cancels
    pub inside_cancels : ((e : ℕ) → Edge g e → crossing g side e ≡ false) → xors (λ v. around g label v (edges g)) inside ≡ 0
    inside_cancels f =
        inside_crossing
        ∙ xors_same (edges g) (λ e i. ap (λ (t : Bool). when t (label e)) (f e ((edges_are g e).0 i)))
        ∙ xors_zero (edges g)

like : (a b : Bool) → (T a → T b) → (T b → T a) → unlike a b ≡ false
like true true f h = refl
like true false f h = absurd (f tt)
like false true f h = absurd (h tt)
like false false f h = refl

-- an edge whose ends are on the same side
pub not_crossing : (g : Graph) (side : ℕ → Bool) (e : ℕ) → (T (side (g.left e)) → T (side (g.right e))) → (T (side (g.right e)) → T (side (g.left e)))
    → crossing g side e ≡ false
unfolding crossing
not_crossing g side e = like (side (g.left e)) (side (g.right e))

pub left_right : {g : Graph} {e : ℕ} → Edge g e → Joins g e (g.left e) (g.right e)
left_right h = record { edge = h; ends = inl (refl, refl) }

unlike_not : (a b : Bool) → (T (unlike a b) → ⊥) → a ≡ b
unlike_not true true n = refl
unlike_not true false n = absurd (n tt)
unlike_not false true n = absurd (n tt)
unlike_not false false n = refl

-- A cut of which every edge is needed.

abbrev pub but : ℕ → List ℕ → List ℕ
but e cut = keep (λ d. not (eqb e d)) cut

but_is : (e : ℕ) {d : ℕ} (cut : List ℕ) → In d (but e cut) → In d cut × (d ≡ e → ⊥)
but_is e {d} cut i = let r = (keep_is (λ d. not (eqb e d)) d cut).0 i in (r.0, λ p. T_not (eqb e d) r.1 (eq-T (sym p)))

but_or : (e : ℕ) {d : ℕ} (cut : List ℕ) → In d cut → (d ≡ e) ⊎ In d (but e cut)
but_or e {d} cut i = elim (T-dec (eqb e d)) [
  | yes t ↦ inl (sym (eqb→eq e d t))
  | no n ↦ inr ((keep_is (λ d. not (eqb e d)) d cut).1 (i, not_T (eqb e d) n))
]

pub record LeastCut (g : Graph) (cut : List ℕ) : Type 0 where
  pub distinct : Distinct cut
  pub members : (e : ℕ) → In e cut → Edge g e
  pub parts : Keeps g cut → ⊥
  pub needed : (e : ℕ) → In e cut → Keeps g (but e cut)

-- Its sides: what u reaches without its edges, and what is beyond.

module _ (g : Graph) (cut : List ℕ) (u : ℕ) where
  abbrev live : ℕ → Bool
  live e = not (mem e cut)

  abbrev beyond : ℕ → Bool
  beyond v = mem v (unreached g live u)

  beyond_not : {v : ℕ} → T (beyond v) → Reach g (λ e. T (live e)) u v → ⊥
  beyond_not {v} t = (unreached_not g live u (mem_in v (unreached g live u) t)).1

  -- an edge that is not cut stays on its side
  stays : (e x y : ℕ) → Without cut e → Joins g e x y → T (beyond x) → T (beyond y)
  stays e x y w j t = elim (unreached_or g live u (joins_vertex (joins_sym j))) [
    | inl i ↦ in_mem i
    | inr r ↦ absurd (beyond_not t (reach_trans r (over e ((not_mem e cut).1 w) (joins_sym j) here)))
  ]

  only_cut : (e : ℕ) → Edge g e → Without cut e → crossing g beyond e ≡ false
  only_cut e h w = not_crossing g beyond e (stays e (g.left e) (g.right e) w (left_right h)) (stays e (g.right e) (g.left e) w (joins_sym (left_right h)))

  -- an edge with both ends on the same side stays there too
  also_stays : (e : ℕ) → (T (crossing g beyond e) → ⊥) → (d x y : ℕ) → Without (but e cut) d → Joins g d x y → T (beyond x) → T (beyond y)
  unfolding crossing
  also_stays e n d x y w j t = elim (in_dec d cut) [
    | yes i ↦ elim (but_or e cut i) [ inl p ↦ go (subst (λ (z : ℕ). Joins g z x y) p j).ends | inr k ↦ absurd (w k) ]
    | no m ↦ stays d x y m j t
  ]
    where
      same : beyond (g.left e) ≡ beyond (g.right e)
      same = unlike_not (beyond (g.left e)) (beyond (g.right e)) n

      go : ((g.left e ≡ x) × (g.right e ≡ y)) ⊎ ((g.left e ≡ y) × (g.right e ≡ x)) → T (beyond y)
      go (inl p) = subst T (ap beyond (sym p.0) ∙ same ∙ ap beyond p.1) t
      go (inr p) = subst T (ap beyond (sym p.1) ∙ sym same ∙ ap beyond p.0) t

  -- where the edges of the cut part u from a vertex that it was joined to, an edge that is needed has one end on each side
  needed_crosses : {v : ℕ} → T (beyond v) → Reach g (Without []) v u → (e : ℕ) → Keeps g (but e cut) → T (crossing g beyond e)
  needed_crosses {v} t r e k = elim (T-dec (crossing g beyond e)) [
    | yes c ↦ c
    | no n ↦ absurd (beyond_not (closed_reach (λ x. T (beyond x)) (also_stays e n) (k v u r) t) here)
  ]

module _ {g : Graph} {cut : List ℕ} (c : LeastCut g cut) {e : ℕ} (i : In e cut) where
  whole : Joins g e (g.left e) (g.right e)
  whole = left_right (c.members e i)

  -- the ends of an edge are parted: else the others would do without it
  apart : Reach g (Without cut) (g.left e) (g.right e) → ⊥
  apart r = c.parts (λ x y w. closed_reach (Reach g (Without cut) x) step (c.needed e i x y w) here)
    where
      step : {x : ℕ} (d u v : ℕ) → Without (but e cut) d → Joins g d u v → Reach g (Without cut) x u → Reach g (Without cut) x v
      step d u v w j q = reach_trans q (elim (in_dec d cut) [
        | no m ↦ over d m j here
        | yes k ↦ elim (but_or e cut k) [
          | inr m ↦ absurd (w m)
          | inl p ↦ elim (subst (λ (z : ℕ). Joins g z u v) p j).ends [
            | inl h ↦ rw (sym h.0, sym h.1) r
            | inr h ↦ rw (sym h.0, sym h.1) (reach_sym r)
          ]
        ]
      ])

  -- so every edge has one end on each side
  all_cross : (d : ℕ) → In d cut → T (crossing g (beyond g cut (g.left e)) d)
  all_cross d j = needed_crosses g cut (g.left e) far (over e (λ k. absurd (not_in k)) (joins_sym whole) here) d (c.needed d j)
    where
      far : T (beyond g cut (g.left e) (g.right e))
      far = elim (unreached_or g (live g cut (g.left e)) (g.left e) (c.members e i).right) [
        | inl k ↦ in_mem k
        | inr r ↦ absurd (apart (reach_map (λ d t. (not_mem d cut).0 t) r))
      ]

-- What the loss of some edges keeps.

keeps_less : {g : Graph} {cut less : List ℕ} → Keeps g cut → ((e : ℕ) → In e less → In e cut) → Keeps g less
keeps_less k f x y r = reach_map (λ e w i. w (f e i)) (k x y r)

-- of a connected graph: connectedness
keeps_connected : {g : Graph} {cut : List ℕ} → Connected g [] → Keeps g cut → Connected g cut
keeps_connected c k u v hu hv = k u v (c u v hu hv)

connected_keeps : {g : Graph} {cut : List ℕ} → Connected g cut → Keeps g cut
connected_keeps c x y here = here
connected_keeps c x y (over {v = v} e l j r) = reach_trans (c x v (joins_vertex j) (joins_vertex (joins_sym j))) (connected_keeps c v y r)

module _ (g : Graph) (label : ℕ → ℕ) (b : Balanced g label) (loops : NoLoops g) where
  -- the labels of a cut of which every edge is needed cancel
  pub cut_cancels : (cut : List ℕ) → LeastCut g cut → xors label cut ≡ 0
  unfolding xors
  cut_cancels [] c = refl
  cut_cancels (d ∷ others) c =
      sym (xors_same cut (λ e i. counts e (T_true (crossing g side e) (all_cross c (first refl) e i))))
      ∙ sym (xors_part (λ e. when (crossing g side e) (label e)) (ordered_distinct (ordered_edges g)) c.distinct
      (λ e i. (edges_are g e).1 (c.members e i))
      (λ e i n. counts e (only_cut g cut (g.left d) e ((edges_are g e).0 i) n)))
      ∙ crossing_cancels g side label loops b
    where
      cut : List ℕ
      cut = d ∷ others

      side : ℕ → Bool
      side = beyond g cut (g.left d)

      counts : (e : ℕ) {t : Bool} → crossing g side e ≡ t → when (crossing g side e) (label e) ≡ when t (label e)
      counts e p = ap (λ (t : Bool). when t (label e)) p

  pub label_one : (e : ℕ) → Edge g e → (Keeps g (e ∷ []) → ⊥) → label e ≡ 0
  unfolding xors
  label_one e h parts = sym (xor_zero_r (label e)) ∙ cut_cancels (e ∷ []) (record {
    distinct = one (λ i. absurd (not_in i)) no_member;
    members = λ d i. subst (Edge g) (sym (eq_of_singleton i)) h;
    parts = parts;
    needed = λ x i. keeps_less {cut = []} (λ u v r. r) (λ y j. let q = but_is x (e ∷ []) j in absurd (q.1 (eq_of_singleton q.0 ∙ sym (eq_of_singleton i))));
  })

  pub label_two : (e d : ℕ) → Edge g e → Edge g d → (e ≡ d → ⊥) → Keeps g (e ∷ []) → Keeps g (d ∷ []) → (Keeps g (e ∷ d ∷ []) → ⊥)
      → label e ≡ label d
  unfolding xors
  label_two e d he hd ne ke kd parts = xor_equal (label e) (label d) (ap (bit_xor (label e)) (sym (xor_zero_r (label d))) ∙ cut_cancels (e ∷ d ∷ []) (record {
    distinct = one (λ i. ne (eq_of_singleton i)) (one (λ i. absurd (not_in i)) no_member);
    members = λ x i. elim (in-cons i) [ inl p ↦ subst (Edge g) (sym p) he | inr j ↦ subst (Edge g) (sym (eq_of_singleton j)) hd ];
    parts = parts;
    needed = λ x i. elim (in-cons i) [
      | inl p ↦ keeps_less kd (λ y j. without_first p (but_is x (e ∷ d ∷ []) j))
      | inr k ↦ keeps_less ke (λ y j. without_second (eq_of_singleton k) (but_is x (e ∷ d ∷ []) j))
    ];
  }))
    where
      without_first : {x y : ℕ} → x ≡ e → In y (e ∷ d ∷ []) × (y ≡ x → ⊥) → In y (d ∷ [])
      without_first p q = elim (in-cons q.0) [ inl r ↦ absurd (q.1 (r ∙ sym p)) | inr j ↦ j ]

      without_second : {x y : ℕ} → x ≡ d → In y (e ∷ d ∷ []) × (y ≡ x → ⊥) → In y (e ∷ [])
      without_second p q = elim (in-cons q.0) [ inl r ↦ first r | inr j ↦ absurd (q.1 (eq_of_singleton j ∙ sym p)) ]

  -- so a label other than 0, and two different labels, tell of a connected graph that a search is not needed
  pub skip_one : (e : ℕ) → disconnects g [] ≡ false → In e (edges g) → (label e ≡ 0 → ⊥) → disconnects g (e ∷ []) ≡ false
  skip_one e p i n = T_false (disconnects g (e ∷ []))
      (λ t. n (label_one e ((edges_are g e).0 i) (λ k. (disconnects_is g (e ∷ [])).0 t (keeps_connected (connected_is g [] (false-T p)) k))))

  pub skip_two : (e d : ℕ) → disconnects g (e ∷ []) ≡ false → disconnects g (d ∷ []) ≡ false → In e (edges g) → In d (edges g) → (e ≡ d → ⊥)
      → (label e ≡ label d → ⊥) → disconnects g (e ∷ d ∷ []) ≡ false
  skip_two e d p q i j ne n =
      let ce = connected_is g (e ∷ []) (false-T p) in
      let cd = connected_is g (d ∷ []) (false-T q) in
      let all : Connected g [] = connected_less ce (λ x _ k. absurd (not_in k)) in
      T_false (disconnects g (e ∷ d ∷ []))
      (λ t. n (label_two e d ((edges_are g e).0 i) ((edges_are g d).0 j) ne (connected_keeps ce) (connected_keeps cd) (λ k. (disconnects_is g (e ∷ d ∷ [])).0 t (keeps_connected all k))))

pub no_loops : {most : Limits} {p : Plan} → Admitted most p → NoLoops (graph p)
unfolding graph
no_loops a e h = (a.fit e h.below).different

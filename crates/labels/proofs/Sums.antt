-- The sums of labels around each vertex, while numbers are xored into labels: one edge changes the sums of its two ends.
use mathlib.Core.Path.{◌≡◌, refl, sym, ap, ap₂, ◌∙◌, subst}
use mathlib.Core.Bool.{Bool, true, false, cond, ◌||◌}
use mathlib.Core.List.Memᴰ.{head as first}
use mathlib.Core.List.Memᴰ.{not-nil as not_in}
use mathlib.Core.List.Memᴰ.{tail as later}
use mathlib.Core.List.{List, [], ◌∷◌, Memᴰ as In}
use Prim.Native.Nat.{ℕ, ◌+◌, ◌*◌, ◌/◌, ◌≤◌, ◌<◌}
use native.Mathlib.Omega.{arith}
use native.Mathlib.Decide.{ℕ_discrete}
use lib.Bits.{bit_xor, xor_comm, xor_zero_r}
use lib.Dec.{eqb}
use lib.ListN.{length, get_or, set, length-set}
use lib.Seq.{get_or-set_same, get_or-set_other, set-get_or}
use borrow.Author.Tests.{eqb-true, eqb-false, ne_eqb}
use Rattle.connectivity.specs.Lists.{Distinct, no_member, one}
use Rattle.connectivity.specs.Plan.{Plan, graph, Limits}
use Rattle.connectivity.specs.Graph.{Graph, Vertex, Edge, is_vertex, edges}
use Rattle.connectivity.specs.Admission.{Admitted}
use Rattle.connectivity.proofs.Order.{ordered_edges}
use Rattle.connectivity.proofs.Distinct.{ordered_distinct}
use Rattle.connectivity.proofs.Lists.{T-dec}
use Rattle.connectivity.proofs.Search.{edges_are, is_vertex_lem}
use Rattle.connectivity.proofs.Kept.{edge_size_lem}
use Rattle.incidence.specs.Parts.{Cleared}
use Rattle.incidence.proofs.Loops.{kept_same, kept_set}
use Rattle.graph.specs.Marks.{read}
use Rattle.labels.specs.Label.{around, Balanced}
use Rattle.labels.specs.Labels.{xor_at, Summed, Masks, Silent, Ready, Toggled, Scattered}
use Rattle.labels.proofs.Xor.{xor_swap, xor_first}

-- Around one vertex.

add_here : (t : Bool) (o x s : ℕ) → cond t (bit_xor (bit_xor o x) s) s ≡ bit_xor (cond t x 0) (cond t (bit_xor o s) s)
add_here true o x s = xor_first o x s
add_here false o x s = refl

add_later : (t : Bool) (o c s : ℕ) → cond t (bit_xor o (bit_xor c s)) (bit_xor c s) ≡ bit_xor c (cond t (bit_xor o s) s)
add_later true o c s = xor_swap o c s
add_later false o c s = refl

module _ (g : Graph) (labels : List ℕ) (d x v : ℕ) where
  abbrev hit : ℕ → Bool
  hit e = eqb (g.left e) v || eqb (g.right e) v

  abbrev old : List ℕ → ℕ
  old l = around g (read labels) v l

  abbrev new : List ℕ → ℕ
  new l = around g (read (xor_at labels d x)) v l

  around-same : (l : List ℕ) → (In d l → ⊥) → new l ≡ old l
  unfolding around
  around-same [] n = refl
  around-same (e ∷ l) n =
      ap₂ (λ (a b : ℕ). cond (hit e) (bit_xor a b) b) (get_or-set_other labels d e _ 0 (λ q. n (first (sym q)))) (around-same l (λ i. n (later i)))

  -- the xor of the labels around an end changes by x, around any other vertex it stays
  pub around-xor : d < length labels → {l : List ℕ} → Distinct l → In d l → new l ≡ bit_xor (cond (hit d) x 0) (old l)
  unfolding around
  around-xor h no_member i = absurd (not_in i)
  around-xor h (one {x = e} {l = l} n u) (first p) =
      ap₂ (λ (a b : ℕ). cond (hit e) (bit_xor a b) b)
      (ap (λ (y : ℕ). get_or (xor_at labels d x) y 0) (sym p) ∙ get_or-set_same labels d _ 0 h ∙ ap (λ (y : ℕ). bit_xor (get_or labels y 0) x) p)
      (around-same l (λ i. n (subst (λ (y : ℕ). In y l) p i)))
      ∙ add_here (hit e) (get_or labels e 0) x (old l)
      ∙ ap (λ (y : ℕ). bit_xor (cond (hit y) x 0) (cond (hit e) (bit_xor (get_or labels e 0) (old l)) (old l))) (sym p)
  around-xor h (one {x = e} {l = l} n u) (later i) =
      ap₂ (λ (a b : ℕ). cond (hit e) (bit_xor a b) b)
      (get_or-set_other labels d e _ 0 (λ q. n (subst (λ (y : ℕ). In y l) (sym q) i)))
      (around-xor h u i)
      ∙ add_later (hit e) (get_or labels e 0) (cond (hit d) x 0) (old l)

around_zero : (g : Graph) (label : ℕ → ℕ) (v : ℕ) (l : List ℕ) → ((e : ℕ) → In e l → label e ≡ 0) → around g label v l ≡ 0
unfolding around
around_zero g label v [] z = refl
around_zero g label v (e ∷ l) z =
    ap₂ (λ (a b : ℕ). cond (eqb (g.left e) v || eqb (g.right e) v) (bit_xor a b) b) (z e (first refl)) (around_zero g label v l (λ d i. z d (later i)))
    ∙ same (eqb (g.left e) v || eqb (g.right e) v)
  where
    same : (t : Bool) → cond t (bit_xor 0 0) 0 ≡ 0
    same true = refl
    same false = refl

-- no edge ends at a number that is no vertex
around_away : (g : Graph) (label : ℕ → ℕ) (v : ℕ) (l : List ℕ) → ((e : ℕ) → In e l → (g.left e ≡ v → ⊥) × (g.right e ≡ v → ⊥)) → around g label v l ≡ 0
unfolding around
around_away g label v [] n = refl
around_away g label v (e ∷ l) n =
    let h = n e (first refl) in
    rw (ne_eqb (g.left e) v h.0, ne_eqb (g.right e) v h.1) (around_away g label v l (λ d i. n d (later i)))

pub around-none : (g : Graph) (label : ℕ → ℕ) (v : ℕ) → (Vertex g v → ⊥) → around g label v (edges g) ≡ 0
around-none g label v n = around_away g label v (edges g) (λ e i. let k = (edges_are g e).0 i in (λ q. n (subst (Vertex g) q k.left), λ q. n (subst (Vertex g) q k.right)))

-- so labels that cancel around every vertex do so around every number
pub balanced_all : (g : Graph) (label : ℕ → ℕ) → Balanced g label → (v : ℕ) → around g label v (edges g) ≡ 0
balanced_all g label b v = elim (T-dec (is_vertex g v)) [ yes t ↦ b v ((is_vertex_lem g v).0 t) | no n ↦ around-none g label v (λ h. n ((is_vertex_lem g v).1 h)) ]

-- Sums.

xor_at_lem : (s : List ℕ) (i x v : ℕ) → i < length s → get_or (xor_at s i x) v 0 ≡ bit_xor (cond (eqb i v) x 0) (get_or s v 0)
xor_at_lem s i x v h = go (eqb i v) refl
  where
    go : (t : Bool) → eqb i v ≡ t → get_or (xor_at s i x) v 0 ≡ bit_xor (cond t x 0) (get_or s v 0)
    go true p = rw (← eqb-true i v p) (get_or-set_same s i _ 0 h ∙ xor_comm (get_or s i 0) x)
    go false p = get_or-set_other s i v _ 0 (λ q. eqb-false i v p (sym q))

not_both : (a b : Bool) (x s : ℕ) → (a ≡ true → b ≡ true → ⊥) → bit_xor (cond b x 0) (bit_xor (cond a x 0) s) ≡ bit_xor (cond (a || b) x 0) s
not_both true true x s n = absurd (n refl refl)
not_both true false x s n = refl
not_both false true x s n = refl
not_both false false x s n = refl

ends_of : (p : Plan) (labels : List ℕ) (e x v : ℕ) → hit (graph p) labels e x v e ≡ (eqb (get_or p.ends (2 * e) 0) v || eqb (get_or p.ends (2 * e + 1) 0) v)
unfolding graph
ends_of p labels e x v = refl

-- labels and sums that are all 0
pub summed_start : {p : Plan} {labels₀ labels sums₀ sums : List ℕ} → length p.ends / 2 ≤ length labels₀ → p.vertices ≤ length sums₀
    → Cleared (length p.ends / 2) labels₀ labels → Cleared p.vertices sums₀ sums → Summed p labels sums
summed_start {p} {labels = labels} l s cl cs = record {
  labels_room = omega (arith, cl.kept.long);
  sums_room = omega (arith, cs.kept.long);
  outside = λ e l n. cl.zero e l;
  sum = λ v h. cs.zero v h ∙ sym (around_zero (graph p) (read labels) v (edges (graph p)) (λ e i. cl.zero e (edge_size_lem p ((edges_are (graph p) e).0 i))));
}

module _ {most : Limits} {p : Plan} {e : ℕ} {labels sums : List ℕ} (a : Admitted most p) (h : e < length p.ends / 2) (s : Summed p labels sums) where
  pub ready : Ready p.ends e labels sums
  ready = record {
    edge = h;
    label = omega (arith, s.labels_room);
    left = omega (arith, (a.fit e h).left, s.sums_room);
    right = omega (arith, (a.fit e h).right, s.sums_room);
  }

  abbrev l : ℕ
  l = get_or p.ends (2 * e) 0

  abbrev r : ℕ
  r = get_or p.ends (2 * e + 1) 0

  -- the sums of the two ends change by x
  pub at_ends : (x v : ℕ) → get_or (xor_at (xor_at sums l x) r x) v 0 ≡ bit_xor (cond (eqb l v || eqb r v) x 0) (get_or sums v 0)
  at_ends x v =
      xor_at_lem (xor_at sums l x) r x v (omega (arith, ready.right, length-set sums l (bit_xor (get_or sums l 0) x)))
      ∙ ap (bit_xor (cond (eqb r v) x 0)) (xor_at_lem sums l x v ready.left)
      ∙ not_both (eqb l v) (eqb r v) x (get_or sums v 0) (λ p q. (a.fit e h).different (eqb-true l v p ∙ sym (eqb-true r v q)))

  pub away : (x v : ℕ) → (l ≡ v → ⊥) → (r ≡ v → ⊥) → get_or (xor_at (xor_at sums l x) r x) v 0 ≡ get_or sums v 0
  away x v p q = get_or-set_other (xor_at sums l x) r v _ 0 (λ y. q (sym y)) ∙ get_or-set_other sums l v _ 0 (λ y. p (sym y))

  summed : Edge (graph p) e → (x : ℕ) → Summed p (xor_at labels e x) (xor_at (xor_at sums l x) r x)
  summed k x = record {
    labels_room = omega (arith, s.labels_room, length-set labels e (bit_xor (get_or labels e 0) x));
    sums_room = omega (arith, s.sums_room, length-set sums l (bit_xor (get_or sums l 0) x), length-set (xor_at sums l x) r (bit_xor (get_or (xor_at sums l x) r 0) x));
    outside = λ d l n. get_or-set_other labels e d _ 0 (λ q. n (subst (Edge (graph p)) (sym q) k)) ∙ s.outside d l n;
    sum = λ v b. at_ends x v ∙ ap₂ bit_xor (ap (λ (t : Bool). cond t x 0) (sym (ends_of p labels e x v))) (s.sum v b)
        ∙ sym (around-xor (graph p) labels e x v ready.label (ordered_distinct (ordered_edges (graph p))) ((edges_are (graph p) e).1 k));
  }

-- While numbers are xored into labels, the sums stay right, and so does what lies behind.

pub scattered_start : {p : Plan} {labels sums : List ℕ} → Summed p labels sums → Scattered p labels sums labels sums
scattered_start {p} {labels} {sums} s = record { summed = s; labels_kept = kept_same (length p.ends / 2) labels; sums_kept = kept_same p.vertices sums }

pub scattered_toggled : {most : Limits} {p : Plan} {e x : ℕ} {labels₀ sums₀ labels sums labels' sums' : List ℕ} → Admitted most p → Edge (graph p) e
    → Scattered p labels₀ sums₀ labels sums → Toggled p.ends e x labels sums labels' sums' → Scattered p labels₀ sums₀ labels' sums'
scattered_toggled {p = p} {x = x} a k s t =
    let h = edge_size_lem p k in
    rw (t.labels_now, t.sums_now) record {
      summed = summed a h s.summed k x;
      labels_kept = kept_set _ _ h s.labels_kept;
      sums_kept = kept_set _ _ (a.fit _ h).right (kept_set _ _ (a.fit _ h).left s.sums_kept);
    }

-- 0 changes nothing
xor-none : (l : List ℕ) (i x : ℕ) → x ≡ 0 → xor_at l i x ≡ l
xor-none l i x z = ap (λ (y : ℕ). set l i (bit_xor (get_or l i 0) y)) z ∙ ap (set l i) (xor_zero_r (get_or l i 0)) ∙ set-get_or l i 0

-- so of every entry of the table of ends, if only edges of the graph get another number
pub scattered_masked : {most : Limits} {p : Plan} {dead : List ℕ} {e x : ℕ} {labels₀ sums₀ labels sums labels' sums' : List ℕ} → Admitted most p → Masks p dead → e < length p.ends / 2
    → Silent (get_or dead e 0) x → Scattered p labels₀ sums₀ labels sums → Toggled p.ends e x labels sums labels' sums' → Scattered p labels₀ sums₀ labels' sums'
scattered_masked {p = p} {dead = dead} {e = e} {x = x} {labels = labels} {sums = sums} a m h f s t = elim (ℕ_discrete (get_or dead e 0) 0) [
  | yes z ↦ scattered_toggled a ((m.kept e h).0 z) s t
  | no n ↦
      let z = f n in
      let l = get_or p.ends (2 * e) 0 in
      let r = get_or p.ends (2 * e + 1) 0 in
      rw (t.labels_now ∙ xor-none labels e x z, t.sums_now ∙ xor-none (xor_at sums l x) r x z ∙ xor-none sums l x z) s
]

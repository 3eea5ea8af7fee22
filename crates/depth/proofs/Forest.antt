-- Searches from one root after the other give a spanning forest, in which a root is lower than what stands behind it.
use mathlib.Core.Path.{◌≡◌, refl, sym, ap, ◌∙◌, subst}
use mathlib.Core.Logic.{inl, inr}
use mathlib.Core.List.{List}
use Prim.Native.Nat.{ℕ, ◌+◌, ◌-◌, ◌/◌, ◌≤◌, ◌<◌}
use native.Mathlib.Omega.{arith}
use native.Mathlib.Decide.{ℕ_discrete, dec_lt}
use lib.ListN.{length, get_or}
use Rattle.connectivity.specs.Plan.{Plan, graph, Limits}
use Rattle.connectivity.specs.Graph.{Graph, Edge, Joins}
use Rattle.graph.specs.Marks.{read, Live, Marked}
use Rattle.graph.proofs.Tally.{tally_lt, tally-none, tally_full}
use Rattle.incidence.specs.Tables.{Tabled}
use Rattle.depth.specs.Depth.{root_mark, Crossing, EnteredBy, Fresh, Found, Searched}
use Rattle.depth.specs.Forest.{Rooted, Border, Forest, RootsLow, Grown}
use Rattle.depth.proofs.Walk.{along_on}
use Rattle.depth.proofs.Crosses.{crosses}
use Rattle.depth.proofs.Above.{no_root}
use Rattle.depth.proofs.Entering.{all_entered}

-- before the first search
pub grown_start : (g : Graph) (n : ℕ) (mark at : ℕ → ℕ) → ((v : ℕ) → v < n → mark v ≡ 0) → Grown g n 0 0 mark at
grown_start g n mark at clear = record {
  valid = λ k l. absurd (omega arith);
  marked = λ k l. absurd (omega arith);
  listed = λ u l m. absurd (m (clear u l));
  once = λ j k l h. absurd (omega arith);
  counted = sym (tally-none mark n clear);
  tried = λ u l. absurd (omega arith);
  tree = λ k l. absurd (omega arith);
  border = λ k l. absurd (omega arith);
  roots = λ k l. absurd (omega arith);
  low = λ j k l h. absurd (omega arith);
  closed = λ e i u l. absurd (omega arith);
}

module _ {g : Graph} {n v count : ℕ} {mark at : ℕ → ℕ} (t : Grown g n v count mark at) where
  -- v has a mark already
  pub grown_pass : Marked mark v → Grown g n (v + 1) count mark at
  grown_pass m = record {
    valid = t.valid;
    marked = t.marked;
    listed = t.listed;
    once = t.once;
    counted = t.counted;
    tried = λ u l. elim (ℕ_discrete u v) [ yes q ↦ subst (Marked mark) (sym q) m | no h ↦ t.tried u (omega arith) ];
    tree = t.tree;
    border = t.border;
    roots = λ k l q. omega (arith, t.roots k l q);
    low = t.low;
    closed = t.closed;
  }

  -- all roots have been tried: all vertices stand in the order
  pub grown_full : v ≡ n → count ≡ n
  grown_full q = t.counted ∙ tally_full mark n (λ u l. t.tried u (omega arith))

  -- all vertices stand in the order
  pub grown_end : count ≡ n → Forest g n mark at
  grown_end q = record {
    valid = λ k h. t.valid k (omega arith);
    listed = λ u h. let s = t.listed u h (λ z. omega (arith, tally_lt mark n u h z, t.counted)) in (s.0, omega (arith, s.1), s.2);
    once = λ j k h b. t.once j k h (omega arith);
    marked = λ k h. t.marked k (omega arith);
    tree = λ k h. t.tree k (omega arith);
    border = λ k h m e i j a b c. t.border k (omega arith) m e i j a b (omega arith);
  }

  pub grown_low : count ≡ n → RootsLow n mark at
  grown_low q j k h b = t.low j k h (omega arith)

-- A search from v behind what the roots below v have led to.

module _ {most : Limits} {p : Plan} {incident begins dead : List ℕ} {v seen : ℕ} {first₀ order₀ cursor₀ first order cursor : List ℕ} {count : ℕ} (tabled : Tabled most p incident begins)
    (few : length p.ends / 2 < root_mark) (live : (e : ℕ) → Edge (graph p) e → Live dead e) (t : Grown (graph p) p.vertices v seen (read first₀) (read order₀))
    (h : Fresh p.vertices v seen first₀) (f : Found (Crossing p incident begins dead) p.vertices v seen first₀ order₀ cursor₀ first order cursor count) where
  abbrev g : Graph
  g = graph p

  abbrev n : ℕ
  n = p.vertices

  abbrev mark : ℕ → ℕ
  mark = read first

  abbrev at : ℕ → ℕ
  at = read order

  -- what stood in the order stands there still, and old marks stay
  same_at : (k : ℕ) → k < seen → at k ≡ read order₀ k
  same_at k l = f.rest k (inl l)

  same_mark : (u : ℕ) → Marked (read first₀) u → mark u ≡ get_or first₀ u 0
  same_mark u m = f.kept u (λ i. m i.fresh)

  old_mark : (u : ℕ) → Marked (read first₀) u → Marked mark u
  old_mark u m q = m (sym (same_mark u m) ∙ q)

  old_at : (k : ℕ) → k < seen → Marked (read first₀) (at k)
  old_at k l = subst (Marked (read first₀)) (sym (same_at k l)) (t.marked k l)

  new_at : (k : ℕ) → seen ≤ k → k < count → EnteredBy n first₀ first (at k)
  new_at = f.tree.valid

  mark_at : (k : ℕ) → k < seen → mark (at k) ≡ get_or first₀ (get_or order₀ k 0) 0
  mark_at k l = ap mark (same_at k l) ∙ same_mark (get_or order₀ k 0) (t.marked k l)

  joins_at : {e e' a a' b b' : ℕ} → e ≡ e' → a ≡ a' → b ≡ b' → Joins g e' a' b' → Joins g e a b
  joins_at x y z j = rw (x, y, z) j

  -- no edge leads from what stood in the order to a vertex that had no mark
  apart : (e i u : ℕ) → i < seen → Joins g e (at i) u → get_or first₀ u 0 ≡ 0 → ⊥
  apart e i u l j z = t.closed e i u l (joins_at refl (sym (same_at i l)) refl j) z

  listed : (u : ℕ) → u < n → Marked mark u → (k : ℕ) × (k < count) × (at k ≡ u)
  listed u l m = elim (ℕ_discrete (get_or first₀ u 0) 0) [
    | yes z ↦ let s = f.tree.listed u (record { below = l; fresh = z; marked = m }) in (s.place, s.high, s.there)
    | no o ↦ let s = t.listed u l o in (s.0, omega (arith, s.1, f.tree.some), same_at s.0 s.1 ∙ s.2)
  ]

  once : (j k : ℕ) → j < k → k < count → at j ≡ at k → ⊥
  once j k l b q = elim (dec_lt k seen) [
    | yes c ↦ t.once j k l c (sym (same_at j (omega arith)) ∙ q ∙ same_at k c)
    | no c ↦ elim (dec_lt j seen) [
      | yes d ↦ old_at j d (ap (read first₀) q ∙ (new_at k (omega arith) b).fresh)
      | no d ↦ f.tree.once j k (omega arith) l b q
    ]
  ]

  tried : (u : ℕ) → u < v + 1 → Marked mark u
  tried u l = elim (ℕ_discrete u v) [
    | yes q ↦ λ z. omega (arith, f.tree.top_mark, ap mark (sym q) ∙ z)
    | no o ↦ old_mark u (t.tried u (omega arith))
  ]

  tree : (k : ℕ) → k < count → Rooted g mark at k
  tree k b = elim (dec_lt k seen) [
    | yes l ↦ elim (t.tree k l) [
      | inl q ↦ inl (mark_at k l ∙ q)
      | inr o ↦ inr (o.0, o.1, joins_at (ap (λ (x : ℕ). x - 1) (mark_at k l)) (same_at o.0 (omega (arith, o.1))) (same_at k l) o.2)
    ]
    | no c ↦ elim (ℕ_discrete k seen) [
      | yes q ↦ inl (ap (λ (x : ℕ). mark (at x)) q ∙ ap mark f.tree.top ∙ f.tree.top_mark)
      | no d ↦ let s = f.tree.hangs k (omega arith) b in inr (s.stands.place, s.stands.high, joins_at refl s.stands.there refl s.up.by.joins)
    ]
  ]

  border : (k : ℕ) → k < count → mark (at k) ≡ root_mark → Border g at count k
  border k b q e i j x y z w = elim (dec_lt j seen) [
    | yes l ↦ t.border k (omega arith) (sym (mark_at k (omega arith)) ∙ q) e i j x y l (joins_at refl (sym (same_at i (omega arith))) (sym (same_at j l)) w)
    | no c ↦ elim (dec_lt seen k) [
      | yes l ↦ no_root f.tree few (f.tree.hangs k l b).from (at k) (f.tree.hangs k l b).up q
      | no d ↦ apart e i (at j) (omega arith) w (new_at j (omega arith) z).fresh
    ]
  ]

  -- what is entered now had no mark, so it is not below v
  not_below : (k : ℕ) → seen ≤ k → k < count → v ≤ at k
  not_below k l b = elim (dec_lt (at k) v) [ yes h ↦ absurd (t.tried (at k) h (new_at k l b).fresh) | no h ↦ omega arith ]

  -- a root stood in the order before, or is v
  old_root : (k : ℕ) → k < seen → mark (at k) ≡ root_mark → at k < v
  old_root k l q = rw (same_at k l) (t.roots k l (sym (mark_at k l) ∙ q))

  new_root : (k : ℕ) → seen ≤ k → k < count → mark (at k) ≡ root_mark → k ≡ seen
  new_root k l b q = elim (ℕ_discrete k seen) [
    | yes z ↦ z
    | no z ↦ let s = f.tree.hangs k (omega arith) b in absurd (no_root f.tree few s.from (at k) s.up q)
  ]

  roots : (k : ℕ) → k < count → mark (at k) ≡ root_mark → at k < v + 1
  roots k b q = elim (dec_lt k seen) [
    | yes l ↦ omega (arith, old_root k l q)
    | no l ↦ omega (arith, ap at (new_root k (omega arith) b q) ∙ f.tree.top)
  ]

  low : (j k : ℕ) → j < k → k < count → mark (at j) ≡ root_mark → at j < at k
  low j k l b q = elim (dec_lt k seen) [
    | yes c ↦ let d : j < seen = omega arith in rw (same_at j d, same_at k c) (t.low j k l c (sym (mark_at j d) ∙ q))
    | no c ↦ let n : at j ≡ at k → ⊥ = once j k l b in omega (arith, roots j (omega arith) q, not_below k (omega arith) b, n)
  ]

  closed : (e i u : ℕ) → i < count → Joins g e (at i) u → Marked mark u
  closed e i u l j = elim (ℕ_discrete (get_or first₀ u 0) 0) [
    | no m ↦ old_mark u m
    | yes z ↦ elim (dec_lt i seen) [
      | yes b ↦ absurd (apart e i u b j z)
      | no b ↦ (all_entered f h (omega (arith, t.counted)) u (along_on (f.sound (at i) (new_at i (omega arith) l))
          (record { crossing = crosses tabled dead e (at i) u (live e j.edge) j; fresh = z }))).marked
    ]
  ]

  pub grown_step : Grown g n (v + 1) count (read first) (read order)
  grown_step = record {
    valid = λ k l. elim (dec_lt k seen) [ yes b ↦ subst (λ (x : ℕ). x < n) (sym (same_at k b)) (t.valid k b) | no b ↦ (new_at k (omega arith) l).below ];
    marked = λ k l. elim (dec_lt k seen) [ yes b ↦ old_mark (at k) (old_at k b) | no b ↦ (new_at k (omega arith) l).marked ];
    listed = listed;
    once = once;
    counted = omega (arith, f.counted, t.counted);
    tried = tried;
    tree = tree;
    border = border;
    roots = roots;
    low = low;
    closed = closed;
  }

-- the same of what a search answers, which does nothing where v has a mark
pub grown_search : {most : Limits} {p : Plan} {incident begins dead : List ℕ} {v seen : ℕ} {first₀ order₀ cursor₀ first order cursor : List ℕ} {count : ℕ} → Tabled most p incident begins
    → length p.ends / 2 < root_mark → ((e : ℕ) → Edge (graph p) e → Live dead e) → Grown (graph p) p.vertices v seen (read first₀) (read order₀) → v < p.vertices
    → Searched p incident begins dead v seen first₀ order₀ cursor₀ first order cursor count → Grown (graph p) p.vertices (v + 1) count (read first) (read order)
grown_search tabled few live t l (inl s) = grown_step tabled few live t s.0 s.1
grown_search {p = p} {v = v} {first₀ = first₀} tabled few live t l (inr s) = rw (s.2.0, s.2.1, s.1)
    (grown_pass t (λ z. s.0 (record { room = omega (arith, t.counted, tally_lt (read first₀) p.vertices v l z); below = l; fresh = z })))

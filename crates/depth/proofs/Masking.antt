-- A search over marks of which no live edge ends at an excluded vertex is one of the graph that the plan keeps.
use mathlib.Core.Logic.{inl, inr}
use mathlib.Core.List.{List}
use Prim.Native.Nat.{ℕ}
use Rattle.connectivity.specs.Plan.{Plan, entire, graph, listed}
use Rattle.connectivity.specs.Graph.{Vertex}
use Rattle.connectivity.proofs.Kept.{vertex_size, edge_is, entire_vertex}
use Rattle.graph.specs.Marks.{read}
use Rattle.graph.proofs.Joined.{joins_edge}
use Rattle.depth.specs.Depth as d
use Rattle.depth.specs.Depth.{Crossing, Step, Along, Up, Climb, Closed, Tree, Found, Searched, Masking}

-- Two ways to cross that lead the same way.

module _ {one two : ℕ → ℕ → ℕ → Type 0} (to : (e u v : ℕ) → one e u v → two e u v) (from : (e u v : ℕ) → two e u v → one e u v) where
  along_same : {mark₀ : ℕ → ℕ} {u v : ℕ} → Along (Step one mark₀) u v → Along (Step two mark₀) u v
  along_same d.stay = d.stay
  along_same (d.leave {u} {v} e s r) = d.leave e (record { crossing = to e u v s.crossing; fresh = s.fresh }) (along_same r)

  up_same : {n : ℕ} {mark₀ mark : ℕ → ℕ} {u v : ℕ} → Up one n mark₀ mark u v → Up two n mark₀ mark u v
  up_same {u = u} {v = v} x = record { entered = x.entered; by = to _ u v x.by }

  climb_same : {n : ℕ} {mark₀ mark at : ℕ → ℕ} {seen k x v : ℕ}
      → Climb (Up one n mark₀ mark) (Closed one mark₀ at seen k) x v → Climb (Up two n mark₀ mark) (Closed two mark₀ at seen k) x v
  climb_same d.here = d.here
  climb_same (d.rise {v} {w} c h u) = d.rise (climb_same c) (λ e x y. h e x (from e v x y)) (up_same u)

  tree_same : {n root seen : ℕ} {mark₀ mark at : ℕ → ℕ} {count : ℕ} → Tree one n root seen mark₀ mark at count → Tree two n root seen mark₀ mark at count
  tree_same t = record {
    valid = t.valid;
    listed = t.listed;
    once = t.once;
    some = t.some;
    top = t.top;
    top_mark = t.top_mark;
    hangs = λ k l h. let x = t.hangs k l h in record { from = x.from; stands = x.stands; up = up_same x.up; climb = climb_same x.climb };
  }

module _ {one two : ℕ → ℕ → ℕ → Type 0} (to : (e u v : ℕ) → one e u v → two e u v) (from : (e u v : ℕ) → two e u v → one e u v) where
  found_same : {n root seen : ℕ} {first₀ order₀ cursor₀ first order cursor : List ℕ} {count : ℕ}
      → Found one n root seen first₀ order₀ cursor₀ first order cursor count → Found two n root seen first₀ order₀ cursor₀ first order cursor count
  found_same f = record {
    tree = tree_same to from f.tree;
    sound = λ v i. along_same to from (f.sound v i);
    room = f.room;
    whole = λ l v a. f.whole l v (along_same from to a);
    counted = f.counted;
    kept = f.kept;
    rest = f.rest;
    cleared = f.cleared;
    cursor_kept = f.cursor_kept;
    first_long = f.first_long;
    order_long = f.order_long;
    cursor_long = f.cursor_long;
  }

-- What a plan keeps.

module _ (p : Plan) {incident begins dead : List ℕ} (m : Masking p (read dead)) where
  to_kept : (e u v : ℕ) → Crossing (entire p.vertices p.ends) incident begins dead e u v → Crossing p incident begins dead e u v
  unfolding graph
  to_kept e u v c = record {
    place = c.place;
    group = c.group;
    listed = c.listed;
    live = c.live;
    joins = record { edge = m e (joins_edge (entire p.vertices p.ends) c.joins) c.live; ends = c.joins.ends };
  }

  from_kept : (e u v : ℕ) → Crossing p incident begins dead e u v → Crossing (entire p.vertices p.ends) incident begins dead e u v
  unfolding graph
  from_kept e u v c =
      let k = (edge_is p e).0 c.joins.edge in
      let vertex : (x : ℕ) → Vertex (graph p) x → Vertex (listed p) x = λ x h. entire_vertex p.vertices p.ends x (vertex_size p h) in
      record {
        place = c.place;
        group = c.group;
        listed = c.listed;
        live = c.live;
        joins = record { edge = (edge_is (entire p.vertices p.ends) e).1 (k.0, vertex _ k.1, vertex _ k.2); ends = c.joins.ends };
      }

  pub found_kept : {n root seen : ℕ} {first₀ order₀ cursor₀ first order cursor : List ℕ} {count : ℕ}
      → Found (Crossing (entire p.vertices p.ends) incident begins dead) n root seen first₀ order₀ cursor₀ first order cursor count
      → Found (Crossing p incident begins dead) n root seen first₀ order₀ cursor₀ first order cursor count
  found_kept f = found_same to_kept from_kept f

  pub searched_kept : {root seen : ℕ} {first₀ order₀ cursor₀ first order cursor : List ℕ} {count : ℕ}
      → Searched (entire p.vertices p.ends) incident begins dead root seen first₀ order₀ cursor₀ first order cursor count
      → Searched p incident begins dead root seen first₀ order₀ cursor₀ first order cursor count
  searched_kept (inl f) = inl (f.0, found_kept f.1)
  searched_kept (inr h) = inr h

-- What the search for the lowest cut leaves, where there is none, is what the tables of the tree are made from.
use Rattle.std.specs.Prelude.{Ok, None}
use Rattle.std.proofs.Common.{◌≡◌, ℕ, ◌+◌, ◌*◌, ◌<◌, ◌≤◌, T, List, [], length, set, replicate, sym, ◌∙◌, subst, arith, lt-ltb}
use native.Mathlib.Decide.{dec_lt}
use Rattle.connectivity.specs.Plan.{Plan, plan, graph, Limits, limits}
use Rattle.connectivity.specs.Graph.{Vertex}
use Rattle.connectivity.specs.Reach.{ThreeEdgeConnected}
use Rattle.connectivity.specs.Admission.{kept_vertices, kept_edges}
use Rattle.connectivity.proofs.Disconnects.{disconnects_is}
use Rattle.graph.specs.Marks.{read}
use Rattle.incidence.specs.Tables.{Tabled}
use Rattle.depth.specs.Depth.{Crossing, Found, Cutting}
use Rattle.depth.proofs.Left.{fewer}
use Rattle.cuts.specs.Verdict.{Lightest}
use Rattle.cuts.specs.Answered.{Answered}
use Rattle.cuts.specs.Verdict.{handed, lowest_handed}
use Rattle.cuts.proofs.Serving.{answered_own, uncut_passed, served_tabled, served-tables}
use Rattle.record.specs.Recording.{Sturdy}
use Rattle.record.specs.Tabling.{Searched, Prepared}
use Rattle.record.proofs.Grouping.{grouped_from}
use Rattle.record.proofs.Tabling.{long}

-- the answer over the four tables that are lent to it, and these tables afterwards
abbrev pub CutAnswer : Plan → List ℕ → List ℕ → List ℕ → List ℕ → Lightest → Type 0
CutAnswer p incident begins first order l = Answered limits p (replicate (2 * limits.edges) 0) (replicate (limits.vertices + 1) 0) (replicate limits.vertices 0) (replicate limits.vertices 0)
    incident begins first order l

-- they are long enough for any plan
pub cut_own : {p : Plan} {incident begins first order : List ℕ} (l : Lightest) → CutAnswer p incident begins first order l → handed l ≡ lowest_handed limits p
cut_own {p} l a = answered_own p _ _ _ _ l a (λ m. record {
  first_room = omega (arith, m.vertices, long limits.vertices);
  order_room = omega (arith, m.vertices, long limits.vertices);
  incident_room = omega (arith, m.edges, long (2 * limits.edges));
  begins_room = omega (arith, m.vertices, long (limits.vertices + 1));
})

-- a search of a plan that holds together has seen all that is kept
whole : {most : Limits} {p : Plan} {incident begins dead : List ℕ} {root : ℕ} {first₀ order₀ cursor₀ first order cursor : List ℕ} {count : ℕ} → Tabled most p incident begins → ThreeEdgeConnected (graph p)
    → Found (Crossing p incident begins dead) p.vertices root 0 first₀ order₀ cursor₀ first order cursor count → Cutting p [] (read dead)
    → ((v : ℕ) → v < p.vertices → read first₀ v ≡ 0) → Vertex (graph p) root → kept_vertices p ≤ count
whole {p = p} {count = count} t three f c clear start = elim (dec_lt count (kept_vertices p)) [
  | no h ↦ omega (arith, h)
  | yes l ↦ absurd ((disconnects_is (graph p) []).0 (subst T (sym (lt-ltb count (kept_vertices p) l) ∙ fewer t f c clear start) tt) (λ u v x y. three.still [] (omega arith) u v x y))
]

-- the tables by vertex, and its first search
pub searched : {p : Plan} {room : ℕ} {incident begins first order : List ℕ} {l : Lightest} → CutAnswer p incident begins first order l → l ≡ (Ok None) → Sturdy limits p room
    → Searched limits p incident (set begins p.vertices (length p.ends)) first order
searched {p} {room} {incident} {begins} {first} {order} {l} a q u =
    let y = uncut_passed q in
    let t = served_tabled p _ _ _ _ l a y in
    let s = served-tables p _ _ _ _ l a y in
    record {
      three = u.three;
      grouped = grouped_from t (omega (arith, s.begins_long, u.admitted.vertices, long (limits.vertices + 1)));
      begins₀ = begins;
      tabled = t;
      dead = s.dead;
      cutting = s.cutting;
      first₀ = s.unmarked;
      clear = s.clear;
      order₀ = replicate limits.vertices 0;
      cursor₀ = s.cursor₀;
      cursor = s.cursor;
      root = s.by.root;
      start = s.by.lowest.vertex;
      first₁ = s.by.first₁;
      order₁ = s.by.order₁;
      count = s.count;
      found = s.by.found;
      whole = whole t u.three s.by.found s.cutting s.clear s.by.lowest.vertex;
      appended = s.by.appended;
      first_long = omega (arith, s.first_long, u.admitted.vertices, long limits.vertices);
      order_long = omega (arith, s.order_long, u.admitted.vertices, long limits.vertices);
    }

abbrev pub prepared : {n edges room : ℕ} {ends excluded incident begins first order : List ℕ} {l : Lightest} → CutAnswer (plan n ends excluded) incident begins first order l → l ≡ (Ok None)
    → Sturdy limits (plan n ends excluded) room → edges ≡ kept_edges (plan n ends excluded) → Prepared limits n ends edges incident (set begins n (length ends)) first order room
prepared {excluded = excluded} a q u e = record { excluded = excluded; sturdy = u; all = e; searched = searched a q u }

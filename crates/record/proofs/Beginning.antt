-- From the tables of the tree to the first three walks: their doors, where the ways up meet, and what writing and building them asks.
use Rattle.std.proofs.Common.{◌≡◌, ℕ, ◌+◌, ◌-◌, ◌/◌, ◌<◌, ◌≤◌, List, length, sym, refl, ◌∙◌, subst, arith}
use Rattle.connectivity.specs.Plan.{Plan, plan, graph, Limits}
use Rattle.connectivity.specs.Graph.{Graph}
use Rattle.connectivity.proofs.Reach.{joins_sym, joins_vertex}
use Rattle.tree.specs.Tree.{Pointers, Passing}
use Rattle.tree.proofs.Above.{parent_vertex, climb_end, way_up}
use Rattle.tree.proofs.Begin.{meeting_child}
use Rattle.graph.specs.Marks.{read}
use Rattle.graph.proofs.Joined.{joins_edge}
use Rattle.graph.specs.Ends.{far_end}
use Rattle.record.specs.Ways.{next_up, Rises}
use Rattle.numbers.specs.Standing.{Listed, tree_of}
use Rattle.record.specs.Standing.{Ground}
use Rattle.record.specs.Recording.{Beginning, Begun}
use Rattle.record.specs.Opening.{NextDoor, Meets, Meeting, Met, Climbs, three_walks, Finding, Forked, ForkedBy, Rowed, RowedBy, Raw, RaisedBy}
use Rattle.record.proofs.Climbing.{parent_is, child_rises}
use Rattle.record.proofs.Doors.{eldest_child, root_below, doors_differ, one_leads, other_leads}
use Rattle.record.proofs.TwoWays.{root_climb}
use Rattle.record.proofs.ThreeRows.{x_child}

-- The doors, and where the ways up meet.

module _ {most : Limits} {p : Plan} {root : ℕ} {incident begins first order number last : List ℕ} {over : ℕ → ℕ} (s : Ground most p root incident begins first number last over)
    (l : Listed p root order number) {i k : ℕ} (o : NextDoor p.ends incident begins first number (read last (read order 1)) root (read begins root) i)
    (h : NextDoor p.ends incident begins first number (read last (read order 1)) root (i + 1) k) where
  abbrev g : Graph
  g = graph p

  abbrev t : Pointers
  t = tree_of p root first (read number)

  pub one_edge : read incident i < length p.ends / 2
  one_edge = joins_edge p (one_leads s l o h).back.joins

  pub other_edge : read incident k < length p.ends / 2
  other_edge = joins_edge p (other_leads s l o h).back.joins

  pub one_place : i < length incident
  one_place = omega (arith, o.most, s.grouped.inside root (root_below s l), s.grouped.long)

  pub other_place : k < length incident
  other_place = omega (arith, h.most, s.grouped.inside root (root_below s l), s.grouped.long)

  module _ {w u : ℕ} (to-w : w ≡ far_end p.ends (read incident i) root) (to_u : u ≡ far_end p.ends (read incident k) root) where
    pub one_passing : Passing g t (read order 1) (read incident i) root w
    one_passing = subst (λ (y : ℕ). Passing g t (read order 1) (read incident i) root y) (sym to-w) (one_leads s l o h)

    pub other_passing : Passing g t (read order 1) (read incident k) root u
    other_passing = subst (λ (y : ℕ). Passing g t (read order 1) (read incident k) root y) (sym to_u) (other_leads s l o h)

    abbrev pub meets : (places : List ℕ) → p.vertices ≤ length places → ((v : ℕ) → read places v ≡ 0) → Meets most p.ends first w u root places
    meets places long blank = record {
      n = p.vertices;
      excluded = p.excluded;
      rank = read number;
      rooted = s.rooted;
      one = joins_vertex (joins_sym one_passing.back.joins);
      other = joins_vertex (joins_sym other_passing.back.joins);
      room = long;
      blank = blank;
    }

    pub climbs : {x : ℕ} → Meeting g t w u x → Climbs most p root first (read number) x (read incident i) w (read incident k) u
    climbs {x} m =
        let (low, to_x) = way_up (climb_end m.climb) in
        let (high, up) = root_climb s.rooted (parent_vertex s.rooted.tree (meeting_child s.rooted.tree (eldest_child s l) one_passing other_passing m.climb)) in
        record {
          rooted = s.rooted;
          c = read order 1;
          child = eldest_child s l;
          one = one_passing;
          other = other_passing;
          differ = doors_differ s l o h;
          low = low;
          to_x = to_x;
          high = high;
          up = up;
          side = m.legs;
          meets = m.climb;
        }

module _ {most : Limits} {ends incident begins first order number last places : List ℕ} {root : ℕ} (c : Finding most ends incident begins first order number last root places)
    {i k w u : ℕ} (o : NextDoor ends incident begins first number (read last (read order 1)) root (read begins root) i)
    (h : NextDoor ends incident begins first number (read last (read order 1)) root (i + 1) k)
    (to-w : w ≡ far_end ends (read incident i) root) (to_u : u ≡ far_end ends (read incident k) root) where
  pub find_meets : Meets most ends first w u root places
  find_meets = meets c.ground c.listing o h to-w to_u places c.places_long c.places_blank

  module _ {x : ℕ} (places' : List ℕ) (m : Met most ends first w u root places places' x) where
    met : ((v : ℕ) → read places' v ≡ 0) × Meeting (graph (plan c.n ends c.excluded)) (tree_of (plan c.n ends c.excluded) root first (read number)) w u x
    met = m.1 (meets c.ground c.listing o h to-w to_u places c.places_long c.places_blank)

    find_climbs : Climbs most (plan c.n ends c.excluded) root first (read number) x (read incident i) w (read incident k) u
    find_climbs = climbs c.ground c.listing o h to-w to_u met.1

    pub find_rises : Rises ends first x
    find_rises = child_rises c.ground.rooted (x_child find_climbs)

    pub forked : {y : ℕ} → y ≡ next_up ends first x → Forked most (plan c.n ends c.excluded) root first (read number) places' x (read first x - 1) y (read incident i) w (read incident k) u
    forked q = record {
      climbs = find_climbs;
      edge = refl;
      parent = q ∙ sym (parent_is c.ground.rooted (x_child find_climbs));
      blank = met.0;
    }

-- What writing and building the walks ask, and what they leave behind.

module _ {most : Limits} {ends incident begins first order number last places below tips over : List ℕ} {room : ℕ}
    (c : Beginning most ends incident begins first order number last places below tips over room) where
  abbrev pub finding : Finding most ends incident begins first order number last (read order 0) places
  finding = record {
    n = c.n;
    excluded = c.excluded;
    over = read over;
    ground = c.ground;
    listing = c.listing;
    places_blank = c.places_blank;
    places_long = c.roomy.places_long;
  }

  module _ (places' : List ℕ) {x e y f w d u : ℕ} (m : ForkedBy most ends incident begins first order number last (read order 0) places places' x e y f w d u) where
    abbrev pub rowed : Rowed most ends first (read order 0) x e y f w d u room
    rowed = let r = m.1 finding in record { n = c.n; excluded = c.excluded; rank = read number; climbs = r.climbs; edge = r.edge; parent = r.parent; fits = c.fits }

    abbrev pub raw : Raw most ends first (read order 0) x e y f w d u places' below tips over
    raw = let r = m.1 finding in record {
      n = c.n;
      excluded = c.excluded;
      rank = read number;
      climbs = r.climbs;
      edge = r.edge;
      parent = r.parent;
      places_blank = r.blank;
      below_blank = c.below_blank;
      roomy = record {
        below_long = c.roomy.below_long;
        places_long = omega (arith, m.0, c.roomy.places_long);
        tips_long = c.roomy.tips_long;
      };
      over_long = c.over_long;
    }

pub begun : {most : Limits} {ends incident begins first order number last places below tips over : List ℕ} (before : List ℕ)
    (c : Beginning most ends incident begins first order number last places below tips over (length before)) (places-1 : List ℕ) {x e y f w d u : ℕ}
    → ForkedBy most ends incident begins first order number last (read order 0) places places-1 x e y f w d u
    → (after places' below' tips' over' : List ℕ) {count next : ℕ} → RowedBy most ends first (read order 0) x e y f w d u before after count
    → RaisedBy most ends first (read order 0) x e y f w d u places-1 below tips over places' below' tips' over' next
    → Begun (plan c.n ends c.excluded) (read order 0) first (read number) (read over) before after places' below' tips' over' count 3 next
begun {order = order} before c places-1 {x} {e} {y} {f} {w} {d} {u} m after places' below' tips' over' r b =
    let k = (m.1 (finding c)).climbs in
    let z = r (rowed c places-1 m) in
    record {
      walks = three_walks (read order 0) x f e d k.low k.high k.side;
      recording = record { holds = b (raw c places-1 m); written = z.0; row_is = z.1; step_is = refl; fits = c.fits };
    }

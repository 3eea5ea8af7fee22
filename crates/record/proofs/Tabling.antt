-- The tables of the tree: what the parts of making them ask holds, and in the end they stand.
use Rattle.std.proofs.Common.{◌≡◌, ℕ, ◌+◌, ◌*◌, ◌/◌, ◌≤◌, List, length, replicate, arith}
use lib.ListN.{length-replicate}
use Rattle.connectivity.specs.Plan.{Plan, plan, entire, limits}
use Rattle.connectivity.proofs.Kept.{admitted_entire}
use Rattle.graph.specs.declared.Answer.{Answer}
use Rattle.graph.specs.Marks.{read}
use Rattle.graph.proofs.Tally.{zeros}
use Rattle.numbers.specs.Answered.{Filled, Looked}
use Rattle.numbers.specs.Standing.{DepthFirst, Beneath}
use Rattle.numbers.proofs.Serving.{looked_filled, number_long, last_long, over_long, numbered}
use Rattle.numbers.proofs.Lowers.{lowered}
use Rattle.record.specs.Recording.{Beginning, Begun}
use Rattle.record.specs.Tabling.{Searched, Prepared}
use Rattle.record.specs.Progress.{Finishing, Ready}
use Rattle.record.proofs.Grounding.{ordering, depth_first}

-- a table of which nothing is set
pub long : (k : ℕ) → length (replicate {A = ℕ} k 0) ≡ k
long k = length-replicate k 0

-- the numbers, and what lies below each vertex: over tables of which nothing is set, as they are made

abbrev pub BelowAnswer : ℕ → List ℕ → List ℕ → List ℕ → List ℕ → List ℕ → List ℕ → Answer → Type 0
BelowAnswer n ends first order number last over r = Looked limits (entire n ends) first order (replicate limits.vertices 0) (replicate limits.vertices 0) (replicate limits.edges 0)
    number last over r

module _ {n : ℕ} {ends : List ℕ} {edges : ℕ} {incident begins first order : List ℕ} {room : ℕ} (c : Prepared limits n ends edges incident begins first order room)
    {number last over : List ℕ} {r : Answer} (a : BelowAnswer n ends first order number last over r) where
  abbrev p : Plan
  p = plan n ends c.excluded

  abbrev s : Searched limits p incident begins first order
  s = c.searched

  pub vertices_room : n ≤ length (replicate {A = ℕ} limits.vertices 0)
  vertices_room = omega (arith, c.sturdy.admitted.vertices, long limits.vertices)

  pub edges_room : length ends / 2 ≤ length (replicate {A = ℕ} limits.edges 0)
  edges_room = omega (arith, c.sturdy.admitted.edges, long limits.edges)

  -- they are long enough for any plan
  pub filled : Filled (entire n ends) first order (replicate limits.vertices 0) (replicate limits.vertices 0) (replicate limits.edges 0) number last over
  filled = looked_filled a (admitted_entire c.sturdy.admitted) (record { marks = s.first_long; places = s.order_long; numbers = vertices_room; lasts = vertices_room; edges = edges_room })

  pub tree : DepthFirst limits p first order number
  tree = depth_first (omega arith) s.tabled s.three s.cutting s.clear s.start s.found s.whole s.appended
      (numbered filled (ordering (omega arith) s.tabled s.three s.cutting s.clear s.start s.found s.whole s.appended) vertices_room)
      s.first_long s.order_long (omega (arith, number_long filled, vertices_room))

  pub beneath : Beneath p (read order 0) first (read number) (read last) (read over)
  beneath = lowered tree vertices_room edges_room filled

  abbrev pub ready : Ready limits ends edges incident begins first order number last over room
  ready = record {
    n = n;
    excluded = c.excluded;
    all = c.all;
    ground = record {
      rooted = tree.rooted;
      three = s.three;
      grouped = s.grouped;
      beneath = beneath;
      number_long = tree.listing.number_long;
      last_long = omega (arith, last_long filled, vertices_room);
    };
    listing = tree.listing;
    over_long = omega (arith, over_long filled, edges_room);
    fits = c.sturdy.fits;
  }

module _ {ends : List ℕ} {edges : ℕ} {incident begins first order number last over : List ℕ} {room : ℕ} (c : Ready limits ends edges incident begins first order number last over room) where
  abbrev pub beginning : Beginning limits ends incident begins first order number last (replicate limits.vertices 0) (replicate limits.vertices 0) (replicate (2 * (limits.vertices + 2)) 0) over room
  beginning = record {
    n = c.n;
    excluded = c.excluded;
    ground = c.ground;
    listing = c.listing;
    places_blank = λ v. zeros limits.vertices v;
    below_blank = λ v. zeros limits.vertices v;
    roomy = record {
      below_long = omega (arith, c.ground.rooted.admitted.vertices, long limits.vertices);
      places_long = omega (arith, c.ground.rooted.admitted.vertices, long limits.vertices);
      tips_long = omega (arith, c.ground.rooted.admitted.vertices, long (2 * (limits.vertices + 2)));
    };
    over_long = c.over_long;
    fits = c.fits;
  }

  abbrev pub finishing : (before now places below tips over' : List ℕ) {row step next : ℕ}
      → Begun (plan c.n ends c.excluded) (read order 0) first (read number) (read over) before now places below tips over' row step next
      → Finishing limits ends edges incident begins first order number last places below tips over' now row step next
  finishing before now places below tips over' b = record {
    n = c.n;
    excluded = c.excluded;
    whole = read over;
    before = before;
    all = c.all;
    ground = c.ground;
    listing = c.listing;
    walks = b.walks;
    recording = b.recording;
  }

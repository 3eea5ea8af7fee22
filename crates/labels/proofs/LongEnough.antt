-- Whether the lent tables are long enough: the tests of the code and those of the promises.
use mathlib.Core.List.{List}
use Prim.Native.Nat.{ℕ, ◌*◌, ◌/◌}
use lib.ListN.{length}
use Rattle.connectivity.specs.Plan.{Plan}
use Rattle.connectivity.proofs.Lists.{Decides, decides_le, decides_and, decides_to}
use Rattle.labels.specs.Answered.{Tables, fits, enough}
use Rattle.depth.specs.Parts.{Rooms}
use Rattle.labels.specs.Labels.{Room, Ample}
use Rattle.labels.specs.Planting.{Spacious}

-- there is room for labels along a forest, and for all tables
abbrev pub Roomy : Plan → List ℕ → List ℕ → List ℕ → List ℕ → Type 0
Roomy p first order labels sums = Room p.vertices (length p.ends / 2) (length first) (length order) (length labels) (length sums)

abbrev pub AmpleFor : Plan → Tables → Type 0
AmpleFor p t =
    Ample p.vertices (length p.ends / 2) (length t.incident) (length t.begins) (length t.dead) (length t.first) (length t.order) (length t.cursor) (length t.labels)
    (length t.sums)

pub room_is : (p : Plan) (first order labels sums : List ℕ) → Decides (fits p first order labels sums) (Roomy p first order labels sums)
room_is p first order labels sums = decides_to
    (decides_and (decides_le p.vertices (length first)) (decides_and (decides_le p.vertices (length order))
    (decides_and (decides_le (length p.ends / 2) (length labels)) (decides_le p.vertices (length sums)))))
    (λ h. record { marks = h.0; places = h.1.0; edges = h.1.1.0; vertices = h.1.1.1 })
    (λ r. (r.marks, (r.places, (r.edges, r.vertices))))

pub ample_is : (p : Plan) (t : Tables) → Decides (enough p t) (AmpleFor p t)
ample_is p t = decides_to
    (decides_and (decides_le (2 * (length p.ends / 2)) (length t.incident)) (decides_and (decides_le p.vertices (length t.begins))
    (decides_and (decides_le (length p.ends / 2) (length t.dead)) (decides_and (decides_le p.vertices (length t.cursor)) (room_is p t.first t.order t.labels t.sums)))))
    (λ h. record { groups = h.0; beginnings = h.1.0; edge_marks = h.1.1.0; cursors = h.1.1.1.0; room = h.1.1.1.1 })
    (λ r. (r.groups, (r.beginnings, (r.edge_marks, (r.cursors, r.room)))))

-- so there is space for the tables by vertex and for the searches
pub ample_spacious : (p : Plan) (t : Tables) → AmpleFor p t → Spacious p t.incident t.begins t.dead
ample_spacious p t a = record { incident_room = a.groups; begins_room = a.beginnings; dead_room = a.edge_marks }

pub ample_rooms : (p : Plan) (t : Tables) → AmpleFor p t → Rooms p.vertices t.first t.order t.cursor
ample_rooms p t a = record { first_room = a.room.marks; order_room = a.room.places; cursor_room = a.cursors }

-- What the three tables become, for any marks and any order. In `first` and `over` an edge is given as one more than its number, 0 for none.
use Rattle.std.specs.Prelude.{Bool, cond, ◌||◌, List, ℕ, zero, suc, ◌+◌, ◌-◌, ◌*◌, ◌/◌, eqb, leb, ltb, length, get_or, set}
use Rattle.graph.specs.Ends.{far_end}
use Rattle.graph.specs.Marks.{read}

-- Ends and marks.

-- the end of e that has the higher number
abbrev pub lower_end : List ℕ → List ℕ → ℕ → ℕ
lower_end ends number e = cond (ltb (read number (get_or ends (2 * e) 0)) (read number (get_or ends (2 * e + 1) 0))) (get_or ends (2 * e + 1) 0) (get_or ends (2 * e) 0)

-- the lower of the numbers of both ends: that of the upper end
abbrev pub least_number : List ℕ → List ℕ → ℕ → ℕ
least_number ends number e =
    cond (ltb (read number (get_or ends (2 * e) 0)) (read number (get_or ends (2 * e + 1) 0))) (read number (get_or ends (2 * e) 0)) (read number (get_or ends (2 * e + 1) 0))

-- x is not one more than the number of an edge
unfoldable pub is_none : List ℕ → ℕ → Bool
is_none ends x = eqb x 0 || ltb (length ends / 2) x

-- of two edges the one whose upper end is higher; the other where one is none
unfoldable pub higher_of : List ℕ → List ℕ → ℕ → ℕ → ℕ
higher_of ends number x y =
    cond (is_none ends x) y (cond (is_none ends y) x (cond (ltb (least_number ends number (y - 1)) (least_number ends number (x - 1))) y x))

-- the first edge of v, of n vertices and m edges: none for a root, and for what is no vertex
unfoldable pub mark_of : ℕ → ℕ → List ℕ → ℕ → ℕ
mark_of n m first v = cond (leb n v) 0 (cond (ltb m (read first v)) 0 (read first v))

-- One place.

-- the place of the edge t gets the higher of the edge there and x
unfoldable pub hand_to : List ℕ → List ℕ → List ℕ → ℕ → ℕ → List ℕ
hand_to ends number over t x = cond (eqb t 0) over (set over (t - 1) (higher_of ends number (read over (t - 1)) x))

-- an edge e that is not the first of its lower end stands for itself, and is handed to that first one; it stands for nothing where its lower
-- end is a root
unfoldable pub own_at : ℕ → List ℕ → List ℕ → List ℕ → List ℕ → ℕ → List ℕ
own_at n ends first number over e =
    let t = mark_of n (length ends / 2) first (lower_end ends number e) in
    cond (eqb t 0 || eqb t (e + 1)) over (hand_to ends number (set over e (e + 1)) t (e + 1))

-- what is last below v is below `up`, too
unfoldable pub raise_to : List ℕ → ℕ → ℕ → List ℕ
raise_to last up v = cond (ltb (read last up) (read last v)) (set last up (read last v)) last

-- a vertex v hands to its parent what is last below it, and the edge of its first edge
unfoldable pub lower_last : ℕ → List ℕ → List ℕ → List ℕ → ℕ → List ℕ
lower_last n ends first last v =
    let t = mark_of n (length ends / 2) first v in
    cond (eqb t 0) last (raise_to last (far_end ends (t - 1) v) v)

unfoldable pub lower_over : ℕ → List ℕ → List ℕ → List ℕ → List ℕ → ℕ → List ℕ
lower_over n ends first number over v =
    let t = mark_of n (length ends / 2) first v in
    cond (eqb t 0) over (hand_to ends number over (mark_of n (length ends / 2) first (far_end ends (t - 1) v)) (read over (t - 1)))

-- All places.

-- the first k vertices of the order, if they are vertices, have their places
unfoldable pub numbers_to : ℕ → List ℕ → List ℕ → ℕ → List ℕ
numbers_to n order table zero = table
numbers_to n order table (suc k) = cond (ltb (read order k) n) (set (numbers_to n order table k) (read order k) k) (numbers_to n order table k)

-- the first k edges
unfoldable pub owns_to : ℕ → List ℕ → List ℕ → List ℕ → List ℕ → ℕ → List ℕ
owns_to n ends first number over zero = over
owns_to n ends first number over (suc k) = own_at n ends first number (owns_to n ends first number over k) k

-- the last k vertices of the order, from the last on
unfoldable pub lasts_down : ℕ → List ℕ → List ℕ → List ℕ → List ℕ → ℕ → List ℕ
lasts_down n ends first order last zero = last
lasts_down n ends first order last (suc k) = lower_last n ends first (lasts_down n ends first order last k) (read order (n - suc k))

unfoldable pub overs_down : ℕ → List ℕ → List ℕ → List ℕ → List ℕ → List ℕ → ℕ → List ℕ
overs_down n ends first order number over zero = over
overs_down n ends first order number over (suc k) = lower_over n ends first number (overs_down n ends first order number over k) (read order (n - suc k))

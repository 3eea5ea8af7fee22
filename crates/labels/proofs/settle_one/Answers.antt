-- `settle_one` meets its contract: the edge is the vertex's first one, or there is none in the graph.
use mathlib.Core.Path.{refl}
use native.Mathlib.Omega.{arith}
use Rattle.connectivity.specs.Plan.{Plan, plan}
use Rattle.connectivity.proofs.Kept.{edge_size_lem}
use Rattle.labels.specs.Labels.{FirstEdge, by, passed}
use Rattle.labels.proofs.Sums.{ready}
use Rattle.labels.proofs.settle_one.Goals as goal

pub bounds-sums-v : goal.bounds-sums-v
bounds-sums-v c =
    let planned : Plan = let a = c.args in plan a.vertices a.ends.now a.excluded.now in
    let named : let a = c.args in FirstEdge planned a.first.now a.v c.first_edge-e.result = let o = rw c.if-is_open.true at c.is_open.ensures in
    let f = c.first_edge-e.ensures.found (omega (arith, o.0, c.requires.0.edges)) in
    record { below = f.0; edge = (c.requires.1.kept _ o.0).0 o.1; mark = f.1 } in
    omega (arith, named.below, c.requires.3.sums_room)

pub toggle-requires : goal.toggle-requires
toggle-requires c =
    let planned : Plan = let a = c.args in plan a.vertices a.ends.now a.excluded.now in
    let named : let a = c.args in FirstEdge planned a.first.now a.v c.first_edge-e.result = let o = rw c.if-is_open.true at c.is_open.ensures in
    let f = c.first_edge-e.ensures.found (omega (arith, o.0, c.requires.0.edges)) in
    record { below = f.0; edge = (c.requires.1.kept _ o.0).0 o.1; mark = f.1 } in
    ready c.requires.0 (edge_size_lem planned named.edge) c.requires.3

pub returns-then-is_open : goal.returns-then-is_open
returns-then-is_open c =
    let planned : Plan = let a = c.args in plan a.vertices a.ends.now a.excluded.now in
    let named : let a = c.args in FirstEdge planned a.first.now a.v c.first_edge-e.result = let o = rw c.if-is_open.true at c.is_open.ensures in
    let f = c.first_edge-e.ensures.found (omega (arith, o.0, c.requires.0.edges)) in
    record { below = f.0; edge = (c.requires.1.kept _ o.0).0 o.1; mark = f.1 } in
    by _ named c.toggle.ensures

pub returns-else-is_open : goal.returns-else-is_open
returns-else-is_open c =
    let a = c.args in
    let none = rw c.if-is_open.false at c.is_open.ensures in
    passed (λ e f.
    let m = edge_size_lem (plan a.vertices a.ends.now a.excluded.now) f.edge in
    none (rw (c.first_edge-e.ensures.only e f.below f.mark) (m, (c.requires.1.kept e m).1 f.edge))) refl refl

-- `survey` meets its contract: the first gap is the lowest vertex, and behind what the search has seen there is a place for each excluded one.
use mathlib.Core.Path.{sym, subst}
use Rattle.connectivity.specs.Plan.{plan, graph}
use Rattle.connectivity.specs.Graph.{Vertex}
use Rattle.connectivity.proofs.CutOff.{Lowest}
use Rattle.connectivity.proofs.Kept.{vertex_size, admitted_count}
use Rattle.graph.proofs.Barring.{lowest_is}
use Rattle.depth.proofs.Left.{count_most}
use native.Mathlib.Omega.{arith}
use Rattle.cuts.proofs.survey.survey.Goals as goal

pub overflow_cast-root : goal.overflow_cast-root
overflow_cast-root c = omega (arith, c.lowest_kept-root.ensures, vertex_size _ (lowest_is c.requires.0.tabled.admitted).vertex, c.ranges.vertices)

pub search-count-requires : goal.search-count-requires
search-count-requires c = (c.requires.0, subst (Vertex (graph (plan c.args.vertices c.args.ends.now c.args.excluded.now))) (sym c.lowest_kept-root.ensures) (lowest_is c.requires.0.tabled.admitted).vertex)

pub append-requires : goal.append-requires
append-requires c =
    let lowest : Lowest (graph (plan c.args.vertices c.args.ends.now c.args.excluded.now)) c.lowest_kept-root.result = subst (Lowest (graph (plan c.args.vertices c.args.ends.now c.args.excluded.now))) (sym c.lowest_kept-root.ensures) (lowest_is c.requires.0.tabled.admitted) in
    let f = c.search-count.ensures in
    let a = c.requires.0.tabled.admitted in
    record {
      inside = λ v i. omega (arith, a.inside v i, c.requires.0.marks_room, f.first_long);
      room = omega (arith, count_most c.requires.0.tabled f c.requires.1 c.requires.0.fresh lowest.vertex, admitted_count a, c.requires.0.order_room, f.order_long);
    }

pub returns : goal.returns
returns c =
    let lowest : Lowest (graph (plan c.args.vertices c.args.ends.now c.args.excluded.now)) c.lowest_kept-root.result = subst (Lowest (graph (plan c.args.vertices c.args.ends.now c.args.excluded.now))) (sym c.lowest_kept-root.ensures) (lowest_is c.requires.0.tabled.admitted) in
    record { root = _; lowest = lowest; first₁ = _; order₁ = _; found = c.search-count.ensures; appended = c.append.ensures }
